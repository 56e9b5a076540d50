use Rattle.std.proofs.Common.{◌≡◌, ℕ}
use Rattle.sets.specs.Chains.{closed}
use Rattle.sets.specs.Rows.{related}
use Rattle.sets.proofs.relation.Relation.close_below.Given as goal

abbrev pub invariant-loop-by : goal.invariant-loop-by
invariant-loop-by l = (e f : ℕ) → related l.self e f ≡ closed (related l.initial.self) l.by e f
