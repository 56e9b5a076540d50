use Rattle.std.proofs.Common.{◌≡◌, ℕ, length, if◌then◌else◌, nat_lt}
use Rattle.sets.specs.Chains.{through}
use Rattle.sets.specs.Rows.{related}
use Rattle.sets.proofs.relation.Relation.pass.Given as goal

-- the rows so far have what comes through `by`, and the others are as they were
abbrev pub invariant-loop-row : goal.invariant-loop-row
invariant-loop-row l =
    (length l.row-items ≡ 32)
    × ((e f : ℕ) → related (record { rows = l.row-items }) e f ≡ (if nat_lt f l.row-index then through (related l.fn.self) l.by e f else related l.fn.self e f))
