use Rattle.std.proofs.Common.{[], ◌∷◌, ◌++◌, length, ◌-◌}
use Rattle.sets.specs.Members.{member}
use Rattle.sets.specs.Rows.{related}
use Rattle.searches.proofs.Walking.{Walk}
use Rattle.searches.proofs.cycle.search.Walker.cycle.Given as goal

abbrev pub invariant-loop-from : goal.invariant-loop-from
invariant-loop-from l = Walk (related l.self.arcs.now) (member l.self.around) (l.walk.items ++ l.event ∷ [])

abbrev pub decreases-loop-from : goal.decreases-loop-from
decreases-loop-from l = 32 - length l.walk.items
