-- What a projection holds, and what is answered to the call that fills it. Assumes nothing.
use Rattle.std.specs.Prelude.{ℕ, not, [], ◌∷◌, Option}
use Rattle.std.specs.Option.{option_map}
use Rattle.std.specs.Bool.{then_some}
use Rattle.sets.specs.Counting.{least}
use Rattle.sets.specs.Members.{member}
use Rattle.sets.specs.Rows.{related}
use Rattle.cpog.specs.Graphs.{Conditions, Order, order_at}
use Rattle.cpog.specs.Refusals.{first_of}
use Rattle.cpog.specs.declared.projection.Projection.{Projection}
use Rattle.cpog.specs.declared.refusal.Refusal.{Refusal}
use Rattle.cpog.specs.declared.refusal.Refusal.TheVariants.{NotAllowed, Cycle}

-- the order that a projection holds
abbrev pub seen : Projection → Order
seen p = record { present = member p.present; precedes = related p.before }

-- the lowest event that precedes itself
abbrev pub on_cycle : Order → Option ℕ
on_cycle p = least (λ e. p.precedes e e) 32

-- why a graph has no order at an opcode: it is not allowed, or events precede themselves
abbrev pub no_order : Conditions → ℕ → Option Refusal
no_order g o = first_of (then_some (not (g.allow o)) NotAllowed ∷ option_map Cycle (on_cycle (order_at g o)) ∷ [])
