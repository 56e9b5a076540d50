-- What can come of a run at one opcode. Assumes nothing.
use Rattle.std.specs.Prelude.{IsTrue, ◌≡◌, ℕ, false, List, Some, None, Ok, Err, Option, Result}
use Rattle.std.specs.Bool.{then_some}
use Rattle.sets.specs.Chains.{Acyclic}
use Rattle.cpog.specs.Graphs.{Conditions, counted, order_at}
use Rattle.cpog.specs.Projections.{on_cycle}
use Rattle.cpog.specs.declared.action.Action.{Action}
use Rattle.searches.specs.Clashes.{clashing, first_clash, First}
use Rattle.questions.specs.declared.outcome.Flaw.{Flaw}
use Rattle.questions.specs.declared.outcome.Flaw.TheVariants.{Cycle, Clash}

-- of an event on a cycle and the first clash: a cycle comes before a clash
abbrev pub end_result : Option ℕ → Option (ℕ × ℕ) → Result (Unit {0}) Flaw
end_result (Some e) clash = Err Cycle
end_result None (Some q) = Err (Clash q.0 q.1)
end_result None None = Ok tt

abbrev pub outcome_at : Conditions → List Action → ℕ → Option (Result (Unit {0}) Flaw)
outcome_at g actions o = then_some (g.allow o) (end_result (on_cycle (order_at g o)) (first_clash (order_at g o) actions))

-- an opcode with neither a cycle nor a clash
abbrev pub HasOneResult : Conditions → List Action → ℕ → Type 0
HasOneResult g actions o = Acyclic (counted g o) × ((e f : ℕ) → clashing (order_at g o) actions e f ≡ false)

-- for each flaw, what holds of an opcode that has it
abbrev pub HasFlaw : Conditions → List Action → ℕ → Flaw → Type 0
HasFlaw g actions o Cycle = Acyclic (counted g o) → ⊥
HasFlaw g actions o (Clash e f) = Acyclic (counted g o) × First (order_at g o) actions e f

-- For each answer, what holds where it is given. No two of these hold at once.
abbrev pub Comes : Conditions → List Action → ℕ → Option (Result (Unit {0}) Flaw) → Type 0
Comes g actions o None = g.allow o ≡ false
Comes g actions o (Some (Ok done)) = IsTrue (g.allow o) × HasOneResult g actions o
Comes g actions o (Some (Err flaw)) = IsTrue (g.allow o) × HasFlaw g actions o flaw
