-- What an outcome says holds. Assumes nothing.
use Rattle.std.proofs.Common.{◌≡◌, ℕ, Bool, true, false, Some, None, List, Option, Result, sym, refl, subst}
use Rattle.std.specs.Bool.{then_some}
use Rattle.cpog.specs.Graphs.{Conditions, Lawful, order_at}
use Rattle.cpog.specs.Projections.{on_cycle}
use Rattle.cpog.specs.declared.action.Action.{Action}
use Rattle.cpog.proofs.Ordered.{none_on_cycle, some_on_cycle, order_inside}
use Rattle.searches.specs.Clashes.{first_clash, Searched}
use Rattle.searches.proofs.Clashing.{searched}
use Rattle.questions.specs.Outcomes.{outcome_at, end_result, Comes}
use Rattle.questions.specs.declared.outcome.Flaw.{Flaw}

pub outcome_comes : (g : Conditions) (actions : List Action) (o : ℕ) → Lawful g → Comes g actions o (outcome_at g actions o)
outcome_comes g actions o L = at_allow (g.allow o) refl
  where
    at_clash : g.allow o ≡ true → on_cycle (order_at g o) ≡ None → (q : Option (ℕ × ℕ)) → Searched (order_at g o) actions q → Comes g actions o (Some (end_result None q))
    at_clash t none (Some q) S = (t, (none_on_cycle g o L none, S))
    at_clash t none None S = (t, (none_on_cycle g o L none, S))

    at_cycle : g.allow o ≡ true → (r : Option ℕ) → on_cycle (order_at g o) ≡ r → Comes g actions o (Some (end_result r (first_clash (order_at g o) actions)))
    at_cycle t (Some e) is = (t, some_on_cycle g o e L is)
    at_cycle t None is = at_clash t is (first_clash (order_at g o) actions) (searched (order_at g o) actions (order_inside g o L))

    at_allow : (b : Bool) → g.allow o ≡ b → Comes g actions o (then_some b (end_result (on_cycle (order_at g o)) (first_clash (order_at g o) actions)))
    at_allow true t = at_cycle t (on_cycle (order_at g o)) refl
    at_allow false f = f

pub value_comes : (g : Conditions) (actions : List Action) (o : ℕ) (r : Option (Result (Unit {0}) Flaw)) → Lawful g → r ≡ outcome_at g actions o → Comes g actions o r
value_comes g actions o r L is = subst (λ (x : Option (Result (Unit {0}) Flaw)). Comes g actions o x) (sym is) (outcome_comes g actions o L)
