-- When two events clash, and which clashing pair is the first. Assumes nothing.
use Rattle.std.specs.Prelude.{IsTrue, ◌≡◌, ℕ, ◌<◌, Bool, false, not, ◌&&◌, ◌||◌, List, is_some, Some, None, Option, MatchOption, ◌==◌, nat_lt}
use Rattle.std.specs.Option.{option_map}
use Rattle.sets.specs.Counting.{least}
use Rattle.cpog.specs.Actions.{act}
use Rattle.cpog.specs.Graphs.{Order}
use Rattle.cpog.specs.declared.action.Action.{Action}

-- the out register of one action is the out, left or right register of the other
abbrev pub touching : Action → Action → Bool
touching a b = (a.out == b.out || a.out == b.left) || a.out == b.right

-- two different present events, neither of which precedes the other
abbrev pub unordered : Order → ℕ → ℕ → Bool
unordered p e f = ((p.present e && p.present f) && not (e == f)) && (not (p.precedes e f) && not (p.precedes f e))

-- the action of one touches that of the other
abbrev pub sharing : List Action → ℕ → ℕ → Bool
sharing actions e f = touching (act actions e) (act actions f) || touching (act actions f) (act actions e)

unfoldable pub clashing : Order → List Action → ℕ → ℕ → Bool
clashing p actions e f = unordered p e f && sharing actions e f

-- the least event above e that clashes with it
abbrev pub partner_of : Order → List Action → ℕ → Option ℕ
partner_of p actions e = least (λ f. nat_lt e f && clashing p actions e f) 32

-- the clashing pair with the least lower and then the least higher event
abbrev pub with_partner : Order → List Action → Option ℕ → Option (ℕ × ℕ)
with_partner p actions None = None
with_partner p actions (Some e) = option_map (λ f. (e, f)) (partner_of p actions e)

abbrev pub first_clash : Order → List Action → Option (ℕ × ℕ)
first_clash p actions = with_partner p actions (least (λ e. is_some (partner_of p actions e)) 32)

-- in other words: a clashing pair, with no clash of a lower event, and none of its lower event with a lower one than its higher
pub record First (p : Order) (actions : List Action) (lower higher : ℕ) : Type 0 where
  pub rising : lower < higher
  pub clashes : IsTrue (clashing p actions lower higher)
  pub least_lower : (e f : ℕ) → e < lower → e < f → clashing p actions e f ≡ false
  pub least_higher : (f : ℕ) → lower < f → f < higher → clashing p actions lower f ≡ false

-- none where no two events clash, and otherwise the first pair
abbrev pub Searched : Order → List Action → Option (ℕ × ℕ) → Type 0
Searched p actions r = MatchOption r ((e f : ℕ) → clashing p actions e f ≡ false) (λ q. First p actions q.0 q.1)
