-- The actions of the events. Assumes nothing.
use Rattle.std.specs.Prelude.{IsTrue, ℕ, ◌<◌, ◌≤◌, Bool, ◌&&◌, List, length, nat_le, nat_lt, slice_index_or}
use Rattle.sets.specs.Counting.{every}
use Rattle.cpog.specs.declared.action.Action.{Action}

-- the action of an event; past the end of the list that of all zeros
abbrev pub act : List Action → ℕ → Action
act actions e = slice_index_or actions e (record { code = 0; left = 0; right = 0; out = 0 })

-- the action names only registers that there are
abbrev pub named : Action → Bool
named a = (nat_lt a.left 32 && nat_lt a.right 32) && nat_lt a.out 32

-- there are 32 actions or more, and those of the first n events name only registers that there are
abbrev pub usable : ℕ → List Action → Bool
usable n actions = nat_le 32 (length actions) && every (λ e. named (act actions e)) n

abbrev pub Usable : ℕ → List Action → Type 0
Usable n actions = (32 ≤ length actions) × ((e : ℕ) → e < n → IsTrue (named (act actions e)))
