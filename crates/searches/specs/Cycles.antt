-- What a cycle is, and what a search for one finds. Assumes nothing.
use Rattle.std.specs.Prelude.{IsTrue, ◌≡◌, ℕ, ◌+◌, ◌-◌, ◌<◌, Bool, List, length, take, Option, MatchOption, slice_index}
use Rattle.sets.specs.Chains.{Acyclic}
use Rattle.searches.specs.declared.cycle.Cycle.{Cycle}

-- event k of a list
abbrev pub nth : List ℕ → ℕ → ℕ
nth es k = slice_index es k

-- different events, one or more, each with a step to the next and the last with a step to the first
pub record IsCycle (r : ℕ → ℕ → Bool) (es : List ℕ) : Type 0 where
  pub some : 0 < length es
  pub steps : (k : ℕ) → k + 1 < length es → IsTrue (r (nth es k) (nth es (k + 1)))
  pub closes : IsTrue (r (nth es (length es - 1)) (nth es 0))
  pub different : (j k : ℕ) → j < k → k < length es → nth es j ≡ nth es k → ⊥

-- the events that a cycle shows
abbrev pub round : Cycle → List ℕ
round c = take c.len c.events

-- a cycle, or there is none: neither a list of events nor a chain from an event to itself
abbrev pub Found : (ℕ → ℕ → Bool) → Option Cycle → Type 0
Found r answer = MatchOption answer (Acyclic r × ((es : List ℕ) → IsCycle r es → ⊥)) (λ c. IsCycle r (round c))
