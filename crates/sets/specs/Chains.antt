-- Chains of a relation, and the relation that they make. Assumes nothing.
use Rattle.std.specs.Prelude.{IsTrue, ℕ, zero, suc, Bool, ◌&&◌, ◌||◌}

-- one or more steps lead from the first event to the second
pub data Chain (r : ℕ → ℕ → Bool) : ℕ → ℕ → Type 0 where
  one : {e f : ℕ} → IsTrue (r e f) → Chain r e f
  more : {e f h : ℕ} → IsTrue (r e f) → Chain r f h → Chain r e h

-- no chain leads back to where it began
abbrev pub Acyclic : (ℕ → ℕ → Bool) → Type 0
Acyclic r = (e : ℕ) → Chain r e e → ⊥

-- s answers exactly what the chains of r say
pub record Closure (r s : ℕ → ℕ → Bool) : Type 0 where
  pub sound : (e f : ℕ) → IsTrue (s e f) → Chain r e f
  pub complete : (e f : ℕ) → Chain r e f → IsTrue (s e f)

-- the pairs of r, and those that have k between them
abbrev pub through : (ℕ → ℕ → Bool) → ℕ → ℕ → ℕ → Bool
through r k e f = r e f || (r e k && r k f)

-- the pairs that a chain joins whose inner events are below n
unfoldable pub closed : (ℕ → ℕ → Bool) → ℕ → ℕ → ℕ → Bool
closed r zero = r
closed r (suc n) = through (closed r n) n
