-- What the search for a cycle walks among. No public contract cites it. Assumes nothing.
use Rattle.std.specs.Prelude.{ℕ, Bool, IsTrue}

-- each event of the set has a step from one of them
abbrev pub Fed : (ℕ → ℕ → Bool) → (ℕ → Bool) → Type 0
Fed r set = (e : ℕ) → IsTrue (set e) → ∥ ((f : ℕ) × (IsTrue (set f) × IsTrue (r f e))) ∥₁
