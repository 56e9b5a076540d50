-- The letters of the variables. Assumes nothing.
use Rattle.std.specs.Prelude.{◌≡◌, ◌≢◌, ℕ, ◌<◌, ◌≤◌, Bool, true, false, ◌⊎◌, List, [], ◌∷◌, ◌++◌, length, slice_index}

abbrev pub Lowercase : List ℕ → Type 0
Lowercase names = (k : ℕ) → k < length names → (97 ≤ slice_index names k) × (slice_index names k ≤ 122)

abbrev pub Apart : List ℕ → Type 0
Apart names = (j k : ℕ) → j < k → k < length names → slice_index names j ≢ slice_index names k

-- the letter stands for no variable
abbrev pub Untaken : List ℕ → ℕ → Type 0
Untaken names letter = (k : ℕ) → k < length names → slice_index names k ≢ letter

-- the letter is added, or cannot be, and nothing changes
abbrev pub Declared : List ℕ → List ℕ → ℕ → Bool → Type 0
Declared old new letter true = new ≡ old ++ letter ∷ []
Declared old new letter false = (new ≡ old) × ((8 ≤ length old) ⊎ ((letter < 97) ⊎ ((122 < letter) ⊎ ((k : ℕ) × (k < length old) × (slice_index old k ≡ letter)))))
