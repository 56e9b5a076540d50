-- What `Variables` keeps of its letters. Assumes nothing.
use Rattle.std.proofs.Common.{ℕ, ◌≤◌, List, length}
use Rattle.conditions.specs.declared.variables.Variables.{Variables}
use Rattle.conditions.specs.Letters.{Apart, Lowercase}
use Rattle.conditions.specs.Shown.{letters_of}

-- up to eight different lowercase letters
pub record Names (names : List ℕ) : Type 0 where
  pub few : length names ≤ 8
  pub lowercase : Lowercase names
  pub apart : Apart names

pub names_of : (v : Variables) → Names (letters_of v)
names_of v = record { few = v.few; lowercase = v.lowercase; apart = v.apart }
