-- The names that a record is written with. Assumes nothing.
use Rattle.std.specs.Prelude.{ℕ, List, ◌∷◌}
use Rattle.std.specs.List.{flat_map}

-- of the procedure, of its variables, and of each event
pub record Naming : Type 0 where
  pub title : List ℕ
  pub letters : List ℕ
  pub name : ℕ → List ℕ

-- a blank and the name of each event
abbrev pub spelled : Naming → List ℕ → List ℕ
spelled names = flat_map (λ e. 32 ∷ names.name e)
