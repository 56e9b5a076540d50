-- What a relation between events holds. Assumes nothing.
use Rattle.std.specs.Prelude.{ℕ, Bool, if◌then◌else◌, ◌&&◌, List, ◌==◌, nat_lt, slice_index_or}
use Rattle.sets.specs.Members.{member}
use Rattle.sets.specs.declared.events.Events.{Events}
use Rattle.sets.specs.declared.relation.Relation.{Relation}

-- row f of a list of sets
abbrev pub row : List Events → ℕ → Events
row rows f = slice_index_or rows f (record { word = 0 })

-- e is related to f: e is in the set of f; no pair has a number from 32 on
abbrev pub related : Relation → ℕ → ℕ → Bool
related r e f = nat_lt f 32 && member (row r.rows f) e

-- r with s in the place of what is related to g
abbrev pub replaced : (ℕ → ℕ → Bool) → ℕ → (ℕ → Bool) → ℕ → ℕ → Bool
replaced r g s e f = if f == g && nat_lt f 32 then s e else r e f
