-- What is said of each opcode, over all of them. Assumes nothing.
use Rattle.std.specs.Prelude.{ℕ, is_err, Ok, Result}
use Rattle.std.specs.Option.{option_map_or}
use Rattle.sets.specs.Counting.{least}

-- Ok where each opcode is, and else the error of the least that has one; no opcode is above 255
abbrev pub first_err : {E : Type 0} → (ℕ → Result (Unit {0}) E) → Result (Unit {0}) E
first_err f = option_map_or f (least (λ o. is_err (f o)) 256) (Ok tt)
