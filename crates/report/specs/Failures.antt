-- What is said where there is no record. Assumes nothing.
use Rattle.std.specs.Prelude.{ℕ, List, ◌++◌, codes, decimal}
use Rattle.cpog.specs.Refusals.{number_of}
use Rattle.report.specs.declared.failure.Failure.{Failure}
use Rattle.report.specs.declared.failure.Failure.TheVariants.{Unchecked, NoMemory}

-- the words that a failure is shown by
abbrev pub message : Failure → List ℕ
message (Unchecked why) = codes "the check was refused: " ++ decimal (number_of why)
message NoMemory = codes "no memory left"
