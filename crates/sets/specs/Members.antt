-- What a set of events holds. Assumes nothing.
use Rattle.std.specs.Prelude.{ℕ, Bool, ◌&&◌, ◌==◌, nat_lt}
use Rattle.sets.specs.Counting.{bit}
use Rattle.sets.specs.declared.events.Events.{Events}

-- event e is in the set; numbers from 32 on never are
abbrev pub member : Events → ℕ → Bool
member s e = nat_lt e 32 && bit s.word e

-- what the set of one event holds, if that is there and below 32
abbrev pub alone : ℕ → Bool → ℕ → Bool
alone event there e = (nat_lt e 32 && e == event) && there
