-- The graph that a table of conditions stands for, bit by bit. Assumes nothing.
use Rattle.std.specs.Prelude.{ℕ, ◌+◌, ◌*◌, ◌/◌, ◌%◌, ◌^◌, max, Bool, not, ◌&&◌, ◌||◌, List, [], ◌∷◌, Option, ◌==◌, nat_lt, slice_index}
use Rattle.std.specs.Bool.{then_some}
use Rattle.sets.specs.Counting.{bit}
use Rattle.cpog.specs.Graphs.{Conditions}
use Rattle.cpog.specs.Refusals.{first_of}
use Rattle.cpog.specs.declared.refusal.Refusal.{Refusal}
use Rattle.cpog.specs.declared.refusal.Refusal.TheVariants.{TableTooLarge, TableLength}

-- how many bytes a condition over m variables takes: a bit for each opcode, and at least a byte
abbrev pub width : ℕ → ℕ
width m = max 1 (2 ^ m / 8)

-- how many bytes the conditions of n events over m variables take
abbrev pub whole : ℕ → ℕ → ℕ
whole n m = (1 + n + n * n) * width m

-- condition k at opcode o: bit o mod 8 of byte o div 8
abbrev pub condition : ℕ → List ℕ → ℕ → ℕ → Bool
condition m bytes k o = bit (slice_index bytes (k * width m + o / 8)) (o % 8)

-- condition 0 is allow, then comes has of each event, then arc of each pair
abbrev pub table_of : ℕ → ℕ → List ℕ → Conditions
table_of n m bytes = record {
  events = n;
  variables = m;
  allow = λ o. nat_lt o (2 ^ m) && condition m bytes 0 o;
  has = λ e o. (nat_lt e n && nat_lt o (2 ^ m)) && condition m bytes (1 + e) o;
  arc = λ e f o. ((nat_lt e n && nat_lt f n) && nat_lt o (2 ^ m)) && condition m bytes (1 + n + e * n + f) o;
}

-- why n events and m variables do not go with this many bytes
abbrev pub misfit : ℕ → ℕ → ℕ → Option Refusal
misfit n m len = first_of (then_some (nat_lt 32 n || nat_lt 8 m) TableTooLarge ∷ then_some (not (len == whole n m)) TableLength ∷ [])
