-- The bits of a word; how many numbers below a bound pass a test, and the least that does. Assumes nothing.
use Rattle.std.specs.Prelude.{IsTrue, ◌≡◌, ℕ, zero, suc, ◌+◌, ◌/◌, ◌%◌, ◌^◌, ◌<◌, Bool, true, false, ◌&&◌, Some, None, Option, ◌==◌}
use mir.Val.{bool_byte}
use Rattle.std.specs.Option.{option_or}
use Rattle.std.specs.Bool.{then_some}

-- bit k of a word, counted from the lowest
unfoldable pub bit : ℕ → ℕ → Bool
bit w k = w / 2 ^ k % 2 == 1

-- how many numbers below n pass
unfoldable pub tally : (ℕ → Bool) → ℕ → ℕ
tally p zero = 0
tally p (suc n) = tally p n + bool_byte (p n)

-- every number below n passes
unfoldable pub every : (ℕ → Bool) → ℕ → Bool
every p zero = true
every p (suc n) = p n && every p n

-- the least number below n that passes
unfoldable pub least : (ℕ → Bool) → ℕ → Option ℕ
least p zero = None
least p (suc n) = option_or (least p n) (then_some (p n) n)

-- the answer is the least number below n that passes, or none of them does
abbrev pub Least : (ℕ → Bool) → ℕ → Option ℕ → Type 0
Least p n (Some k) = (k < n) × IsTrue (p k) × ((j : ℕ) → j < k → p j ≡ false)
Least p n None = (j : ℕ) → j < n → p j ≡ false
