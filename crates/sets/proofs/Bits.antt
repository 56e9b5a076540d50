-- What each operation on words does to a bit.
use Rattle.std.proofs.Common.{◌≡◌, ℕ, ◌*◌, ◌/◌, ◌%◌, ◌^◌, ◌<◌, false, ◌&&◌, ◌||◌, ◌==◌, ◌⊎◌, bit_and, bit_or, ap, ◌∙◌, inl, inr, arith}
use Rattle.std.specs.Int.{bit_at}
use Rattle.std.proofs.lemmas.Bool.{cases_eq}
use Rattle.std.proofs.lemmas.Bool.Decides.{nat_tests}
use Rattle.std.proofs.lemmas.Nat.{one_shl}
use Rattle.std.proofs.lemmas.Nat.Bits.{bit_at-lt, bit_at-zero, bit_at_and, bit_at_or, bit_at-pow_same, bit_at-pow_other, shr_and_one}
use Rattle.sets.specs.Counting.{bit}

pub bit-bit_or : (a b k : ℕ) → bit (bit_or a b) k ≡ (bit a k || bit b k)
unfolding bit
bit-bit_or a b k = grind (arith, nat_tests, bit_at_or a b k, bit_at-lt a k, bit_at-lt b k)

pub bit-bit_and : (a b k : ℕ) → bit (bit_and a b) k ≡ (bit a k && bit b k)
unfolding bit
bit-bit_and a b k = grind (arith, nat_tests, bit_at_and a b k, bit_at-lt a k, bit_at-lt b k)

pub bit_of_zero : (k : ℕ) → bit 0 k ≡ false
unfolding bit
bit_of_zero k = grind (arith, nat_tests, bit_at-zero k)

-- `(w >> k) & 1 == 1`
pub bit_read : (w k : ℕ) → (bit_and (w / 2 ^ k) 1 == 1) ≡ bit w k
unfolding bit
bit_read w k = ap (λ (n : ℕ). n == 1) (shr_and_one w k)

-- `1 << e`
pub bit_put : (e k : ℕ) → e < 32 → bit ((1 * 2 ^ e) % 2 ^ 32) k ≡ (k == e)
unfolding bit
bit_put e k h = ap (λ (n : ℕ). bit_at n k == 1) (one_shl e 32 h) ∙ go (cases_eq k e)
  where
    go : (k ≡ e) ⊎ (k ≡ e → ⊥) → (bit_at (2 ^ e) k == 1) ≡ (k == e)
    go (inl q) = let same = bit_at-pow_same e in grind (arith, nat_tests)
    go (inr d) = let other = bit_at-pow_other e k d in grind (arith, nat_tests)
