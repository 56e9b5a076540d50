-- The number of set bits is the tally of the bits.
use Rattle.std.proofs.Common.{◌≡◌, ℕ, zero, suc, ◌+◌, ◌/◌, ◌%◌, ◌^◌, ◌<◌, ◌≤◌, Bool, true, false, eqb, sym, refl, ap, ◌∙◌, ap₂, pow-suc, arith, shr-shr}
use lib.Count.{ones, ones_step}
use mir.Val.{bool_byte}
use Rattle.std.proofs.lemmas.Nat.{mod_below, div_below}
use Rattle.sets.specs.Counting.{bit, tally}

pub tally_none : (p : ℕ → Bool) → tally p 0 ≡ 0
unfolding tally
tally_none p = refl

pub byte_le : (b : Bool) → bool_byte b ≤ 1
byte_le true = omega arith
byte_le false = omega arith

-- a tally goes by the tests alone
pub tally_same : (p q : ℕ → Bool) (n : ℕ) → ((k : ℕ) → p k ≡ q k) → tally p n ≡ tally q n
unfolding tally
tally_same p q zero h = refl
tally_same p q (suc n) h = ap₂ (λ (a : ℕ) (b : Bool). a + bool_byte b) (tally_same p q n h) (h n)

-- the first apart
pub tally_first : (p : ℕ → Bool) (n : ℕ) → tally p (suc n) ≡ bool_byte (p 0) + tally (λ k. p (suc k)) n
unfolding tally
tally_first p zero = omega arith
tally_first p (suc n) = let h = tally_first p n in omega arith

low_bit : (w : ℕ) → bool_byte (bit w 0) ≡ w % 2
unfolding bit
low_bit w = ap (λ (x : ℕ). bool_byte (eqb (x % 2) 1)) one ∙ go (w % 2) (mod_below w 2 (omega arith))
  where
    one : w / 2 ^ 0 ≡ w
    one = omega arith

    go : (x : ℕ) → x < 2 → bool_byte (eqb x 1) ≡ x
    go zero h = refl
    go (suc zero) h = refl
    go (suc (suc x)) h = absurd (omega arith)

next_bit : (w k : ℕ) → bit (w / 2) k ≡ bit w (suc k)
unfolding bit
next_bit w k = ap (λ (x : ℕ). eqb (x % 2) 1) (shr-shr w 1 k ∙ ap (λ (x : ℕ). w / 2 ^ x) one)
  where
    one : 1 + k ≡ suc k
    one = omega arith

pub ones-tally : (n w : ℕ) → w < 2 ^ n → ones w ≡ tally (bit w) n
unfolding tally ones
ones-tally zero w h = let z : w ≡ 0 = omega arith in ap ones z
ones-tally (suc n) w h =
    let half : w / 2 < 2 ^ n = div_below w 2 (2 ^ n) (omega arith) (omega (arith, pow-suc 2 n)) in
    ones_step w ∙ ap₂ (λ (a b : ℕ). a + b) (sym (low_bit w)) (ones-tally n (w / 2) half ∙ tally_same (bit (w / 2)) (λ k. bit w (suc k)) n (next_bit w))
    ∙ sym (tally_first (bit w) n)

pub tally_below : (p q : ℕ → Bool) (n : ℕ) → ((k : ℕ) → k < n → p k ≡ q k) → tally p n ≡ tally q n
unfolding tally
tally_below p q zero h = refl
tally_below p q (suc n) h = ap₂ (λ (a : ℕ) (b : Bool). a + bool_byte b) (tally_below p q n (λ k l. h k (omega arith))) (h n (omega arith))
