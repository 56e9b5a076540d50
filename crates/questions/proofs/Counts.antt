-- How many numbers of a range pass is a tally. Assumes nothing.
use Rattle.std.proofs.Common.{◌≡◌, ℕ, zero, suc, ◌+◌, Bool, true, false, cond, List, ◌∷◌, length, sym, ap, ◌∙◌, arith}
use Rattle.std.specs.List.{filter, range_with_len}
use mir.Val.{bool_byte}
use Rattle.sets.specs.Counting.{tally}
use Rattle.sets.proofs.Tallies.{tally_none, tally_first}

one_more : (b : Bool) (a : ℕ) (xs : List ℕ) → length (cond b (a ∷ xs) xs) ≡ bool_byte b + length xs
one_more true a xs = omega arith
one_more false a xs = omega arith

from : (p q : ℕ → Bool) (a n : ℕ) → ((k : ℕ) → p (a + k) ≡ q k) → length (filter p (range_with_len a n)) ≡ tally q n
from p q a zero same = sym (tally_none q)
from p q a (suc n) same =
    let rest = from p (λ k. q (suc k)) (a + 1) n (λ k. ap p (omega arith) ∙ same (suc k)) in
    let here : bool_byte (p a) ≡ bool_byte (q 0) = ap bool_byte (ap p (omega arith) ∙ same 0) in
    omega (arith, one_more (p a) a (filter p (range_with_len (a + 1) n)), rest, here, tally_first q n)

pub filter-tally : (p : ℕ → Bool) (n : ℕ) → length (filter p (range_with_len 0 n)) ≡ tally p n
filter-tally p n = from p p 0 n (λ k. ap p (omega arith))
