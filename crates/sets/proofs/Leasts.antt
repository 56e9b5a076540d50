-- The least number that passes is one, and there is only one. Assumes nothing.
use Rattle.std.proofs.Common.{◌≡◌, ℕ, zero, suc, ◌<◌, Bool, true, false, ◌⊎◌, Some, None, Option, refl, ap, ◌∙◌, inl, inr, arith}
use Rattle.std.proofs.lemmas.Bool.{cases_order, cases_eq, both_ways}
use Rattle.std.specs.Option.{option_or}
use Rattle.std.specs.Bool.{then_some}
use Rattle.sets.specs.Counting.{least, Least}

-- one number more
pub least_more : (p : ℕ → Bool) (n : ℕ) (r : Option ℕ) → Least p n r → Least p (suc n) (option_or r (then_some (p n) n))
least_more p n (Some k) L = (omega (arith, L.0), L.1, L.2)
least_more p n None L = here (p n) refl
  where
    here : (b : Bool) → p n ≡ b → Least p (suc n) (then_some b n)
    here true t = (omega arith, t, L)
    here false f = λ j h. last j h (cases_eq j n)
      where
        last : (j : ℕ) → j < suc n → (j ≡ n) ⊎ (j ≡ n → ⊥) → p j ≡ false
        last j h (inl q) = ap p q ∙ f
        last j h (inr d) = L j (omega (arith, d))

pub least_is : (p : ℕ → Bool) (n : ℕ) → Least p n (least p n)
unfolding least
least_is p zero = λ j h. absurd (omega arith)
least_is p (suc n) = least_more p n (least p n) (least_is p n)

pub least_one : (p : ℕ → Bool) (n : ℕ) (r s : Option ℕ) → Least p n r → Least p n s → r ≡ s
least_one p n (Some j) (Some k) L K = ap Some (go (cases_order j k))
  where
    go : (j ≡ k) ⊎ ((j < k) ⊎ (k < j)) → j ≡ k
    go (inl q) = q
    go (inr (inl h)) = absurd (both_ways (p j) (K.2 j h) L.1)
    go (inr (inr h)) = absurd (both_ways (p k) (L.2 k h) K.1)
least_one p n (Some j) None L K = absurd (both_ways (p j) (K j L.0) L.1)
least_one p n None (Some k) L K = absurd (both_ways (p k) (L k K.0) K.1)
least_one p n None None L K = refl

pub least_value : (p : ℕ → Bool) (n : ℕ) (r : Option ℕ) → Least p n r → r ≡ least p n
least_value p n r L = least_one p n r (least p n) L (least_is p n)
