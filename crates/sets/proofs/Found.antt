-- What `find` and `all` say over a range from 0: the least number that passes, and whether every one does. Assumes nothing.
use Rattle.std.proofs.Common.{◌≡◌, ℕ, ◌<◌, ◌≤◌, Bool, true, false, Some, None, Option, MatchOption, List, length, get_or, Decides, refl, ap, arith, sym, ◌∙◌}
use Rattle.std.specs.declared.ops.Range.{Range}
use Rattle.std.specs.Bool.{MatchBool}
use Rattle.std.specs.Fn.{Called, CalledAt}
use Rattle.std.specs.List.{AllWithin, HoldsAt, range_with_len}
use Rattle.std.specs.Iterator.{ChecksAll, FindsItem}
use Rattle.std.proofs.iter.Yields.{nat_range_steps}
use Rattle.std.proofs.lemmas.Bool.{both_ways}
use Rattle.std.proofs.lemmas.Iterator.{YieldsList-from_range, cases_from_all, first_from_Range}
use Rattle.std.proofs.lemmas.List.FromFn.{get_or-range_with_len, length-range_with_len}
use denote.Param.Members.{Mut}
use denote.Ref.{Bor}
use Rattle.sets.specs.Counting.{least, Least}
use Rattle.sets.proofs.Leasts.{least_value}

module _ {F : Type 0} {g : Mut F (Bor ℕ × Unit {0}) Bool} (p : ℕ → Bool) (n : ℕ) (u : Range ℕ) (f : F) (r : Option ℕ) where
  -- where each call of the closure leaves it as it was and answers by the test
  pub found_least : FindsItem nat_range_steps g (record { start = 0; end = n }) f r u
      → ((x : ℕ) (b : Bool) (q : F) → CalledAt g f x b q → (q ≡ f) × (b ≡ p x)) → (r ≡ least p n) × Least p n r
  found_least found tests = (least_value p n r law, law)
    where
      go : (o : Option ℕ) → MatchOption o ((k : ℕ) → 0 ≤ k → k < n → p k ≡ false) (λ i. (0 ≤ i) × (i < n) × (p i ≡ true) × ((k : ℕ) → 0 ≤ k → k < i → p k ≡ false)) → Least p n o
      go None none = λ j h. none j (omega arith) h
      go (Some i) some = (some.1, some.2, λ j h. some.3 j (omega arith) h)

      law : Least p n r
      law = go r (first_from_Range (record { start = 0; end = n }) u f r (λ k. p k ≡ true) (λ k. p k ≡ false) found
          (λ x q k. sym (tests x true q k).1) (λ x q k. ((tests x false q k).0, sym (tests x false q k).1)))

module _ {F : Type 0} {g : Mut F (ℕ × Unit {0}) Bool} (p : ℕ → Bool) (n : ℕ) (u : Range ℕ) (f : F) (r : Bool) where
  -- the same of a closure that takes the number itself
  pub all_below : ChecksAll nat_range_steps g (record { start = 0; end = n }) f r u
      → ((x : ℕ) (b : Bool) (q : F) → Called g f (x, tt) b q → (q ≡ f) × (b ≡ p x)) → Decides r ((k : ℕ) → k < n → p k ≡ true)
  all_below ran tests = go r (cases_from_all u f r (λ k. p k ≡ true) (λ k. p k ≡ false) ran (YieldsList-from_range 0 n n refl (omega arith))
      (λ x q k. ((tests x true q k).0, sym (tests x true q k).1)) (λ x q k. sym (tests x false q k).1))
    where
      xs : List ℕ
      xs = range_with_len 0 n

      long : length xs ≡ n
      long = length-range_with_len 0 n

      at : (k : ℕ) → k < n → get_or xs k 0 ≡ k
      at k h = omega (arith, get_or-range_with_len 0 n k 0 h)

      go : (b : Bool) → MatchBool b (AllWithin (λ k. p k ≡ true) xs 0 (length xs)) ((k : ℕ) × (k < length xs) × HoldsAt (λ k. p k ≡ false) xs k) → Decides b ((k : ℕ) → k < n → p k ≡ true)
      go true within = (λ t k h. ap p (sym (at k h)) ∙ within k 0 (omega arith) (omega (arith, long)), λ all. refl)
      go false some = (λ t. absurd (both_ways false refl t), λ all. absurd (both_ways (p (get_or xs some.0 0)) (some.2 0) (ap p (at some.0 (omega (arith, long, some.1))) ∙ all some.0 (omega (arith, long, some.1)))))
