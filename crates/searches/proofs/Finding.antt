-- What `find_map` over the numbers below n finds: the first answer, where each call answers what h gives. Assumes nothing.
use Rattle.std.proofs.Common.{◌≡◌, ℕ, ◌+◌, ◌<◌, Some, None, Option, MatchOption, sym, arith, IsTrue}
use Rattle.std.specs.Fn.{Called}
use Rattle.std.specs.Iterator.Runs.{SomeRun, AllItemsGive, IsFirstToGive, CallKeepsClosure}
use Rattle.std.proofs.iter.Yields.{nat_range_steps}
use denote.Param.Members.{Mut}
use Rattle.sets.proofs.Ranges.{counts, number_at}

-- r is what h gives at the first number below n at which it gives something
abbrev pub FirstGiven : {B : Type 0} → ℕ → (ℕ → Option B) → Option B → Type 0
FirstGiven n h None = (k : ℕ) → k < n → h k ≡ None
FirstGiven n h (Some y) = (i : ℕ) × (i < n) × (h i ≡ Some y) × ((k : ℕ) → k < i → h k ≡ None)

module _ {F B : Type 0} {g : Mut F (ℕ × Unit {0}) (Option B)} (n : ℕ) (f : F) (h : ℕ → Option B) (says : (k : ℕ) (y : Option B) (q : F) → Called g f (k, tt) y q → (q ≡ f) × (y ≡ h k)) where
  keeps : CallKeepsClosure g f
  keeps a y q e = (says a.0 y q e).0

  pub first_from_find_map : (r : Option B) → SomeRun nat_range_steps (record { start = 0; end = n }) (λ p. MatchOption r (IsTrue p.whole × AllItemsGive p g f None) (λ y. (i : ℕ) × (i < p.len) × (p.len ≡ i + 1) × IsFirstToGive p g f (Some y) None i)) → FirstGiven n h r
  first_from_find_map None (p, from, m) =
      λ k l. let there = number_at n p from k (omega (arith, (counts n p from).1 m.0)) in sym (says k None f (rw there at (m.1 keeps k))).1
  first_from_find_map (Some y) (p, from, m) =
      let first = m.3 keeps in
      let here = number_at n p from m.0 m.1 in (
        m.0,
        omega (arith, m.1, (counts n p from).0),
        sym (says m.0 (Some y) f (rw here at first.0)).1,
        λ k l. let there = number_at n p from k (omega (arith, m.1)) in sym (says k None f (rw there at (first.1 k l))).1,
      )
