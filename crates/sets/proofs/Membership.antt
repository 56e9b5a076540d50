-- Every event of a set is below 32. Assumes nothing.
use Rattle.std.proofs.Common.{◌≡◌, ℕ, ◌<◌, ◌≤◌, Bool, true, false, arith}
use Rattle.std.proofs.lemmas.Bool.Decides.{nat_tests}
use Rattle.sets.specs.Members.{member}
use Rattle.sets.specs.declared.events.Events.{Events}

pub member_inside : (set : Events) (e : ℕ) → member set e ≡ true → e < 32
member_inside set e t = grind (arith, nat_tests)

-- a set without an event below 32 is empty
pub member_none : (set : Events) → ((e : ℕ) → e < 32 → member set e ≡ false) → (e : ℕ) → member set e ≡ false
member_none set low e = let l = low e in grind (arith, nat_tests)

-- a set that holds the events below 32 that pass, where no other number passes
pub member_all : (set : Events) (p : ℕ → Bool) → ((e : ℕ) → e < 32 → member set e ≡ p e) → ((e : ℕ) → p e ≡ true → e < 32) → (e : ℕ) → member set e ≡ p e
member_all set p below inside e = let b = below e in let i = inside e in grind (arith, nat_tests)

-- the same of the events below `end`
pub member_below : (set : Events) (end : ℕ) (p : ℕ → Bool) → ((e : ℕ) → e < end → e < 32 → member set e ≡ p e) → ((e : ℕ) → end ≤ e → member set e ≡ false)
    → ((e : ℕ) → p e ≡ true → (e < 32) × (e < end)) → (e : ℕ) → member set e ≡ p e
member_below set end p tested others inside = member_all set p below (λ e t. (inside e t).0)
  where
    below : (e : ℕ) → e < 32 → member set e ≡ p e
    below e h = let t = tested e in let o = others e in let i = inside e in grind (arith, nat_tests)
