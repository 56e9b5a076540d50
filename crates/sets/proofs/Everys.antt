-- That every number below a bound passes, as a test and as a statement. Assumes nothing.
use Rattle.std.proofs.Common.{◌≡◌, ℕ, ◌<◌, Bool, true, Decides, refl}
use Rattle.std.proofs.lemmas.Bool.Decides.{same_from_decides, Decides-below_and}
use Rattle.sets.specs.Counting.{every}

pub every_is : (p : ℕ → Bool) (n : ℕ) → Decides (every p n) ((k : ℕ) → k < n → p k ≡ true)
unfolding every
every_is p n = Decides-below_and p (λ k. p k ≡ true) (every p) (λ k. (λ t. t, λ t. t)) refl (λ k. refl) n

pub every_value : (p : ℕ → Bool) (n : ℕ) (r : Bool) → Decides r ((k : ℕ) → k < n → p k ≡ true) → r ≡ every p n
every_value p n r d = same_from_decides r (every p n) d (every_is p n)
