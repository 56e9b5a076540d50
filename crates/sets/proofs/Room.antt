-- As many different numbers below a bound as there are leave no room for another. Assumes nothing.
use Rattle.std.proofs.Common.{◌≡◌, ℕ, zero, suc, ◌+◌, ◌<◌, ◌≤◌, Bool, false, ◌||◌, eqb, ◌⊎◌, sym, refl, ap, ◌∙◌, subst, ap₂, inl, inr, arith}
use mir.Val.{bool_byte}
use Rattle.std.proofs.lemmas.Bool.{cases_eq, eq-eqb, ne_eqb, or_from}
use Rattle.sets.specs.Counting.{tally}
use Rattle.sets.proofs.Tallies.{byte_le, tally_below}
use Rattle.std.proofs.Math.Bool.{or-false}

tally_le : (p : ℕ → Bool) (n : ℕ) → tally p n ≤ n
unfolding tally
tally_le p zero = omega arith
tally_le p (suc n) = omega (arith, tally_le p n, byte_le (p n))

-- one that fails leaves room
tally_room : (p : ℕ → Bool) (n y : ℕ) → y < n → p y ≡ false → tally p n < n
unfolding tally
tally_room p zero y h f = absurd (omega arith)
tally_room p (suc n) y h f = go (λ l. tally_room p n y l f) (cases_eq y n)
  where
    go : (y < n → tally p n < n) → (y ≡ n) ⊎ (y ≡ n → ⊥) → tally p n + bool_byte (p n) < suc n
    go rest (inl q) = let z : bool_byte (p n) ≡ 0 = ap (λ (k : ℕ). bool_byte (p k)) (sym q) ∙ ap bool_byte f in omega (arith, tally_le p n, z)
    go rest (inr d) = omega (arith, rest (omega (arith, d)), byte_le (p n))

-- one more that passes
tally_one : (p q : ℕ → Bool) (n y : ℕ) → y < n → p y ≡ false → ((k : ℕ) → q k ≡ (p k || eqb k y)) → tally q n ≡ suc (tally p n)
unfolding tally
tally_one p q zero y h f e = absurd (omega arith)
tally_one p q (suc n) y h f e = go (λ l. tally_one p q n y l f e) (cases_eq y n)
  where
    other : (k : ℕ) → (k ≡ y → ⊥) → q k ≡ p k
    other k d = e k ∙ ap (λ (b : Bool). p k || b) (ne_eqb k y d) ∙ or-false (p k)

    go : (y < n → tally q n ≡ suc (tally p n)) → (y ≡ n) ⊎ (y ≡ n → ⊥) → tally q n + bool_byte (q n) ≡ suc (tally p n + bool_byte (p n))
    go rest (inl s) =
        let a : tally q n ≡ tally p n = tally_below q p n (λ k l. other k (λ z. omega arith)) in
        let b : bool_byte (q n) ≡ 1 = subst (λ (k : ℕ). bool_byte (q k) ≡ 1) s (ap bool_byte (e y ∙ ap₂ (λ (x z : Bool). x || z) f (eq-eqb y y refl))) in
        let z : bool_byte (p n) ≡ 0 = subst (λ (k : ℕ). bool_byte (p k) ≡ 0) s (ap bool_byte f) in
        omega arith
    go rest (inr d) =
        let a : tally q n ≡ suc (tally p n) = rest (omega (arith, d)) in
        let b : bool_byte (q n) ≡ bool_byte (p n) = ap bool_byte (other n (λ z. d (sym z))) in
        omega arith

none_pass : (n : ℕ) → tally (λ k. false) n ≡ 0
unfolding tally
none_pass zero = refl
none_pass (suc n) = omega (arith, none_pass n)

-- the first n of a sequence as a set
among : (ℕ → ℕ) → ℕ → ℕ → Bool
among at zero k = false
among at (suc n) k = among at n k || eqb k (at n)

among_not : (at : ℕ → ℕ) (n y : ℕ) → ((k : ℕ) → k < n → at k ≡ y → ⊥) → among at n y ≡ false
unfolding among
among_not at zero y h = refl
among_not at (suc n) y h =
    or_from (among at n y) (eqb y (at n)) (among_not at n y (λ k l. h k (omega arith))) (ne_eqb y (at n) (λ q. h n (omega arith) (sym q)))

-- n different numbers below m are n of the m
among_tally : (at : ℕ → ℕ) (n m : ℕ) → ((k : ℕ) → k < n → at k < m) → ((j k : ℕ) → j < k → k < n → at j ≡ at k → ⊥) → tally (among at n) m ≡ n
unfolding among
among_tally at zero m inside different = none_pass m
among_tally at (suc n) m inside different =
    tally_one (among at n) (among at (suc n)) m (at n) (inside n (omega arith)) (among_not at n (at n) (λ k l. different k n l (omega arith))) (λ k. refl)
    ∙ ap suc (among_tally at n m (λ k l. inside k (omega arith)) (λ j k l s. different j k l (omega arith)))

-- where one more is different from all of them, there is room for it
pub room : (at : ℕ → ℕ) (n m y : ℕ) → ((k : ℕ) → k < n → at k < m) → ((j k : ℕ) → j < k → k < n → at j ≡ at k → ⊥) → y < m → ((k : ℕ) → k < n → at k ≡ y → ⊥) → n < m
room at n m y inside different h new =
    let a = among_tally at n m inside different in
    let b = tally_room (among at n) m y h (among_not at n y new) in
    omega arith
