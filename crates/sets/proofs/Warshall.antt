-- Why adding the pairs through each event in turn gives the chains. Assumes nothing.
use Rattle.std.proofs.Common.{◌≡◌, ℕ, zero, suc, ◌+◌, ◌<◌, Bool, true, ◌&&◌, ◌⊎◌, sym, refl, ◌∙◌, subst, inl, inr, add-one, arith}
use Rattle.std.proofs.lemmas.Bool.{cases_eq, and_parts, and_from, or_cases, or_left, or_right}
use Rattle.sets.specs.Chains.{Chain, Closure, closed, through}

abbrev Rel : Type 0
Rel = ℕ → ℕ → Bool

pub chain_join : {r : Rel} {e f h : ℕ} → Chain r e f → Chain r f h → Chain r e h
chain_join (Chain.one s) d = Chain.more s d
chain_join (Chain.more s c) d = Chain.more s (chain_join c d)

pub chain_map : {r s : Rel} → ((e f : ℕ) → r e f ≡ true → s e f ≡ true) → {e f : ℕ} → Chain r e f → Chain s e f
chain_map F (Chain.one t) = Chain.one (F _ _ t)
chain_map F (Chain.more t c) = Chain.more (F _ _ t) (chain_map F c)

-- `closed` at n + 1, as a loop has it
pub closed_more : (r : Rel) (n e f : ℕ) → closed r (n + 1) e f ≡ through (closed r n) n e f
unfolding closed
closed_more r n e f = rw add-one refl

module _ (R : Rel) (k : ℕ) where
  -- what is there now was there, or comes through k
  ways : (e f : ℕ) → through R k e f ≡ true → (R e f ≡ true) ⊎ ((R e k ≡ true) × (R k f ≡ true))
  ways e f t = go (or_cases (R e f) (R e k && R k f) t)
    where
      go : (R e f ≡ true) ⊎ ((R e k && R k f) ≡ true) → (R e f ≡ true) ⊎ ((R e k ≡ true) × (R k f ≡ true))
      go (inl h) = inl h
      go (inr h) = inr (and_parts (R e k) (R k f) h)

  keeps : (e f : ℕ) → R e f ≡ true → through R k e f ≡ true
  keeps e f h = or_left (R e f) (R e k && R k f) h

  joins : (e f : ℕ) → R e k ≡ true → R k f ≡ true → through R k e f ≡ true
  joins e f h l = or_right (R e f) (R e k && R k f) (and_from (R e k) (R k f) h l)

-- each pair is a chain
closed_sound : (B : Rel) (n e f : ℕ) → closed B n e f ≡ true → Chain B e f
unfolding closed
closed_sound B zero e f t = Chain.one t
closed_sound B (suc n) e f t = go (λ a b. closed_sound B n a b) (ways (closed B n) n e f t)
  where
    go : ((a b : ℕ) → closed B n a b ≡ true → Chain B a b) → (closed B n e f ≡ true) ⊎ ((closed B n e n ≡ true) × (closed B n n f ≡ true)) → Chain B e f
    go sound (inl h) = sound e f h
    go sound (inr h) = chain_join (sound e n h.0) (sound n f h.1)

-- each step is a pair
closed_step : (B : Rel) (n e f : ℕ) → B e f ≡ true → closed B n e f ≡ true
unfolding closed
closed_step B zero e f t = t
closed_step B (suc n) e f t = keeps (closed B n) n e f (closed_step B n e f t)

-- two pairs that meet below n make a pair
closed_via : (B : Rel) (n j : ℕ) → j < n → (e f : ℕ) → closed B n e j ≡ true → closed B n j f ≡ true → closed B n e f ≡ true
unfolding closed
closed_via B zero j h e f s t = absurd (omega arith)
closed_via B (suc n) j h e f s t = go (λ l a b. closed_via B n j l a b) (cases_eq j n)
  where
    R : Rel
    R = closed B n

    old : ((a b : ℕ) → R a j ≡ true → R j b ≡ true → R a b ≡ true) → (R e j ≡ true) ⊎ ((R e n ≡ true) × (R n j ≡ true)) → (R j f ≡ true) ⊎ ((R j n ≡ true) × (R n f ≡ true)) → through R n e f ≡ true
    old V (inl a) (inl b) = keeps R n e f (V e f a b)
    old V (inl a) (inr b) = joins R n e f (V e n a b.0) b.1
    old V (inr a) (inl b) = joins R n e f a.0 (V n f a.1 b)
    old V (inr a) (inr b) = joins R n e f a.0 b.1

    to_n : (R e n ≡ true) ⊎ ((R e n ≡ true) × (R n n ≡ true)) → R e n ≡ true
    to_n (inl a) = a
    to_n (inr a) = a.0

    from_n : (R n f ≡ true) ⊎ ((R n n ≡ true) × (R n f ≡ true)) → R n f ≡ true
    from_n (inl a) = a
    from_n (inr a) = a.1

    go : (j < n → (a b : ℕ) → R a j ≡ true → R j b ≡ true → R a b ≡ true) → (j ≡ n) ⊎ (j ≡ n → ⊥) → through R n e f ≡ true
    go V (inl q) =
        joins R n e f (to_n (ways R n e n (subst (λ (i : ℕ). through R n e i ≡ true) q s)))
        (from_n (ways R n n f (subst (λ (i : ℕ). through R n i f ≡ true) q t)))
    go V (inr d) = old (V (omega (arith, d))) (ways R n e j s) (ways R n j f t)

-- where every step leads to an event below n, the pairs are the chains
pub closed_closure : (B : Rel) (n : ℕ) → ((e f : ℕ) → B e f ≡ true → f < n) → Closure B (closed B n)
closed_closure B n inside = record { sound = λ e f t. closed_sound B n e f t; complete = λ e f c. complete c }
  where
    complete : {e f : ℕ} → Chain B e f → closed B n e f ≡ true
    complete (Chain.one s) = closed_step B n _ _ s
    complete (Chain.more {e} {f} {h} s c) = closed_via B n f (inside e f s) e h (closed_step B n e f s) (complete c)

-- a closure is known by its pairs
pub closure_same : (r s t : Rel) → ((e f : ℕ) → s e f ≡ t e f) → Closure r s → Closure r t
closure_same r s t same C = record { sound = λ e f h. C.sound e f (same e f ∙ h); complete = λ e f c. sym (same e f) ∙ C.complete e f c }
