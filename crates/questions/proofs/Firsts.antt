-- What `try_for_each` over the opcodes gives. Assumes nothing.
use Rattle.std.proofs.Common.{◌≡◌, ℕ, ◌+◌, ◌<◌, true, false, is_err, refl, Some, None, Ok, Err, Option, Result, sym, ap, subst, inl, inr, ◌∙◌, arith}
use Rattle.std.proofs.iter.Yields.{nat_range_steps}
use Rattle.std.proofs.lemmas.Option.{MatchOption-at_some}
use Rattle.std.proofs.lemmas.Bool.{cases_Bool, MatchBool-at_true, MatchBool-at_false}
use Rattle.std.proofs.lemmas.Result.{err_from_is_err_and}
use Rattle.std.specs.Fn.{Called}
use Rattle.std.specs.Iterator.Runs.{SomeRun, IsTryForEachRun, CallKeepsClosure, AllItems, AllItemsBelow}
use Rattle.std.specs.Option.{option_map_or, IsSomeAnd}
use Rattle.std.specs.Result.{result_from_control_flow, IsErr, IsErrAnd}
use denote.Param.Members.{Mut}
use Rattle.sets.proofs.Ranges.{counts, number_at}
use Rattle.sets.specs.Counting.{least, Least}
use Rattle.sets.proofs.Leasts.{least_value, least_is}
use Rattle.questions.specs.Opcodes.{first_err}

-- every opcode is Ok, or the error is that of the least that has one
abbrev pub Firsts : {E : Type 0} → (ℕ → Result (Unit {0}) E) → Result (Unit {0}) E → Type 0
Firsts at (Ok done) = (o : ℕ) → o < 256 → at o ≡ Ok tt
Firsts at (Err e) = (o : ℕ) × ((o < 256) × (at o ≡ Err e) × ((q : ℕ) → q < o → at q ≡ Ok tt))

-- a result that is no error
ok_unless : {E : Type 0} (s : Result (Unit {0}) E) → is_err s ≡ false → s ≡ Ok tt
ok_unless (Ok done) f = refl
ok_unless (Err e) f = absurd (grind arith)

pub firsts_value : {E : Type 0} (at : ℕ → Result (Unit {0}) E) (r : Result (Unit {0}) E) → Firsts at r → r ≡ first_err at
firsts_value at (Ok done) all =
    let none : Least (λ o. is_err (at o)) 256 None = λ o l. ap is_err (all o l) in ap (λ q. option_map_or at q (Ok tt)) (least_value (λ o. is_err (at o)) 256 None none)
firsts_value at (Err e) first =
    let found : Least (λ q. is_err (at q)) 256 (Some first.0) = (first.1.0, ap is_err first.1.1, λ q h. ap is_err (first.1.2 q h)) in
    sym first.1.1 ∙ ap (λ q. option_map_or at q (Ok tt)) (least_value (λ q. is_err (at q)) 256 (Some first.0) found)

-- the other way round: what the least opcode with an error gives, or that there is none
pub least_firsts : {E : Type 0} (at : ℕ → Result (Unit {0}) E) (r : Option ℕ) → Least (λ o. is_err (at o)) 256 r → Firsts at (option_map_or at r (Ok tt))
least_firsts at None none = λ o l. ok_unless (at o) (none o l)
least_firsts {E} at (Some o) found = go (at o) refl found.1
  where
    go : (s : Result (Unit {0}) E) → at o ≡ s → is_err s ≡ true → Firsts at s
    go (Err e) is t = (o, (found.0, is, λ q h. ok_unless (at q) (found.2 q h)))
    go (Ok done) is t = absurd (grind arith)

-- so the first error of all is one of these
pub firsts_is : {E : Type 0} (at : ℕ → Result (Unit {0}) E) → Firsts at (first_err at)
firsts_is at = least_firsts at (least (λ o. is_err (at o)) 256) (least_is (λ o. is_err (at o)) 256)

-- `at` is what each call answers
pub firsts_of : {E F : Type 0} {g : Mut F (ℕ × Unit {0}) (Result (Unit {0}) E)} {f : F} {r : Result (Unit {0}) E} (at : ℕ → Result (Unit {0}) E)
    → SomeRun nat_range_steps (record { start = 0; end = 256 }) (λ p. IsTryForEachRun p g f (λ s c. s ≡ result_from_control_flow c) (λ e s. IsErr s × IsErrAnd s (λ x. x ≡ e.0)) r)
    → ((o : ℕ) (v : Result (Unit {0}) E) (f' : F) → Called g f (o, tt) v f' → (f' ≡ f) × (v ≡ at o))
    → Firsts at r
firsts_of {E} {F} {g} {f} {r} at (p, from, says) calls =
    elim (cases_Bool p.whole) [
      | inl w ↦ let h = MatchBool-at_true _ _ w says in subst (Firsts at) (sym h.0) (whole w (h.1 keeps))
      | inr n ↦ let h = MatchBool-at_false _ _ n says in cut h.0.0 h.1 h.2 h.3 (h.4 keeps)
    ]
  where
    keeps : CallKeepsClosure g f
    keeps a v f' k = (calls a.0 v f' k).0

    Gives : Result (Unit {0}) E → ℕ → Type 0
    Gives s o = (v : Result (Unit {0}) E) × Called g f (o, tt) v f × (v ≡ s)

    answer : (s : Result (Unit {0}) E) (o : ℕ) → Gives s o → at o ≡ s
    answer s o h = sym (calls o h.0 f h.1).1 ∙ h.2

    there : (s : Result (Unit {0}) E) (o : ℕ) → o < p.len → IsSomeAnd (p.at o) (Gives s) → at o ≡ s
    there s o l h = answer s o (subst (λ (q : Option ℕ). IsSomeAnd q (Gives s)) (number_at 256 p from o l) h)

    whole : p.whole ≡ true → AllItems p (Gives (Ok tt)) → (o : ℕ) → o < 256 → at o ≡ Ok tt
    whole w h o l = answer (Ok tt) o (MatchOption-at_some _ (Gives (Ok tt)) o (number_at 256 p from o (omega (arith, (counts 256 p from).1 w))) (h o))

    cut : (e : E) (i : ℕ) → IsErr r × IsErrAnd r (λ x. x ≡ e) → p.len ≡ i + 1 → IsSomeAnd (p.at i) (Gives (Err e)) × AllItemsBelow p i (Gives (Ok tt)) → Firsts at r
    cut e i err len h =
        let y = err_from_is_err_and r err.1 in
        subst (Firsts at) (sym (y.1 ∙ ap Err y.2)) (i, (omega (arith, (counts 256 p from).0), there (Err e) i (omega arith) h.0, λ q b. there (Ok tt) q (omega arith) (h.1 q b)))
