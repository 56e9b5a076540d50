-- Clashes go both ways and only between present events, so the first pair of the search is the first of all. Assumes nothing.
use Rattle.std.proofs.Common.{◌≡◌, ℕ, ◌<◌, Bool, true, false, ◌&&◌, nat_lt, List, is_some, Some, None, Option, sym, refl, ap, ◌∙◌, arith}
use Rattle.std.specs.Option.{option_map}
use Rattle.std.proofs.lemmas.Bool.Decides.{nat_tests}
use Rattle.sets.specs.Counting.{least, Least}
use Rattle.sets.proofs.Leasts.{least_is, least_value}
use Rattle.cpog.specs.Graphs.{Order}
use Rattle.searches.proofs.Finding.{FirstGiven}
use Rattle.searches.specs.Clashes.{clashing, partner_of, with_partner, first_clash, Searched}
use Rattle.cpog.specs.declared.action.Action.{Action}

module _ (p : Order) (actions : List Action) where
  clashing_comm : (e f : ℕ) → clashing p actions e f ≡ clashing p actions f e
  unfolding clashing
  clashing_comm e f = grind (arith, nat_tests)

  clashing_same : (e : ℕ) → clashing p actions e e ≡ false
  unfolding clashing
  clashing_same e = grind (arith, nat_tests)

  clashing_present : (e f : ℕ) → clashing p actions e f ≡ true → (p.present e ≡ true) × (p.present f ≡ true)
  unfolding clashing
  clashing_present e f t = grind (arith, nat_tests)

  abbrev is_partner : ℕ → ℕ → Bool
  is_partner e f = nat_lt e f && clashing p actions e f

  abbrev has_partner : ℕ → Bool
  has_partner e = is_some (partner_of p actions e)

  -- an absent event has no partner
  pub absent_alone : (e : ℕ) → p.present e ≡ false → with_partner p actions (Some e) ≡ None
  absent_alone e absent = ap (option_map (λ f. (e, f))) (sym (least_value (is_partner e) 32 None none))
    where
      none : Least (is_partner e) 32 None
      none f h = grind (arith, clashing_present e f)

  module _ (inside : (e : ℕ) → p.present e ≡ true → e < 32) where
    -- an event without a partner clashes with no higher one
    quiet : (e f : ℕ) → has_partner e ≡ false → e < f → clashing p actions e f ≡ false
    quiet e f = at (partner_of p actions e) (least_is (is_partner e) 32)
      where
        at : (r : Option ℕ) → Least (is_partner e) 32 r → is_some r ≡ false → e < f → clashing p actions e f ≡ false
        at None L none h = let l = L f in grind (arith, nat_tests, clashing_present e f, inside f)
        at (Some k) L none h = absurd (grind arith)

    -- where no event below 32 has a partner, no two events clash
    no_clash : ((e : ℕ) → e < 32 → has_partner e ≡ false) → (e f : ℕ) → clashing p actions e f ≡ false
    no_clash none e f = grind (arith, quiet e f, quiet f e, clashing_same e, clashing_comm e f, clashing_present e f, inside e, inside f, none e, none f)

    -- the first pair is the first
    pub searched : Searched p actions (first_clash p actions)
    searched = at_lower (least has_partner 32) (least_is has_partner 32)
      where
        at_higher : (e : ℕ) (r : Option ℕ) → Least (is_partner e) 32 r → is_some r ≡ true → ((d : ℕ) → d < e → has_partner d ≡ false) → Searched p actions (option_map (λ f. (e, f)) r)
        at_higher e None L some below = absurd (grind arith)
        at_higher e (Some f) L some below = record {
          rising = grind (arith, nat_tests);
          clashes = grind (arith, nat_tests);
          least_lower = λ a b h k. quiet a b (below a h) k;
          least_higher = λ b h k. let l = L.2 b k in grind (arith, nat_tests);
        }

        at_lower : (r : Option ℕ) → Least has_partner 32 r → Searched p actions (with_partner p actions r)
        at_lower None L = no_clash L
        at_lower (Some e) L = at_higher e (partner_of p actions e) (least_is (is_partner e) 32) L.1 L.2

  paired : (e : ℕ) (o : Option ℕ) → is_some o ≡ is_some (option_map {U = ℕ × ℕ} (λ f. (e, f)) o)
  paired e None = refl
  paired e (Some f) = refl

  -- the pair of the first event that has a partner is the first pair
  pub first_clash_is : (r : Option (ℕ × ℕ)) → FirstGiven 32 (λ e. with_partner p actions (Some e)) r → r ≡ first_clash p actions
  first_clash_is None none = ap (with_partner p actions) (least_value has_partner 32 None (λ e h. paired e (partner_of p actions e) ∙ ap is_some (none e h)))
  first_clash_is (Some q) m =
      let pair = ap is_some m.2 in
      sym m.2 ∙ ap (with_partner p actions) (least_value has_partner 32 (Some m.0) (m.1, paired m.0 (partner_of p actions m.0) ∙ pair, λ d h. paired d (partner_of p actions d) ∙ ap is_some (m.3 d h)))
