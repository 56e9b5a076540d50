-- The lines of the opcodes, one after the other. Assumes nothing.
use Rattle.std.proofs.Common.{◌≡◌, ℕ, ◌+◌, List, [], ◌++◌, Some, OnOk, Option, Result, refl, sym, ap, subst, ◌∙◌, add-one, append_assoc}
use Rattle.std.proofs.lemmas.List.{append-nil}
use Rattle.std.proofs.lemmas.Result.{on_ok_weaker}
use Rattle.cpog.specs.Graphs.{Conditions}
use Rattle.cpog.specs.declared.action.Action.{Action}
use Rattle.questions.specs.Outcomes.{outcome_at}
use Rattle.questions.specs.declared.outcome.Flaw.{Flaw}
use Rattle.report.specs.Naming.{Naming}
use Rattle.report.specs.Records.{Adds, Words, line_with, LineOf, Lines}

module _ (names : Naming) (g : Conditions) (actions : List Action) where
  -- the line of an outcome, by its words
  pub line_put : {T E : Type 0} (o : ℕ) (outcome : Result (Unit {0}) Flaw) (words before after : List ℕ) (r : Result T E) → Some outcome ≡ outcome_at g actions o → Words names g o outcome words → OnOk r (after ≡ before ++ line_with g o words) → OnOk r (Adds (LineOf names g o (outcome_at g actions o)) before after)
  line_put o outcome words before after r e w p =
      subst (λ (x : Option (Result (Unit {0}) Flaw)). OnOk r (Adds (LineOf names g o x) before after)) e
      (on_ok_weaker r (λ (q : after ≡ before ++ line_with g o words). (line_with g o words, ((words, (w, refl)), q))) p)

  -- no line yet
  pub lines_none : (start : List ℕ) → Adds (Lines names g actions 0) start start
  unfolding Lines
  lines_none start = ([], (refl, sym (append-nil start)))

  -- one line more
  pub lines_more : (n : ℕ) (start before after : List ℕ) → Adds (Lines names g actions n) start before → Adds (LineOf names g n (outcome_at g actions n)) before after → Adds (Lines names g actions (n + 1)) start after
  unfolding Lines
  lines_more n start before after (front, (L, p)) (last, (H, q)) = rw add-one (front ++ last, ((front, (last, (L, H, refl))), q ∙ ap (λ (bs : List ℕ). bs ++ last) p ∙ append_assoc start front last))
