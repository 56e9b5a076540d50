-- What a verdict says holds. Assumes nothing.
use Rattle.std.proofs.Common.{◌≡◌, ℕ, true, List, Some, None, Ok, Err, Option, Result, subst, arith}
use Rattle.cpog.specs.Graphs.{Conditions, Lawful}
use Rattle.cpog.specs.declared.action.Action.{Action}
use Rattle.questions.specs.Checks.{judged, judged_at, verdict, SoundBelow, Verdicts}
use Rattle.questions.specs.Outcomes.{outcome_at, Comes, HasOneResult}
use Rattle.questions.specs.declared.check.Unsound.{Unsound}
use Rattle.questions.specs.declared.outcome.Flaw.{Flaw}
use Rattle.questions.proofs.Coming.{outcome_comes}
use Rattle.questions.proofs.Firsts.{Firsts, firsts_is}
use Rattle.questions.proofs.Forming.{allow_small}

module _ (g : Conditions) (actions : List Action) (L : Lawful g) where
  -- an allowed opcode that is Ok has one result
  ok_result : (o : ℕ) → judged_at g actions o ≡ Ok tt → g.allow o ≡ true → HasOneResult g actions o
  ok_result o = go (outcome_at g actions o) (outcome_comes g actions o L)
    where
      go : (r : Option (Result (Unit {0}) Flaw)) → Comes g actions o r → judged o r ≡ Ok tt → g.allow o ≡ true → HasOneResult g actions o
      go None C ok t = absurd (grind arith)
      go (Some (Ok done)) C ok t = C.1
      go (Some (Err flaw)) C ok t = absurd (grind arith)

  -- the least opcode with a flaw
  at_err : (o : ℕ) (u : Unsound) → judged_at g actions o ≡ Err u → SoundBelow g actions o → Verdicts g actions (Err u)
  at_err o u = go (outcome_at g actions o) (outcome_comes g actions o L)
    where
      go : (r : Option (Result (Unit {0}) Flaw)) → Comes g actions o r → judged o r ≡ Err u → SoundBelow g actions o → Verdicts g actions (Err u)
      go None C is below = absurd (grind arith)
      go (Some (Ok done)) C is below = absurd (grind arith)
      go (Some (Err flaw)) C is below = subst (Verdicts g actions) is (C.0, C.1, below)

  pub firsts_verdicts : (r : Result (Unit {0}) Unsound) → Firsts (judged_at g actions) r → Verdicts g actions r
  firsts_verdicts (Ok done) all = λ o t. ok_result o (all o (allow_small g L o t)) t
  firsts_verdicts (Err u) first = at_err first.0 u first.1.1 (λ q h t. ok_result q (first.1.2 q h) t)

  -- so the verdict means what it says
  pub verdict_means : Verdicts g actions (verdict g actions)
  verdict_means = firsts_verdicts (verdict g actions) (firsts_is (judged_at g actions))
