-- What a check of a whole graph says and shows. Assumes nothing.
use Rattle.std.specs.Prelude.{IsTrue, ◌≡◌, ℕ, ◌<◌, not, List, [], ◌∷◌, ◌++◌, length, drop, Some, None, Ok, Err, Option, Result, nat_lt}
use Rattle.std.specs.Bool.{then_some}
use Rattle.sets.specs.Counting.{tally}
use Rattle.cpog.specs.Actions.{usable}
use Rattle.cpog.specs.Graphs.{Conditions, counted}
use Rattle.cpog.specs.Refusals.{first_of}
use Rattle.cpog.specs.declared.action.Action.{Action}
use Rattle.cpog.specs.declared.refusal.Refusal.{Refusal}
use Rattle.cpog.specs.declared.refusal.Refusal.TheVariants.{BadActions, ShortBuffer}
use Rattle.searches.specs.Cycles.{IsCycle}
use Rattle.questions.specs.Opcodes.{first_err}
use Rattle.questions.specs.Outcomes.{outcome_at, HasFlaw, HasOneResult}
use Rattle.questions.specs.declared.check.Checked.{Checked}
use Rattle.questions.specs.declared.check.Unsound.{Unsound}
use Rattle.questions.specs.declared.outcome.Flaw.{Flaw}
use Rattle.questions.specs.declared.outcome.Flaw.TheVariants.{Cycle, Clash}

-- why a check is not made, of actions and a buffer of this length
abbrev pub unasked : Conditions → List Action → ℕ → Option Refusal
unasked g actions len = first_of (then_some (not (usable g.events actions)) BadActions ∷ then_some (nat_lt len 32) ShortBuffer ∷ [])

-- the verdict that the outcome of an opcode makes, if it is the first with a flaw
abbrev pub judged : ℕ → Option (Result (Unit {0}) Flaw) → Result (Unit {0}) Unsound
judged o None = Ok tt
judged o (Some (Ok done)) = Ok tt
judged o (Some (Err flaw)) = Err (record { opcode = o; flaw = flaw })

abbrev pub judged_at : Conditions → List Action → ℕ → Result (Unit {0}) Unsound
judged_at g actions o = judged o (outcome_at g actions o)

abbrev pub verdict : Conditions → List Action → Result (Unit {0}) Unsound
verdict g actions = first_err (judged_at g actions)

-- every allowed opcode below o has one result
abbrev pub SoundBelow : Conditions → List Action → ℕ → Type 0
SoundBelow g actions o = (q : ℕ) → q < o → IsTrue (g.allow q) → HasOneResult g actions q

-- For each verdict, what holds where it is given. No two of these hold at once.
abbrev pub Verdicts : Conditions → List Action → Result (Unit {0}) Unsound → Type 0
Verdicts g actions (Ok done) = (o : ℕ) → IsTrue (g.allow o) → HasOneResult g actions o
Verdicts g actions (Err u) = IsTrue (g.allow u.opcode) × HasFlaw g actions u.opcode u.flaw × SoundBelow g actions u.opcode

-- what is shown of a flaw at the start of a buffer, and of how many events; the rest of it stays
abbrev pub Exhibits : Conditions → ℕ → Flaw → List ℕ → List ℕ → ℕ → Type 0
Exhibits g o Cycle before after n = (es : List ℕ) × (IsCycle (counted g o) es × (n ≡ length es) × (after ≡ es ++ drop (length es) before))
Exhibits g o (Clash e f) before after n = (n ≡ 2) × (after ≡ (e ∷ f ∷ []) ++ drop 2 before)

abbrev pub Shown : Conditions → List ℕ → List ℕ → ℕ → Result (Unit {0}) Unsound → Type 0
Shown g before after n (Ok done) = (n ≡ 0) × (after ≡ before)
Shown g before after n (Err u) = Exhibits g u.opcode u.flaw before after n

-- what a check that is made answers, and what it leaves in the buffer
pub record Tells (g : Conditions) (actions : List Action) (before after : List ℕ) (c : Checked) : Type 0 where
  pub counts : c.allowed ≡ tally g.allow 256
  pub judges : c.verdict ≡ verdict g actions
  pub means : Verdicts g actions c.verdict
  pub shows : Shown g before after c.shown c.verdict
