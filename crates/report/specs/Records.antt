-- The printed record of a procedure, byte by byte. Assumes nothing.
use Rattle.std.specs.Prelude.{◌≡◌, ℕ, zero, suc, List, [], ◌∷◌, ◌++◌, Some, None, codes, decimal, Ok, Err, Option, Result}
use Rattle.sets.specs.Counting.{tally}
use Rattle.cpog.specs.Graphs.{Conditions, counted}
use Rattle.cpog.specs.declared.action.Action.{Action}
use Rattle.searches.specs.Cycles.{IsCycle}
use Rattle.questions.specs.Checks.{unasked, verdict}
use Rattle.questions.specs.Outcomes.{outcome_at}
use Rattle.questions.specs.declared.check.Unsound.{Unsound}
use Rattle.questions.specs.declared.outcome.Flaw.{Flaw}
use Rattle.questions.specs.declared.outcome.Flaw.TheVariants.{Cycle, Clash}
use Rattle.report.specs.Naming.{Naming, spelled}
use Rattle.report.specs.declared.failure.Failure.{Failure}
use Rattle.report.specs.declared.failure.Failure.TheVariants.{Unchecked, NoMemory}

-- a key, its value, and the end of the line
abbrev pub line : List ℕ → List ℕ → List ℕ
line key value = key ++ (value ++ 10 ∷ [])

-- the first four lines, of a number of events and of allowed opcodes
abbrev pub heading : Naming → ℕ → ℕ → List ℕ
heading names events allowed =
    line (codes "proc=") names.title
    ++ (line (codes "events=") (decimal events)
    ++ (line (codes "vars=") names.letters
    ++ line (codes "allowed=") (decimal allowed)))

-- how the line of an opcode begins, with the number of its present events
abbrev pub opening : ℕ → ℕ → List ℕ
opening o count = codes "opcode=" ++ (decimal o ++ (codes " present=" ++ decimal count))

-- how it goes on, by its outcome; any cycle will do
abbrev pub Words : Naming → Conditions → ℕ → Result (Unit {0}) Flaw → List ℕ → Type 0
Words names g o (Ok done) text = text ≡ codes " one result"
Words names g o (Err Cycle) text = (es : List ℕ) × (IsCycle (counted g o) es × (text ≡ codes " cycle" ++ spelled names es))
Words names g o (Err (Clash e f)) text = text ≡ codes " clash" ++ spelled names (e ∷ f ∷ [])

-- the line of an opcode that goes on with these words
abbrev pub line_with : Conditions → ℕ → List ℕ → List ℕ
line_with g o words = opening o (tally (λ e. g.has e o) 32) ++ (words ++ 10 ∷ [])

-- the line of an opcode; one that is not allowed has none
abbrev pub LineOf : Naming → Conditions → ℕ → Option (Result (Unit {0}) Flaw) → List ℕ → Type 0
LineOf names g o None text = text ≡ []
LineOf names g o (Some outcome) text = (words : List ℕ) × (Words names g o outcome words × (text ≡ line_with g o words))

-- a text that grew by one with this property
abbrev pub Adds : (List ℕ → Type 0) → List ℕ → List ℕ → Type 0
Adds P before after = (text : List ℕ) × (P text × (after ≡ before ++ text))

-- the lines of the opcodes below n, in rising order
unfoldable pub Lines : Naming → Conditions → List Action → ℕ → List ℕ → Type 0
Lines names g actions zero text = text ≡ []
Lines names g actions (suc n) text =
    (front : List ℕ) × ((last : List ℕ) × (Lines names g actions n front × LineOf names g n (outcome_at g actions n) last × (text ≡ front ++ last)))

-- the word for a flaw
abbrev pub flaw_word : Flaw → List ℕ
flaw_word Cycle = codes "cycle"
flaw_word (Clash e f) = codes "clash"

-- the last line
abbrev pub ending : Result (Unit {0}) Unsound → List ℕ
ending (Ok done) = codes "check=sound" ++ 10 ∷ []
ending (Err u) = codes "check=" ++ (flaw_word u.flaw ++ (32 ∷ (decimal u.opcode ++ 10 ∷ [])))

-- the heading, a line for each allowed opcode, and the verdict
abbrev pub Whole : Naming → Conditions → List Action → List ℕ → Type 0
Whole names g actions text =
    (lines : List ℕ) × (Lines names g actions 256 lines × (text ≡ heading names g.events (tally g.allow 256) ++ (lines ++ ending (verdict g actions))))

-- for want of a record: the check was refused, or there was no memory
abbrev pub Failed : Conditions → List Action → Failure → Type 0
Failed g actions (Unchecked why) = unasked g actions 32 ≡ Some why
Failed g actions NoMemory = unasked g actions 32 ≡ None
