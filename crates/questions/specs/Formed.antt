-- When a graph is well-formed. Assumes nothing.
use Rattle.std.specs.Prelude.{IsTrue, ℕ, ◌<◌, Bool, ◌&&◌, is_some, Ok, Err, Result, if◌then◌else◌}
use Rattle.sets.specs.Chains.{Acyclic}
use Rattle.cpog.specs.Graphs.{Conditions, counted, order_at}
use Rattle.cpog.specs.Projections.{on_cycle}
use Rattle.questions.specs.Opcodes.{first_err}

-- the opcode is allowed, and events precede themselves there
abbrev pub cyclic : Conditions → ℕ → Bool
cyclic g o = g.allow o && is_some (on_cycle (order_at g o))

abbrev pub formed_at : Conditions → ℕ → Result (Unit {0}) ℕ
formed_at g o = if cyclic g o then Err o else Ok tt

abbrev pub formed : Conditions → Result (Unit {0}) ℕ
formed g = first_err (formed_at g)

-- For each answer, what holds where it is given. No two of these hold at once.
abbrev pub Formed : Conditions → Result (Unit {0}) ℕ → Type 0
Formed g (Ok done) = (o : ℕ) → IsTrue (g.allow o) → Acyclic (counted g o)
Formed g (Err o) = IsTrue (g.allow o) × (Acyclic (counted g o) → ⊥) × ((q : ℕ) → q < o → IsTrue (g.allow q) → Acyclic (counted g q))
