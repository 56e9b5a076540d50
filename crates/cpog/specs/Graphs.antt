-- A conditional partial order graph by its meaning, and the order that it has at an opcode. Assumes nothing.
--     Conditions   what a graph answers            counted    an arc that counts
--     Lawful       its limits                      precedes   a chain of counted arcs, as a test
--     Order        present events and "precedes"   order_at   the order of a graph at an opcode
use Rattle.std.specs.Prelude.{IsTrue, ◌≡◌, ℕ, ◌^◌, ◌<◌, ◌≤◌, Bool, ◌&&◌}
use Rattle.sets.specs.Chains.{Chain, closed}

-- how many events and variables, which opcodes are allowed, which events and arcs an opcode has
pub record Conditions : Type 0 where
  pub events : ℕ
  pub variables : ℕ
  pub allow : ℕ → Bool
  pub has : ℕ → ℕ → Bool
  pub arc : ℕ → ℕ → ℕ → Bool

-- the limits of every graph, and that out-of-range numbers give no
pub record Lawful (g : Conditions) : Type 0 where
  pub few_events : g.events ≤ 32
  pub few_variables : g.variables ≤ 8
  pub allow_inside : (o : ℕ) → IsTrue (g.allow o) → o < 2 ^ g.variables
  pub has_inside : (e o : ℕ) → IsTrue (g.has e o) → (e < g.events) × (o < 2 ^ g.variables)
  pub arc_inside : (e f o : ℕ) → IsTrue (g.arc e f o) → (e < g.events) × (f < g.events) × (o < 2 ^ g.variables)

-- an arc counts where it is there and both its events are present
abbrev pub counted : Conditions → ℕ → ℕ → ℕ → Bool
counted g o e f = (g.has e o && g.has f o) && g.arc e f o

-- a chain of one or more counted arcs leads from e to f: `Projects` ties this test to chains
abbrev pub precedes : Conditions → ℕ → ℕ → ℕ → Bool
precedes g o = closed (counted g o) 32

-- present events and "precedes"
pub record Order : Type 0 where
  pub present : ℕ → Bool
  pub precedes : ℕ → ℕ → Bool

abbrev pub order_at : Conditions → ℕ → Order
order_at g o = record { present = λ e. g.has e o; precedes = precedes g o }

-- p is the order of g at o: the events that are present there, and exactly the chains of counted arcs
pub record Projects (g : Conditions) (o : ℕ) (p : Order) : Type 0 where
  pub presence : (e : ℕ) → p.present e ≡ g.has e o
  pub to_chain : (e f : ℕ) → IsTrue (p.precedes e f) → Chain (counted g o) e f
  pub from_chain : (e f : ℕ) → Chain (counted g o) e f → IsTrue (p.precedes e f)
