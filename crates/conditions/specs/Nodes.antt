-- What stored nodes mean. Assumes nothing.
use Rattle.std.specs.Prelude.{◌≡◌, ℕ, ◌<◌, Bool, true, false, not, ◌&&◌, ◌||◌, List, [], ◌∷◌, ◌++◌, length, nat_lt, slice_index_or, IsTrue}
use Rattle.sets.specs.Counting.{bit}
use Rattle.conditions.specs.declared.nodes.Node.{Node}
use Rattle.conditions.specs.declared.nodes.Node.TheVariants.{Constant, Variable, Not, And, Or}

-- the node n stands at the place p
pub record At (ns : List Node) (p : ℕ) (n : Node) : Type 0 where
  pub within : p < length ns
  pub is : slice_index_or ns p (Constant false) ≡ n

-- the node at p has the value b at that opcode
pub data Means (ns : List Node) (opcode : ℕ) : ℕ → Bool → Type 0 where
  constant : {p : ℕ} {b : Bool} → At ns p (Constant b) → Means ns opcode p b
  variable : {p k : ℕ} → At ns p (Variable k) → Means ns opcode p (bit opcode k)
  negation : {p a : ℕ} {x : Bool} → At ns p (Not a) → Means ns opcode a x → Means ns opcode p (not x)
  conjunction : {p a b : ℕ} {x y : Bool} → At ns p (And a b) → Means ns opcode a x → Means ns opcode b y → Means ns opcode p (x && y)
  disjunction : {p a b : ℕ} {x y : Bool} → At ns p (Or a b) → Means ns opcode a x → Means ns opcode b y → Means ns opcode p (x || y)

-- a node may stand at the place p: its operands stand below, and a variable is one of eight
abbrev pub is_below : ℕ → Node → Bool
is_below p (Constant b) = true
is_below p (Variable k) = nat_lt k 8
is_below p (Not a) = nat_lt a p
is_below p (And a b) = nat_lt a p && nat_lt b p
is_below p (Or a b) = nat_lt a p && nat_lt b p

abbrev pub Ordered : List Node → Type 0
Ordered ns = (p : ℕ) → p < length ns → IsTrue (is_below p (slice_index_or ns p (Constant false)))

-- nodes are only added
pub record Grows (old new : List Node) : Type 0 where
  pub more : List Node
  pub grown : new ≡ old ++ more

-- one node more
pub record Last (old new : List Node) (node : Node) (place : ℕ) : Type 0 where
  pub there : place ≡ length old
  pub pushed : new ≡ old ++ node ∷ []
