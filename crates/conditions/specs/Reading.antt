-- What the functions that read a part of the text promise. Assumes nothing.
use Rattle.std.specs.Prelude.{◌≡◌, ◌≢◌, ℕ, ◌+◌, ◌-◌, ◌<◌, ◌≤◌, true, false, List, length, drop, Result, MatchResult, slice_index}
use Rattle.cpog.specs.declared.refusal.Refusal.{Refusal}
use Rattle.conditions.specs.declared.nodes.Node.{Node}
use Rattle.conditions.specs.declared.nodes.Node.TheVariants as node
use Rattle.conditions.specs.declared.source.Operator.{Operator}
use Rattle.conditions.specs.declared.source.Operator.TheVariants.{And, Or}
use Rattle.conditions.specs.declared.source.Read.{Read}
use Rattle.conditions.specs.Grammar.{Level, conditions, terms, factors, Tree, spelling, Over, depth, size, value}
use Rattle.conditions.specs.Letters.{Untaken}
use Rattle.conditions.specs.Nodes.{Last, Means}
use Rattle.conditions.specs.Verdicts.{IsNotACondition}

-- the byte of an operator: & and |
abbrev pub sign_of : Operator → ℕ
sign_of And = 38
sign_of Or = 124

abbrev pub node_of : Operator → ℕ → ℕ → Node
node_of And left right = node.And left right
node_of Or left right = node.Or left right

-- the byte is the text of the node, a constant or a letter
abbrev pub IsAtom : (names : List ℕ) → ℕ → Node → Type 0
IsAtom names byte (node.Constant true) = byte ≡ 49
IsAtom names byte (node.Constant false) = byte ≡ 48
IsAtom names byte (node.Variable k) = (k < length names) × (slice_index names k ≡ byte)
IsAtom names byte other = ⊥

pub record IsNoAtom (names : List ℕ) (byte : ℕ) : Type 0 where
  pub no_zero : byte ≢ 48
  pub no_one : byte ≢ 49
  pub no_letter : Untaken names byte

-- one node more, of a part that ends at `next`
pub record Covers (old new : List Node) (node : Node) (next depth : ℕ) (r : Read) : Type 0 where
  pub last : Last old new node r.root
  pub passed : r.next ≡ next
  pub deep : r.depth ≡ depth

abbrev pub closed_by : Read → Read
closed_by inner = record { root = inner.root; next = inner.next + 1; depth = inner.depth + 1 }

-- the closing bracket follows and is read, or it does not follow
abbrev pub Closed : (text : List ℕ) (inner : Read) → Result Read Refusal → Type 0
Closed text inner r = MatchResult r (λ read. (slice_index text inner.next ≡ 41) × (read ≡ closed_by inner)) (λ e. IsNotACondition e × (slice_index text inner.next ≢ 41))

-- what a function of the parser may be called with: there is room for a node for each byte
pub record Asked (text : List ℕ) (at : ℕ) (old : List Node) : Type 0 where
  pub within : at ≤ length text
  pub room : length old + (length text - at) ≤ 2112

-- what follows cannot go on with a tree of that level
abbrev pub Stops : Level → List ℕ → Type 0
Stops factors rest = Unit {0}
Stops terms rest = slice_index rest 0 ≢ 38
Stops conditions rest = (slice_index rest 0 ≢ 38) × (slice_index rest 0 ≢ 124)

-- the text from a place on begins with the tree, and the new nodes mean it
pub record Parsed (l : Level) (names text : List ℕ) (at : ℕ) (old new : List Node) (r : Read) : Type 0 where
  pub tree : Tree l
  pub over : Over (length names) tree
  pub spelled : drop at text ≡ spelling names tree (drop r.next text)
  pub stops : Stops l (drop r.next text)
  pub within : r.next ≤ length text
  pub deep : r.depth ≡ depth tree
  pub sized : length new ≡ length old + size tree
  pub stored : r.root < length new
  pub means : (opcode : ℕ) → Means new opcode r.root (value tree opcode)

-- no tree of that level stands at the front
abbrev pub Outside : Level → List ℕ → List ℕ → Type 0
Outside l names front = (tree : Tree l) (rest : List ℕ) → Over (length names) tree → Stops l rest → front ≢ spelling names tree rest

-- the only refusal of the functions that read
pub record Failing (l : Level) (names front : List ℕ) (e : Refusal) : Type 0 where
  pub refusal : IsNotACondition e
  pub outside : Outside l names front

abbrev pub Reading : (l : Level) (names text : List ℕ) (at : ℕ) (old new : List Node) → Result Read Refusal → Type 0
Reading l names text at old new r = MatchResult r (λ read. Parsed l names text at old new read) (λ e. Failing l names (drop at text) e)
