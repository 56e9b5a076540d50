-- What comes of a condition's text. Assumes nothing.
use Rattle.std.specs.Prelude.{◌≡◌, ℕ, ◌+◌, ◌<◌, ◌≤◌, ◌⊎◌, List, length, Result, MatchResult}
use Rattle.cpog.specs.declared.refusal.Refusal.{Refusal}
use Rattle.cpog.specs.declared.refusal.Refusal.TheVariants as refusal
use Rattle.conditions.specs.declared.nodes.Node.{Node}
use Rattle.conditions.specs.Grammar.{conditions, Tree, depth, size, value, Spells, Only}
use Rattle.conditions.specs.Nodes.{Means}

-- a condition that is stored: what its nodes mean is what its tree means
pub record Stored (names text : List ℕ) (old new : List Node) (root : ℕ) : Type 0 where
  pub tree : Tree conditions
  pub spells : Only names text tree
  pub shallow : depth tree ≤ 12
  pub fits : length old + size tree ≤ 2048
  pub sized : length new ≡ length old + size tree
  pub within : root < length new
  pub means : (opcode : ℕ) → Means new opcode root (value tree opcode)

pub record TooDeep (names text : List ℕ) : Type 0 where
  pub tree : Tree conditions
  pub spells : Only names text tree
  pub deep : 12 < depth tree

pub record TooMany (names text : List ℕ) (old : List Node) : Type 0 where
  pub tree : Tree conditions
  pub spells : Only names text tree
  pub shallow : depth tree ≤ 12
  pub many : 2048 < length old + size tree

-- which refusal comes, and why
abbrev pub Refused : (names text : List ℕ) (old : List Node) → Refusal → Type 0
Refused names text old refusal.NotACondition = (tree : Tree conditions) → ¬ Spells names text tree
Refused names text old refusal.TooDeep = TooDeep names text
Refused names text old refusal.TooManyNodes = TooMany names text old
Refused names text old other = ⊥

abbrev pub IsNotACondition : Refusal → Type 0
IsNotACondition r = r ≡ refusal.NotACondition

-- the limit that is passed, the depth first
abbrev pub Exceeds : (depth nodes : ℕ) → Refusal → Type 0
Exceeds depth nodes r = ((r ≡ refusal.TooDeep) × (12 < depth)) ⊎ ((r ≡ refusal.TooManyNodes) × (depth ≤ 12) × (2048 < nodes))

-- what may be said before the nodes are taken back
abbrev pub Judged : (names text : List ℕ) (old new : List Node) → Result ℕ Refusal → Type 0
Judged names text old new r = MatchResult r (λ root. Stored names text old new root) (λ e. Refused names text old e)
