-- The grammar of a condition: its trees, the text of each, and what it means. Assumes nothing.
use Rattle.std.specs.Prelude.{◌≡◌, ℕ, ◌+◌, ◌<◌, ◌≤◌, max, Bool, true, false, not, ◌&&◌, ◌||◌, List, [], ◌∷◌, ◌++◌, length, codes, slice_index}
use Rattle.sets.specs.Counting.{bit}

pub data Level : Type 0 where
  conditions terms factors : Level

-- one constructor for each production
pub data Tree : Level → Type 0 where
  constant : Bool → Tree factors
  variable : ℕ → Tree factors
  negation : Tree factors → Tree factors
  bracket : Tree conditions → Tree factors
  factor_alone : Tree factors → Tree terms
  conjunction : Tree factors → Tree terms → Tree terms
  term_alone : Tree terms → Tree conditions
  disjunction : Tree terms → Tree conditions → Tree conditions

-- the text of a tree, with `rest` after it; `names` has the letter of each variable
abbrev pub spelling : List ℕ → {l : Level} → Tree l → List ℕ → List ℕ
spelling names (constant true) rest = codes "1" ++ rest
spelling names (constant false) rest = codes "0" ++ rest
spelling names (variable k) rest = slice_index names k ∷ rest
spelling names (negation f) rest = codes "!" ++ spelling names f rest
spelling names (bracket c) rest = codes "(" ++ spelling names c (codes ")" ++ rest)
spelling names (factor_alone f) rest = spelling names f rest
spelling names (conjunction f t) rest = spelling names f (codes "&" ++ spelling names t rest)
spelling names (term_alone t) rest = spelling names t rest
spelling names (disjunction t c) rest = spelling names t (codes "|" ++ spelling names c rest)

-- each variable is one of the n that are declared
abbrev pub Over : ℕ → {l : Level} → Tree l → Type 0
Over n (constant b) = Unit {0}
Over n (variable k) = k < n
Over n (negation f) = Over n f
Over n (bracket c) = Over n c
Over n (factor_alone f) = Over n f
Over n (conjunction f t) = Over n f × Over n t
Over n (term_alone t) = Over n t
Over n (disjunction t c) = Over n t × Over n c

-- each ! and each pair of brackets nests one deeper
abbrev pub depth : {l : Level} → Tree l → ℕ
depth (constant b) = 0
depth (variable k) = 0
depth (negation f) = depth f + 1
depth (bracket c) = depth c + 1
depth (factor_alone f) = depth f
depth (conjunction f t) = max (depth f) (depth t)
depth (term_alone t) = depth t
depth (disjunction t c) = max (depth t) (depth c)

-- how many nodes: brackets take none
abbrev pub size : {l : Level} → Tree l → ℕ
size (constant b) = 1
size (variable k) = 1
size (negation f) = size f + 1
size (bracket c) = size c
size (factor_alone f) = size f
size (conjunction f t) = size f + size t + 1
size (term_alone t) = size t
size (disjunction t c) = size t + size c + 1

-- what it comes to at an opcode
abbrev pub value : {l : Level} → Tree l → ℕ → Bool
value (constant b) opcode = b
value (variable k) opcode = bit opcode k
value (negation f) opcode = not (value f opcode)
value (bracket c) opcode = value c opcode
value (factor_alone f) opcode = value f opcode
value (conjunction f t) opcode = value f opcode && value t opcode
value (term_alone t) opcode = value t opcode
value (disjunction t c) opcode = value t opcode || value c opcode

-- the text is that of the tree, and short enough
pub record Spells (names text : List ℕ) (tree : Tree conditions) : Type 0 where
  pub some : 1 ≤ length text
  pub short : length text ≤ 64
  pub over : Over (length names) tree
  pub spelled : text ≡ spelling names tree []

-- and of no other tree
pub record Only (names text : List ℕ) (tree : Tree conditions) : Type 0 where
  pub spells : Spells names text tree
  pub only : (other : Tree conditions) → Spells names text other → other ≡ tree
