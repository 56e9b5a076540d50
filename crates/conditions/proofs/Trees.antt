-- A text has at most one tree. Assumes nothing.
use Rattle.std.proofs.Common.{◌≡◌, ℕ, ◌+◌, ◌<◌, ◌≤◌, true, false, List, [], ◌∷◌, length, get_or, sym, refl, ap, ⊎_elim, arith}
use Rattle.std.proofs.lemmas.Bool.{cases_order}
use Rattle.conditions.specs.Grammar.{Level, conditions, terms, factors, Tree, constant, variable, negation, bracket, factor_alone, conjunction, term_alone, disjunction, spelling, Over, depth, size}
use Rattle.conditions.proofs.Naming.{Names}
use Rattle.conditions.specs.Reading.{Stops}

-- a byte for each node
pub size_long : (names : List ℕ) {l : Level} (t : Tree l) (rest : List ℕ) → size t + length rest ≤ length (spelling names t rest)
size_long names (constant true) rest = omega arith
size_long names (constant false) rest = omega arith
size_long names (variable k) rest = omega arith
size_long names (negation f) rest = let h = size_long names f rest in omega arith
size_long names (bracket c) rest = let h = size_long names c (41 ∷ rest) in omega arith
size_long names (factor_alone f) rest = size_long names f rest
size_long names (conjunction f t) rest = let h = size_long names t rest in let k = size_long names f (38 ∷ spelling names t rest) in omega arith
size_long names (term_alone t) rest = size_long names t rest
size_long names (disjunction t c) rest = let h = size_long names c rest in let k = size_long names t (124 ∷ spelling names c rest) in omega arith

-- and at least one
pub size_some : {l : Level} (t : Tree l) → 1 ≤ size t
size_some (constant b) = omega arith
size_some (variable k) = omega arith
size_some (negation f) = omega arith
size_some (bracket c) = size_some c
size_some (factor_alone f) = size_some f
size_some (conjunction f t) = omega arith
size_some (term_alone t) = size_some t
size_some (disjunction t c) = omega arith

-- a byte for each level, and one more
pub deep_long : (names : List ℕ) {l : Level} (t : Tree l) (rest : List ℕ) → depth t + length rest < length (spelling names t rest)
deep_long names (constant true) rest = omega arith
deep_long names (constant false) rest = omega arith
deep_long names (variable k) rest = omega arith
deep_long names (negation f) rest = let h = deep_long names f rest in omega arith
deep_long names (bracket c) rest = let h = deep_long names c (41 ∷ rest) in omega arith
deep_long names (factor_alone f) rest = deep_long names f rest
deep_long names (conjunction f t) rest = let h = deep_long names t rest in let k = deep_long names f (38 ∷ spelling names t rest) in omega arith
deep_long names (term_alone t) rest = deep_long names t rest
deep_long names (disjunction t c) rest = let h = deep_long names c rest in let k = deep_long names t (124 ∷ spelling names c rest) in omega arith

abbrev pub Same : {l : Level} → Tree l → Tree l → List ℕ → List ℕ → Type 0
Same a b r s = (a ≡ b) × (r ≡ s)

-- the first byte
abbrev pub front : List ℕ → ℕ
front l = get_or l 0 0

pub head_same : {x y : ℕ} {r s : List ℕ} → x ∷ r ≡ y ∷ s → x ≡ y
head_same e = ap front e

-- the rest
abbrev pub behind : List ℕ → List ℕ
behind [] = []
behind (x ∷ r) = r

pub tail_same : {x y : ℕ} {r s : List ℕ} → x ∷ r ≡ y ∷ s → r ≡ s
tail_same e = ap behind e

-- different variables have different letters
same_letter : (names : List ℕ) → Names names → (j k : ℕ) → j < length names → k < length names → get_or names j 0 ≡ get_or names k 0 → j ≡ k
same_letter names d j k jl kl e =
    ⊎_elim (λ h. h) (λ h. ⊎_elim (λ lt. absurd (d.apart j k lt kl e)) (λ gt. absurd (d.apart k j gt jl (sym e))) h) (cases_order j k)

module _ (names : List ℕ) (d : Names names) where
  -- two trees with the same text are the same: the first byte of a factor says which
  pub unique : {l : Level} (a b : Tree l) (r s : List ℕ) → Over (length names) a → Over (length names) b → Stops l r → Stops l s → spelling names a r ≡ spelling names b s → Same a b r s
  unique (constant true) (constant true) r s oa ob sa sb e = (refl, cc)
  unique (constant false) (constant false) r s oa ob sa sb e = (refl, cc)
  unique (constant true) (constant false) r s oa ob sa sb e = absurd (let h = head_same e in omega arith)
  unique (constant false) (constant true) r s oa ob sa sb e = absurd (let h = head_same e in omega arith)
  unique (constant true) (variable k) r s oa ob sa sb e = absurd (let h = head_same e in let p = d.lowercase k ob in omega arith)
  unique (constant false) (variable k) r s oa ob sa sb e = absurd (let h = head_same e in let p = d.lowercase k ob in omega arith)
  unique (constant true) (negation g) r s oa ob sa sb e = absurd (let h = head_same e in omega arith)
  unique (constant false) (negation g) r s oa ob sa sb e = absurd (let h = head_same e in omega arith)
  unique (constant true) (bracket g) r s oa ob sa sb e = absurd (let h = head_same e in omega arith)
  unique (constant false) (bracket g) r s oa ob sa sb e = absurd (let h = head_same e in omega arith)
  unique (variable k) (constant true) r s oa ob sa sb e = absurd (let h = head_same e in let p = d.lowercase k oa in omega arith)
  unique (variable k) (constant false) r s oa ob sa sb e = absurd (let h = head_same e in let p = d.lowercase k oa in omega arith)
  unique (variable k) (variable j) r s oa ob sa sb e = (ap {B = Tree factors} variable (same_letter names d k j oa ob (head_same e)), cc)
  unique (variable k) (negation g) r s oa ob sa sb e = absurd (let h = head_same e in let p = d.lowercase k oa in omega arith)
  unique (variable k) (bracket g) r s oa ob sa sb e = absurd (let h = head_same e in let p = d.lowercase k oa in omega arith)
  unique (negation f) (constant true) r s oa ob sa sb e = absurd (let h = head_same e in omega arith)
  unique (negation f) (constant false) r s oa ob sa sb e = absurd (let h = head_same e in omega arith)
  unique (negation f) (variable k) r s oa ob sa sb e = absurd (let h = head_same e in let p = d.lowercase k ob in omega arith)
  unique (negation f) (negation g) r s oa ob sa sb e = let h = unique f g r s oa ob tt tt (tail_same e) in (ap {B = Tree factors} negation h.0, h.1)
  unique (negation f) (bracket g) r s oa ob sa sb e = absurd (let h = head_same e in omega arith)
  unique (bracket f) (constant true) r s oa ob sa sb e = absurd (let h = head_same e in omega arith)
  unique (bracket f) (constant false) r s oa ob sa sb e = absurd (let h = head_same e in omega arith)
  unique (bracket f) (variable k) r s oa ob sa sb e = absurd (let h = head_same e in let p = d.lowercase k ob in omega arith)
  unique (bracket f) (negation g) r s oa ob sa sb e = absurd (let h = head_same e in omega arith)
  unique (bracket f) (bracket g) r s oa ob sa sb e =
      let h = unique f g (41 ∷ r) (41 ∷ s) oa ob (omega arith) (omega arith) (tail_same e) in
      (ap {B = Tree factors} bracket h.0, tail_same h.1)
  unique (factor_alone f) (factor_alone g) r s oa ob sa sb e = let h = unique f g r s oa ob tt tt e in (ap {B = Tree terms} factor_alone h.0, h.1)
  unique (factor_alone f) (conjunction g u) r s oa ob sa sb e =
      absurd (let h = unique f g r (38 ∷ spelling names u s) oa ob.0 tt tt e in sa (ap front h.1))
  unique (conjunction f t) (factor_alone g) r s oa ob sa sb e =
      absurd (let h = unique f g (38 ∷ spelling names t r) s oa.0 ob tt tt e in sb (ap front (sym h.1)))
  unique (conjunction f t) (conjunction g u) r s oa ob sa sb e =
      let h = unique f g (38 ∷ spelling names t r) (38 ∷ spelling names u s) oa.0 ob.0 tt tt e in
      let k = unique t u r s oa.1 ob.1 sa sb (tail_same h.1) in
      (λ i. conjunction (h.0 i) (k.0 i), k.1)
  unique (term_alone f) (term_alone g) r s oa ob sa sb e = let h = unique f g r s oa ob sa.0 sb.0 e in (ap {B = Tree conditions} term_alone h.0, h.1)
  unique (term_alone f) (disjunction g u) r s oa ob sa sb e =
      absurd (let h = unique f g r (124 ∷ spelling names u s) oa ob.0 sa.0 (omega arith) e in sa.1 (ap front h.1))
  unique (disjunction f t) (term_alone g) r s oa ob sa sb e =
      absurd (let h = unique f g (124 ∷ spelling names t r) s oa.0 ob (omega arith) sb.0 e in sb.1 (ap front (sym h.1)))
  unique (disjunction f t) (disjunction g u) r s oa ob sa sb e =
      let h = unique f g (124 ∷ spelling names t r) (124 ∷ spelling names u s) oa.0 ob.0 (omega arith) (omega arith) e in
      let k = unique t u r s oa.1 ob.1 sa sb (tail_same h.1) in
      (λ i. disjunction (h.0 i) (k.0 i), k.1)
