-- What each step of the parser shows. Assumes nothing.
use Rattle.std.proofs.Common.{◌≡◌, ◌≢◌, ℕ, ◌+◌, ◌-◌, ◌<◌, ◌≤◌, max, true, false, List, ◌∷◌, length, get_or, drop, sym, refl, ap, ◌∙◌, subst, ⊎_elim, Ok, Err, Result, add-zero, arith, length-drop}
use Rattle.std.proofs.lemmas.List.{get_or-drop, get_or_past, drop_more}
use Rattle.std.proofs.str.Laws.{order}
use Rattle.cpog.specs.declared.refusal.Refusal.{Refusal}
use Rattle.conditions.specs.declared.nodes.Node.{Node}
use Rattle.conditions.specs.declared.nodes.Node.TheVariants.{Constant, Variable, Not, And, Or}
use Rattle.conditions.specs.declared.source.Read.{Read}
use Rattle.conditions.specs.Grammar.{Level, conditions, terms, factors, Tree, constant, variable, negation, bracket, factor_alone, conjunction, term_alone, disjunction, spelling, Over, depth, size, value}
use Rattle.conditions.proofs.Naming.{Names}
use Rattle.conditions.specs.Nodes as stored
use Rattle.conditions.specs.Nodes.{At, Means, Grows}
use Rattle.conditions.specs.Reading.{Covers, Asked, IsAtom, IsNoAtom, closed_by, Parsed, Outside, Failing, Closed, Reading}
use Rattle.conditions.proofs.Meaning.{means_grown, grows_last, last_long, at_last}
use Rattle.conditions.proofs.Trees.{size_long, size_some, deep_long, unique, front, head_same, tail_same}

-- The text at a place

-- a byte that is not 0 stands within the text
pub inside : (text : List ℕ) (i c : ℕ) → get_or text i 0 ≡ c → 0 < c → i < length text
inside text i c e p = ⊎_elim (λ h. h) (λ h. absurd (omega (arith, get_or_past text i 0 h))) (order i (length text))

pub front_drop : (text : List ℕ) (i : ℕ) → get_or (drop i text) 0 0 ≡ get_or text i 0
front_drop text i = get_or-drop i text 0 0 ∙ ap (λ (k : ℕ). get_or text k 0) (add-zero i)

-- the rest of the text begins with its first byte
pub opens : (text : List ℕ) (i c : ℕ) → get_or text i 0 ≡ c → i < length text → drop i text ≡ c ∷ drop (i + 1) text
opens text i c e h = drop_more text i 0 h ∙ ap (λ (x : ℕ). x ∷ drop (i + 1) text) e

-- What was read

module _ {l : Level} {names text : List ℕ} {at : ℕ} {old new : List Node} {r : Read} (p : Parsed l names text at old new r) where
  -- a part takes at least a byte for each of its nodes
  pub used : size p.tree + (length text - r.next) ≤ length text - at
  used = omega (arith, size_long names p.tree (drop r.next text), ap length p.spelled, length-drop at text, length-drop r.next text)

  -- and at least one
  pub further : at < r.next
  further = omega (arith, used, size_some p.tree, p.within)

  -- and one more than it is deep
  pub shallow : r.depth < length text
  shallow = omega (arith, deep_long names p.tree (drop r.next text), ap length p.spelled, length-drop at text, p.deep)

  -- the call after one more byte
  pub asked_next : (c : ℕ) → 0 < c → get_or text r.next 0 ≡ c → Asked text at old → Asked text (r.next + 1) new
  asked_next c pos e a =
      let i = inside text r.next c e pos in
      record { within = omega arith; room = omega (arith, used, p.sized, a.room, a.within) }

  -- the same of a part with the same place, end and depth
  pub moved : {s : Read} → s.root ≡ r.root → s.next ≡ r.next → s.depth ≡ r.depth → Parsed l names text at old new s
  moved {s} e f g =
      let same : r ≡ s = λ i. record { root = sym e i; next = sym f i; depth = sym g i } in
      subst (λ (x : Read). Parsed l names text at old new x) same p

-- A fault

-- what is outside one level is outside another
pub faulty : {l m : Level} {names front behind : List ℕ} {e : Refusal} → (Outside m names behind → Outside l names front) → Failing m names behind e → Failing l names front e
faulty f o = record { refusal = o.refusal; outside = f o.outside }

-- Terms

module _ {names text : List ℕ} {at : ℕ} {old mid : List Node} {left : Read} where
  -- a factor that no & follows is a term
  pub term_one : Parsed factors names text at old mid left → (get_or text left.next 0 ≡ 38 → ⊥) → Parsed terms names text at old mid left
  term_one p n = record {
    tree = factor_alone p.tree;
    over = p.over;
    spelled = p.spelled;
    stops = λ e. n (sym (front_drop text left.next) ∙ e);
    within = p.within;
    deep = p.deep;
    sized = p.sized;
    stored = p.stored;
    means = p.means;
  }

  -- a term that no | follows is a condition
  pub condition_one : Parsed terms names text at old mid left → (get_or text left.next 0 ≡ 124 → ⊥) → Parsed conditions names text at old mid left
  condition_one p n = record {
    tree = term_alone p.tree;
    over = p.over;
    spelled = p.spelled;
    stops = (p.stops, λ e. n (sym (front_drop text left.next) ∙ e));
    within = p.within;
    deep = p.deep;
    sized = p.sized;
    stored = p.stored;
    means = p.means;
  }

module _ {names text : List ℕ} {at : ℕ} {old mid most new : List Node} {left right r : Read} where
  -- a factor, &, a term
  pub term_more : (p : Parsed factors names text at old mid left) → get_or text left.next 0 ≡ 38 → Parsed terms names text (left.next + 1) mid most right → Grows mid most → Covers most new (And left.root right.root) right.next (max left.depth right.depth) r → Parsed terms names text at old new r
  term_more p e q g s =
      let whole : Parsed terms names text at old new (record { root = r.root; next = right.next; depth = max left.depth right.depth }) = record {
        tree = conjunction p.tree q.tree;
        over = (p.over, q.over);
        spelled = p.spelled ∙ ap (spelling names p.tree) (opens text left.next 38 e (inside text left.next 38 e (omega arith)) ∙ ap (λ (x : List ℕ). 38 ∷ x) q.spelled);
        stops = q.stops;
        within = q.within;
        deep = λ i. max (p.deep i) (q.deep i);
        sized = omega (arith, p.sized, q.sized, last_long s.last);
        stored = (at_last s.last).within;
        means = λ op. stored.conjunction (at_last s.last) (means_grown (grows_last s.last) (means_grown g (p.means op))) (means_grown (grows_last s.last) (q.means op));
      } in
      moved whole refl s.passed s.deep

  -- a term, |, a condition
  pub condition_more : (p : Parsed terms names text at old mid left) → get_or text left.next 0 ≡ 124 → Parsed conditions names text (left.next + 1) mid most right → Grows mid most → Covers most new (Or left.root right.root) right.next (max left.depth right.depth) r → Parsed conditions names text at old new r
  condition_more p e q g s =
      let whole : Parsed conditions names text at old new (record { root = r.root; next = right.next; depth = max left.depth right.depth }) = record {
        tree = disjunction p.tree q.tree;
        over = (p.over, q.over);
        spelled = p.spelled ∙ ap (spelling names p.tree) (opens text left.next 124 e (inside text left.next 124 e (omega arith)) ∙ ap (λ (x : List ℕ). 124 ∷ x) q.spelled);
        stops = q.stops;
        within = q.within;
        deep = λ i. max (p.deep i) (q.deep i);
        sized = omega (arith, p.sized, q.sized, last_long s.last);
        stored = (at_last s.last).within;
        means = λ op. stored.disjunction (at_last s.last) (means_grown (grows_last s.last) (means_grown g (p.means op))) (means_grown (grows_last s.last) (q.means op));
      } in
      moved whole refl s.passed s.deep

-- where no factor stands, no term does
pub term_none : (names front : List ℕ) → Outside factors names front → Outside terms names front
term_none names front o (factor_alone f) rest over stops e = o f rest over tt e
term_none names front o (conjunction f t) rest over stops e = o f (38 ∷ spelling names t rest) over.0 tt e

-- where no term stands, no condition does
pub condition_none : (names front : List ℕ) → Outside terms names front → Outside conditions names front
condition_none names front o (term_alone t) rest over stops e = o t rest over stops.0 e
condition_none names front o (disjunction t c) rest over stops e = o t (124 ∷ spelling names c rest) over.0 (omega arith) e

-- after a factor and &, a term must stand
pub term_cut : (names : List ℕ) (d : Names names) (text behind : List ℕ) (f : Tree factors) → Over (length names) f → text ≡ spelling names f (38 ∷ behind) → Outside terms names behind → Outside terms names text
term_cut names d text behind f of s o (factor_alone g) rest over stops e =
    let u = unique names d f g (38 ∷ behind) rest of over tt tt (sym s ∙ e) in
    stops (ap front (sym u.1))
term_cut names d text behind f of s o (conjunction g t) rest over stops e =
    let u = unique names d f g (38 ∷ behind) (38 ∷ spelling names t rest) of over.0 tt tt (sym s ∙ e) in
    o t rest over.1 stops (tail_same u.1)

-- after a term and |, a condition must stand
pub condition_cut : (names : List ℕ) (d : Names names) (text behind : List ℕ) (f : Tree terms) → Over (length names) f → text ≡ spelling names f (124 ∷ behind) → Outside conditions names behind → Outside conditions names text
condition_cut names d text behind f of s o (term_alone g) rest over stops e =
    let u = unique names d f g (124 ∷ behind) rest of over (omega arith) stops.0 (sym s ∙ e) in
    stops.1 (ap front (sym u.1))
condition_cut names d text behind f of s o (disjunction g t) rest over stops e =
    let u = unique names d f g (124 ∷ behind) (124 ∷ spelling names t rest) of over.0 (omega arith) (omega arith) (sym s ∙ e) in
    o t rest over.1 stops (tail_same u.1)

module _ {names text : List ℕ} {at : ℕ} {old mid : List Node} {left : Read} (d : Names names) where
  -- the same at a place of the text
  pub term_stopped : (p : Parsed factors names text at old mid left) → get_or text left.next 0 ≡ 38 → Outside terms names (drop (left.next + 1) text) → Outside terms names (drop at text)
  term_stopped p e o =
      term_cut names d (drop at text) (drop (left.next + 1) text) p.tree p.over
      (p.spelled ∙ ap (spelling names p.tree) (opens text left.next 38 e (inside text left.next 38 e (omega arith))))
      o

  -- the same at a place of the text
  pub condition_stopped : (p : Parsed terms names text at old mid left) → get_or text left.next 0 ≡ 124 → Outside conditions names (drop (left.next + 1) text) → Outside conditions names (drop at text)
  condition_stopped p e o =
      condition_cut names d (drop at text) (drop (left.next + 1) text) p.tree p.over
      (p.spelled ∙ ap (spelling names p.tree) (opens text left.next 124 e (inside text left.next 124 e (omega arith))))
      o

-- Factors

-- nothing stands at the end of the text
pub factor_end : (names text : List ℕ) (at : ℕ) → length text ≤ at → Outside factors names (drop at text)
factor_end names text at h tree rest over stops e = omega (arith, size_long names tree rest, size_some tree, ap length e, length-drop at text)

-- by its first byte
factor_by : (names : List ℕ) (c : ℕ) (behind : List ℕ)
    → (c ≡ 48 → ⊥)
    → (c ≡ 49 → ⊥)
    → ((k : ℕ) → k < length names → get_or names k 0 ≡ c → ⊥)
    → ((f : Tree factors) (rest : List ℕ) → c ≡ 33 → Over (length names) f → behind ≡ spelling names f rest → ⊥)
    → ((g : Tree conditions) (rest : List ℕ) → c ≡ 40 → Over (length names) g → behind ≡ spelling names g (41 ∷ rest) → ⊥)
    → Outside factors names (c ∷ behind)
factor_by names c behind zero_no one_no letter_no not_no bracket_no (constant true) rest over stops e = one_no (head_same e)
factor_by names c behind zero_no one_no letter_no not_no bracket_no (constant false) rest over stops e = zero_no (head_same e)
factor_by names c behind zero_no one_no letter_no not_no bracket_no (variable k) rest over stops e = letter_no k over (sym (head_same e))
factor_by names c behind zero_no one_no letter_no not_no bracket_no (negation f) rest over stops e = not_no f rest (head_same e) over (tail_same e)
factor_by names c behind zero_no one_no letter_no not_no bracket_no (bracket g) rest over stops e = bracket_no g rest (head_same e) over (tail_same e)

module _ {names : List ℕ} (text : List ℕ) (at : ℕ) (d : Names names) (i : at < length text) where
  -- what the first byte rules out, at its place in the text
  after : (c : ℕ) → get_or text at 0 ≡ c → Outside factors names (c ∷ drop (at + 1) text) → Outside factors names (drop at text)
  after c e o = subst (λ (x : List ℕ). Outside factors names x) (sym (opens text at c e i)) o

  -- after ! a factor must stand
  pub not_none : get_or text at 0 ≡ 33 → Outside factors names (drop (at + 1) text) → Outside factors names (drop at text)
  not_none e o =
      after 33 e (factor_by names 33 (drop (at + 1) text)
      (omega arith) (omega arith) (λ k lt h. omega (arith, d.lowercase k lt))
      (λ f rest h over s. o f rest over tt s)
      (λ g rest h over s. omega arith))

  -- after ( a condition must stand
  pub bracket_none : get_or text at 0 ≡ 40 → Outside conditions names (drop (at + 1) text) → Outside factors names (drop at text)
  bracket_none e o =
      after 40 e (factor_by names 40 (drop (at + 1) text)
      (omega arith) (omega arith) (λ k lt h. omega (arith, d.lowercase k lt))
      (λ f rest h over s. omega arith)
      (λ g rest h over s. o g (41 ∷ rest) over (omega arith) s))

  -- and after it )
  bracket_open : {old mid : List Node} {inner : Read} → get_or text at 0 ≡ 40 → Parsed conditions names text (at + 1) old mid inner → (get_or text inner.next 0 ≡ 41 → ⊥) → Outside factors names (drop at text)
  bracket_open {inner = inner} e p n =
      after 40 e (factor_by names 40 (drop (at + 1) text)
      (omega arith) (omega arith) (λ k lt h. omega (arith, d.lowercase k lt))
      (λ f rest h over s. omega arith)
      (λ g rest h over s.
      let u = unique names d p.tree g (drop inner.next text) (41 ∷ rest) p.over over p.stops (omega arith) (sym p.spelled ∙ s) in
      n (sym (front_drop text inner.next) ∙ ap front u.1)))

  -- another byte begins no factor
  pub letter_none : (c : ℕ) → get_or text at 0 ≡ c → c ≢ 33 → c ≢ 40 → IsNoAtom names c → Outside factors names (drop at text)
  letter_none c e not_no bracket_no h =
      after c e (factor_by names c (drop (at + 1) text) h.no_zero h.no_one h.no_letter
      (λ f rest k over s. not_no k)
      (λ g rest k over s. bracket_no k))

  -- a tree of one node and one byte
  leaf_reads : {old new : List Node} {node : Node} {r : Read} (tree : Tree factors) → Covers old new node (at + 1) 0 r → Over (length names) tree → drop at text ≡ spelling names tree (drop (at + 1) text) → depth tree ≡ 0 → size tree ≡ 1 → ((ns : List Node) (op p : ℕ) → At ns p node → Means ns op p (value tree op)) → Parsed factors names text at old new r
  leaf_reads {r = r} tree h over s flat one means = record {
    tree = tree;
    over = over;
    spelled = subst (λ (k : ℕ). drop at text ≡ spelling names tree (drop k text)) (sym h.passed) s;
    stops = tt;
    within = omega (arith, h.passed);
    deep = h.deep ∙ sym flat;
    sized = omega (arith, last_long h.last, one);
    stored = (at_last h.last).within;
    means = λ op. means _ op r.root (at_last h.last);
  }

  -- a constant or a letter
  pub atom_reads : {old new : List Node} {r : Read} (node : Node) → IsAtom names (get_or text at 0) node → Covers old new node (at + 1) 0 r → Parsed factors names text at old new r
  atom_reads (Constant true) e h = leaf_reads (constant true) h tt (opens text at 49 e i) refl refl (λ ns op p at. stored.constant at)
  atom_reads (Constant false) e h = leaf_reads (constant false) h tt (opens text at 48 e i) refl refl (λ ns op p at. stored.constant at)
  atom_reads (Variable k) e h = leaf_reads (variable k) h e.0 (opens text at (get_or names k 0) (sym e.1) i) refl refl (λ ns op p at. stored.variable at)
  atom_reads (Not a) e h = absurd e
  atom_reads (And a b) e h = absurd e
  atom_reads (Or a b) e h = absurd e

  -- !, a factor
  pub not_more : {old mid new : List Node} {inner r : Read} → get_or text at 0 ≡ 33 → Parsed factors names text (at + 1) old mid inner → Covers mid new (Not inner.root) inner.next (inner.depth + 1) r → Parsed factors names text at old new r
  not_more {old = old} {new = new} {inner = inner} {r = r} e p s =
      let whole : Parsed factors names text at old new (record { root = r.root; next = inner.next; depth = inner.depth + 1 }) = record {
        tree = negation p.tree;
        over = p.over;
        spelled = opens text at 33 e i ∙ ap (λ (x : List ℕ). 33 ∷ x) p.spelled;
        stops = tt;
        within = p.within;
        deep = ap (λ (k : ℕ). k + 1) p.deep;
        sized = omega (arith, p.sized, last_long s.last);
        stored = (at_last s.last).within;
        means = λ op. stored.negation (at_last s.last) (means_grown (grows_last s.last) (p.means op));
      } in
      moved whole refl s.passed s.deep

  -- (, a condition, )
  bracket_more : {old mid : List Node} {inner r : Read} → get_or text at 0 ≡ 40 → Parsed conditions names text (at + 1) old mid inner → get_or text inner.next 0 ≡ 41 → r ≡ closed_by inner → Parsed factors names text at old mid r
  bracket_more {old = old} {mid = mid} {inner = inner} e p f same =
      let j = inside text inner.next 41 f (omega arith) in
      let whole : Parsed factors names text at old mid (closed_by inner) = record {
        tree = bracket p.tree;
        over = p.over;
        spelled = opens text at 40 e i ∙ ap (λ (x : List ℕ). 40 ∷ x) (p.spelled ∙ ap (spelling names p.tree) (opens text inner.next 41 f j));
        stops = tt;
        within = omega arith;
        deep = ap (λ (k : ℕ). k + 1) p.deep;
        sized = p.sized;
        stored = p.stored;
        means = p.means;
      } in
      subst (λ (x : Read). Parsed factors names text at old mid x) (sym same) whole

  -- either way after the condition in brackets
  pub closed : {old mid : List Node} {inner : Read} → get_or text at 0 ≡ 40 → Parsed conditions names text (at + 1) old mid inner → (r : Result Read Refusal) → Closed text inner r → Reading factors names text at old mid r
  closed e p (Ok r) h = bracket_more e p h.0 h.1
  closed e p (Err x) h = record { refusal = h.0; outside = bracket_open e p h.1 }
