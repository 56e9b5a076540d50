-- What nodes mean does not change as nodes are added. Assumes nothing.
use Rattle.std.proofs.Common.{◌≡◌, ℕ, zero, suc, ◌+◌, ◌<◌, Bool, true, false, not, ◌&&◌, ◌||◌, ltb, List, [], ◌∷◌, ◌++◌, length, get_or, sym, refl, ap, ◌∙◌, subst, arith, length-append}
use Rattle.std.proofs.lemmas.Bool.{and_parts, ltb-true}
use Rattle.std.proofs.lemmas.List.{get_or_append_left, get_or_at}
use Rattle.conditions.specs.declared.nodes.Node.{Node}
use Rattle.conditions.specs.declared.nodes.Node.TheVariants.{Constant, Variable, Not, And, Or}
use Rattle.sets.specs.Counting.{bit}
use Rattle.conditions.specs.Nodes.{At, Means, constant, variable, negation, conjunction, disjunction, is_below, Ordered, Grows, Last}

-- every node has a value
node_some : {ns : List Node} {op p : ℕ} → p < length ns → ((q : ℕ) → q < p → (x : Bool) × Means ns op q x) → (m : Node) → get_or ns p (Constant false) ≡ m → is_below p m ≡ true → (x : Bool) × Means ns op p x
node_some i lower (Constant b) e t = (b, constant (record { within = i; is = e }))
node_some {op = op} i lower (Variable k) e t = (bit op k, variable (record { within = i; is = e }))
node_some i lower (Not a) e t =
    let x = lower a (ltb-true a _ t) in
    (not x.0, negation (record { within = i; is = e }) x.1)
node_some i lower (And a b) e t =
    let h = and_parts _ _ t in
    let x = lower a (ltb-true a _ h.0) in
    let y = lower b (ltb-true b _ h.1) in
    (x.0 && y.0, conjunction (record { within = i; is = e }) x.1 y.1)
node_some i lower (Or a b) e t =
    let h = and_parts _ _ t in
    let x = lower a (ltb-true a _ h.0) in
    let y = lower b (ltb-true b _ h.1) in
    (x.0 || y.0, disjunction (record { within = i; is = e }) x.1 y.1)

-- each node of an ordered list, by the bound above its place
pub means_some : (n : ℕ) (ns : List Node) (op : ℕ) → Ordered ns → (p : ℕ) → p < n → p < length ns → (x : Bool) × Means ns op p x
means_some zero ns op o p h i = absurd (omega arith)
means_some (suc n) ns op o p h i = node_some i (λ q lt. means_some n ns op o q (omega arith) (omega arith)) (get_or ns p (Constant false)) refl (o p i)

-- what the order of the nodes says of one
below_at : {ns : List Node} {p : ℕ} {n : Node} → Ordered ns → At ns p n → is_below p n ≡ true
below_at {ns} {p} o at = subst (λ (m : Node). is_below p m ≡ true) at.is (o p at.within)

-- where the first operand settles it, the second is not asked, and still has a value
pub and_settled : {ns : List Node} {op p a b : ℕ} (x : Bool) → Ordered ns → At ns p (And a b) → Means ns op a x → x ≡ false → Means ns op p x
and_settled {ns} {op} {p} {a} {b} x o at m e =
    let lt : b < p = ltb-true b p (and_parts (ltb a p) (ltb b p) (below_at o at)).1 in
    let y = means_some p ns op o b lt (omega (arith, at.within)) in
    subst (Means ns op p) (sym e) (subst (λ (z : Bool). Means ns op p (z && y.0)) e (conjunction at m y.1))

pub or_settled : {ns : List Node} {op p a b : ℕ} (x : Bool) → Ordered ns → At ns p (Or a b) → Means ns op a x → x ≡ true → Means ns op p x
or_settled {ns} {op} {p} {a} {b} x o at m e =
    let lt : b < p = ltb-true b p (and_parts (ltb a p) (ltb b p) (below_at o at)).1 in
    let y = means_some p ns op o b lt (omega (arith, at.within)) in
    subst (Means ns op p) (sym e) (subst (λ (z : Bool). Means ns op p (z || y.0)) e (disjunction at m y.1))

-- a node stays in its place as nodes are added
at_more : {ns : List Node} {p : ℕ} {n : Node} (more : List Node) → At ns p n → At (ns ++ more) p n
at_more {ns} {p} {n} more a = record {
  within = omega (arith, length-append ns more, a.within);
  is = get_or_append_left ns more (Constant false) p a.within ∙ a.is;
}

-- and means what it meant
pub means_more : {ns : List Node} {op p : ℕ} {x : Bool} (more : List Node) → Means ns op p x → Means (ns ++ more) op p x
means_more more (constant a) = constant (at_more more a)
means_more more (variable a) = variable (at_more more a)
means_more more (negation a m) = negation (at_more more a) (means_more more m)
means_more more (conjunction a m n) = conjunction (at_more more a) (means_more more m) (means_more more n)
means_more more (disjunction a m n) = disjunction (at_more more a) (means_more more m) (means_more more n)

pub means_grown : {old new : List Node} {op p : ℕ} {x : Bool} → Grows old new → Means old op p x → Means new op p x
means_grown {old} {new} {op} {p} {x} g m = subst (λ (ns : List Node). Means ns op p x) (sym g.grown) (means_more g.more m)

-- the node that was added last
pub grows_last : {old new : List Node} {n : Node} {p : ℕ} → Last old new n p → Grows old new
grows_last {old} {new} {n} l = record { more = n ∷ []; grown = l.pushed }

pub last_long : {old new : List Node} {n : Node} {p : ℕ} → Last old new n p → length new ≡ length old + 1
last_long {old} {new} {n} l = omega (arith, ap length l.pushed, length-append old (n ∷ []))

pub at_last : {old new : List Node} {n : Node} {p : ℕ} → Last old new n p → At new p n
at_last {old} {new} {n} {p} l = record {
  within = omega (arith, last_long l, l.there);
  is = ap (λ (ns : List Node). get_or ns p (Constant false)) l.pushed ∙ get_or_at old n [] (Constant false) p (sym l.there);
}

-- two values of one node are equal
pub means_once : {ns : List Node} {op p : ℕ} {x y : Bool} → Means ns op p x → Means ns op p y → x ≡ y
means_once (constant a) (constant b) = cc
means_once (constant a) (variable b) = cc
means_once (constant a) (negation b m) = cc
means_once (constant a) (conjunction b m n) = cc
means_once (constant a) (disjunction b m n) = cc
means_once (variable a) (constant b) = cc
means_once (variable a) (variable b) = cc
means_once (variable a) (negation b m) = cc
means_once (variable a) (conjunction b m n) = cc
means_once (variable a) (disjunction b m n) = cc
means_once (negation a k) (constant b) = cc
means_once (negation a k) (variable b) = cc
means_once {ns} {op} (negation {a = i} a k) (negation {a = j} {x = y} b m) =
    let e : j ≡ i = cc in
    ap not (means_once k (subst (λ (q : ℕ). Means ns op q y) e m))
means_once (negation a k) (conjunction b m n) = cc
means_once (negation a k) (disjunction b m n) = cc
means_once (conjunction a k l) (constant b) = cc
means_once (conjunction a k l) (variable b) = cc
means_once (conjunction a k l) (negation b m) = cc
means_once {ns} {op} (conjunction {a = i} {b = j} a k l) (conjunction {a = i'} {b = j'} {x = x'} {y = y'} b m n) =
    let e : i' ≡ i = cc in
    let f : j' ≡ j = cc in
    let g = means_once k (subst (λ (q : ℕ). Means ns op q x') e m) in
    let h = means_once l (subst (λ (q : ℕ). Means ns op q y') f n) in
    λ z. g z && h z
means_once (conjunction a k l) (disjunction b m n) = cc
means_once (disjunction a k l) (constant b) = cc
means_once (disjunction a k l) (variable b) = cc
means_once (disjunction a k l) (negation b m) = cc
means_once (disjunction a k l) (conjunction b m n) = cc
means_once {ns} {op} (disjunction {a = i} {b = j} a k l) (disjunction {a = i'} {b = j'} {x = x'} {y = y'} b m n) =
    let e : i' ≡ i = cc in
    let f : j' ≡ j = cc in
    let g = means_once k (subst (λ (q : ℕ). Means ns op q x') e m) in
    let h = means_once l (subst (λ (q : ℕ). Means ns op q y') f n) in
    λ z. g z || h z
