-- The order that a graph has at an opcode is made of chains. Assumes nothing.
use Rattle.std.proofs.Common.{◌≡◌, ℕ, ◌<◌, Bool, true, ◌&&◌, Some, None, Option, ap, subst, arith}
use mathlib.Core.Path.{fun_ext}
use Rattle.std.proofs.lemmas.Bool.{and_parts, both_ways}
use Rattle.sets.specs.Chains.{Acyclic, Chain, Closure, closed}
use Rattle.sets.specs.Counting.{Least}
use Rattle.sets.proofs.Leasts.{least_is}
use Rattle.sets.proofs.Warshall.{closed_closure}
use Rattle.cpog.specs.Graphs.{Conditions, Lawful, Order, Projects, counted, precedes, order_at}
use Rattle.cpog.specs.Projections.{on_cycle}

-- two orders with the same events and the same pairs are one
pub order_same : (p q : Order) → ((e : ℕ) → p.present e ≡ q.present e) → ((e f : ℕ) → p.precedes e f ≡ q.precedes e f) → p ≡ q
order_same p q P Q = λ i. record { present = λ e. P e i; precedes = λ e f. Q e f i }

-- a relation with the pairs of another has its closure
pub closed_same : (r s : ℕ → ℕ → Bool) (n : ℕ) → ((e f : ℕ) → r e f ≡ s e f) → (e f : ℕ) → closed r n e f ≡ closed s n e f
closed_same r s n same e f = ap (λ (t : ℕ → ℕ → Bool). closed t n e f) (fun_ext (λ a. fun_ext (same a)))

pub order_projects : (g : Conditions) (o : ℕ) → Lawful g → Projects g o (order_at g o)
order_projects g o L =
    let C : Closure (counted g o) (precedes g o) = closed_closure (counted g o) 32 inside in
    record { presence = λ e. λ i. g.has e o; to_chain = C.sound; from_chain = C.complete }
  where
    inside : (e f : ℕ) → counted g o e f ≡ true → f < 32
    inside e f t =
        let here = (and_parts (g.has e o) (g.has f o) (and_parts (g.has e o && g.has f o) (g.arc e f o) t).0).1 in
        omega (arith, L.few_events, (L.has_inside f o here).0)

-- a chain begins at a present event
chain_here : (g : Conditions) (o : ℕ) → Lawful g → {e f : ℕ} → Chain (counted g o) e f → e < g.events
chain_here g o L c = go c
  where
    first : (e f : ℕ) → counted g o e f ≡ true → e < g.events
    first e f t = (L.has_inside e o (and_parts (g.has e o) (g.has f o) (and_parts (g.has e o && g.has f o) (g.arc e f o) t).0).0).0

    go : {e f : ℕ} → Chain (counted g o) e f → e < g.events
    go (Chain.one {e} {f} t) = first e f t
    go (Chain.more {e} {f} {h} t c) = first e f t

-- the events of an order are below 32
pub order_inside : (g : Conditions) (o : ℕ) → Lawful g → (e : ℕ) → (order_at g o).present e ≡ true → e < 32
order_inside g o L e t = omega (arith, L.few_events, (L.has_inside e o t).0)

-- no event precedes itself exactly where there is no chain from an event to itself
pub none_on_cycle : (g : Conditions) (o : ℕ) → Lawful g → on_cycle (order_at g o) ≡ None → Acyclic (counted g o)
none_on_cycle g o L none e d =
    let P = order_projects g o L in
    let t = P.from_chain e e d in
    let law : Least (λ f. precedes g o f f) 32 None = subst (λ (r : Option ℕ). Least (λ f. precedes g o f f) 32 r) none (least_is (λ f. precedes g o f f) 32) in
    both_ways (precedes g o e e) (law e (omega (arith, L.few_events, chain_here g o L d))) t

pub some_on_cycle : (g : Conditions) (o e : ℕ) → Lawful g → on_cycle (order_at g o) ≡ Some e → Acyclic (counted g o) → ⊥
some_on_cycle g o e L some acyclic =
    let P = order_projects g o L in
    let law : Least (λ f. precedes g o f f) 32 (Some e) = subst (λ (r : Option ℕ). Least (λ f. precedes g o f f) 32 r) some (least_is (λ f. precedes g o f f) 32) in
    acyclic e (P.to_chain e e law.1)
