-- A walk of different events grows to at most 32, and where it turns back there is a cycle. Assumes nothing.
use Rattle.std.proofs.Common.{◌≡◌, ℕ, zero, suc, ◌+◌, ◌-◌, ◌<◌, ◌≤◌, Bool, true, false, ◌&&◌, List, [], ◌∷◌, ◌++◌, length, reverse, drop, sym, ◌∙◌, subst, None, add-one, arith, length-drop}
use Rattle.std.proofs.lemmas.List.{get_or_append_left, get_or_push, length_push, length-reverse, get_or-reverse, get_or-drop}
use Rattle.std.proofs.Math.Logic.{∥∥₁_elim}
use Rattle.sets.specs.Chains.{Chain, Acyclic, Closure}
use Rattle.sets.proofs.Room.{room}
use Rattle.sets.proofs.Warshall.{chain_join, chain_map}
use Rattle.searches.specs.Cycles.{IsCycle, Found, nth}
use Rattle.searches.specs.Walks.{Fed}

-- 1 to 32 different events of the set, each with a step to the one before it
pub record Walk (r : ℕ → ℕ → Bool) (set : ℕ → Bool) (es : List ℕ) : Type 0 where
  pub some : 0 < length es
  pub few : length es ≤ 32
  pub inside : (k : ℕ) → k < length es → set (nth es k) ≡ true
  pub steps : (k : ℕ) → k + 1 < length es → r (nth es (k + 1)) (nth es k) ≡ true
  pub different : (j k : ℕ) → j < k → k < length es → nth es j ≡ nth es k → ⊥

-- one event of the set
pub walk_start : (r : ℕ → ℕ → Bool) (set : ℕ → Bool) (y : ℕ) → set y ≡ true → Walk r set (y ∷ [])
walk_start r set y t = record {
  some = omega arith;
  few = omega arith;
  inside = λ k l. grind arith;
  steps = λ k l. absurd (omega arith);
  different = λ j k l m. absurd (omega arith);
}

-- a walk whose last event is x
module _ {r : ℕ → ℕ → Bool} {set : ℕ → Bool} (es ws : List ℕ) (x : ℕ) (start : Walk r set (es ++ x ∷ [])) (same : ws ≡ es ++ x ∷ []) where
  W : Walk r set ws
  W = rw same start

  ends : (k : ℕ) → k + 1 ≡ length ws → nth ws k ≡ x
  ends k l = grind (arith, get_or_push, length_push)

  pub walk_last : set x ≡ true
  walk_last = grind (arith, ends, length_push es x, W)

  -- one more event of the set with a step to the last, where it is not in the walk
  pub walk_more : ((e : ℕ) → set e ≡ true → e < 32) → (y : ℕ) → set y ≡ true → r y x ≡ true → ((k : ℕ) → k < length ws → nth ws k ≡ y → ⊥) → Walk r set (ws ++ y ∷ [])
  walk_more small y t s new = record {
    some = omega (arith, long);
    few = omega (arith, free, long);
    inside = λ k l. grind (arith, get_or_push, get_or_append_left, long, W);
    steps = λ k l. grind (arith, get_or_push, get_or_append_left, ends, long, W);
    different = λ j k l m e. grind (arith, get_or_push, get_or_append_left, long, W, new);
  }
    where
      n : ℕ
      n = length ws

      long : length (ws ++ y ∷ []) ≡ n + 1
      long = length_push ws y

      free : n < 32
      free = room (nth ws) n 32 y (λ k l. small (nth ws k) (W.inside k l)) W.different (small y t) new

  -- also where none of the walk has a step to the last
  pub walk_next : ((e : ℕ) → set e ≡ true → e < 32) → (y : ℕ) → set y ≡ true → r y x ≡ true → ((k : ℕ) → k < length ws → r (nth ws k) x ≡ false) → Walk r set (ws ++ y ∷ [])
  walk_next small y t s none = walk_more small y t s (λ k l q. grind (arith, none))

  -- the walk from its turn on, read the other way, is a cycle
  pub turn_cycle : (from : ℕ) → from < length ws → r (nth ws from) x ≡ true → IsCycle r (reverse (drop from ws))
  turn_cycle from inside closes = record {
    some = omega (arith, long);
    steps = λ k l. grind (arith, at, long, W);
    closes = grind (arith, at, long, ends);
    different = λ j k l m e. grind (arith, at, long, W);
  }
    where
      last : ℕ
      last = length ws - 1

      turned : List ℕ
      turned = reverse (drop from ws)

      long : length turned ≡ length ws - from
      long = simp (length-reverse, length-drop)

      at : (k : ℕ) → k < length turned → nth turned k ≡ nth ws (last - k)
      at k l = grind (arith, get_or-reverse, get_or-drop, length-reverse (drop from ws), length-drop from ws)

-- a cycle of one relation is one of another that has its steps
pub cycle_map : (r s : ℕ → ℕ → Bool) (es : List ℕ) → ((e f : ℕ) → r e f ≡ true → s e f ≡ true) → IsCycle r es → IsCycle s es
cycle_map r s es F C = record {
  some = C.some;
  steps = λ k l. F (nth es k) (nth es (k + 1)) (C.steps k l);
  closes = F (nth es (length es - 1)) (nth es 0) C.closes;
  different = C.different;
}

-- a cycle is a chain from its first event to itself
pub cycle_chain : (r : ℕ → ℕ → Bool) (es : List ℕ) → IsCycle r es → Chain r (nth es 0) (nth es 0)
cycle_chain r es C = reach (length es - 1) (omega (arith, C.some)) (nth es 0) C.closes
  where
    reach : (k : ℕ) → k < length es → (x : ℕ) → r (nth es k) x ≡ true → Chain r (nth es 0) x
    reach zero h x s = Chain.one s
    reach (suc k) h x s =
        chain_join (reach k (omega arith) (nth es (suc k)) (subst (λ (i : ℕ). r (nth es k) (nth es i) ≡ true) (add-one k) (C.steps k (omega arith)))) (Chain.one s)

-- an event on a closed chain has a step from another such
pub chain_fed : {r : ℕ → ℕ → Bool} {e : ℕ} → Chain r e e → (f : ℕ) × ((Chain r f f) × (r f e ≡ true))
chain_fed {r} {e} c = let l = last c in (l.0, (l.2 (Chain.one l.1), l.1))
  where
    last : {a h : ℕ} → Chain r a h → (f : ℕ) × (r f h ≡ true) × (Chain r f a → Chain r f f)
    last (Chain.one {e} {f} s) = (e, s, λ d. d)
    last (Chain.more {e} {f} {h} s d) = let l = last d in (l.0, l.1, λ b. l.2 (chain_join b (Chain.one s)))

-- so not every event is without a step to it
pub fed_some : (r : ℕ → ℕ → Bool) (set : ℕ → Bool) → Fed r set → (e : ℕ) → set e ≡ true → ((f : ℕ) → (r f e && set f) ≡ false) → ⊥
fed_some r set fed e t none = ∥∥₁_elim (fed e t) (λ x y. absurd x) (λ f. let n = none f.0 in let s = f.1.0 in let step = f.1.1 in grind arith)

-- the events that precede themselves: s is the relation of the chains of r
module _ (r s : ℕ → ℕ → Bool) (set : ℕ → Bool) (chains : Closure r s) (selves : (e : ℕ) → set e ≡ s e e) where
  pub selves_fed : Fed r set
  selves_fed e t = let fed = chain_fed (chains.sound e e (sym (selves e) ∙ t)) in ∣ (fed.0, (selves fed.0 ∙ chains.complete fed.0 fed.0 fed.1.0, fed.1.1)) ∣₁

  -- also where r is given by another function
  pub selves_none : ((e : ℕ) → set e ≡ false) → (steps : ℕ → ℕ → Bool) → ((e f : ℕ) → r e f ≡ steps e f) → Found steps None
  selves_none none steps same = (acyclic, λ es C. acyclic (nth es 0) (cycle_chain steps es C))
    where
      acyclic : Acyclic steps
      acyclic e d = let c = chain_map (λ a b t. same a b ∙ t) d in grind (arith, chains.complete e e c)
