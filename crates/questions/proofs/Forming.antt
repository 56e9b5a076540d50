-- What the least opcode with a cycle, or that there is none, says of the chains. Assumes nothing.
use Rattle.std.proofs.Common.{◌≡◌, ℕ, ◌^◌, ◌<◌, ◌≤◌, true, Some, None, Ok, Err, Option, Result, refl, subst, arith, pow_mono}
use Rattle.std.specs.Option.{option_map_or}
use Rattle.sets.specs.Chains.{Acyclic}
use Rattle.sets.specs.Counting.{Least}
use Rattle.cpog.specs.Graphs.{Conditions, Lawful, counted, order_at}
use Rattle.cpog.specs.Projections.{on_cycle}
use Rattle.cpog.proofs.Ordered.{none_on_cycle, some_on_cycle}
use Rattle.questions.specs.Formed.{cyclic, formed_at, formed, Formed}
use Rattle.questions.proofs.Firsts.{Firsts, firsts_is}

-- every allowed opcode is below 256
pub allow_small : (g : Conditions) → Lawful g → (o : ℕ) → g.allow o ≡ true → o < 256
allow_small g L o t = let p : 2 ^ g.variables ≤ 2 ^ 8 = pow_mono L.few_variables in omega (arith, L.allow_inside o t, p)

module _ (g : Conditions) (L : Lawful g) where
  -- an allowed opcode that is Ok has no cycle
  ok_acyclic : (o : ℕ) → formed_at g o ≡ Ok tt → g.allow o ≡ true → Acyclic (counted g o)
  ok_acyclic o is t = go (on_cycle (order_at g o)) refl
    where
      go : (r : Option ℕ) → on_cycle (order_at g o) ≡ r → Acyclic (counted g o)
      go None none = none_on_cycle g o L none
      go (Some e) some = absurd (grind arith)

  -- the least opcode with a cycle
  at_err : (o p : ℕ) → formed_at g o ≡ Err p → ((q : ℕ) → q < o → g.allow q ≡ true → Acyclic (counted g q)) → Formed g (Err p)
  at_err o p is below = go (on_cycle (order_at g o)) refl
    where
      go : (r : Option ℕ) → on_cycle (order_at g o) ≡ r → Formed g (Err p)
      go None none = absurd (grind arith)
      go (Some e) some = let same : o ≡ p = grind arith in subst (λ (q : ℕ). Formed g (Err q)) same (grind arith, some_on_cycle g o e L some, below)

  pub firsts_formed : (r : Result (Unit {0}) ℕ) → Firsts (formed_at g) r → Formed g r
  firsts_formed (Ok done) all = λ o t. ok_acyclic o (all o (allow_small g L o t)) t
  firsts_formed (Err p) first = at_err first.0 p first.1.1 (λ q h t. ok_acyclic q (first.1.2 q h) t)

  -- so the answer means what it says, and so does the least opcode that is cyclic
  pub formed_means : Formed g (formed g)
  formed_means = firsts_formed (formed g) (firsts_is (formed_at g))

  pub least_formed : (r : Option ℕ) → Least (cyclic g) 256 r → Formed g (option_map_or Err r (Ok tt))
  least_formed None none = λ o t. let c = none o (allow_small g L o t) in ok_acyclic o (grind arith) t
  least_formed (Some o) found = at_err o o (let c = found.1 in grind arith) (λ q h t. let c = found.2 q h in ok_acyclic q (grind arith) t)
