use Rattle.std.proofs.Common.{◌≡◌, ℕ, Bool, sym, refl, ◌∙◌, arith}
use Rattle.std.proofs.lemmas.Bool.Decides.{nat_tests}
use Rattle.sets.specs.Chains.{closed, through}
use Rattle.sets.specs.Rows.{related}
use Rattle.sets.proofs.Warshall.{closed_more, closed_closure, closure_same}
use Rattle.sets.proofs.relation.Relation.close_below.Goals as goal

pub loop-by-init : goal.loop-by-init
unfolding closed
loop-by-init c e f = refl

pub loop-by-preserved : goal.loop-by-preserved
loop-by-preserved c e f =
    let r = related c.args.self.now in
    let k = c.loop-by.by in
    let s = c.loop-by.invariant in
    c.pass.ensures e f ∙ through_same (related c.loop-by.self) (closed r k) s k e f ∙ sym (closed_more r k e f)
  where
    through_same : (r s : ℕ → ℕ → Bool) → ((e f : ℕ) → r e f ≡ s e f) → (k e f : ℕ) → through r k e f ≡ through s k e f
    through_same r s same k e f = let a = same e f in let b = same e k in let d = same k f in cc

pub returns-clause-chains : goal.returns-clause-chains
returns-clause-chains c h =
    let r = related c.args.self.now in
    closure_same r (closed r c.loop-by.by) (related c.loop-by.self) (λ e f. sym (c.loop-by.invariant e f)) (closed_closure r c.loop-by.by (λ e f t. grind (arith, nat_tests)))
