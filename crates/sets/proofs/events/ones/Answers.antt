use Rattle.std.proofs.Common.{Bool, ◌&&◌, ltb, sym, ap, ◌∙◌, arith}
use Rattle.std.proofs.lemmas.Bool.{lt-ltb}
use Rattle.sets.specs.Counting.{bit}
use Rattle.sets.proofs.Tallies.{ones-tally, tally_below}
use Rattle.sets.proofs.events.ones.Goals as goal

pub returns : goal.returns
returns c =
    let w = c.args.word in
    ones-tally 32 w (omega arith) ∙ tally_below (bit w) (λ k. ltb k 32 && bit w k) 32 (λ k h. sym (ap (λ (b : Bool). b && bit w k) (lt-ltb k 32 h)))
