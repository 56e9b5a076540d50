use Rattle.std.proofs.Common.{◌&&◌, ltb, ap, inl, inr, arith}
use Rattle.std.proofs.lemmas.List.{get_or-replicate}
use Rattle.std.proofs.lemmas.Bool.{cases_lt}
use Rattle.std.proofs.lemmas.Bool.Decides.{nat_tests}
use Rattle.sets.specs.Members.{member}
use Rattle.sets.specs.declared.events.Events.{Events}
use Rattle.sets.proofs.relation.Relation.alike.Goals as goal

pub returns : goal.returns
returns c e f =
    elim (cases_lt f 32) [
      | inl h ↦ ap (λ (s : Events). ltb f 32 && member s e) (get_or-replicate 32 f c.args.row (record { word = 0 }) h)
      | inr h ↦ grind (arith, nat_tests)
    ]
