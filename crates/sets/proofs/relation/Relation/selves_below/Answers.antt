use Rattle.std.proofs.Common.{◌&&◌, nat_lt, arith, rules, tests}
use Rattle.std.proofs.lemmas.Bool.Decides.{nat_tests}
use Rattle.sets.specs.Rows.{related}
use Rattle.sets.proofs.Membership.{member_below}
use Rattle.sets.proofs.relation.Relation.selves_below.Goals as goal

pub returns : goal.returns
returns c =
    member_below c.from_fn_below.result c.args.end (λ e. nat_lt e c.args.end && related c.args.self.now e e)
    (λ e l h. let f = c.from_fn_below.ensures.tested e l h in search (rules, tests)) c.from_fn_below.ensures.others (λ e t. grind (arith, nat_tests))
