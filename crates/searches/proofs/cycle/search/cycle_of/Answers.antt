use Rattle.sets.specs.Members.{member}
use Rattle.sets.specs.Rows.{related}
use Rattle.sets.proofs.Membership.{member_none}
use Rattle.searches.proofs.Walking.{selves_fed, selves_none}
use Rattle.searches.proofs.cycle.search.cycle_of.Goals as goal

pub returns-in_err-start : goal.returns-in_err-start
returns-in_err-start c =
    rw c.from_residual.ensures (selves_none (related c.args.arcs.now) (related c.close.new.self) (member c.selves-around.result) c.close.ensures.chains c.selves-around.ensures (member_none c.selves-around.result c.in_err-start.ensures.least))

pub invariant_of-walker-clause-fed : goal.invariant_of-walker-clause-fed
invariant_of-walker-clause-fed c = selves_fed (related c.args.arcs.now) (related c.close.new.self) (member c.selves-around.result) c.close.ensures.chains c.selves-around.ensures
