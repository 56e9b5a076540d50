use Rattle.std.proofs.Common.{arith}
use Rattle.sets.specs.Members.{member}
use Rattle.sets.specs.Rows.{related}
use Rattle.sets.proofs.Membership.{member_none}
use Rattle.searches.proofs.Walking.{fed_some}
use Rattle.searches.proofs.cycle.search.Walker.before.Goals as goal

pub unwrap-requires : goal.unwrap-requires
unwrap-requires c =
    let walker = c.args.self.now in
    let fed = fed_some (related walker.arcs.now) (member walker.around) walker.fed c.args.event c.requires in
    grind (arith, member_none c.common.result)
