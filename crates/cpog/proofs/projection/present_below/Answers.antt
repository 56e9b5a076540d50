use Rattle.std.proofs.Common.{arith, rules}
use Rattle.sets.proofs.Membership.{member_below}
use Rattle.cpog.proofs.projection.present_below.Goals as goal

pub returns : goal.returns
returns g c all =
    let L = g.met.G.Graph.lawful c.args.graph.now in
    member_below c.from_fn_below.result c.args.end (λ e. (g.G.Graph.meaning c.args.graph.now).has e c.args.opcode)
    (λ e l h. let asked = c.from_fn_below.ensures.tested e l h in search rules) c.from_fn_below.ensures.others
    (λ e t. let inside = (L.has_inside e c.args.opcode t).0 in (omega (arith, L.few_events, inside), omega (arith, all, inside)))
