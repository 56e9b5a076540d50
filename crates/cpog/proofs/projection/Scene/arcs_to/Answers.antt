use Rattle.std.proofs.Common.{◌&&◌, arith, rules, tests}
use Rattle.std.proofs.lemmas.Bool.{and_parts}
use Rattle.sets.specs.Members.{member}
use Rattle.sets.proofs.Membership.{member_below}
use Rattle.cpog.proofs.projection.Scene.arcs_to.Goals as goal

pub returns : goal.returns
returns g c =
    let scene = c.args.self.now in
    let m = g.G.Graph.meaning scene.graph.now in
    let L = g.met.G.Graph.lawful scene.graph.now in
    member_below c.from_fn_below.result c.events.result (λ e. member scene.present e && m.arc e c.args.to scene.opcode)
    (λ e l h. let asked = c.from_fn_below.ensures.tested e l h in search (rules, tests)) c.from_fn_below.ensures.others
    (λ e t. let inside = (L.arc_inside e c.args.to scene.opcode (and_parts (member scene.present e) (m.arc e c.args.to scene.opcode) t).1).0 in (omega (arith, L.few_events, inside), omega (arith, c.events.ensures, inside)))
