use Rattle.std.proofs.Common.{◌≡◌, sym, ◌∙◌, subst}
use Rattle.sets.specs.Rows.{related}
use Rattle.cpog.specs.Graphs.{Order, Projects, counted, order_at}
use Rattle.cpog.specs.Projections.{seen}
use Rattle.cpog.proofs.Ordered.{order_same, closed_same, order_projects}
use Rattle.cpog.proofs.projection.Projection.draw.Goals as goal

pub returns : goal.returns
returns g c =
    let m = g.G.Graph.meaning c.args.graph.now in
    let o = c.args.opcode in
    let scene = c.new-scene.result in
    let graph_is = c.new-scene.ensures.graph in
    let opcode_is = c.new-scene.ensures.opcode in
    let drawn : Order = seen (record { present = scene.present; before = c.close.new.self }) in
    let is : drawn ≡ order_at m o = order_same drawn (order_at m o) (λ e. let there = scene.present_there e in cc)
    (λ e f. c.close.ensures.value e f ∙ closed_same (related c.arcs-before.result) (counted m o) 32 (λ a b. let counts = c.arcs-before.ensures a b in cc) e f) in
    record { value = is; law = subst (λ (p : Order). Projects m o p) (sym is) (order_projects m o (g.met.G.Graph.lawful c.args.graph.now)) }
