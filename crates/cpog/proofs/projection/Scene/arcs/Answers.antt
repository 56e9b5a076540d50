use Rattle.std.proofs.Common.{◌+◌, sym, ◌∙◌, subst, arith}
use Rattle.sets.specs.Members.{member}
use Rattle.sets.specs.Rows.{related}
use Rattle.sets.specs.declared.relation.Relation.{Relation}
use Rattle.cpog.proofs.Counted.{RowsBelow, rows_none, rows_skip, rows_add, rows_all}
use Rattle.cpog.proofs.projection.Scene.arcs.Goals as goal
use Rattle.cpog.proofs.projection.Scene.arcs.Goals.{then-has, else-has}

pub loop-to-init : goal.loop-to-init
loop-to-init g c = rows_none (g.G.Graph.meaning c.args.self.now.graph.now) c.args.self.now.opcode (related c.none-arcs.result) c.none-arcs.ensures

pub loop-to-preserved : goal.loop-to-preserved
loop-to-preserved g c =
    let scene = c.args.self.now in
    let m = g.G.Graph.meaning scene.graph.now in
    let o = scene.opcode in
    let i = c.loop-to.to in
    elim c.if-has.branch [
      | then-has w ↦ subst (λ (r : Relation). RowsBelow m o (i + 1) (related r)) (sym w.arcs-is)
          (rows_add m o i (related c.loop-to.arcs) (related w.put.new.self) (member w.arcs_to.result) (omega (arith, (g.met.G.Graph.lawful scene.graph.now).few_events)) c.loop-to.invariant
          (sym (scene.present_there i) ∙ sym w.if-has.ensures) w.put.ensures (λ e. let a = w.arcs_to.ensures e in let p = scene.present_there e in cc))
      | else-has w ↦ subst (λ (r : Relation). RowsBelow m o (i + 1) (related r)) (sym w.arcs-is)
          (rows_skip m o i (related c.loop-to.arcs) c.loop-to.invariant (sym (scene.present_there i) ∙ sym w.if-has.ensures))
    ]

pub returns : goal.returns
returns g c =
    let scene = c.args.self.now in
    rows_all (g.G.Graph.meaning scene.graph.now) scene.opcode c.loop-to.to (related c.loop-to.arcs) (g.met.G.Graph.lawful scene.graph.now) (omega arith) c.loop-to.invariant
