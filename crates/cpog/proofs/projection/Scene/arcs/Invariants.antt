use Rattle.sets.specs.Rows.{related}
use Rattle.cpog.proofs.Counted.{RowsBelow}
use Rattle.cpog.proofs.projection.Scene.arcs.Given as goal

abbrev pub invariant-loop-to : goal.invariant-loop-to
invariant-loop-to g l = RowsBelow (g.G.Graph.meaning l.self.graph.now) l.self.opcode l.to (related l.arcs)
