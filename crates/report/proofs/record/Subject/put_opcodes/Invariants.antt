use Rattle.report.specs.Records.{Adds, Lines}
use Rattle.report.proofs.record.Subject.put_opcodes.Given as goal

-- the lines of the opcodes so far
abbrev pub invariant-loop-opcode : goal.invariant-loop-opcode
invariant-loop-opcode g l =
    Adds (Lines (g.N.Names.naming l.self.names.now) (g.G.Graph.meaning l.self.graph.now) l.self.actions.now l.opcode) l.initial.page l.page
