use Rattle.std.proofs.Common.{rules}
use Rattle.report.proofs.Listing.{lines_none, lines_more}
use Rattle.report.proofs.record.Subject.put_opcodes.Goals as goal

pub loop-opcode-init : goal.loop-opcode-init
loop-opcode-init g c = search (rules, lines_none)

pub loop-opcode-preserved : goal.loop-opcode-preserved
loop-opcode-preserved g c = lines_more _ _ _ c.loop-opcode.opcode _ _ _ c.loop-opcode.invariant c.in_ok-put_opcode.ensures
