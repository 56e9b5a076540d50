use Rattle.std.proofs.Common.{Err, refl, rules}
use Rattle.questions.specs.declared.outcome.Flaw.TheVariants.{Cycle}
use Rattle.report.proofs.Listing.{line_put}
use Rattle.report.proofs.record.Subject.put_opcode.Goals as goal

pub returns-in-Some-Ok : goal.returns-in-Some-Ok
returns-in-Some-Ok g c =
    let came = rw c.in-Some-Ok.field-0-is at c.in-Some-Ok.ensures.value in search (rules, line_put)

pub returns-in-Some-Err-Cycle : goal.returns-in-Some-Err-Cycle
returns-in-Some-Err-Cycle g c =
    let came = rw c.in-Some-Err-Cycle.field-0-0-is at (rw c.in-Some-Err-Cycle.field-0-is at c.in-Some-Err-Cycle.ensures.value) in
    let found = rw c.unwrap-cycle.ensures at c.find_cycle.ensures in
    let round = rw (← c.as_slice.ensures.value) at found in
    line_put (g.N.Names.naming c.args.self.now.names.now) (g.G.Graph.meaning c.args.self.now.graph.now) c.args.self.now.actions.now c.args.opcode
    (Err Cycle) _ _ _ _ came (c.as_slice.result.now, (round, refl)) c.put_outcome-in-Some-Err-Cycle.ensures

pub returns-in-Some-Err-Clash : goal.returns-in-Some-Err-Clash
returns-in-Some-Err-Clash g c =
    let came = rw c.in-Some-Err-Clash.field-0-0-is at (rw c.in-Some-Err-Clash.field-0-is at c.in-Some-Err-Clash.ensures.value) in search (rules, line_put)
