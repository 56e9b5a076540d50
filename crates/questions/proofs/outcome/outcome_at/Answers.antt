use Rattle.std.proofs.Common.{Some, Err, rules}
use Rattle.questions.specs.declared.outcome.Flaw.TheVariants.{Cycle}
use Rattle.questions.proofs.Coming.{value_comes}
use Rattle.questions.proofs.outcome.outcome_at.Goals as goal

pub returns-in-Err-clause-law : goal.returns-in-Err-clause-law
returns-in-Err-clause-law g c = value_comes (g.G.Graph.meaning c.args.graph.now) c.args.actions.now c.args.opcode (Some (Err Cycle)) (g.met.G.Graph.lawful c.args.graph.now) (search rules)

pub returns-in-Ok-clause-law : goal.returns-in-Ok-clause-law
returns-in-Ok-clause-law g c = value_comes (g.G.Graph.meaning c.args.graph.now) c.args.actions.now c.args.opcode (Some c.no_clash.result) (g.met.G.Graph.lawful c.args.graph.now) (search rules)
