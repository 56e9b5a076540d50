use Rattle.std.proofs.Common.{rules}
use Rattle.questions.specs.Checks.{judged_at}
use Rattle.questions.proofs.Firsts.{Firsts, firsts_of, firsts_value}
use Rattle.questions.proofs.Judging.{firsts_verdicts}
use Rattle.questions.proofs.check.verdict_of.Goals as goal

pub returns : goal.returns
returns g c =
    let m = g.G.Graph.meaning c.args.graph.now in
    let at = judged_at m c.args.actions.now in
    let firsts : Firsts at c.try_for_each.result = firsts_of at c.try_for_each.ensures.runs (λ o v f' k. search rules) in
    record { value = firsts_value at _ firsts; law = firsts_verdicts m c.args.actions.now (g.met.G.Graph.lawful c.args.graph.now) _ firsts }
