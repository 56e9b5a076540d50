use Rattle.std.proofs.Common.{rules}
use Rattle.questions.specs.Formed.{formed_at}
use Rattle.questions.proofs.Firsts.{Firsts, firsts_of, firsts_value}
use Rattle.questions.proofs.Forming.{firsts_formed}
use Rattle.questions.proofs.formed.well_formed.Goals as goal

pub returns : goal.returns
returns g c =
    let m = g.G.Graph.meaning c.args.graph.now in
    let firsts : Firsts (formed_at m) c.try_for_each.result = firsts_of (formed_at m) c.try_for_each.ensures.runs (λ o v f' k. search rules) in
    record { value = firsts_value (formed_at m) _ firsts; law = firsts_formed m (g.met.G.Graph.lawful c.args.graph.now) _ firsts }
