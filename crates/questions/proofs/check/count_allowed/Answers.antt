use Rattle.std.proofs.Common.{◌∙◌, refl, rules}
use Rattle.std.proofs.lemmas.Iterator.{YieldsList-from_range}
use Rattle.std.proofs.lemmas.Iterator.Consumers.{YieldsList-at, YieldsList-from_filter, count_from_yields_List}
use Rattle.questions.proofs.Counts.{filter-tally}
use Rattle.questions.proofs.check.count_allowed.Goals as goal

pub returns : goal.returns
returns g c =
    let allow = (g.G.Graph.meaning c.args.graph.now).allow in
    count_from_yields_List c.filter.result _ c.count.ensures.ran (YieldsList-from_filter _ allow (YieldsList-at c.filter.ensures.source (YieldsList-from_range 0 256 256 refl refl)) c.filter.ensures.closure (λ x r q k. search rules)) ∙ filter-tally allow 256
