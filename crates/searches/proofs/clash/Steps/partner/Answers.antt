use Rattle.std.proofs.Common.{rules}
use Rattle.sets.proofs.Found.{found_least}
use Rattle.searches.proofs.clash.Steps.partner.Goals as goal

pub returns : goal.returns
returns c = (found_least _ 32 _ _ _ c.find.ensures.ran (λ k b q e. search rules)).0
