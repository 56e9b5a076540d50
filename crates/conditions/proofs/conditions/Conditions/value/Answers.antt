use Rattle.conditions.proofs.Meaning.{means_once}
use Rattle.conditions.proofs.conditions.Conditions.value.Goals as goal

pub returns-then-from-count-clause-only : goal.returns-then-from-count-clause-only
returns-then-from-count-clause-only c = λ x m. means_once c.value.ensures m
