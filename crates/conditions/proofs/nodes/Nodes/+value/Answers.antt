use Rattle.conditions.specs.Nodes.{constant, variable, negation, conjunction, disjunction}
use Rattle.conditions.proofs.Meaning.{and_settled, or_settled}
use Rattle.conditions.proofs.nodes.Nodes.+value.Goals as goal

pub returns-in-Constant : goal.returns-in-Constant
returns-in-Constant t c = constant c.in-Constant.ensures.stands

pub returns-in-Variable : goal.returns-in-Variable
returns-in-Variable t c = rw c.is_on.ensures (variable c.in-Variable.ensures.stands)

pub returns-in-Not : goal.returns-in-Not
returns-in-Not t c = negation c.in-Not.ensures.stands c.value.ensures

pub returns-then-value : goal.returns-then-value
returns-then-value t c = conjunction c.in-And.ensures.stands c.if-value.ensures c.value-then-value.ensures

pub returns-else-value : goal.returns-else-value
returns-else-value t c = and_settled _ c.args.self.now.ordered c.in-And.ensures.stands c.value-in-And.ensures c.if-value.false

pub returns-then-value-2 : goal.returns-then-value-2
returns-then-value-2 t c = or_settled _ c.args.self.now.ordered c.in-Or.ensures.stands c.value-in-Or.ensures c.if-value-2.true

pub returns-else-value-2 : goal.returns-else-value-2
returns-else-value-2 t c = disjunction c.in-Or.ensures.stands c.if-value-2.ensures c.value-else-value-2.ensures
