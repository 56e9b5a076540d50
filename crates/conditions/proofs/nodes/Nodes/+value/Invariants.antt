use Rattle.conditions.proofs.nodes.Nodes.+value.Given as goal

-- operands stand below
abbrev pub decreases-value : goal.decreases-value
decreases-value l = l.at
