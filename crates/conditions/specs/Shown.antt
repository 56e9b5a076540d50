-- What the crate's types hold. Assumes nothing.
use Rattle.std.specs.Prelude.{ℕ, List, vec_items}
use Rattle.conditions.specs.declared.conditions.Conditions.{Conditions}
use Rattle.conditions.specs.declared.nodes.Node.{Node}
use Rattle.conditions.specs.declared.variables.Variables.{Variables}

-- the letter of each variable
abbrev pub letters_of : Variables → List ℕ
letters_of v = vec_items v.letters

-- the node at each place
abbrev pub nodes_of : Conditions → List Node
nodes_of c = vec_items c.nodes.all
