-- What a table means as a graph. Assumes nothing.
use Rattle.std.specs.Prelude.{vec_items}
use Rattle.cpog.specs.Graphs.{Conditions}
use Rattle.graphs.specs.Tables.{table_of}
use Rattle.graphs.specs.declared.table.Table.{Table}

abbrev pub tabled : Table → Conditions
tabled t = table_of t.events t.variables (vec_items t.bytes)
