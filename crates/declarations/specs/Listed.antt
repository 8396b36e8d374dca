-- Procedures in a list.
use Rattle.std.specs.Option.{option_copied}
use Rattle.name_table.specs.Noting.{procedure}
use Rattle.source_tree.specs.Procedures as tree
use Rattle.declarations.specs.declared.listed.Procedure.{Procedure}

abbrev pub procedure_of : Procedure → tree.Procedure
procedure_of one = procedure (option_copied one.name) one.range
