use Rattle.std.proofs.Common.{◌≡◌, take}
use Rattle.name_table.specs.Table.{names_of}
use Rattle.source_tree.specs.FileRules.{select_names}
use Rattle.declarations.proofs.file_names.select_names.Given as goal

abbrev pub invariant-loop-one : goal.invariant-loop-one
invariant-loop-one l = names_of l.names.items ≡ select_names (take l.one-index l.selects)
