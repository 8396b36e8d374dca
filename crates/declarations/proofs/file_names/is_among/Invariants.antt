use Rattle.std.proofs.Common.{◌≡◌, drop}
use Rattle.name_table.specs.Table.{names_of}
use Rattle.source_tree.specs.PerformRules.{is_among}
use Rattle.declarations.proofs.file_names.is_among.Given as goal

abbrev pub invariant-loop-other : goal.invariant-loop-other
invariant-loop-other l = is_among l.name (names_of l.others) ≡ is_among l.name (names_of (drop l.other-index l.others))
