use Rattle.std.proofs.Common.{◌≡◌, drop}
use Rattle.source_tree.specs.Names as names
use Rattle.name_table.specs.Table.{names_of}
use Rattle.name_table.proofs.qualification.is_within.Given as goal

abbrev pub invariant-loop-name : goal.invariant-loop-name
invariant-loop-name l =
    names.is_within l.qualifiers (names_of l.around) ≡ names.is_within l.rest (names_of (drop l.name-index l.around))
