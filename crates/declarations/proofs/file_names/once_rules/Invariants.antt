use Rattle.std.proofs.Common.{◌≡◌, [], take, drop}
use Rattle.name_table.specs.Table.{names_of}
use Rattle.source_tree.specs.PerformRules.{given_once}
use Rattle.declarations.proofs.file_names.once_rules.Given as goal

abbrev pub invariant-loop-i : goal.invariant-loop-i
invariant-loop-i l =
    given_once [] (names_of l.names) ≡ given_once (names_of (take l.i l.names)) (names_of (drop l.i l.names))
