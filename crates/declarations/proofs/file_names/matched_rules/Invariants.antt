use Rattle.std.proofs.Common.{◌≡◌, drop}
use Rattle.name_table.specs.Table.{names_of}
use Rattle.source_tree.specs.Broken.{each}
use Rattle.source_tree.specs.FileRules.{broken_match_rule}
use Rattle.declarations.proofs.file_names.matched_rules.Given as goal

abbrev pub invariant-loop-one : goal.invariant-loop-one
invariant-loop-one l = each (broken_match_rule (names_of l.others)) (names_of l.names)
    ≡ each (broken_match_rule (names_of l.others)) (names_of (drop l.one-index l.names))
