use Rattle.std.proofs.Common.{◌≡◌, drop}
use Rattle.source_tree.specs.Broken.{each}
use Rattle.source_tree.specs.EntryRules as rules
use Rattle.entry_rules.proofs.levels.level_rules.Given as goal

abbrev pub invariant-loop-entry : goal.invariant-loop-entry
invariant-loop-entry l = each rules.level_rules l.entries ≡ each rules.level_rules (drop l.entry-index l.entries)
