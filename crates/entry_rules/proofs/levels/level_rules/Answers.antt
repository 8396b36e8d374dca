use Rattle.std.proofs.Common.{ap, ◌∙◌}
use Rattle.std.proofs.lemmas.List.{drop_all}
use Rattle.source_tree.specs.Broken.{each}
use Rattle.source_tree.specs.EntryRules as rules
use Rattle.entry_rules.proofs.LevelLaws.{levels}
use Rattle.entry_rules.proofs.levels.level_rules.Goals as goal

pub returns-clause-levels : goal.returns-clause-levels
returns-clause-levels c =
    levels c.args.entries.now (c.loop-entry.invariant
    ∙ ap (each rules.level_rules) (drop_all c.loop-entry.entry-index c.args.entries.now c.loop-entry-test.false))
