use Rattle.std.proofs.Common.{◌++◌, Some, ap, sym, ◌∙◌}
use Rattle.source_tree.specs.Levels.{forest_of}
use Rattle.source_tree.specs.Initializing.{Pattern}
use Rattle.initial_storage.specs.Patterns.{outline, outline_pattern}
use Rattle.initial_storage.proofs.Counted.{pattern_outlined}
use Rattle.initial_storage.proofs.Formed.{forest_formed, files_formed}
use Rattle.initial_storage.proofs.Kept.{fits}
use Rattle.initial_storage.proofs.KeptFiles.{files_fit}
use Rattle.initial_storage.proofs.initialize_statement.pattern_at.Goals as goal

pub program_item_at-requires-clause-fits : goal.program_item_at-requires-clause-fits
program_item_at-requires-clause-fits c =
    let storage = c.args.storage.now in
    fits storage c.requires.storage (c.levels_are_told.ensures storage c.requires.storage)

pub program_item_at-requires-clause-formed : goal.program_item_at-requires-clause-formed
program_item_at-requires-clause-formed c = forest_formed c.args.storage.now c.requires.storage

pub program_item_at-requires-clause-files_fit : goal.program_item_at-requires-clause-files_fit
program_item_at-requires-clause-files_fit c =
    files_fit c.args.storage.now c.args.files.now c.requires.files c.record_levels_are_told.ensures

pub program_item_at-requires-clause-files_formed : goal.program_item_at-requires-clause-files_formed
program_item_at-requires-clause-files_formed c = files_formed c.args.storage.now c.args.files.now c.requires.files

pub returns-in-None : goal.returns-in-None
returns-in-None c = c.new-pattern.ensures.items
    ∙ sym (pattern_outlined c.args.storage.now c.args.files.now c.args.number _ c.in-None.ensures)

pub returns-in_ok-put_named-in-Some : goal.returns-in_ok-put_named-in-Some
returns-in_ok-put_named-in-Some c =
    let found = c.in-Some.found in
    let one = outline found.around found.one.entry.now (forest_of found.one.inner.now) in
    c.in_ok-put_named-in-Some.ensures ∙ ap (λ (l : Pattern). l ++ outline_pattern one) c.new-pattern.ensures.items
    ∙ sym (pattern_outlined c.args.storage.now c.args.files.now c.args.number (Some one) c.in-Some.ensures.0)
