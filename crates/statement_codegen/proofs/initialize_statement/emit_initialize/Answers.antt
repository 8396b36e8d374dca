use Rattle.declarations.specs.Named.{items_in}
use Rattle.source_tree.specs.NameRules.{any_item}
use Rattle.condition_codegen.proofs.Kept.{item_kept}
use Rattle.statement_codegen.proofs.initialize_statement.emit_initialize.Goals as goal

pub emit_reference-requires : goal.emit_reference-requires
emit_reference-requires c =
    record { rules = item_kept (items_in c.args.emitter.now.declarations.now) any_item c.args.one.now c.requires.rules }
