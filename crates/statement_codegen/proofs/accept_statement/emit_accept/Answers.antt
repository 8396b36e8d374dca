use Rattle.source_tree.specs.NameRules.{any_item}
use Rattle.declarations.specs.Named.{items_in}
use Rattle.condition_codegen.proofs.Kept.{item_kept}
use Rattle.statement_codegen.proofs.accept_statement.emit_accept.Goals as goal

pub emit_reference-requires : goal.emit_reference-requires
emit_reference-requires c =
    record {
      rules = item_kept (items_in c.args.emitter.now.declarations.now) any_item c.args.receiver.now c.requires.rules;
    }
