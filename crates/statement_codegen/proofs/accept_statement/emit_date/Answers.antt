use Rattle.std.proofs.Common.{[], Some}
use Rattle.source_tree.specs.Accepting.{date_sender}
use Rattle.source_tree.specs.MoveRules.{receives}
use Rattle.declarations.specs.Named.{items_in}
use Rattle.condition_codegen.proofs.Kept.{item_kept}
use Rattle.statement_codegen.proofs.accept_statement.emit_date.Goals as goal

pub emit_reference-requires : goal.emit_reference-requires
emit_reference-requires c =
    record {
      rules = item_kept (items_in c.args.emitter.now.declarations.now) (receives (Some (date_sender []).taken))
          c.args.receiver.now
          c.requires.rules;
    }
