use Rattle.source_tree.specs.Broken.{each}
use Rattle.source_tree.specs.NameRules.{operand_rules, reference_rules}
use Rattle.source_tree.specs.MoveRules.{sent_by, receives}
use Rattle.declarations.specs.Named.{items_in}
use Rattle.condition_codegen.proofs.Kept.{front_kept, back_kept, numbers_kept}
use Rattle.statement_codegen.proofs.move_statement.emit_move.Goals as goal

pub emit_sender-requires : goal.emit_sender-requires
emit_sender-requires c =
    let items = items_in c.args.emitter.now.declarations.now in
    record {
      rules = front_kept (operand_rules items c.args.sender.now)
          (each (reference_rules items (receives (sent_by items c.args.sender.now))) c.args.receivers.now)
          c.requires.rules;
    }

pub emit_receivers-requires : goal.emit_receivers-requires
emit_receivers-requires c =
    let items = items_in c.args.emitter.now.declarations.now in
    record {
      rules = numbers_kept items (receives (sent_by items c.args.sender.now)) c.args.receivers.now
          (back_kept (operand_rules items c.args.sender.now) (each
          (reference_rules items (receives (sent_by items c.args.sender.now))) c.args.receivers.now) c.requires.rules);
    }
