use Rattle.std.proofs.Common.{sym, ap, ◌∙◌}
use Rattle.source_tree.specs.NameRules.{any_item, operand_rules}
use Rattle.declarations.specs.Named.{items_in}
use Rattle.condition_codegen.proofs.Kept.{item_kept}
use Rattle.condition_codegen.proofs.emitter.Emitter.emit_sender.Goals as goal

pub emit_taking-requires : goal.emit_taking-requires
emit_taking-requires c =
    let items = items_in c.args.self.now.declarations.now in
    record {
      rules =
          item_kept items any_item c.in-Item.reference (sym (ap (operand_rules items) c.in-Item.is) ∙ c.requires.rules);
    }
