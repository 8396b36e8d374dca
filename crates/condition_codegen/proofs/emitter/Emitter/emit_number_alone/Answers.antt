use Rattle.std.proofs.Common.{sym, ap, ◌∙◌}
use Rattle.source_tree.specs.NameRules.{any_item, operand_rules}
use Rattle.declarations.specs.Named.{items_in}
use Rattle.condition_codegen.specs.declared.condition.Alone.{Alone}
use Rattle.condition_codegen.specs.Sides.{operand_of}
use Rattle.condition_codegen.proofs.Kept.{item_kept}
use Rattle.condition_codegen.proofs.emitter.Emitter.emit_number_alone.Goals as goal

pub emit_taking-requires : goal.emit_taking-requires
emit_taking-requires c =
    let items = items_in c.args.self.now.declarations.now in
    record {
      rules = item_kept items any_item c.in-Item.reference.now
          (sym (ap (λ (one : Alone). operand_rules items (operand_of one)) c.in-Item.is) ∙ c.requires.rules);
    }
