use Rattle.std.proofs.Common.{sym, ap, ◌∙◌}
use Rattle.source_tree.specs.NameRules.{any_item}
use Rattle.source_tree.specs.TextRules.{shown_rules}
use Rattle.declarations.specs.Named.{items_in}
use Rattle.condition_codegen.proofs.Kept.{item_kept}
use Rattle.statement_codegen.proofs.display_statement.emit_operand.Goals as goal

pub emit_taking-requires : goal.emit_taking-requires
emit_taking-requires c =
    let items = items_in c.args.emitter.now.declarations.now in
    record {
      rules =
          item_kept items any_item c.in-Item.reference (sym (ap (shown_rules items) c.in-Item.is) ∙ c.requires.rules);
    }
