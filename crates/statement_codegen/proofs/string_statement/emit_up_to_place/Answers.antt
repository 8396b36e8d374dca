use Rattle.std.proofs.Common.{sym, ap, ◌∙◌}
use Rattle.source_tree.specs.StringRules.{sent_item, sent_rules}
use Rattle.declarations.specs.Named.{items_in}
use Rattle.condition_codegen.proofs.Kept.{item_kept}
use Rattle.statement_codegen.proofs.string_statement.emit_up_to_place.Goals as goal

pub emit_taking-requires : goal.emit_taking-requires
emit_taking-requires c =
    let items = items_in c.args.emitter.now.declarations.now in
    record {
      rules =
          item_kept items sent_item c.in-Item.reference (sym (ap (sent_rules items) c.in-Item.is) ∙ c.requires.rules);
    }
