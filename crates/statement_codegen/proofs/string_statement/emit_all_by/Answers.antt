use Rattle.std.proofs.Common.{sym, ap, ◌∙◌}
use Rattle.source_tree.specs.StringRules.{sent_item, sent_rules}
use Rattle.declarations.specs.Named.{items_in}
use Rattle.condition_codegen.proofs.Kept.{item_kept}
use Rattle.statement_codegen.proofs.string_statement.emit_all_by.Goals as goal

pub emit_all_delimited-requires-clause-delimiter : goal.emit_all_delimited-requires-clause-delimiter
emit_all_delimited-requires-clause-delimiter c =
    let items = items_in c.args.emitter.now.declarations.now in
    item_kept items sent_item c.in-Item.reference (sym (ap (sent_rules items) c.in-Item.is) ∙ c.requires.delimiter)
