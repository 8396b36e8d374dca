use Rattle.std.proofs.Common.{sym, ap, ◌∙◌}
use Rattle.source_tree.specs.StringRules.{delimiter_rules}
use Rattle.declarations.specs.Named.{items_in}
use Rattle.statement_codegen.proofs.string_statement.emit_sending.Goals as goal

pub emit_all_by-requires-clause-delimiter : goal.emit_all_by-requires-clause-delimiter
emit_all_by-requires-clause-delimiter c =
    sym (ap (delimiter_rules (items_in c.args.emitter.now.declarations.now)) c.in-Some.is) ∙ c.requires.delimiter
