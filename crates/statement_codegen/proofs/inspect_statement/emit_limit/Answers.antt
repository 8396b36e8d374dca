use Rattle.std.proofs.Common.{sym, ap, ◌∙◌}
use Rattle.source_tree.specs.InspectRules.{limit_rules}
use Rattle.declarations.specs.Named.{items_in}
use Rattle.statement_codegen.proofs.inspect_statement.emit_limit.Goals as goal

pub emit_source-requires : goal.emit_source-requires
emit_source-requires c =
    let items = items_in c.args.emitter.now.declarations.now in
    record { rules = sym (ap (limit_rules items) c.in-Some.is) ∙ c.requires.rules }
