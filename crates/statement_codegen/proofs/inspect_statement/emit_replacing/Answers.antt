use Rattle.std.proofs.Common.{◌≡◌, [], ◌++◌, sym, ap, ◌∙◌}
use Rattle.source_tree.specs.InspectRules.{Exactly, inspected_rules, by_rules, limits_rules, replacing_rules}
use Rattle.declarations.specs.Named.{items_in}
use Rattle.condition_codegen.proofs.Kept.{front_kept, back_kept}
use Rattle.statement_codegen.proofs.inspect_statement.emit_replacing.Goals as goal

pub emit_any_replaced-requires-clause-by : goal.emit_any_replaced-requires-clause-by
emit_any_replaced-requires-clause-by c =
    let items = items_in c.args.emitter.now.declarations.now in
    let by = by_rules items (Exactly 1) c.in-Characters.by in
    let limits = limits_rules items c.in-Characters.limits in
    let rules : by ++ limits ≡ [] = sym (ap (replacing_rules items) c.in-Characters.is) ∙ c.requires.rules in
    front_kept (inspected_rules items c.in-Characters.by) _ (front_kept by limits rules)

pub emit_any_replaced-requires-clause-limits : goal.emit_any_replaced-requires-clause-limits
emit_any_replaced-requires-clause-limits c =
    let items = items_in c.args.emitter.now.declarations.now in
    let by = by_rules items (Exactly 1) c.in-Characters.by in
    let limits = limits_rules items c.in-Characters.limits in
    let rules : by ++ limits ≡ [] = sym (ap (replacing_rules items) c.in-Characters.is) ∙ c.requires.rules in
    back_kept by limits rules
