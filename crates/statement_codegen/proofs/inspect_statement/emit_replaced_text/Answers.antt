use Rattle.declarations.specs.Named.{items_in}
use Rattle.std.proofs.Common.{◌++◌}
use Rattle.source_tree.specs.InspectRules.{inspected_rules, by_rules, size_of, limits_rules}
use Rattle.condition_codegen.proofs.Kept.{front_kept, back_kept}
use Rattle.statement_codegen.proofs.InspectMaking.{replaced_put}
use Rattle.condition_codegen.proofs.Sequences.{on_ok}
use Rattle.statement_codegen.proofs.inspect_statement.emit_replaced_text.Goals as goal

pub emit_source-requires : goal.emit_source-requires
emit_source-requires c =
    let items = items_in c.args.emitter.now.declarations.now in
    let one = c.args.one.now in
    let text = inspected_rules items one.text in
    let by = by_rules items (size_of items one.text) one.by in
    record { rules = front_kept text by (front_kept (text ++ by) (limits_rules items one.limits) c.requires.rules) }

pub emit_by-requires : goal.emit_by-requires
emit_by-requires c =
    let items = items_in c.args.emitter.now.declarations.now in
    let one = c.args.one.now in
    let text = inspected_rules items one.text in
    let by = by_rules items (size_of items one.text) one.by in
    record {
      rules = front_kept (inspected_rules items one.by) _ (back_kept text by
          (front_kept (text ++ by) (limits_rules items one.limits) c.requires.rules));
    }

pub emit_limits-requires : goal.emit_limits-requires
emit_limits-requires c =
    let items = items_in c.args.emitter.now.declarations.now in
    let one = c.args.one.now in
    record {
      rules = back_kept (inspected_rules items one.text ++ by_rules items (size_of items one.text) one.by)
          (limits_rules items one.limits) c.requires.rules;
    }

pub returns : goal.returns
returns c =
    let items = items_in c.args.emitter.now.declarations.now in
    let limits = c.in_ok-limits.limits in
    on_ok c.push.result c.push.ensures.ok
    (λ e. replaced_put items c.args.how c.args.one.now c.args.code.now c.emit_source.new.code c.emit_by.new.code
    c.emit_limits.new.code c.args.made.now.line c.emit_source.new.line c.emit_by.new.line c.emit_limits.new.line
    c.in_ok-text.text c.in_ok-by.by c.fit_of.result limits.before limits.after c.args.made.now.entries c.push.new.self
    c.in_ok-text.ensures c.in_ok-by.ensures c.in_ok-limits.ensures c.fit_of.ensures e)
