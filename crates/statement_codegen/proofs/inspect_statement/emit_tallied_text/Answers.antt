use Rattle.declarations.specs.Named.{items_in}
use Rattle.source_tree.specs.InspectRules.{inspected_rules, limits_rules}
use Rattle.condition_codegen.proofs.Kept.{front_kept, back_kept}
use Rattle.statement_codegen.proofs.InspectMaking.{tallied_put}
use Rattle.condition_codegen.proofs.Sequences.{on_ok}
use Rattle.statement_codegen.proofs.inspect_statement.emit_tallied_text.Goals as goal

pub emit_source-requires : goal.emit_source-requires
emit_source-requires c =
    let items = items_in c.args.emitter.now.declarations.now in
    record {
      rules = front_kept (inspected_rules items c.args.one.now.text) (limits_rules items c.args.one.now.limits)
          c.requires.rules;
    }

pub emit_limits-requires : goal.emit_limits-requires
emit_limits-requires c =
    let items = items_in c.args.emitter.now.declarations.now in
    record {
      rules = back_kept (inspected_rules items c.args.one.now.text) (limits_rules items c.args.one.now.limits)
          c.requires.rules;
    }

pub returns : goal.returns
returns c =
    let items = items_in c.args.emitter.now.declarations.now in
    let limits = c.in_ok-limits.limits in
    on_ok c.push.result c.push.ensures.ok
    (λ e. tallied_put items c.args.how c.args.one.now c.args.code.now c.emit_source.new.code c.emit_limits.new.code
    c.args.made.now.line c.emit_source.new.line c.emit_limits.new.line c.in_ok-text.text c.fit_of.result
    limits.before limits.after c.args.made.now.entries c.push.new.self
    c.in_ok-text.ensures c.in_ok-limits.ensures c.fit_of.ensures e)
