use Rattle.declarations.specs.Named.{items_in}
use Rattle.statement_codegen.proofs.InspectMaking.{any_put}
use Rattle.condition_codegen.proofs.Sequences.{on_ok}
use Rattle.statement_codegen.proofs.inspect_statement.emit_any_tallied.Goals as goal

pub returns : goal.returns
returns c =
    let items = items_in c.args.emitter.now.declarations.now in
    let limits = c.in_ok-limits.limits in
    on_ok c.push.result c.push.ensures.ok
    (λ e. any_put items c.args.limits.now c.args.code.now c.emit_limits.new.code c.args.made.now.line
    c.emit_limits.new.line limits.before limits.after c.args.made.now.entries c.push.new.self c.in_ok-limits.ensures e)
