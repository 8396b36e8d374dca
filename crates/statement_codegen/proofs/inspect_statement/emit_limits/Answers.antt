use Rattle.declarations.specs.Named.{items_in}
use Rattle.statement_codegen.proofs.InspectKept.{before_kept, after_kept}
use Rattle.statement_codegen.proofs.InspectMaking.{limits_straight, limits_turned}
use Rattle.statement_codegen.proofs.inspect_statement.emit_limits.Goals as goal

pub emit_limit-requires : goal.emit_limit-requires
emit_limit-requires c =
    let items = items_in c.args.emitter.now.declarations.now in
    record { rules = after_kept items c.args.one.now c.requires.rules }

pub emit_limit-requires-then-one : goal.emit_limit-requires-then-one
emit_limit-requires-then-one c =
    let items = items_in c.args.emitter.now.declarations.now in
    record { rules = before_kept items c.args.one.now c.requires.rules }

pub emit_limit-requires-2 : goal.emit_limit-requires-2
emit_limit-requires-2 c =
    let items = items_in c.args.emitter.now.declarations.now in
    record { rules = before_kept items c.args.one.now c.requires.rules }

pub emit_limit-requires-3 : goal.emit_limit-requires-3
emit_limit-requires-3 c =
    let items = items_in c.args.emitter.now.declarations.now in
    record { rules = after_kept items c.args.one.now c.requires.rules }

pub returns : goal.returns
returns c =
    limits_straight (items_in c.args.emitter.now.declarations.now) c.args.one.now c.args.code.now
    c.emit_limit-2.new.code
    c.emit_limit-3.new.code c.args.line.now c.emit_limit-2.new.line c.emit_limit-3.new.line
    c.in_ok-before-2.before c.in_ok-after-2.after c.if-one.false c.in_ok-before-2.ensures c.in_ok-after-2.ensures

pub returns-then-one : goal.returns-then-one
returns-then-one c =
    limits_turned (items_in c.args.emitter.now.declarations.now) c.args.one.now c.args.code.now c.emit_limit.new.code
    c.emit_limit-then-one.new.code c.args.line.now c.emit_limit.new.line c.emit_limit-then-one.new.line
    c.in_ok-before.before c.in_ok-after.after c.if-one.true c.in_ok-after.ensures c.in_ok-before.ensures
