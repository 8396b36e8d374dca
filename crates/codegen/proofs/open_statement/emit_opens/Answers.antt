use Rattle.declarations.specs.Named.{scope_in}
use Rattle.codegen.specs.Layout.{open_fragment, statement_fragment}
use Rattle.condition_codegen.proofs.Fragments.{is_done}
use Rattle.codegen.proofs.ByCase.{next_piece}
use Rattle.codegen.proofs.open_statement.emit_opens.Goals as goal

pub loop-one-preserved : goal.loop-one-preserved
loop-one-preserved c =
    let scope = scope_in c.args.emitter.now.declarations.now in
    next_piece (open_fragment scope (statement_fragment scope)) c.args.all.now c.loop-one.one-index c.one-item.result
    c.loop-one.code c.emit_alone.new.code _ c.loop-one-test.true c.one-item.is c.in_ok-emit_alone.ensures
    c.loop-one.invariant

pub returns : goal.returns
returns c =
    let scope = scope_in c.args.emitter.now.declarations.now in
    is_done (open_fragment scope (statement_fragment scope)) c.args.all.now c.loop-one.one-index c.loop-one.code _
    c.loop-one-test.false c.loop-one.invariant
