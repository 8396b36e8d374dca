use Rattle.declarations.specs.Named.{items_in}
use Rattle.condition_codegen.specs.DataCode.{reference_fragment}
use Rattle.condition_codegen.proofs.Sequences.{three_so}
use Rattle.statement_codegen.specs.StringCode.{sendings_fragment, put_fragment}
use Rattle.statement_codegen.proofs.string_statement.emit_string.Goals as goal

pub returns : goal.returns
returns c =
    let items = items_in c.args.emitter.now.declarations.now in
    three_so c.emit_put.result (sendings_fragment items c.args.sendings.now)
    (reference_fragment items c.args.receiver.now) (put_fragment items c.args.pointer.now) c.args.code.now
    c.emit_sendings.new.code c.emit_reference.new.code c.emit_put.new.code c.in_ok-emit_sendings.ensures
    c.in_ok-emit_reference.ensures c.emit_put.ensures
