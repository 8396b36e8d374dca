use Rattle.std.proofs.Common.{sym, ap}
use Rattle.declarations.specs.Named.{items_in}
use Rattle.condition_codegen.specs.Fragments.{append, sequence}
use Rattle.condition_codegen.specs.ArithmeticCode.{operation_fragment}
use Rattle.statement_codegen.specs.Operations.{values_fragment, results_fragment}
use Rattle.statement_codegen.proofs.Operations.{operation_parts, values_kept, results_kept}
use Rattle.condition_codegen.proofs.Sequences.{is_so, ends_so}
use Rattle.statement_codegen.proofs.arithmetic.emit_operation.Goals as goal

pub emit_values-requires : goal.emit_values-requires
emit_values-requires c =
    record { rules = values_kept (items_in c.args.emitter.now.declarations.now) c.args.one.now c.requires.rules }

pub emit_results-requires : goal.emit_results-requires
emit_results-requires c =
    record { rules = results_kept (items_in c.args.emitter.now.declarations.now) c.args.one.now c.requires.rules }

pub returns : goal.returns
returns c =
    let items = items_in c.args.emitter.now.declarations.now in
    let one = c.args.one.now in
    let old = c.args.code.now in
    let result = c.emit_results.result in
    let new = c.emit_results.new.code in
    let values = values_fragment items one in
    let results = results_fragment items c.args.keep one in
    is_so result new (append old (sequence values results old))
    (append old (operation_fragment items c.args.keep one old))
    (ends_so result values results old c.emit_values.new.code new c.in_ok-emit_values.ensures c.emit_results.ensures)
    (ap (append old) (sym (operation_parts items c.args.keep one old)))
