use Rattle.std.proofs.Common.{sym, ap, ◌∙◌}
use Rattle.source_tree.specs.declared.arithmetic.DivisionOrder.{DivisionOrder}
use Rattle.data_instructions.specs.declared.calculation.Calculation.TheVariants as calculation
use Rattle.data_instructions.specs.declared.instruction.DataInstruction.{DataInstruction}
use Rattle.data_instructions.specs.declared.instruction.DataInstruction.TheVariants as i
use Rattle.data_instructions.specs.ArithmeticCodes.{duplicate}
use Rattle.declarations.specs.Named.{items_in}
use Rattle.condition_codegen.specs.Fragments.{append, sequence}
use Rattle.condition_codegen.specs.DataCode.{work_fragment}
use Rattle.condition_codegen.specs.ArithmeticCode.{gives_fragment, division_fragment}
use Rattle.condition_codegen.proofs.Sequences.{three_so, on_ok}
use Rattle.statement_codegen.specs.Operations.{discard_fragment}
use Rattle.statement_codegen.proofs.arithmetic.emit_quotient_giving.Goals as goal

pub returns-in_ok-emit_computed-in-Into : goal.returns-in_ok-emit_computed-in-Into
returns-in_ok-emit_computed-in-Into c =
    let old = c.args.code.now in
    let inner = sequence (work_fragment (i.Calculate calculation.Divide)) (sequence (gives_fragment
    (items_in c.args.emitter.now.declarations.now) c.args.keep c.args.all.now) discard_fragment) in
    on_ok c.emit_work-in-Into.result
    (three_so c.emit_work-in-Into.result (work_fragment (duplicate 1)) inner (work_fragment c.discard.result) old
    c.emit_work.new.code c.emit_computed-in-Into.new.code c.emit_work-in-Into.new.code
    (c.in_ok-emit_work-in-Into.ensures
    ∙ ap (λ (one : DataInstruction). append old (work_fragment one old)) c.duplicate.ensures)
    c.in_ok-emit_computed-in-Into.ensures c.emit_work-in-Into.ensures)
    (λ e. e ∙ ap (λ (one : DataInstruction). append old (sequence (work_fragment (duplicate 1)) (sequence inner
    (work_fragment one)) old)) c.discard.ensures
    ∙ sym (ap (λ (order : DivisionOrder). append old (division_fragment order inner old)) c.in-Into.is))
