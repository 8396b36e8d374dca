use Rattle.std.proofs.Common.{ap, ◌∙◌}
use Rattle.data_instructions.specs.declared.instruction.DataInstruction.{DataInstruction}
use Rattle.data_instructions.specs.ArithmeticCodes.{duplicate}
use Rattle.declarations.specs.Named.{items_in}
use Rattle.condition_codegen.specs.Fragments.{append}
use Rattle.condition_codegen.specs.DataCode.{work_fragment}
use Rattle.condition_codegen.specs.ArithmeticCode.{store_fragment}
use Rattle.condition_codegen.proofs.Sequences.{ends_so}
use Rattle.statement_codegen.proofs.arithmetic.emit_give.Goals as goal

pub returns : goal.returns
returns c =
    let old = c.args.code.now in
    ends_so c.emit_taking.result (work_fragment (duplicate 0))
    (store_fragment (items_in c.args.emitter.now.declarations.now) c.args.keep c.args.one.now) old
    c.emit_work.new.code c.emit_taking.new.code
    (c.in_ok-emit_work.ensures ∙ ap (λ (one : DataInstruction). append old (work_fragment one old)) c.duplicate.ensures)
    c.emit_taking.ensures
