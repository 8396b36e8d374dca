use Rattle.std.proofs.Common.{ap, ◌∙◌}
use Rattle.data_instructions.specs.declared.instruction.DataInstruction.{DataInstruction}
use Rattle.data_instructions.specs.ArithmeticCodes.{operator_code}
use Rattle.declarations.specs.Named.{items_in}
use Rattle.condition_codegen.specs.Fragments.{append, sequence}
use Rattle.condition_codegen.specs.DataCode.{work_fragment}
use Rattle.condition_codegen.specs.ArithmeticCode.{gives_fragment}
use Rattle.condition_codegen.proofs.Sequences.{ends_so}
use Rattle.statement_codegen.specs.Operations.{discard_fragment}
use Rattle.statement_codegen.proofs.arithmetic.emit_computed.Goals as goal

pub returns : goal.returns
returns c =
    let items = items_in c.args.emitter.now.declarations.now in
    let old = c.args.code.now in
    ends_so c.emit_giving.result (work_fragment (operator_code c.args.operator))
    (sequence (gives_fragment items c.args.keep c.args.all.now) discard_fragment) old c.emit_work.new.code
    c.emit_giving.new.code
    (c.in_ok-emit_work.ensures ∙ ap (λ (one : DataInstruction). append old (work_fragment one old))
    c.operator_code.ensures)
    c.emit_giving.ensures
