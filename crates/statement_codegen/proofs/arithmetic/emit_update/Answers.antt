use Rattle.std.proofs.Common.{[], ◌∷◌, ap, ◌∙◌}
use Rattle.data_instructions.specs.declared.instruction.DataInstruction.{DataInstruction}
use Rattle.data_instructions.specs.declared.instruction.DataInstruction.TheVariants as i
use Rattle.data_instructions.specs.ArithmeticCodes.{operator_code, duplicate}
use Rattle.declarations.specs.Named.{items_in}
use Rattle.condition_codegen.specs.Fragments.{append}
use Rattle.condition_codegen.specs.DataCode.{works_fragment, take_fragment}
use Rattle.condition_codegen.specs.ArithmeticCode.{store_fragment}
use Rattle.condition_codegen.proofs.Sequences.{three_so}
use Rattle.statement_codegen.proofs.arithmetic.emit_update.Goals as goal

pub returns : goal.returns
returns c =
    let items = items_in c.args.emitter.now.declarations.now in
    let taken = c.emit_taking.new.code in
    three_so c.emit_taking-2.result (take_fragment items i.Push c.args.item.now)
    (works_fragment (duplicate 1 ∷ operator_code c.args.operator ∷ []))
    (store_fragment items c.args.keep (record { item = c.args.item.now; rounded = c.args.rounded })) c.args.code.now
    taken c.emit_works.new.code c.emit_taking-2.new.code c.in_ok-emit_taking.ensures
    (c.in_ok-emit_works.ensures
    ∙ ap (λ (one : DataInstruction). append taken (works_fragment (one ∷ c.operator_code.result ∷ []) taken))
    c.duplicate.ensures
    ∙ ap (λ (one : DataInstruction). append taken (works_fragment (duplicate 1 ∷ one ∷ []) taken))
    c.operator_code.ensures) c.emit_taking-2.ensures
