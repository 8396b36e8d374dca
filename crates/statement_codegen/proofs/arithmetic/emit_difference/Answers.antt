use Rattle.std.proofs.Common.{◌≡◌, List, [], ◌∷◌, ap, ◌∙◌}
use Rattle.source_tree.specs.declared.arithmetic.Receiver.{Receiver}
use Rattle.data_instructions.specs.declared.calculation.Calculation.TheVariants as calculation
use Rattle.data_instructions.specs.declared.instruction.DataInstruction.{DataInstruction}
use Rattle.data_instructions.specs.declared.instruction.DataInstruction.TheVariants as i
use Rattle.data_instructions.specs.ArithmeticCodes.{duplicate, discard}
use Rattle.declarations.specs.Named.{items_in}
use Rattle.code_image.specs.declared.code.Code.{Code}
use Rattle.condition_codegen.specs.Fragments.{append}
use Rattle.condition_codegen.specs.DataCode.{works_fragment}
use Rattle.condition_codegen.specs.ArithmeticCode.{gives_fragment}
use Rattle.condition_codegen.proofs.Sequences.{three_so, on_ok}
use Rattle.statement_codegen.proofs.arithmetic.emit_difference.Goals as goal

two_works : (code : Code) (a b x y : DataInstruction) → a ≡ x → b ≡ y
    → append code (works_fragment (a ∷ b ∷ []) code) ≡ append code (works_fragment (x ∷ y ∷ []) code)
two_works code a b x y p q = ap (λ (one : DataInstruction). append code (works_fragment (one ∷ b ∷ []) code)) p
    ∙ ap (λ (one : DataInstruction). append code (works_fragment (x ∷ one ∷ []) code)) q

pub returns : goal.returns
returns c =
    let items = items_in c.args.emitter.now.declarations.now in
    let old = c.args.code.now in
    let less = c.emit_works.new.code in
    let given = c.emit_gives.new.code in
    let subtract = i.Calculate calculation.Subtract in
    three_so c.emit_works-2.result (works_fragment (duplicate 1 ∷ subtract ∷ []))
    (gives_fragment items c.args.keep c.args.all.now) (works_fragment (discard ∷ discard ∷ [])) old less given
    c.emit_works-2.new.code (c.in_ok-emit_works.ensures ∙ two_works old c.duplicate.result c.operator_code.result
    (duplicate 1) subtract c.duplicate.ensures c.operator_code.ensures)
    (c.in_ok-emit_gives.ensures ∙ ap (λ (all : List Receiver). append less (gives_fragment items c.args.keep all less))
    c.as_slice.ensures) (on_ok c.emit_works-2.result c.emit_works-2.ensures (λ e. e ∙ two_works given c.discard.result
    c.discard-2.result discard discard c.discard.ensures c.discard-2.ensures))
