use Rattle.std.proofs.Common.{[], ◌∷◌}
use Rattle.code_image.specs.declared.code.Code.{Code}
use Rattle.code_image.specs.declared.instruction.Instruction.TheVariants.{Jump}
use Rattle.condition_codegen.specs.Fragments.{plain_code}
use Rattle.condition_codegen.specs.Meeting.{join_code}
use Rattle.condition_codegen.proofs.Sequences.{then_piece}
use Rattle.condition_codegen.proofs.branches.emit_jump.Goals as goal

pub returns-clause-code : goal.returns-clause-code
returns-clause-code c =
    then_piece (λ (before : Code). plain_code (Jump 0 ∷ [])) (λ (before : Code). join_code) c.args.code.now
    c.emit_instruction.new.code c.emit_instruction-2.new.code c.in_ok-emit_instruction.ensures
    c.in_ok-emit_instruction-2.ensures
