use Rattle.std.proofs.Common.{◌≡◌, drop}
use Rattle.data_instructions.specs.Shapes.{empty}
use Rattle.code_image.specs.Known.{known_along}
use Rattle.code_image.proofs.known.find_operands.Given as goal

-- What is known along all is what is known from here on.
abbrev pub invariant-loop-instruction : goal.invariant-loop-instruction
invariant-loop-instruction l = known_along l.code.tables l.code.instructions empty
    ≡ known_along l.code.tables (drop l.instruction-index l.code.instructions) l.shape
