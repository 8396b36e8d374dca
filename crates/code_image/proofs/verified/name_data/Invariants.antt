use Rattle.std.proofs.Common.{All, take}
use Rattle.code_image.specs.Demands.{NamesData}
use Rattle.code_image.proofs.verified.name_data.Given as goal

abbrev pub invariant-loop-instruction : goal.invariant-loop-instruction
invariant-loop-instruction l = All (NamesData l.tables) (take l.instruction-index l.instructions)
