use Rattle.std.proofs.Common.{All, take}
use Rattle.code_image.specs.Demands.{NamesFile}
use Rattle.code_image.proofs.verified.name_files.Given as goal

abbrev pub invariant-loop-instruction : goal.invariant-loop-instruction
invariant-loop-instruction l = All (NamesFile l.count) (take l.instruction-index l.instructions)
