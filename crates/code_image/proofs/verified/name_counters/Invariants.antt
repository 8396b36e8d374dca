use Rattle.std.proofs.Common.{All, take}
use Rattle.code_image.specs.Demands.{NamesCounter}
use Rattle.code_image.proofs.verified.name_counters.Given as goal

abbrev pub invariant-loop-instruction : goal.invariant-loop-instruction
invariant-loop-instruction l = All (NamesCounter l.count) (take l.instruction-index l.instructions)
