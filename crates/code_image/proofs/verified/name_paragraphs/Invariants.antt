use Rattle.std.proofs.Common.{All, take}
use Rattle.code_image.specs.Demands.{NamesParagraph}
use Rattle.code_image.proofs.verified.name_paragraphs.Given as goal

abbrev pub invariant-loop-instruction : goal.invariant-loop-instruction
invariant-loop-instruction l = All (NamesParagraph l.count) (take l.instruction-index l.instructions)
