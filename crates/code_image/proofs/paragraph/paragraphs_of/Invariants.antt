use Rattle.code_image.proofs.Paragraphs.{IsTableTo}
use Rattle.code_image.proofs.paragraph.paragraphs_of.Given as goal

abbrev pub invariant-loop-instruction : goal.invariant-loop-instruction
invariant-loop-instruction l = IsTableTo l.instructions l.instruction-index l.number l.paragraphs.items
