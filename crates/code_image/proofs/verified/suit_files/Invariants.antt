use Rattle.std.proofs.Common.{All, take}
use Rattle.file_image.specs.Files.{entries_of}
use Rattle.code_image.specs.Demands.{SuitsFile}
use Rattle.code_image.proofs.verified.suit_files.Given as goal

abbrev pub invariant-loop-instruction : goal.invariant-loop-instruction
invariant-loop-instruction l =
    All (SuitsFile (entries_of l.code.tables l.code.files)) (take l.instruction-index l.instructions)
