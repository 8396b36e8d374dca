use Rattle.std.proofs.Common.{All, take}
use Rattle.file_image.specs.Files.{IsCodeFile}
use Rattle.code_image.proofs.verified.are_code_files.Given as goal

abbrev pub invariant-loop-file : goal.invariant-loop-file
invariant-loop-file l = All (IsCodeFile l.tables) (take l.file-index l.files)
