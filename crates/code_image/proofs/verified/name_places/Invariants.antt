use Rattle.std.proofs.Common.{All, take}
use Rattle.file_image.specs.Files.{NamesPlaces}
use Rattle.code_image.proofs.verified.name_places.Given as goal

abbrev pub invariant-loop-file : goal.invariant-loop-file
invariant-loop-file l = All (NamesPlaces l.tables) (take l.file-index l.files)
