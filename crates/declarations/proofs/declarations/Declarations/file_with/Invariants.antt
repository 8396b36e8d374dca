use Rattle.declarations.specs.Named.{items_in}
use Rattle.declarations.proofs.FilesFound.{AreSought}
use Rattle.declarations.proofs.declarations.Declarations.file_with.Given as goal

abbrev pub invariant-loop-file : goal.invariant-loop-file
invariant-loop-file l = AreSought (items_in l.self) l.area l.file-items l.file-index l.found
