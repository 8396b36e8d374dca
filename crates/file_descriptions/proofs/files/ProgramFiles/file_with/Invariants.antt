use Rattle.std.proofs.Common.{◌≡◌, List, drop, map}
use Rattle.source_tree.specs.Places.{LocatedItem}
use Rattle.source_tree.specs.LookUp.{first}
use Rattle.source_tree.specs.ProgramFiles.{files_with}
use Rattle.file_descriptions.specs.Files.{file_in}
use Rattle.file_descriptions.proofs.files.ProgramFiles.file_with.Given as goal

-- those before have other areas
abbrev pub invariant-loop-file : goal.invariant-loop-file
invariant-loop-file l = (items : List LocatedItem) →
    first (files_with (map (file_in items) l.self.files.items) l.area)
    ≡ first (files_with (map (file_in items) (drop l.file-index l.file-items)) l.area)
