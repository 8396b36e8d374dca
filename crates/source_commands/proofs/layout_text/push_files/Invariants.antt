use Rattle.std.proofs.Common.{◌≡◌, ◌++◌, List, drop}
use Rattle.source_tree.specs.declared.program.Program.{Program}
use Rattle.source_tree.specs.Places.{LocatedItem}
use Rattle.source_tree.specs.ProgramFiles.{files_of}
use Rattle.file_descriptions.specs.Files.{AreFiles}
use Rattle.source_commands.specs.Layout.{file_lines}
use Rattle.source_commands.proofs.layout_text.push_files.Given as goal

abbrev pub invariant-loop-one : goal.invariant-loop-one
invariant-loop-one l = (all : List LocatedItem) (program : Program) → AreFiles all program l.files
    → l.out.items ++ file_lines (files_of all program) l.rest (drop l.one-index l.descriptions)
    ≡ l.initial.out.items ++ file_lines (files_of all program) l.initial.rest l.descriptions
