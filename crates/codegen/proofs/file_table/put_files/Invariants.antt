use Rattle.std.proofs.Common.{◌≡◌, take}
use Rattle.std.specs.Prelude.{map}
use Rattle.codegen.specs.Sent.{code_in}
use Rattle.codegen.proofs.file_table.put_files.Given as goal

abbrev pub invariant-loop-file : goal.invariant-loop-file
invariant-loop-file l = l.files ≡ map code_in (take l.file-index l.declarations.files.files.items)
