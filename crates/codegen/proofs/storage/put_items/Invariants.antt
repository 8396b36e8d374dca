use Rattle.std.proofs.Common.{◌≡◌, ◌++◌, take}
use Rattle.std.specs.Prelude.{map}
use Rattle.data_instructions.specs.Codes.{data_item}
use Rattle.file_descriptions.specs.Files.{file_in}
use Rattle.declarations.specs.Named.{items_in}
use Rattle.statement_codegen.specs.FileCode.{sent_entry}
use Rattle.codegen.proofs.storage.put_items.Given as goal

abbrev pub invariant-loop-file : goal.invariant-loop-file
invariant-loop-file l =
    l.items ≡ map data_item (items_in l.declarations)
    ++ map (λ file. sent_entry (items_in l.declarations) (file_in (items_in l.declarations) file))
    (take l.file-index l.declarations.files.files.items)
