use Rattle.std.proofs.Common.{List, [], ◌++◌, ap, ◌∙◌}
use Rattle.std.specs.Prelude.{◌==◌, filter, map, Option}
use Rattle.std.specs.Borrow.{Bor}
use Rattle.std.proofs.lemmas.List.{drop_all}
use Rattle.source_tree.specs.ProgramFiles as tree
use Rattle.file_descriptions.specs.declared.file.ProgramFile.{ProgramFile}
use Rattle.file_descriptions.specs.Files.{file_in}
use Rattle.declarations.specs.Named.{data_in, items_in}
use Rattle.declarations.proofs.FilesFound.{listed, of_program, second_in_area}
use Rattle.declarations.proofs.LookedUp.{unknown}
use Rattle.declarations.proofs.declarations.Declarations.file_with.Goals as goal

pub returns-in-None : goal.returns-in-None
returns-in-None c =
    let all = c.args.self.now in
    let items = items_in all in
    let files = c.deref-file-items.result.now in
    unknown c.args.place (tree.files_with (tree.files_of items (data_in all)) c.args.area)
    (of_program items (data_in all) all.files.files.items files c.args.area _ all.declared.files.files
    c.deref-file-items.ensures.value
    (c.loop-file.invariant.same
    ∙ ap (λ (l : List ProgramFile). listed items c.args.area c.loop-file.found
    ++ filter (λ (one : tree.ProgramFile). one.places.area == c.args.area) (map (file_in items) l))
    (drop_all c.loop-file.file-index files c.loop-file-test.false)
    ∙ ap (λ (o : Option (Bor ProgramFile)). listed items c.args.area o ++ []) c.in-None.is))

pub returns-in-Some : goal.returns-in-Some
returns-in-Some c =
    let all = c.args.self.now in
    second_in_area (items_in all) (data_in all) all.files.files.items c.deref-file-items.result.now c.args.area
    c.loop-file.file-index c.args.place c.loop-file.found c.in-Some.field-0 c.file-item.result all.declared.files.files
    c.deref-file-items.ensures.value c.loop-file.invariant c.in-Some.is c.loop-file-test.true c.file-item.is
    c.if-file-area.true
