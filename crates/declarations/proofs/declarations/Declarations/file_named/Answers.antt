use Rattle.declarations.specs.Named.{data_in, items_in}
use Rattle.file_descriptions.specs.Files.{file_in}
use Rattle.source_tree.specs.ProgramFiles.{files_named, files_of}
use Rattle.declarations.proofs.FilesFound.{none_first, once}
use Rattle.declarations.proofs.LookedUp.{unknown}
use Rattle.declarations.proofs.declarations.Declarations.file_named.Goals as goal

pub returns-in-Some : goal.returns-in-Some
returns-in-Some c =
    let all = c.args.self.now in
    let items = items_in all in
    let program = data_in all in
    c.files_named_once.ensures items program c.args.name.now (file_in items c.in-Some.file.now)
    (once items program all.declared.file_rules) (c.in-Some.ensures items program all.declared.files)

pub returns-in-None : goal.returns-in-None
returns-in-None c =
    let all = c.args.self.now in
    let items = items_in all in
    let program = data_in all in
    let found = files_named (files_of items program) c.args.name.now in
    unknown c.args.name.now.place found (none_first found (c.in-None.ensures items program all.declared.files))
