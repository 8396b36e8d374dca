use Rattle.std.proofs.Common.{Option, refl, ap, ◌∙◌}
use Rattle.picture.specs.declared.picture.Picture.{Picture}
use Rattle.file_descriptions.specs.Files.{file_in}
use Rattle.declarations.specs.Named.{items_in}
use Rattle.statement_codegen.specs.FileCode.{sent_entry}
use Rattle.codegen.specs.Sent.{edits, first_editing}
use Rattle.codegen.proofs.StorageItems.{first_is}
use Rattle.codegen.proofs.storage.sent_entry.Goals as goal

pub returns : goal.returns
returns c =
    let items = items_in c.args.declarations.now in
    let file = c.args.file.now in
    ap (λ (editing : Option Picture). record (sent_entry items (file_in items file)) { editing = editing })
    (c.in_ok-sent_editing.ensures
    ∙ ap (first_editing (edits file)) (c.as_slice.ensures ∙ c.args.declarations.now.declared.items)
    ∙ first_is file (file_in items file) items refl refl)
