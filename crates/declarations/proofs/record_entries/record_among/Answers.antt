use Rattle.std.proofs.Common.{List, ◌+◌, ◌++◌, drop, sym, ap, ◌∙◌}
use Rattle.source_tree.specs.declared.entry.Entry.{Entry}
use Rattle.source_tree.specs.declared.select.FileDescription.{FileDescription}
use Rattle.declarations.specs.Entries.{items_among, items_of_files}
use Rattle.declarations.proofs.EntryNumbers.{behind_file, behind_found, files_at}
use Rattle.declarations.proofs.record_entries.record_among.Goals as goal

pub returns-in-Ok : goal.returns-in-Ok
returns-in-Ok c =
    let rest = items_of_files (drop (c.loop-file.file-index + 1) c.args.files.now) in
    behind_found (items_among c.as_slice.result.now) rest c.in-Ok.one.now
    (files_at c.args.files.now c.loop-file.file-index c.file-item.result c.loop-file-test.true
    ∙ ap (λ (x : FileDescription). items_among x.entries ++ rest) (sym c.file-item.is)
    ∙ ap (λ (l : List Entry). items_among l ++ rest) (sym c.as_slice.ensures))
    c.loop-file.invariant c.in-Ok.ensures

pub loop-file-preserved : goal.loop-file-preserved
loop-file-preserved c =
    let rest = items_of_files (drop (c.loop-file.file-index + 1) c.args.files.now) in
    behind_file (items_among c.as_slice.result.now) rest c.in-Err.behind
    (files_at c.args.files.now c.loop-file.file-index c.file-item.result c.loop-file-test.true
    ∙ ap (λ (x : FileDescription). items_among x.entries ++ rest) (sym c.file-item.is)
    ∙ ap (λ (l : List Entry). items_among l ++ rest) (sym c.as_slice.ensures))
    c.loop-file.invariant c.in-Err.ensures
