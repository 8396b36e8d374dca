use Rattle.std.proofs.Common.{List, subst, ap, ◌∙◌}
use Rattle.std.specs.Prelude.{map}
use Rattle.source_tree.specs.declared.select.Select.{Select}
use Rattle.source_tree.specs.Records.{program_items}
use Rattle.layout.specs.Placing.{placed_item}
use Rattle.name_table.specs.Files.{AreFileNames}
use Rattle.name_table.specs.Items.{called_item}
use Rattle.file_descriptions.proofs.KeptClauses.{descriptions_kept, selects_kept}
use Rattle.file_descriptions.proofs.SourceData.{same_items, data_kept, clauses_kept, files_are, numbers_are}
use Rattle.file_descriptions.proofs.files.ProgramFiles.of.Goals as goal

pub put_files-requires-clause-source : goal.put_files-requires-clause-source
put_files-requires-clause-source c =
    let same =
    same_items c.args.program.now c.as_slice.result.now c.as_slice-2.result.now c.as_slice.ensures c.as_slice-2.ensures
    in record {
      table = c.requires.table;
      calls = c.requires.calls ∙ ap (map called_item) same;
      items = c.requires.items ∙ ap (map placed_item) same;
    }

pub put_files-requires-clause-descriptions : goal.put_files-requires-clause-descriptions
put_files-requires-clause-descriptions c =
    let program = c.args.program.now in
    data_kept program c.as_slice.result.now c.as_slice-2.result.now c.as_slice.ensures c.as_slice-2.ensures
    (descriptions_kept (program_items program) program c.requires.storage c.requires.rules)

pub put_files-requires-clause-clauses : goal.put_files-requires-clause-clauses
put_files-requires-clause-clauses c =
    let program = c.args.program.now in
    clauses_kept program c.as_slice.result.now c.as_slice-2.result.now c.as_slice.ensures c.as_slice-2.ensures
    c.as_slice-selects.result.now c.as_slice-selects.ensures
    (selects_kept (program_items program) program c.requires.rules)

pub returns : goal.returns
returns c =
    let program = c.args.program.now in
    let storage = c.as_slice.result.now in
    let files = c.as_slice-2.result.now in
    let selects = c.as_slice-selects.result.now in
    record {
      files = files_are program storage files c.as_slice.ensures c.as_slice-2.ensures _ c.put_files.new.out.items
          selects c.new-files.ensures.items c.as_slice-selects.ensures c.in_ok-put_files.ensures.files;
      numbers = numbers_are program storage files c.as_slice.ensures c.as_slice-2.ensures _ c.put_files.new.out.items
          selects c.new-files.ensures.items c.as_slice-selects.ensures c.in_ok-put_files.ensures.numbers;
      names = subst (λ (l : List Select). AreFileNames l c.in_ok-names.names) c.as_slice-selects.ensures
          c.in_ok-names.ensures;
    }
