use Rattle.std.proofs.Common.{◌≤◌, ◌++◌, length, subst, sym, ap, ◌∙◌, arith}
use Rattle.source_tree.specs.Levels.{forest_of}
use Rattle.source_tree.specs.Clauses.{nothing_around}
use Rattle.source_tree.specs.EntryRules.{most_entries, most_storage}
use Rattle.source_tree.specs.Records.{storage_areas}
use Rattle.layout.specs.Fits.{Fits, FitFiles}
use Rattle.layout.specs.Placing.{storage_items, file_items}
use Rattle.layout.proofs.Kept.{fits, not_many}
use Rattle.layout.proofs.KeptFiles.{files_fit, not_many_files}
use Rattle.layout.proofs.Agreement.{of_program}
use Rattle.layout.proofs.program.Layout.of.Goals as goal

pub place_storage-requires-clause-fits : goal.place_storage-requires-clause-fits
place_storage-requires-clause-fits c =
    let storage = c.args.program.now.storage in
    subst (λ l. Fits nothing_around (forest_of l)) (sym c.as_slice-storage.ensures) (fits storage c.requires.storage)

pub place_storage-requires-clause-most : goal.place_storage-requires-clause-most
place_storage-requires-clause-most c =
    let storage = c.args.program.now.storage in
    subst (λ l. length l ≤ most_entries) (sym c.as_slice-storage.ensures) (not_many storage c.requires.storage)

pub place_files-requires-clause-fits : goal.place_files-requires-clause-fits
place_files-requires-clause-fits c =
    let program = c.args.program.now in
    subst FitFiles (sym c.as_slice.ensures) (files_fit program.storage program.files c.requires.files)

pub place_files-requires-clause-areas : goal.place_files-requires-clause-areas
place_files-requires-clause-areas c =
    let program = c.args.program.now in
    let most = c.storage_areas-areas.ensures.most in
    let same = ap length c.as_slice.ensures in
    let few : length program.files ≤ most_storage = not_many_files program.storage program.files c.requires.files in
    omega arith

pub returns : goal.returns
returns c =
    let program = c.args.program.now in
    c.from_vec.ensures ∙ c.in_ok-place_files.ensures
    ∙ ap (λ l. l ++ file_items c.storage_areas-areas.result c.as_slice.result.now)
    (c.in_ok-place_storage.ensures
    ∙ ap (λ l. l ++ storage_items 0 (forest_of c.as_slice-storage.result.now)) c.new-items.ensures.items)
    ∙ ap (λ n. storage_items 0 (forest_of c.as_slice-storage.result.now) ++ file_items n c.as_slice.result.now)
    c.storage_areas-areas.ensures.value
    ∙ ap (λ l. storage_items 0 (forest_of l) ++ file_items (storage_areas l) c.as_slice.result.now)
    c.as_slice-storage.ensures
    ∙ ap (λ l. storage_items 0 (forest_of program.storage) ++ file_items (storage_areas program.storage) l)
    c.as_slice.ensures
    ∙ sym (of_program program)
