use Rattle.std.proofs.Common.{◌≡◌, ap, subst, sym, ◌∙◌, rules}
use Rattle.std.specs.Prelude.{map, length}
use Rattle.std.specs.List.{AllByRecursion}
use Rattle.source_tree.specs.Levels.{forest_of}
use Rattle.source_tree.specs.Clauses.{nothing_around}
use Rattle.source_tree.specs.Records.{program_areas}
use Rattle.initial_storage.specs.Fits.{Fits, FitsFile}
use Rattle.initial_storage.proofs.Kept.{fits}
use Rattle.initial_storage.proofs.KeptFiles.{files_fit}
use Rattle.initial_storage.proofs.Lengths.{program_lengths}
use Rattle.initial_storage.proofs.storage.InitialStorage.of.Goals as goal

pub put_areas-requires : goal.put_areas-requires
put_areas-requires c =
    let storage = c.args.program.now.storage in
    subst (λ l. Fits nothing_around (forest_of l)) (sym c.as_slice.ensures)
    (fits storage c.requires.storage (c.levels_are_told.ensures storage c.requires.storage))

pub put_record_areas-requires : goal.put_record_areas-requires
put_record_areas-requires c =
    let program = c.args.program.now in
    subst (AllByRecursion FitsFile) (sym c.as_slice-2.ensures)
    (files_fit program.storage program.files c.requires.files c.record_levels_are_told.ensures)

pub returns-clause-lengths : goal.returns-clause-lengths
returns-clause-lengths c =
    let bytes : c.from_vec.result ≡ program_areas c.args.program.now = search rules in
    ap (map length) bytes ∙ program_lengths c.args.program.now
