use Rattle.std.proofs.Common.{subst, sym}
use Rattle.source_tree.specs.Levels.{forest_of}
use Rattle.source_tree.specs.Clauses.{nothing_around}
use Rattle.layout.specs.Fits.{Fits}
use Rattle.layout.proofs.KeptFiles.{description_fits}
use Rattle.layout.proofs.file_records.record_length.Goals as goal

pub longest-requires : goal.longest-requires
longest-requires c = subst (λ l. Fits nothing_around (forest_of l)) (sym c.as_slice.ensures)
    (description_fits c.args.file.now c.requires)
