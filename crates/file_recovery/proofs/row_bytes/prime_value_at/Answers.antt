use Rattle.std.proofs.Common.{◌∙◌}
use Rattle.records.specs.Stores.{spec_of}
use Rattle.file_recovery.proofs.Placed.{prime_placed, sized_at}
use Rattle.file_recovery.proofs.row_bytes.prime_value_at.Goals as goal

pub prime_value-requires : goal.prime_value-requires
prime_value-requires c =
    (sized_at (spec_of c.args.file.now) c.args.rows.now c.args.place c.index-rows-place.result c.requires.place
    c.index-rows-place.is c.requires.rows).0

pub returns : goal.returns
returns c =
    c.prime_value.ensures
    ∙ prime_placed (spec_of c.args.file.now) c.args.rows.now c.args.place c.index-rows-place.result c.requires.place
    c.index-rows-place.is
