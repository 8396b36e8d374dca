use Rattle.std.proofs.Common.{arith}
use Rattle.layout.proofs.Kept.{fits, not_many}
use Rattle.layout.proofs.storage.storage_areas.Goals as goal

pub areas-init : goal.areas-init
areas-init c =
    let few = not_many c.args.entries.now c.requires in
    record { fits = fits c.args.entries.now c.requires; few = omega arith; counted = omega arith }
