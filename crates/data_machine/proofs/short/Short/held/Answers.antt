use Rattle.std.proofs.Common.{unsigned_abs}
use Rattle.items.proofs.Bounds.{below}
use Rattle.data_machine.proofs.short.Short.held.Goals as goal

pub short_coefficient-requires : goal.short_coefficient-requires
short_coefficient-requires c =
    below (unsigned_abs c.args.x.coefficient) c.args.item.digits 18 c.requires.holds.digits c.requires.item.most
