use Rattle.std.proofs.Common.{◌/◌, ◌%◌, arith}
use Rattle.pages.proofs.Spellings.{table_set}
use Rattle.pages.proofs.table.SectorTable.set.Goals as goal

pub invariant_of-self : goal.invariant_of-self
invariant_of-self c =
    table_set c.self.inside.sectors.items c.self.inside.maps.items (c.args.page / 1024) (c.args.page % 1024) c.args.page
    c.args.sector c.index_mut-2.result.now c.put_number.new.bytes
    c.self.invariant (omega arith) (omega arith) (rw c.self.view_is c.requires) c.ranges.sector.fits
    c.index_mut-2.ensures.value c.put_number.ensures
