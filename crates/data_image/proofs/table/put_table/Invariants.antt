use Rattle.std.proofs.Common.{◌≡◌, ◌++◌, All, take}
use Rattle.std.specs.List.{flat_map}
use Rattle.data_image.proofs.table.put_table.Given as goal

abbrev pub invariant-loop-entry : goal.invariant-loop-entry
invariant-loop-entry g l = record {
  bytes : l.out.items ≡ l.initial.out.items ++ flat_map g.T.TableEntry.spelled (take l.entry-index l.entries);
  fits : All g.T.TableEntry.fits (take l.entry-index l.entries);
}
