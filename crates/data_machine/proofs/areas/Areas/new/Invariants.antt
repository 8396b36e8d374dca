use Rattle.std.proofs.Common.{◌≡◌, take}
use Rattle.data_machine.specs.Areas.{storage_of}
use Rattle.data_machine.proofs.areas.Areas.new.Given as goal

abbrev pub invariant-loop-area : goal.invariant-loop-area
invariant-loop-area l = storage_of l.areas.items ≡ take l.area-index l.start
