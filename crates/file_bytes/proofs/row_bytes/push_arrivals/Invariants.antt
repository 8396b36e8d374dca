use Rattle.std.proofs.Common.{◌≡◌, ◌++◌, take}
use Rattle.std.specs.List.{flat_map}
use Rattle.byteorder.specs.Endian.{big_bytes}
use Rattle.file_bytes.proofs.row_bytes.push_arrivals.Given as goal

abbrev pub invariant-loop-arrival : goal.invariant-loop-arrival
invariant-loop-arrival l = l.out.items ≡ l.initial.out.items ++ flat_map (big_bytes 8) (take l.arrival-index l.arrivals)
