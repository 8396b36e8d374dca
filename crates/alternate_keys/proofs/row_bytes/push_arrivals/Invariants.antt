use Rattle.std.proofs.Common.{◌≡◌, ◌++◌, take}
use Rattle.std.specs.Prelude.{map}
use Rattle.std.specs.List.{flat_map}
use Rattle.byteorder.specs.Endian.{big_bytes}
use Rattle.alternate_keys.proofs.row_bytes.push_arrivals.Given as goal

abbrev pub invariant-loop-key : goal.invariant-loop-key
invariant-loop-key l =
    l.out.items ≡ l.initial.out.items ++ flat_map (big_bytes 8) (map (λ key. l.arrival) (take l.key-index l.keys))
