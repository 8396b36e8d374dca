use Rattle.std.proofs.Common.{◌≡◌, ◌++◌, All, take}
use Rattle.std.specs.List.{flat_map}
use Rattle.file_image.specs.Spelling.{alternate_bytes, IsAlternateSpelled}
use Rattle.file_image.proofs.key.put_alternates.Given as goal

abbrev pub invariant-loop-key : goal.invariant-loop-key
invariant-loop-key l = record {
  bytes : l.out.items ≡ l.initial.out.items ++ flat_map alternate_bytes (take l.key-index l.keys);
  fits : All IsAlternateSpelled (take l.key-index l.keys);
}
