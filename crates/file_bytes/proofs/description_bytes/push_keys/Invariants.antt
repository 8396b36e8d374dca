use Rattle.std.proofs.Common.{◌≡◌, ◌++◌, take}
use Rattle.std.specs.List.{flat_map}
use Rattle.file_bytes.specs.Description.{key_bytes}
use Rattle.file_bytes.proofs.description_bytes.push_keys.Given as goal

abbrev pub invariant-loop-key : goal.invariant-loop-key
invariant-loop-key l = l.out.items ≡ l.initial.out.items ++ flat_map key_bytes (take l.key-index l.keys)
