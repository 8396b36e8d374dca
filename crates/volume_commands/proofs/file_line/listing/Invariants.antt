use Rattle.std.proofs.Common.{◌≡◌, take}
use Rattle.std.specs.List.{flat_map}
use Rattle.file_bytes.specs.Stored.{named_of}
use Rattle.volume_commands.specs.Listing.{file_line}
use Rattle.volume_commands.proofs.file_line.listing.Given as goal

abbrev pub invariant-loop-file : goal.invariant-loop-file
invariant-loop-file l = l.text.items ≡ flat_map (λ file. file_line (named_of file)) (take l.file-index l.files)
