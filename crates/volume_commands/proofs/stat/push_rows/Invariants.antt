use Rattle.std.proofs.Common.{◌≡◌, ◌++◌, take}
use Rattle.std.specs.List.{flat_map}
use Rattle.file_bytes.specs.Stored.{named_of}
use Rattle.volume_commands.specs.Stat.{rows_line}
use Rattle.volume_commands.proofs.stat.push_rows.Given as goal

abbrev pub invariant-loop-file : goal.invariant-loop-file
invariant-loop-file l =
    l.out.items ≡ l.initial.out.items ++ flat_map (λ file. rows_line (named_of file)) (take l.file-index l.files)
