use Rattle.std.proofs.Common.{take}
use Rattle.std.specs.List.{flat_map}
use Rattle.std.specs.Io.KnownBytes.{Appends}
use Rattle.file_bytes.specs.Stored.{row_of}
use Rattle.volume_commands.specs.Dump.{row_line}
use Rattle.volume_commands.proofs.dump.write_rows.Given as goal

abbrev pub invariant-loop-row : goal.invariant-loop-row
invariant-loop-row g l =
    Appends (g.W.Write.contents l.initial.out) (g.W.Write.contents l.out)
    (flat_map (λ row. row_line (row_of row)) (take l.row-index l.rows))
