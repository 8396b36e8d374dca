use Rattle.std.proofs.Common.{subst, arith}
use Rattle.std.specs.Io.KnownBytes.{Appends}
use Rattle.file_bytes.specs.Stored.{row_of}
use Rattle.volume_commands.specs.Dump.{row_line}
use Rattle.volume_commands.proofs.Beginnings.{on_err, begins_after}
use Rattle.volume_commands.proofs.Lines.{lines_all, lines_split}
use Rattle.volume_commands.proofs.dump.write_rows.Goals as goal

pub returns-in_err-write_row-clause-beginning : goal.returns-in_err-write_row-clause-beginning
returns-in_err-write_row-clause-beginning g c =
    let rows = c.args.rows.now in
    let split = lines_split row_of row_line rows c.loop-row.row-index c.row-item.result
    c.loop-row-test.true c.row-item.is in
    on_err _ _ (begins_after _ _ _ _ _ _ _ split c.loop-row.invariant c.in_err-write_row.ensures.beginning)

pub returns-clause-whole : goal.returns-clause-whole
returns-clause-whole g c =
    let all = lines_all row_of row_line c.args.rows.now c.loop-row.row-index
    (omega (arith, c.loop-row-test.false, c.loop-row.auto.row-index-end)) in
    subst (Appends _ _) all c.loop-row.invariant
