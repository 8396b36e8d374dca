use Rattle.std.proofs.Common.{ℕ, List, ◌++◌, ◌∙◌, ap, arith}
use Rattle.file_bytes.specs.Stored.{named_of}
use Rattle.volume_commands.specs.Stat.{rows_line}
use Rattle.volume_commands.proofs.Lines.{lines_all}
use Rattle.volume_commands.proofs.stat.push_rows.Goals as goal

pub returns : goal.returns
returns c = c.loop-file.invariant
    ∙ ap (λ (l : List ℕ). c.args.out.now.items ++ l)
    (lines_all named_of rows_line c.args.files.now c.loop-file.file-index
    (omega (arith, c.loop-file-test.false, c.loop-file.auto.file-index-end)))
