use Rattle.std.proofs.Common.{◌∙◌, arith}
use Rattle.file_bytes.specs.Stored.{named_of}
use Rattle.volume_commands.specs.Listing.{file_line}
use Rattle.volume_commands.proofs.Lines.{lines_all}
use Rattle.volume_commands.proofs.file_line.listing.Goals as goal

pub returns : goal.returns
returns c = c.loop-file.invariant
    ∙ lines_all named_of file_line c.args.files.now c.loop-file.file-index
    (omega (arith, c.loop-file-test.false, c.loop-file.auto.file-index-end))
