use Rattle.file_image.proofs.FileParts.{file_parts}
use Rattle.file_image.proofs.spelled.CodeFileTableEntry.read.Goals as goal

pub returns : goal.returns
returns c = rw (file_parts c.args.bytes.now) c.read_file.ensures
