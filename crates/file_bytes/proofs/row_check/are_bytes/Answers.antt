use Rattle.file_bytes.proofs.Checked.{all_bytes}
use Rattle.file_bytes.proofs.row_check.are_bytes.Goals as goal

pub returns : goal.returns
returns c = all_bytes c.args._bytes.now c.type_inv._bytes
