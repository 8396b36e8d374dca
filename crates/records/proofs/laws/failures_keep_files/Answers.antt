use Rattle.records.proofs.Kept.{failures_keep_files}
use Rattle.records.proofs.laws.failures_keep_files.Goals as goal

pub returns : goal.returns
returns c = failures_keep_files
