use Rattle.std.proofs.Common.{length}
use Rattle.file_verbs.proofs.barring.+is_name_open.Given as goal

abbrev pub decreases-is_name_open : goal.decreases-is_name_open
decreases-is_name_open l = length l.links.now
