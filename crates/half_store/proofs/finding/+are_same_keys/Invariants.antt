use Rattle.std.proofs.Common.{length}
use Rattle.half_store.proofs.finding.+are_same_keys.Given as goal

abbrev pub decreases-are_same_keys : goal.decreases-are_same_keys
decreases-are_same_keys l = length l.ones.now
