use Rattle.std.proofs.Common.{length}
use Rattle.entry_rules.proofs.position.+first_item.Given as goal

abbrev pub decreases-first_item : goal.decreases-first_item
decreases-first_item l = length l.entries.now
