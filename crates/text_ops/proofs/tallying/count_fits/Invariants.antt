use Rattle.std.proofs.Common.{◌≤◌, ◌-◌, length}
use Rattle.text_ops.specs.Walk.{AreActive, walk}
use Rattle.text_ops.specs.Beginnings.{AreMarked}
use Rattle.text_ops.proofs.Counts.{TalliesUpTo}
use Rattle.text_ops.proofs.tallying.count_fits.Given as goal

abbrev pub invariant-loop-at : goal.invariant-loop-at
invariant-loop-at l = record {
  bound : l.at ≤ length l.fn.subject;
  within : AreActive l.active (length l.fn.texts);
  marked : AreMarked l.fn.texts l.marks l.active;
  tally : TalliesUpTo l.fn.texts l.active l.at l.fn.subject l.counts
      (walk (length l.fn.subject) l.fn.texts l.fn.active 0 l.fn.subject);
}

abbrev pub decreases-loop-at : goal.decreases-loop-at
decreases-loop-at l = length l.fn.subject - l.at
