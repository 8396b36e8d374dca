use Rattle.std.proofs.Common.{◌≤◌, ◌-◌, length}
use Rattle.std.specs.Prelude.{max}
use Rattle.chains.proofs.buffer.RecordBuffer.grow.Given as goal

abbrev pub invariant-loop-self : goal.invariant-loop-self
invariant-loop-self l = record {
  kept : length l.fn.self.pages.items ≤ length l.self.pages.items;
  most : length l.self.pages.items ≤ max l.count (length l.fn.self.pages.items);
}

abbrev pub decreases-loop-self : goal.decreases-loop-self
decreases-loop-self l = l.count - length l.self.pages.items
