use Rattle.std.proofs.Common.{◌≤◌, length, take}
use Rattle.btree.specs.Calls.{OnPages}
use Rattle.btree_check.specs.Walks.{separator_pages, FindsInner}
use Rattle.btree_check.proofs.LevelReads.{ReadsPages}
use Rattle.btree_check.proofs.check.check_inner.Given as goal

abbrev pub invariant-loop-place : goal.invariant-loop-place
invariant-loop-place g l = record {
  reads : ReadsPages g.D.Device l.fn.pages l.pages l.fn.device l.device l.fn.seen l.seen
      (separator_pages (take l.place l.separators));
  more : l.place ≤ length l.lower.items;
  few : length l.lower.items ≤ length l.fn.seen;
  level : OnPages g.D.Device l.fn.pages l.fn.device
      (λ pages. FindsInner l.fn.layout pages (take l.place l.separators) l.lower.items);
}
