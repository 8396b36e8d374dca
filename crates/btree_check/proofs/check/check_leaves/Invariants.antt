use Rattle.std.proofs.Common.{take}
use Rattle.btree.specs.Calls.{OnPages}
use Rattle.btree_check.specs.Walks.{separator_pages}
use Rattle.btree_check.proofs.LevelReads.{ReadsPages, FindsInOrder}
use Rattle.btree_check.proofs.check.check_leaves.Given as goal

abbrev pub invariant-loop-place : goal.invariant-loop-place
invariant-loop-place g l = record {
  reads : ReadsPages g.D.Device l.fn.pages l.pages l.fn.device l.device l.fn.seen l.seen
      (separator_pages (take l.place l.separators));
  level : OnPages g.D.Device l.fn.pages l.fn.device
      (λ pages. FindsInOrder l.fn.layout pages l.separators l.place);
}
