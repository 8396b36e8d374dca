use Rattle.btree.specs.Calls.{OnPages}
use Rattle.volume_format.specs.Calls.{LooksAt}
use Rattle.file_recovery.proofs.Following.{Marked}
use Rattle.file_recovery.proofs.chained.check_chain.Given as goal

abbrev pub invariant-loop-place : goal.invariant-loop-place
invariant-loop-place g l = record {
  looks : LooksAt g.D.Device ⊥ l.fn.pages l.fn.device l.pages l.device;
  marked : OnPages g.D.Device l.fn.pages l.fn.device
      (λ before. Marked before l.place l.first l.page l.fn.seen l.seen);
}
