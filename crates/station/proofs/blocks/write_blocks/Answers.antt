use Rattle.std.proofs.Common.{refl, inr, arith}
use Rattle.station.specs.Blocks.{IsWriting}
use Rattle.station.proofs.Spans.{stays}
use Rattle.station.proofs.Writes.{next_wrote, start_writing, next_moments}
use Rattle.station.proofs.Calls.{writes_nothing, writes, writes_then}
use Rattle.station.proofs.blocks.write_blocks.Goals as goal

pub loop-block-init : goal.loop-block-init
loop-block-init g c =
    let start = g.D.Device.state c.args.device.now in
    record {
      only = writes_nothing g.D.Device c.args.device.now;
      wrote = λ honest. refl;
      moments = λ honest disk. stays (g.D.Device.history c.args.device.now) start (IsWriting start.events
          start.disk.present c.args.blocks.now) (start_writing start start.disk.present c.args.blocks.now disk);
    }

pub returns-in_err-write-clause-only : goal.returns-in_err-write-clause-only
returns-in_err-write-clause-only g c =
    writes_then g.D.Device _ _ _ _ _ _ (λ _. inr refl) c.loop-block.invariant.only
    (writes g.D.Device _ _ _ _ _ c.write.ensures.honest c.write.ensures.sectors c.in_err-write.ensures.failures
    c.write.ensures.perhaps)

pub returns-in_err-write-clause-moments : goal.returns-in_err-write-clause-moments
returns-in_err-write-clause-moments g c = λ honest disk.
    let honest' = c.loop-block.invariant.only.honest.0 honest in
    next_moments _ _ _ _ _ c.args.blocks.now _ _ c.loop-block.block-index _ c.block-item.result _
    (omega arith) c.block-item.is c.view.ensures (c.loop-block.invariant.moments honest disk)
    (c.write.ensures.moves honest') (c.write.ensures.perhaps honest')

pub loop-block-preserved : goal.loop-block-preserved
loop-block-preserved g c = record {
  only = writes_then g.D.Device _ _ _ _ _ _ (λ never. absurd never) c.loop-block.invariant.only (writes g.D.Device _ _ _
      _ _ c.write.ensures.honest c.write.ensures.sectors c.write.ensures.failures c.write.ensures.perhaps);
  wrote = λ honest. next_wrote (g.D.Device.state c.args.device.now) c.args.blocks.now _ _ c.loop-block.block-index _
      c.block-item.result _ (omega arith) c.block-item.is c.view.ensures (c.loop-block.invariant.wrote honest)
      (c.in_ok-write.ensures.wrote (c.loop-block.invariant.only.honest.0 honest));
  moments = λ honest disk.
      let honest' = c.loop-block.invariant.only.honest.0 honest in
      next_moments _ _ _ _ _ c.args.blocks.now _ _ c.loop-block.block-index _ c.block-item.result _ (omega arith)
      c.block-item.is c.view.ensures (c.loop-block.invariant.moments honest disk) (c.write.ensures.moves honest')
      (c.write.ensures.perhaps honest');
}
