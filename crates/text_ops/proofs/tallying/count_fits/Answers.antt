use Rattle.std.proofs.Common.{length, ap, arith}
use Rattle.text_ops.proofs.Marking.{still_marked}
use Rattle.text_ops.proofs.Walks.{past_places}
use Rattle.text_ops.proofs.Counts.{tally_begun, tally_fit, tally_later, tally_ended}
use Rattle.text_ops.proofs.tallying.count_fits.Goals as goal

pub loop-at-init : goal.loop-at-init
loop-at-init c = record {
  bound = omega arith;
  within = c.requires.within;
  marked = c.beginnings-marks.ensures;
  tally = tally_begun c.args.texts.now c.args.active.now c.args.subject.now c.args.counts.now c.requires.counts
      c.requires.zero;
}

pub loop-at-preserved-in-Ok : goal.loop-at-preserved-in-Ok
loop-at-preserved-in-Ok c =
    let inv = c.loop-at.invariant in
    let is = c.in-Ok.ensures.fitted in
    record {
      bound = omega (arith, is.within, c.size-at.ensures, c.split_at.ensures.back_len);
      within = c.in-Ok.ensures.within;
      marked = still_marked _ _ c.loop-at.active _ c.in-Ok.ensures.entries inv.marked;
      tally = tally_fit c.args.texts.now c.loop-at.active c.fit_at_front.new.active c.loop-at.at c.size-at.result
          c.args.subject.now _ c.loop-at.counts _ c.in-Ok.fitted c.loop-at-test.true c.split_at.ensures.back
          c.in-Ok.ensures.fit c.in-Ok.ensures.after c.size-at.ensures is (omega arith) inv.tally;
    }

pub loop-at-preserved : goal.loop-at-preserved
loop-at-preserved c =
    let inv = c.loop-at.invariant in
    let none = c.in-Err.ensures.none in
    record {
      bound = omega (arith, none.within, c.split_at.ensures.back_len);
      within = c.in-Err.ensures.within;
      marked = still_marked _ _ c.loop-at.active _ c.in-Err.ensures.entries inv.marked;
      tally = tally_later _ c.loop-at.active c.fit_at_front.new.active c.loop-at.at _ c.args.subject.now _ _ inv.tally
          (omega arith) (ap length c.in-Err.ensures.same) (past_places _ c.loop-at.active _ c.loop-at.at _
          c.args.subject.now _ inv.tally.all inv.tally.goes c.split_at.ensures.back none c.in-Err.ensures.same);
    }

pub returns : goal.returns
returns c = λ k l. tally_ended _ c.loop-at.active c.loop-at.at c.args.subject.now c.loop-at.counts _
    c.loop-at-test.false c.loop-at.invariant.tally k (omega arith)
