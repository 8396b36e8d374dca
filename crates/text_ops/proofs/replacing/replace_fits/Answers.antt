use Rattle.std.proofs.Common.{length, drop, refl, sym, ap, ◌∙◌, arith}
use Rattle.std.proofs.Math.ListN.{drop_of_length-le}
use Rattle.text_ops.specs.Walk.{walk}
use Rattle.text_ops.specs.Inspect.{with_each}
use Rattle.text_ops.proofs.Replacements.{replaced_next}
use Rattle.text_ops.proofs.Marking.{still_marked}
use Rattle.text_ops.proofs.Walks.{goes_from, past_places, goes_out}
use Rattle.text_ops.proofs.replacing.replace_fits.Goals as goal

pub loop-at-init : goal.loop-at-init
loop-at-init c = record {
  bound = omega arith;
  within = c.requires;
  marked = c.beginnings-marks.ensures;
  all = walk (length c.args.subject.now) c.args.texts.now c.args.active.now 0 c.args.subject.now;
  goes = goes_from c.args.texts.now c.args.active.now 0 c.args.subject.now;
  written = refl;
}

pub loop-at-preserved-in-Ok : goal.loop-at-preserved-in-Ok
loop-at-preserved-in-Ok c =
    let inv = c.loop-at.invariant in
    let next = replaced_next c.args.texts.now c.loop-at.active c.fit_at_front.new.active _ c.loop-at.at c.size-at.result
    c.loop-at.subject c.put_replacement.new.subject _ inv.all c.in-Ok.fitted inv.goes c.loop-at-test.true
    c.split_at.ensures.back c.in-Ok.ensures.fit c.in-Ok.ensures.after c.size-at.ensures c.in-Ok.ensures.fitted
    c.put_replacement.ensures in
    record {
      bound = omega (arith, c.in-Ok.ensures.fitted.within, c.size-at.ensures, c.split_at.ensures.back_len);
      within = c.in-Ok.ensures.within;
      marked = still_marked _ _ c.loop-at.active _ c.in-Ok.ensures.entries inv.marked;
      all = next.0;
      goes = next.1;
      written = next.2 ∙ inv.written;
    }

pub loop-at-preserved : goal.loop-at-preserved
loop-at-preserved c =
    let inv = c.loop-at.invariant in
    let none = c.in-Err.ensures.none in
    record {
      bound = omega (arith, none.within, c.split_at.ensures.back_len);
      within = c.in-Err.ensures.within;
      marked = still_marked _ _ c.loop-at.active _ c.in-Err.ensures.entries inv.marked;
      all = inv.all;
      goes = past_places c.args.texts.now c.loop-at.active c.fit_at_front.new.active c.loop-at.at _ c.loop-at.subject
          _ inv.all inv.goes c.split_at.ensures.back none c.in-Err.ensures.same;
      written = inv.written;
    }

pub returns : goal.returns
returns c =
    let inv = c.loop-at.invariant in
    let none = goes_out c.args.texts.now c.loop-at.active c.loop-at.at (drop c.loop-at.at c.loop-at.subject) inv.all
    inv.goes (drop_of_length-le c.loop-at.subject c.loop-at-test.false) in
    sym (ap (λ all. with_each c.args.texts.now all c.loop-at.subject) none) ∙ inv.written
