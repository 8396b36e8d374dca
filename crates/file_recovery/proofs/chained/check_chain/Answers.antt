use Rattle.std.proofs.Common.{◌≡◌, inr, Err, arith}
use Rattle.btree.specs.Calls.{pages_on}
use Rattle.chains.specs.Chain.{pages_for}
use Rattle.records.specs.declared.fault.StoreFault.TheVariants.{Device, Damaged}
use Rattle.volume_format.proofs.Looks.{looks_nowhere, looks_blamed, looks_then}
use Rattle.file_recovery.specs.Chained.{MarksLink, NoMarkedLink}
use Rattle.btree.proofs.Passing.{was_error, never_ok}
use Rattle.file_recovery.proofs.Faults.{damaged_not_device}
use Rattle.file_recovery.proofs.Calling.{on_pages_before, looks_on}
use Rattle.file_recovery.proofs.Following.{marked_start, marked_next, marked_all, no_more, no_end}
use Rattle.file_recovery.proofs.chained.check_chain.Goals as goal

pub loop-place-init : goal.loop-place-init
loop-place-init g c = record {
  looks = looks_nowhere g.D.Device c.args.pages.now c.args.device.now;
  marked = λ honest agrees.
      marked_start (pages_on g.D.Device c.args.pages.now c.args.device.now) c.args.first c.args.seen.now;
}

pub loop-place-preserved : goal.loop-place-preserved
loop-place-preserved g c =
    let loop = c.loop-place in
    let looks = loop.invariant.looks in
    record {
      looks = looks_on g.D.Device looks c.mark_link.ensures.looks;
      marked = λ honest agrees.
          marked_next (pages_on g.D.Device c.args.pages.now c.args.device.now) loop.place c.args.first loop.page
          c.in_ok-next.next c.args.seen.now loop.seen c.mark_link.new.seen (loop.invariant.marked honest agrees)
          (on_pages_before g.D.Device (λ pages.
          MarksLink pages loop.page loop.seen c.mark_link.new.seen c.in_ok-next.next) looks c.in_ok-next.ensures.link
          honest agrees);
    }

pub returns-in_err-next-clause-looks : goal.returns-in_err-next-clause-looks
returns-in_err-next-clause-looks g c =
    let loop = c.loop-place in
    looks_then g.D.Device ⊥ (c.mark_link.result ≡ Err Device) _ c.args.pages.now loop.pages
    c.mark_link.new.pages c.args.device.now loop.device c.mark_link.new.device
    (λ is. inr (was_error c.from_residual.result c.mark_link.result c.in_err-next.field-0.0 Device
    c.from_residual.ensures.1 c.in_err-next.was is))
    loop.invariant.looks c.mark_link.ensures.looks

pub returns-in_err-next-clause-damaged : goal.returns-in_err-next-clause-damaged
returns-in_err-next-clause-damaged g c = λ honest agrees refused stands can.
    let told =
    was_error c.from_residual.result c.mark_link.result c.in_err-next.field-0.0 Damaged c.from_residual.ensures.1
    c.in_err-next.was refused in
    let loop = c.loop-place in
    let test = c.loop-place-test.true in
    let count = c.page_count-count.ensures in
    no_more (pages_on g.D.Device c.args.pages.now c.args.device.now) (pages_for c.args.size) loop.place c.args.first
    loop.page c.args.seen.now loop.seen (omega arith) (loop.invariant.marked honest agrees)
    (on_pages_before g.D.Device (λ pages. NoMarkedLink pages loop.page loop.seen) loop.invariant.looks
    (λ still same. c.mark_link.ensures.damaged still same told) honest agrees) stands can

pub returns-then-page-ne0-clause-damaged : goal.returns-then-page-ne0-clause-damaged
returns-then-page-ne0-clause-damaged g c = λ honest agrees told stands can.
    let loop = c.loop-place in
    let test = c.loop-place-test.false in
    let bound = loop.auto.place-end in
    let count = c.page_count-count.ensures in
    no_end (pages_on g.D.Device c.args.pages.now c.args.device.now) (pages_for c.args.size) loop.place c.args.first
    loop.page c.args.seen.now loop.seen (omega arith) (loop.invariant.marked honest agrees) c.if-page-ne0.true stands
    can

pub returns-then-page-ne0-clause-looks : goal.returns-then-page-ne0-clause-looks
returns-then-page-ne0-clause-looks g c =
    looks_blamed g.D.Device ⊥ _ c.args.pages.now c.loop-place.pages c.args.device.now c.loop-place.device
    (λ is. damaged_not_device is) c.loop-place.invariant.looks

pub returns-clause-looks : goal.returns-clause-looks
returns-clause-looks g c =
    looks_blamed g.D.Device ⊥ _ c.args.pages.now c.loop-place.pages c.args.device.now c.loop-place.device
    (λ is. never_ok is) c.loop-place.invariant.looks

pub returns-clause-chain : goal.returns-clause-chain
returns-clause-chain g c = λ honest agrees.
    let loop = c.loop-place in
    let test = c.loop-place-test.false in
    let bound = loop.auto.place-end in
    let count = c.page_count-count.ensures in
    marked_all (pages_on g.D.Device c.args.pages.now c.args.device.now) (pages_for c.args.size) loop.place c.args.first
    loop.page c.args.seen.now loop.seen (omega arith) (omega (arith, c.if-page-ne0.false))
    (loop.invariant.marked honest agrees)
