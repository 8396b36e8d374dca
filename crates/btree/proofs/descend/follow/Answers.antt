use Rattle.std.proofs.Common.{◌≡◌, ◌↔◌, ◌≤◌, inr, length, true, false, sym, ap, ◌∙◌, arith}
use Rattle.std.specs.Prelude.{Err, IfErr, None}
use Rattle.station.specs.Calls.{OnlyReads}
use Rattle.station.proofs.Calls.{reads_nothing, reads_then}
use Rattle.pages.specs.Pages.{map_now, is_spent, page_count}
use Rattle.pages.specs.declared.error.PagesError.TheVariants.{Damaged, Device, Spent}
use Rattle.btree.specs.Calls.{pages_on}
use Rattle.btree.specs.Reading.{IsSearchRefusal, NoneStands}
use Rattle.btree.specs.Results.{ReturnsDamaged}
use Rattle.btree.proofs.Descents.{start_along, too_deep, along_stands}
use Rattle.btree.proofs.Frames.{unchanged_still, unchanged_on}
use Rattle.btree.proofs.Passing.{never_ok, pages_before, passed, still_error, unspent_before, unspent_damaged}
use Rattle.btree.proofs.Passing.{was_error}
use Rattle.btree.proofs.Stepping.{step_ends, stepped_before}
use Rattle.btree.proofs.TreeNodes.{few_pages}
use Rattle.btree.proofs.DescentCalls.{along_on, one_more, still_reads}
use Rattle.btree.proofs.ReadMaps.{small_map}
use Rattle.btree.proofs.descend.follow.Goals as goal

pub loop-depth-init : goal.loop-depth-init
loop-depth-init g c = record {
  only = reads_nothing g.D.Device c.args.device.now;
  unchanged = unchanged_still c.args.pages.now;
  agrees = λ h a. a;
  spent = λ low. absurd (omega arith);
  room = c.new-path.ensures.capacity;
  steps = ap length c.new-path.ensures.items;
  way = λ live h a levels. start_along c.args.layout (pages_on g.D.Device c.args.pages.now c.args.device.now)
      c.args.root levels c.args.key.now _ c.new-path.ensures.items
      (small_map c.args.pages.now (g.D.Device.state c.args.device.now).disk.present c.page_count-page_count.result
      c.page_count-page_count.ensures.pages c.page_count-page_count.ensures.count c.page_count-page_count.ensures.few
      live);
}

pub returns-in_err-child-clause-unchanged : goal.returns-in_err-child-clause-unchanged
returns-in_err-child-clause-unchanged g c = unchanged_on c.args.pages.now c.loop-depth.pages c.step_at.new.pages
    c.loop-depth.invariant.unchanged c.step_at.ensures.reads.unchanged

pub returns-in_err-child-clause-damaged : goal.returns-in_err-child-clause-damaged
returns-in_err-child-clause-damaged g c = λ h a is levels tree.
    let at = c.loop-depth in
    let damaged = was_error c.from_residual.result c.step_at.result c.in_err-child.field-0.0 Damaged
    c.from_residual.ensures.1 c.in_err-child.was is in
    let unspent = unspent_damaged c.step_at.result c.args.pages.now at.pages at.invariant.unchanged
    c.step_at.ensures.reads.spent damaged in
    let stands = along_stands c.args.layout (pages_on g.D.Device c.args.pages.now c.args.device.now) levels
    c.args.key.now at.path.items at.page at.right (at.invariant.way unspent h a levels tree) in
    pages_before g.D.Device ⊥ c.args.pages.now at.pages c.args.device.now at.device
    (NoneStands c.args.layout at.page (ReturnsDamaged c.step_at.result)) at.invariant.unchanged at.invariant.only
    at.invariant.agrees c.step_at.ensures.reads.damaged h a damaged stands.kind stands.node stands.same stands.stands

pub returns-in-None-clause-unchanged : goal.returns-in-None-clause-unchanged
returns-in-None-clause-unchanged g c = unchanged_on c.args.pages.now c.loop-depth.pages c.step_at.new.pages
    c.loop-depth.invariant.unchanged c.step_at.ensures.reads.unchanged

pub returns-in-None-clause-way : goal.returns-in-None-clause-way
returns-in-None-clause-way g c = λ h a levels tree.
    let at = c.loop-depth in
    let unspent = unspent_before c.args.pages.now at.pages at.invariant.unchanged c.in_ok-child.ensures.reads.spent in
    step_ends c.args.layout (pages_on g.D.Device c.args.pages.now c.args.device.now) c.args.root levels
    c.args.key.now at.path.items at.page at.right c.step_at.new.right tree
    (at.invariant.way unspent h a levels tree)
    (stepped_before g.D.Device c.args.pages.now at.pages c.args.device.now at.device c.args.layout at.page
    c.args.key.now at.right c.step_at.new.right c.in_ok-child.field-0 None at.invariant.unchanged at.invariant.only
    at.invariant.agrees c.in-None.is c.in_ok-child.ensures.reads.answer h a)

pub loop-depth-preserved : goal.loop-depth-preserved
loop-depth-preserved g c = let at = c.loop-depth.invariant in record {
  only = still_reads g.D.Device at.only c.step_at.ensures.reads.only;
  unchanged = unchanged_on _ _ _ at.unchanged c.step_at.ensures.reads.unchanged;
  agrees = λ h a. c.step_at.ensures.reads.agrees (at.only.honest.0 h) (at.agrees h a);
  spent = λ low. unspent_before _ _ at.unchanged c.in_ok-child.ensures.reads.spent;
  room = c.push_reserved.ensures.capacity ∙ at.room;
  steps = one_more _ _ _ _ c.push_reserved.ensures.items at.steps;
  way = λ live h a levels tree. along_on g.D.Device _ _ _ _ c.args.layout levels c.args.key.now _ _ _ _ _ _
      c.in-Some.child at.unchanged at.only at.agrees c.in-Some.is c.push_reserved.ensures.items
      c.in_ok-child.ensures.reads.answer h a (at.way live h a levels tree);
}

pub returns-clause-damaged : goal.returns-clause-damaged
returns-clause-damaged g c = λ h a is levels tree.
    let steps = c.loop-depth.invariant.steps in
    let done = c.loop-depth-test.false in
    let unspent : is_spent c.args.pages.now ≡ false = c.loop-depth.invariant.spent (omega arith) in
    let deep : 21 ≤ length c.loop-depth.path.items = omega arith in
    too_deep c.args.layout (map_now c.args.pages.now (g.D.Device.state c.args.device.now).disk.present).pages
    c.args.root levels c.args.key.now c.loop-depth.path.items c.loop-depth.page c.loop-depth.right
    (few_pages (map_now c.args.pages.now (g.D.Device.state c.args.device.now).disk.present).pages
    (page_count c.args.pages.now) c.page_count-page_count.result
    (c.page_count-page_count.ensures.pages (g.D.Device.state c.args.device.now).disk.present)
    c.page_count-page_count.ensures.count (c.page_count-page_count.ensures.few unspent)) tree
    (c.loop-depth.invariant.way unspent h a levels tree) deep

pub returns-in_err-child-clause-only : goal.returns-in_err-child-clause-only
returns-in_err-child-clause-only g c = passed c.from_residual.result c.in_err-child.field-0.0 c.from_residual.ensures.1
    (λ r. OnlyReads g.D.Device (r ≡ Err Device) c.args.device.now c.step_at.new.device)
    (reads_then g.D.Device _ _ _ _ _ _ (λ is. inr (still_error is)) c.loop-depth.invariant.only
    c.in_err-child.ensures.reads.only)

pub returns-in-None-clause-only : goal.returns-in-None-clause-only
returns-in-None-clause-only g c = reads_then g.D.Device _ _ _ _ _ _ (λ is. never_ok is) c.loop-depth.invariant.only
    c.step_at.ensures.reads.only

pub returns-in_err-child-clause-agrees : goal.returns-in_err-child-clause-agrees
returns-in_err-child-clause-agrees g c =
    λ honest agrees. c.step_at.ensures.reads.agrees (c.loop-depth.invariant.only.honest.0 honest)
    (c.loop-depth.invariant.agrees honest agrees)

pub returns-in-None-clause-agrees : goal.returns-in-None-clause-agrees
returns-in-None-clause-agrees g c =
    λ honest agrees. c.step_at.ensures.reads.agrees (c.loop-depth.invariant.only.honest.0 honest)
    (c.loop-depth.invariant.agrees honest agrees)

pub returns-in_err-child-clause-spent : goal.returns-in_err-child-clause-spent
returns-in_err-child-clause-spent g c = passed c.from_residual.result c.in_err-child.field-0.0 c.from_residual.ensures.1
    (λ r. (r ≡ Err Spent) ↔ (is_spent c.args.pages.now ≡ true)) (
      λ is. sym c.loop-depth.invariant.unchanged.committed.spent
          ∙ c.in_err-child.ensures.reads.spent.0 (still_error is),
      λ was. still_error
          (c.in_err-child.ensures.reads.spent.1 (c.loop-depth.invariant.unchanged.committed.spent ∙ was)),
    )

pub returns-in-None-clause-spent : goal.returns-in-None-clause-spent
returns-in-None-clause-spent g c = (
  λ is. never_ok is,
  λ was. never_ok (c.in_ok-child.ensures.reads.spent.1 (c.loop-depth.invariant.unchanged.committed.spent ∙ was)),
)

pub returns-in_err-child-clause-cause : goal.returns-in_err-child-clause-cause
returns-in_err-child-clause-cause g c = passed c.from_residual.result c.in_err-child.field-0.0 c.from_residual.ensures.1
    (λ r. IfErr r (IsSearchRefusal c.args.layout)) (c.in_err-child.ensures.reads.cause)
