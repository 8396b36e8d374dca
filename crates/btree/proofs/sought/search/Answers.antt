use Rattle.std.proofs.Common.{◌≡◌, ◌≤◌, List, false, Err, sym, ◌∙◌, arith}
use Rattle.std.specs.Prelude.{Option, Some, None}
use Rattle.station.specs.Disk.{Sector}
use Rattle.station.proofs.Calls.{reads_nothing, reads_then}
use Rattle.pages.specs.Pages.{map_now, is_spent, page_count}
use Rattle.pages.specs.declared.error.PagesError.TheVariants.{Damaged, Spent}
use Rattle.btree.specs.declared.sought.Look.TheVariants.{Here, Missing, Below}
use Rattle.btree.specs.Calls.{pages_on}
use Rattle.btree.specs.Reading.{NoneStands}
use Rattle.btree.specs.Results.{ReturnsDamaged}
use Rattle.btree.proofs.Descents.{along_stands}
use Rattle.btree.proofs.Descending.{down_start, down_on, down_deep, finds_entry, finds_none, ends_in_leaf}
use Rattle.btree.proofs.Descending.{looked_before}
use Rattle.btree.proofs.Frames.{unchanged_still, unchanged_on}
use Rattle.btree.proofs.TreeNodes.{few_pages}
use Rattle.std.specs.Prelude.{IfErr}
use Rattle.std.proofs.Common.{◌↔◌, inr, true}
use Rattle.station.specs.Calls.{OnlyReads}
use Rattle.pages.specs.declared.error.PagesError.TheVariants.{Device}
use Rattle.btree.specs.Reading.{IsReadRefusal}
use Rattle.btree.proofs.Passing.{passed, never_ok, still_error, damaged_not_device}
use Rattle.btree.proofs.Passing.{reads_where, sectors_on, pages_before, unspent_before, unspent_damaged, was_error}
use Rattle.btree.proofs.DescentCalls.{still_reads}
use Rattle.btree.proofs.sought.search.Goals as goal

pub loop-depth-init : goal.loop-depth-init
loop-depth-init g c = record {
  only = reads_nothing g.D.Device c.args.device.now;
  unchanged = unchanged_still c.args.pages.now;
  agrees = λ h a. a;
  spent = λ low. absurd (omega arith);
  way = λ unspent h a levels tree.
      let pages : List (Option Sector) =
      (map_now c.args.pages.now (g.D.Device.state c.args.device.now).disk.present).pages in
      down_start c.args.layout pages c.args.root levels c.args.key.now
      (few_pages pages (page_count c.args.pages.now) c.page_count-page_count.result
      (c.page_count-page_count.ensures.pages (g.D.Device.state c.args.device.now).disk.present)
      c.page_count-page_count.ensures.count (c.page_count-page_count.ensures.few unspent)) tree;
}

pub returns-in_err-child-clause-unchanged : goal.returns-in_err-child-clause-unchanged
returns-in_err-child-clause-unchanged g c = unchanged_on c.args.pages.now c.loop-depth.pages c.look_at.new.pages
    c.loop-depth.invariant.unchanged c.look_at.ensures.reads.unchanged

pub returns-in_err-child-clause-damaged : goal.returns-in_err-child-clause-damaged
returns-in_err-child-clause-damaged g c = λ h a is levels tree.
    let at = c.loop-depth in
    let damaged = was_error c.from_residual.result c.look_at.result c.in_err-child.field-0.0 Damaged
    c.from_residual.ensures.1 c.in_err-child.was is in
    let unspent = unspent_damaged c.look_at.result c.args.pages.now at.pages at.invariant.unchanged
    c.look_at.ensures.reads.spent damaged in
    let down = at.invariant.way unspent h a levels tree in
    let stands = along_stands c.args.layout (pages_on g.D.Device c.args.pages.now c.args.device.now) levels
    c.args.key.now down.steps at.page down.right down.along in
    pages_before g.D.Device ⊥ c.args.pages.now at.pages c.args.device.now at.device
    (NoneStands c.args.layout at.page (ReturnsDamaged c.look_at.result)) at.invariant.unchanged at.invariant.only
    at.invariant.agrees c.look_at.ensures.reads.damaged h a damaged stands.kind stands.node stands.same stands.stands

pub returns-in-Here-clause-unchanged : goal.returns-in-Here-clause-unchanged
returns-in-Here-clause-unchanged g c = unchanged_on c.args.pages.now c.loop-depth.pages c.look_at.new.pages
    c.loop-depth.invariant.unchanged c.look_at.ensures.reads.unchanged

pub returns-in-Here-clause-finds : goal.returns-in-Here-clause-finds
returns-in-Here-clause-finds g c = λ h a levels tree.
    let at = c.loop-depth in
    let unspent = unspent_before c.args.pages.now at.pages at.invariant.unchanged c.in_ok-child.ensures.reads.spent in
    let looks = looked_before g.D.Device c.args.pages.now at.pages c.args.device.now at.device c.args.layout at.page
    c.args.key.now c.args.sought c.look_at.new.entry c.in_ok-child.field-0 Here at.invariant.unchanged
    at.invariant.only at.invariant.agrees c.in-Here.is c.in_ok-child.ensures.reads.answer h a in
    finds_entry c.args.layout (pages_on g.D.Device c.args.pages.now c.args.device.now) c.args.root levels
    c.args.key.now at.page at._depth c.args.sought c.look_at.new.entry tree (at.invariant.way unspent h a levels tree)
    looks

pub returns-in-Missing-clause-unchanged : goal.returns-in-Missing-clause-unchanged
returns-in-Missing-clause-unchanged g c = unchanged_on c.args.pages.now c.loop-depth.pages c.look_at.new.pages
    c.loop-depth.invariant.unchanged c.look_at.ensures.reads.unchanged

pub returns-in-Missing-clause-finds : goal.returns-in-Missing-clause-finds
returns-in-Missing-clause-finds g c = λ h a levels tree.
    let at = c.loop-depth in
    let unspent = unspent_before c.args.pages.now at.pages at.invariant.unchanged c.in_ok-child.ensures.reads.spent in
    let looks = looked_before g.D.Device c.args.pages.now at.pages c.args.device.now at.device c.args.layout at.page
    c.args.key.now c.args.sought c.look_at.new.entry c.in_ok-child.field-0 Missing at.invariant.unchanged
    at.invariant.only at.invariant.agrees c.in-Missing.is c.in_ok-child.ensures.reads.answer h a in
    finds_none c.args.layout (pages_on g.D.Device c.args.pages.now c.args.device.now) c.args.root levels
    c.args.key.now at.page at._depth c.args.sought c.look_at.new.entry tree (at.invariant.way unspent h a levels tree)
    looks

pub loop-depth-preserved : goal.loop-depth-preserved
loop-depth-preserved g c = let at = c.loop-depth.invariant in record {
  only = still_reads g.D.Device at.only c.look_at.ensures.reads.only;
  unchanged = unchanged_on _ _ _ at.unchanged c.look_at.ensures.reads.unchanged;
  agrees = λ h a. c.look_at.ensures.reads.agrees (at.only.honest.0 h) (at.agrees h a);
  spent = λ low. unspent_before _ _ at.unchanged c.in_ok-child.ensures.reads.spent;
  way = λ live h a levels tree. down_on c.args.layout (pages_on g.D.Device c.args.pages.now c.args.device.now) levels
      c.args.key.now c.loop-depth.page c.loop-depth._depth c.in-Below.child (at.way live h a levels tree)
      (looked_before g.D.Device c.args.pages.now c.loop-depth.pages c.args.device.now c.loop-depth.device c.args.layout
      c.loop-depth.page c.args.key.now c.args.sought c.look_at.new.entry c.in_ok-child.field-0 (Below c.in-Below.child)
      at.unchanged at.only at.agrees c.in-Below.is c.in_ok-child.ensures.reads.answer h a);
}

pub returns-clause-damaged : goal.returns-clause-damaged
returns-clause-damaged g c = λ h a is levels tree.
    let done = c.loop-depth-test.false in
    let unspent : is_spent c.args.pages.now ≡ false = c.loop-depth.invariant.spent (omega arith) in
    let deep : 21 ≤ c.loop-depth._depth = omega arith in
    let pages : List (Option Sector) =
    (map_now c.args.pages.now (g.D.Device.state c.args.device.now).disk.present).pages in
    down_deep c.args.layout pages c.args.root levels c.args.key.now c.loop-depth.page c.loop-depth._depth
    (few_pages pages (page_count c.args.pages.now) c.page_count-page_count.result
    (c.page_count-page_count.ensures.pages (g.D.Device.state c.args.device.now).disk.present)
    c.page_count-page_count.ensures.count (c.page_count-page_count.ensures.few unspent)) tree
    (c.loop-depth.invariant.way unspent h a levels tree) deep

pub look_at-requires-clause-sectors : goal.look_at-requires-clause-sectors
look_at-requires-clause-sectors g c = sectors_on c.args.pages.now c.loop-depth.pages _ _
    c.loop-depth.invariant.unchanged.committed.volume c.loop-depth.invariant.only.sectors
    c.requires.sectors

pub returns-in_err-child-clause-only : goal.returns-in_err-child-clause-only
returns-in_err-child-clause-only g c = passed c.from_residual.result c.in_err-child.field-0.0 c.from_residual.ensures.1
    (λ r. OnlyReads g.D.Device (r ≡ Err Device) c.args.device.now c.look_at.new.device)
    (reads_then g.D.Device _ _ _ _ _ _ (λ is. inr (still_error is)) c.loop-depth.invariant.only
    c.in_err-child.ensures.reads.only)

pub returns-in-Here-clause-only : goal.returns-in-Here-clause-only
returns-in-Here-clause-only g c = reads_then g.D.Device _ _ _ _ _ _ (λ is. never_ok is) c.loop-depth.invariant.only
    c.look_at.ensures.reads.only

pub returns-in-Here-clause-damaged : goal.returns-in-Here-clause-damaged
returns-in-Here-clause-damaged g c = λ honest agrees is. never_ok is

pub returns-in-Here-clause-spent : goal.returns-in-Here-clause-spent
returns-in-Here-clause-spent g c = (
  λ is. never_ok is,
  λ was. never_ok (sym c.in_ok-child.was
      ∙ c.look_at.ensures.reads.spent.1 (c.loop-depth.invariant.unchanged.committed.spent ∙ was)),
)

pub returns-in-Missing-clause-only : goal.returns-in-Missing-clause-only
returns-in-Missing-clause-only g c = reads_then g.D.Device _ _ _ _ _ _ (λ is. never_ok is) c.loop-depth.invariant.only
    c.look_at.ensures.reads.only

pub returns-in-Missing-clause-damaged : goal.returns-in-Missing-clause-damaged
returns-in-Missing-clause-damaged g c = λ honest agrees is. never_ok is

pub returns-in-Missing-clause-spent : goal.returns-in-Missing-clause-spent
returns-in-Missing-clause-spent g c = (
  λ is. never_ok is,
  λ was. never_ok (sym c.in_ok-child.was
      ∙ c.look_at.ensures.reads.spent.1 (c.loop-depth.invariant.unchanged.committed.spent ∙ was)),
)

pub returns-in_err-child-clause-agrees : goal.returns-in_err-child-clause-agrees
returns-in_err-child-clause-agrees g c =
    λ honest agrees. c.look_at.ensures.reads.agrees (c.loop-depth.invariant.only.honest.0 honest)
    (c.loop-depth.invariant.agrees honest agrees)

pub returns-in-Here-clause-agrees : goal.returns-in-Here-clause-agrees
returns-in-Here-clause-agrees g c =
    λ honest agrees. c.look_at.ensures.reads.agrees (c.loop-depth.invariant.only.honest.0 honest)
    (c.loop-depth.invariant.agrees honest agrees)

pub returns-in-Missing-clause-agrees : goal.returns-in-Missing-clause-agrees
returns-in-Missing-clause-agrees g c =
    λ honest agrees. c.look_at.ensures.reads.agrees (c.loop-depth.invariant.only.honest.0 honest)
    (c.loop-depth.invariant.agrees honest agrees)

pub returns-clause-only : goal.returns-clause-only
returns-clause-only g c = reads_where g.D.Device _ _ _ _ (λ is. damaged_not_device is) c.loop-depth.invariant.only

pub returns-in_err-child-clause-spent : goal.returns-in_err-child-clause-spent
returns-in_err-child-clause-spent g c = passed c.from_residual.result c.in_err-child.field-0.0 c.from_residual.ensures.1
    (λ r. (r ≡ Err Spent) ↔ (is_spent c.args.pages.now ≡ true)) (
      λ is. sym c.loop-depth.invariant.unchanged.committed.spent
          ∙ c.in_err-child.ensures.reads.spent.0 (still_error is),
      λ was. still_error
          (c.in_err-child.ensures.reads.spent.1 (c.loop-depth.invariant.unchanged.committed.spent ∙ was)),
    )

pub returns-in_err-child-clause-cause : goal.returns-in_err-child-clause-cause
returns-in_err-child-clause-cause g c = passed c.from_residual.result c.in_err-child.field-0.0 c.from_residual.ensures.1
    (λ r. IfErr r IsReadRefusal)
    (c.in_err-child.ensures.reads.cause)

pub returns-in-Here-clause-leaf : goal.returns-in-Here-clause-leaf
returns-in-Here-clause-leaf g c = λ h a levels tree.
    let at = c.loop-depth in
    let unspent = unspent_before c.args.pages.now at.pages at.invariant.unchanged c.in_ok-child.ensures.reads.spent in
    let looks = looked_before g.D.Device c.args.pages.now at.pages c.args.device.now at.device c.args.layout at.page
    c.args.key.now c.args.sought c.look_at.new.entry c.in_ok-child.field-0 Here at.invariant.unchanged
    at.invariant.only at.invariant.agrees c.in-Here.is c.in_ok-child.ensures.reads.answer h a in
    ends_in_leaf c.args.layout (pages_on g.D.Device c.args.pages.now c.args.device.now) c.args.root levels
    c.args.key.now at.page at._depth c.args.sought (Some c.look_at.new.entry) tree
    (at.invariant.way unspent h a levels tree) looks

pub returns-in-Missing-clause-leaf : goal.returns-in-Missing-clause-leaf
returns-in-Missing-clause-leaf g c = λ h a levels tree.
    let at = c.loop-depth in
    let unspent = unspent_before c.args.pages.now at.pages at.invariant.unchanged c.in_ok-child.ensures.reads.spent in
    let looks = looked_before g.D.Device c.args.pages.now at.pages c.args.device.now at.device c.args.layout at.page
    c.args.key.now c.args.sought c.look_at.new.entry c.in_ok-child.field-0 Missing at.invariant.unchanged
    at.invariant.only at.invariant.agrees c.in-Missing.is c.in_ok-child.ensures.reads.answer h a in
    ends_in_leaf c.args.layout (pages_on g.D.Device c.args.pages.now c.args.device.now) c.args.root levels
    c.args.key.now at.page at._depth c.args.sought None tree (at.invariant.way unspent h a levels tree) looks
