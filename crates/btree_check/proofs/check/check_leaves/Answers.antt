use Rattle.std.proofs.Common.{◌≡◌, ◌∙◌, [], inr, List, false, Err, sym, subst, rules}
use Rattle.std.specs.Prelude.{IfErr}
use Rattle.std.proofs.lemmas.List.{take_all}
use Rattle.pages.specs.declared.error.PagesError.TheVariants.{Device, Damaged, Spent}
use Rattle.btree_pages.specs.declared.row_layout.Kind.TheVariants.{Leaf}
use Rattle.btree.specs.Calls.{pages_on}
use Rattle.btree.proofs.Frames.{unchanged_on}
use Rattle.btree.proofs.Passing.{passed, never_ok, was_error, on_refused, reads_where, sectors_on}
use Rattle.btree.proofs.Passing.{damaged_not_device, damaged_not_spent}
use Rattle.btree.specs.Reading.{IsReadRefusal}
use Rattle.station.proofs.Calls.{reads_then}
use Rattle.btree_check.specs.declared.separator.Separator.{Separator}
use Rattle.btree_check.specs.Walks.{IsLevel, Marks, separator_pages}
use Rattle.btree_check.proofs.Walking.{in_order_none, level_none}
use Rattle.btree_check.proofs.LevelReads.{reads_none, reads_next, page_missing, leaves_next, leaf_missing}
use Rattle.btree_check.proofs.check.check_leaves.Goals as goal

pub loop-place-init : goal.loop-place-init
loop-place-init g c = record {
  reads = reads_none g.D.Device c.args.pages.now c.args.device.now c.args.seen.now;
  level = λ h a. ([], level_none c.args.layout _ Leaf, in_order_none c.args.layout c.args.separators.now);
}

pub returns-in_err-leaf-clause-unchanged : goal.returns-in_err-leaf-clause-unchanged
returns-in_err-leaf-clause-unchanged g c = unchanged_on c.args.pages.now c.loop-place.pages c.check_node.new.pages
    c.loop-place.invariant.reads.unchanged c.check_node.ensures.unchanged

pub returns-in_err-leaf-clause-damaged : goal.returns-in_err-leaf-clause-damaged
returns-in_err-leaf-clause-damaged g c = λ honest agrees is can level are up.
    let loop = c.loop-place in
    let damaged = was_error c.from_residual.result c.check_node.result c.in_err-leaf.field-0.0 Damaged
    c.from_residual.ensures.1 c.in_err-leaf.was is in
    page_missing g.D.Device c.args.pages.now loop.pages c.args.device.now loop.device c.args.seen.now
    loop.seen c.args.layout c.args.separators.now loop.place c.index-separators-place.result loop.invariant.reads
    c.loop-place-test.true c.index-separators-place.is Leaf level (c.check_node.result ≡ Err Damaged) can honest
    agrees are damaged c.check_node.ensures.damaged

pub returns-then-not-is_in_order-clause-unchanged : goal.returns-then-not-is_in_order-clause-unchanged
returns-then-not-is_in_order-clause-unchanged g c =
    unchanged_on c.args.pages.now c.loop-place.pages c.check_node.new.pages
    c.loop-place.invariant.reads.unchanged c.check_node.ensures.unchanged

pub returns-then-not-is_in_order-clause-damaged : goal.returns-then-not-is_in_order-clause-damaged
returns-then-not-is_in_order-clause-damaged g c = λ honest agrees is can level are up.
    let loop = c.loop-place in
    let no : c.is_in_order.result ≡ false = search rules in
    leaf_missing g.D.Device c.args.pages.now loop.pages c.args.device.now loop.device c.args.seen.now
    loop.seen c.args.layout c.args.separators.now loop.place c.index-separators-place.result loop.invariant.reads
    c.loop-place-test.true c.index-separators-place.is
    c.in_ok-leaf.leaf.layout c.in_ok-leaf.leaf.rows level c.in_ok-leaf.ensures.node c.in_ok-leaf.ensures.shape.0 up
    (c.is_in_order.ensures.refused no) honest agrees are

pub loop-place-preserved : goal.loop-place-preserved
loop-place-preserved g c =
    let loop = c.loop-place in
    let read = c.check_node.ensures in
    let leaf = c.in_ok-leaf.ensures in
    record {
      reads = reads_next g.D.Device c.args.pages.now loop.pages c.check_node.new.pages c.args.device.now loop.device _
          c.args.seen.now loop.seen c.check_node.new.seen c.args.separators.now loop.place _ _ loop.invariant.reads
          read.only read.unchanged read.agrees c.loop-place-test.true c.index-separators-place.is leaf.marks;
      level = leaves_next g.D.Device c.args.pages.now loop.pages c.args.device.now loop.device c.args.seen.now
          loop.seen c.args.layout c.args.separators.now loop.place c.index-separators-place.result loop.invariant.reads
          c.loop-place-test.true c.index-separators-place.is c.in_ok-leaf.leaf.layout c.in_ok-leaf.leaf.rows
          leaf.node leaf.shape.0 leaf.shape.2 (c.is_in_order.ensures.ascends (search rules))
          (c.is_in_order.ensures.below (search rules)) loop.invariant.level;
    }

pub returns-clause-level : goal.returns-clause-level
returns-clause-level g c = λ honest agrees.
    let was = c.loop-place.invariant.level honest agrees in
    let pages = pages_on g.D.Device c.args.pages.now c.args.device.now in
    let all = take_all c.loop-place.place c.args.separators.now c.loop-place-test.false in
    (was.0, subst (λ separators. IsLevel c.args.layout pages Leaf separators was.0) all was.1, was.2.up)

-- The device and the map are only read.
pub check_node-requires-clause-sectors : goal.check_node-requires-clause-sectors
check_node-requires-clause-sectors g c = sectors_on c.args.pages.now c.loop-place.pages _ _
    c.loop-place.invariant.reads.unchanged.committed.volume c.loop-place.invariant.reads.only.sectors
    c.requires.sectors

pub returns-in_err-leaf-clause-only : goal.returns-in_err-leaf-clause-only
returns-in_err-leaf-clause-only g c = reads_then g.D.Device _ _ _ _ _ _
    (λ is. inr (was_error c.from_residual.result c.check_node.result c.in_err-leaf.field-0.0 Device
    c.from_residual.ensures.1 c.in_err-leaf.was is))
    c.loop-place.invariant.reads.only c.check_node.ensures.only

pub returns-then-not-is_in_order-clause-only : goal.returns-then-not-is_in_order-clause-only
returns-then-not-is_in_order-clause-only g c = reads_then g.D.Device _ _ _ _ _ _ (λ is. damaged_not_device is)
    c.loop-place.invariant.reads.only c.check_node.ensures.only

pub returns-clause-only : goal.returns-clause-only
returns-clause-only g c = reads_where g.D.Device _ _ _ _ (λ is. never_ok is) c.loop-place.invariant.reads.only

pub returns-in_err-leaf-clause-agrees : goal.returns-in_err-leaf-clause-agrees
returns-in_err-leaf-clause-agrees g c = λ honest agrees. c.check_node.ensures.agrees
    (c.loop-place.invariant.reads.only.honest.0 honest) (c.loop-place.invariant.reads.agrees honest agrees)

pub returns-then-not-is_in_order-clause-agrees : goal.returns-then-not-is_in_order-clause-agrees
returns-then-not-is_in_order-clause-agrees g c = λ honest agrees. c.check_node.ensures.agrees
    (c.loop-place.invariant.reads.only.honest.0 honest) (c.loop-place.invariant.reads.agrees honest agrees)

-- A refusal has no level, and why it is refused.
pub returns-in_err-leaf-clause-level : goal.returns-in_err-leaf-clause-level
returns-in_err-leaf-clause-level g c = λ honest agrees.
    on_refused c.from_residual.result c.in_err-leaf.field-0.0 c.from_residual.ensures.1 _

pub returns-in_err-leaf-clause-marks : goal.returns-in_err-leaf-clause-marks
returns-in_err-leaf-clause-marks g c =
    on_refused c.from_residual.result c.in_err-leaf.field-0.0 c.from_residual.ensures.1 _

pub returns-in_err-leaf-clause-spent : goal.returns-in_err-leaf-clause-spent
returns-in_err-leaf-clause-spent g c = λ is. sym c.loop-place.invariant.reads.unchanged.committed.spent
    ∙ c.check_node.ensures.spent (was_error c.from_residual.result c.check_node.result c.in_err-leaf.field-0.0 Spent
    c.from_residual.ensures.1 c.in_err-leaf.was is)

pub returns-in_err-leaf-clause-cause : goal.returns-in_err-leaf-clause-cause
returns-in_err-leaf-clause-cause g c = passed c.from_residual.result c.in_err-leaf.field-0.0 c.from_residual.ensures.1
    (λ r. IfErr r IsReadRefusal) c.in_err-leaf.ensures.cause

pub returns-then-not-is_in_order-clause-spent : goal.returns-then-not-is_in_order-clause-spent
returns-then-not-is_in_order-clause-spent g c = λ is. damaged_not_spent is

-- A level was checked.
pub returns-clause-marks : goal.returns-clause-marks
returns-clause-marks g c =
    subst (λ (l : List Separator). Marks c.args.seen.now (separator_pages l) c.loop-place.seen)
    (take_all c.loop-place.place c.args.separators.now c.loop-place-test.false) c.loop-place.invariant.reads.marks

pub returns-clause-damaged : goal.returns-clause-damaged
returns-clause-damaged g c = λ honest agrees is can level are up. never_ok is

pub returns-clause-spent : goal.returns-clause-spent
returns-clause-spent g c = λ is. never_ok is
