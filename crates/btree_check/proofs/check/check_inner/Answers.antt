use Rattle.std.proofs.Common.{◌≡◌, ◌≤◌, ◌<◌, List, [], true, inr, length, sym, ap, subst, ◌∙◌, arith, rules}
use Rattle.std.specs.Prelude.{Err, IfErr}
use Rattle.std.proofs.lemmas.List.{take_all}
use Rattle.station.specs.Calls.{OnlyReads}
use Rattle.station.proofs.Calls.{reads_then}
use Rattle.pages.specs.Pages.{is_spent}
use Rattle.pages.specs.declared.error.PagesError.TheVariants.{Device, Damaged, Spent}
use Rattle.btree_pages.specs.declared.row_layout.Kind.TheVariants.{Inner}
use Rattle.btree.specs.Calls.{pages_on}
use Rattle.btree.specs.Refusals.{IsChangeRefusal}
use Rattle.btree.proofs.Frames.{unchanged_on}
use Rattle.btree.proofs.Passing.{passed, never_ok, was_error, still_error, if_refused, on_refused, reads_where}
use Rattle.btree.proofs.Passing.{sectors_on}
use Rattle.btree.proofs.Passing.{read_is_change, memory_is_put, put_is_rest, rest_is_change, put_not_device}
use Rattle.btree.proofs.Passing.{put_not_damaged, memory_not_spent, damaged_not_device, damaged_not_spent}
use Rattle.btree_check.specs.declared.separator.Separator.{Separator}
use Rattle.btree_check.specs.Walks.{separator_pages, FindsInner, IsLevel, Lists, Marks}
use Rattle.btree_check.proofs.Walking.{level_none, lists_none}
use Rattle.btree_check.proofs.LevelReads.{reads_none, page_missing, inner_read, names_within}
use Rattle.btree_check.proofs.check.check_inner.Goals as goal

pub loop-place-init : goal.loop-place-init
loop-place-init g c = record {
  reads = reads_none g.D.Device c.args.pages.now c.args.device.now c.args.seen.now;
  more = omega arith;
  few = omega (arith, ap (λ (l : List Separator). length l) c.new-lower.ensures.items);
  level = λ h a. (
    [],
    level_none c.args.layout _ Inner,
    subst (Lists c.args.layout []) (sym c.new-lower.ensures.items) (lists_none c.args.layout),
  );
}

pub returns-in_err-node-clause-unchanged : goal.returns-in_err-node-clause-unchanged
returns-in_err-node-clause-unchanged g c = unchanged_on c.args.pages.now c.loop-place.pages c.check_node.new.pages
    c.loop-place.invariant.reads.unchanged c.check_node.ensures.unchanged

pub returns-in_err-node-clause-damaged : goal.returns-in_err-node-clause-damaged
returns-in_err-node-clause-damaged g c = λ honest agrees is can level are few.
    let loop = c.loop-place in
    let damaged = was_error c.from_residual.result c.check_node.result c.in_err-node.field-0.0 Damaged
    c.from_residual.ensures.1 c.in_err-node.was is in
    page_missing g.D.Device c.args.pages.now loop.pages c.args.device.now loop.device c.args.seen.now
    loop.seen c.args.layout c.args.separators.now loop.place c.index-separators-place.result loop.invariant.reads
    c.loop-place-test.true c.index-separators-place.is Inner level (c.check_node.result ≡ Err Damaged) can honest
    agrees are damaged c.check_node.ensures.damaged

pub returns-in_err-push_separators-clause-unchanged : goal.returns-in_err-push_separators-clause-unchanged
returns-in_err-push_separators-clause-unchanged g c =
    unchanged_on c.args.pages.now c.loop-place.pages c.check_node.new.pages
    c.loop-place.invariant.reads.unchanged c.check_node.ensures.unchanged

pub returns-then-seen-len-clause-unchanged : goal.returns-then-seen-len-clause-unchanged
returns-then-seen-len-clause-unchanged g c = unchanged_on c.args.pages.now c.loop-place.pages c.check_node.new.pages
    c.loop-place.invariant.reads.unchanged c.check_node.ensures.unchanged

pub returns-then-seen-len-clause-damaged : goal.returns-then-seen-len-clause-damaged
returns-then-seen-len-clause-damaged g c = λ honest agrees is can level are few.
    let loop = c.loop-place in
    let within = names_within g.D.Device c.args.pages.now loop.pages c.args.device.now loop.device c.args.seen.now
    loop.seen c.args.layout c.args.separators.now loop.place c.index-separators-place.result loop.invariant.reads
    c.loop-place-test.true c.index-separators-place.is
    c.in_ok-node.node.layout c.in_ok-node.node.rows loop.lower.items c.push_separators.new.separators.items level
    c.in_ok-node.ensures.node c.in_ok-push_separators.ensures.separators loop.invariant.level honest agrees are in
    let beyond : length c.check_node.new.seen < length c.push_separators.new.separators.items = search rules in
    omega (arith, few, within, beyond, c.in_ok-node.ensures.marks.count, loop.invariant.reads.marks.count)

pub loop-place-preserved : goal.loop-place-preserved
loop-place-preserved g c =
    let loop = c.loop-place in
    let read = c.check_node.ensures in
    let node = c.in_ok-node.ensures in
    let pushed = c.in_ok-push_separators.ensures in
    let within : length c.push_separators.new.separators.items ≤ length c.check_node.new.seen = search rules in
    let next = inner_read g.D.Device c.args.pages.now loop.pages c.args.device.now loop.device c.args.seen.now loop.seen
    c.args.layout c.args.separators.now loop.place c.index-separators-place.result loop.invariant.reads
    c.loop-place-test.true c.index-separators-place.is c.check_node.new.pages c.check_node.new.device
    c.check_node.new.seen c.in_ok-node.node.layout c.in_ok-node.node.rows loop.lower.items
    c.push_separators.new.separators.items _ read.only read.unchanged read.agrees node.marks node.node
    node.shape.0 node.shape.2 pushed.separators pushed.rows loop.invariant.more loop.invariant.level in
    record { reads = next.0; more = next.1; few = omega (arith, within, next.0.marks.count); level = next.2 }

-- The device and the map are only read.
pub check_node-requires-clause-sectors : goal.check_node-requires-clause-sectors
check_node-requires-clause-sectors g c = sectors_on c.args.pages.now c.loop-place.pages _ _
    c.loop-place.invariant.reads.unchanged.committed.volume c.loop-place.invariant.reads.only.sectors
    c.requires.sectors

pub returns-in_err-node-clause-only : goal.returns-in_err-node-clause-only
returns-in_err-node-clause-only g c = passed c.from_residual.result c.in_err-node.field-0.0 c.from_residual.ensures.1
    (λ r. OnlyReads g.D.Device (r ≡ Err Device) c.args.device.now c.check_node.new.device)
    (reads_then g.D.Device _ _ _ _ _ _ (λ is. inr (still_error is)) c.loop-place.invariant.reads.only
    c.in_err-node.ensures.only)

pub returns-in_err-push_separators-clause-only : goal.returns-in_err-push_separators-clause-only
returns-in_err-push_separators-clause-only g c =
    let x = c.in_err-push_separators.field-0.0 in
    passed c.from_residual-in_err-push_separators.result x c.from_residual-in_err-push_separators.ensures.1
    (λ r. OnlyReads g.D.Device (r ≡ Err Device) c.args.device.now c.check_node.new.device)
    (reads_then g.D.Device _ _ _ _ _ _
    (λ is. put_not_device x (memory_is_put x c.in_err-push_separators.ensures.cause) is)
    c.loop-place.invariant.reads.only c.check_node.ensures.only)

pub returns-then-seen-len-clause-only : goal.returns-then-seen-len-clause-only
returns-then-seen-len-clause-only g c = reads_then g.D.Device _ _ _ _ _ _ (λ is. damaged_not_device is)
    c.loop-place.invariant.reads.only c.check_node.ensures.only

pub returns-clause-only : goal.returns-clause-only
returns-clause-only g c = reads_where g.D.Device _ _ _ _ (λ is. never_ok is) c.loop-place.invariant.reads.only

pub returns-in_err-node-clause-agrees : goal.returns-in_err-node-clause-agrees
returns-in_err-node-clause-agrees g c = λ honest agrees. c.check_node.ensures.agrees
    (c.loop-place.invariant.reads.only.honest.0 honest) (c.loop-place.invariant.reads.agrees honest agrees)

pub returns-in_err-push_separators-clause-agrees : goal.returns-in_err-push_separators-clause-agrees
returns-in_err-push_separators-clause-agrees g c = λ honest agrees. c.check_node.ensures.agrees
    (c.loop-place.invariant.reads.only.honest.0 honest) (c.loop-place.invariant.reads.agrees honest agrees)

pub returns-then-seen-len-clause-agrees : goal.returns-then-seen-len-clause-agrees
returns-then-seen-len-clause-agrees g c = λ honest agrees. c.check_node.ensures.agrees
    (c.loop-place.invariant.reads.only.honest.0 honest) (c.loop-place.invariant.reads.agrees honest agrees)

-- A level was checked.
pub returns-clause-level : goal.returns-clause-level
returns-clause-level g c = λ honest agrees.
    let was = c.loop-place.invariant.level honest agrees in
    let pages = pages_on g.D.Device c.args.pages.now c.args.device.now in
    let all = take_all c.loop-place.place c.args.separators.now c.loop-place-test.false in
    (was.0, subst (λ separators. IsLevel c.args.layout pages Inner separators was.0) all was.1, was.2)

pub returns-clause-marks : goal.returns-clause-marks
returns-clause-marks g c =
    subst (λ (l : List Separator). Marks c.args.seen.now (separator_pages l) c.loop-place.seen)
    (take_all c.loop-place.place c.args.separators.now c.loop-place-test.false) c.loop-place.invariant.reads.marks

pub returns-clause-more : goal.returns-clause-more
returns-clause-more g c = omega (arith, c.loop-place.invariant.more, c.loop-place-test.false)

pub returns-clause-damaged : goal.returns-clause-damaged
returns-clause-damaged g c = λ honest agrees is can level are few. never_ok is

pub returns-clause-spent : goal.returns-clause-spent
returns-clause-spent g c = λ is. never_ok is

-- A refusal has no level.
pub returns-in_err-node-clause-level : goal.returns-in_err-node-clause-level
returns-in_err-node-clause-level g c = λ honest agrees.
    if_refused c.from_residual.result c.in_err-node.field-0.0 c.from_residual.ensures.1
    (λ lower. FindsInner c.args.layout (pages_on g.D.Device c.args.pages.now c.args.device.now) c.args.separators.now
    lower.items)

pub returns-in_err-node-clause-marks : goal.returns-in_err-node-clause-marks
returns-in_err-node-clause-marks g c =
    on_refused c.from_residual.result c.in_err-node.field-0.0 c.from_residual.ensures.1
    (Marks c.args.seen.now (separator_pages c.args.separators.now) c.check_node.new.seen)

pub returns-in_err-node-clause-more : goal.returns-in_err-node-clause-more
returns-in_err-node-clause-more g c =
    if_refused c.from_residual.result c.in_err-node.field-0.0 c.from_residual.ensures.1
    (λ lower. length c.args.separators.now ≤ length lower.items)

pub returns-in_err-node-clause-few : goal.returns-in_err-node-clause-few
returns-in_err-node-clause-few g c =
    if_refused c.from_residual.result c.in_err-node.field-0.0 c.from_residual.ensures.1
    (λ lower. length lower.items ≤ length c.args.seen.now)

pub returns-in_err-push_separators-clause-level : goal.returns-in_err-push_separators-clause-level
returns-in_err-push_separators-clause-level g c = λ honest agrees.
    if_refused c.from_residual-in_err-push_separators.result c.in_err-push_separators.field-0.0
    c.from_residual-in_err-push_separators.ensures.1
    (λ lower. FindsInner c.args.layout (pages_on g.D.Device c.args.pages.now c.args.device.now) c.args.separators.now
    lower.items)

pub returns-in_err-push_separators-clause-marks : goal.returns-in_err-push_separators-clause-marks
returns-in_err-push_separators-clause-marks g c =
    on_refused c.from_residual-in_err-push_separators.result c.in_err-push_separators.field-0.0
    c.from_residual-in_err-push_separators.ensures.1
    (Marks c.args.seen.now (separator_pages c.args.separators.now) c.check_node.new.seen)

pub returns-in_err-push_separators-clause-more : goal.returns-in_err-push_separators-clause-more
returns-in_err-push_separators-clause-more g c =
    if_refused c.from_residual-in_err-push_separators.result c.in_err-push_separators.field-0.0
    c.from_residual-in_err-push_separators.ensures.1 (λ lower. length c.args.separators.now ≤ length lower.items)

pub returns-in_err-push_separators-clause-few : goal.returns-in_err-push_separators-clause-few
returns-in_err-push_separators-clause-few g c =
    if_refused c.from_residual-in_err-push_separators.result c.in_err-push_separators.field-0.0
    c.from_residual-in_err-push_separators.ensures.1 (λ lower. length lower.items ≤ length c.args.seen.now)

-- Why it is refused.
pub returns-in_err-node-clause-spent : goal.returns-in_err-node-clause-spent
returns-in_err-node-clause-spent g c = passed c.from_residual.result c.in_err-node.field-0.0 c.from_residual.ensures.1
    (λ r. r ≡ Err Spent → is_spent c.args.pages.now ≡ true)
    (λ is. sym c.loop-place.invariant.reads.unchanged.committed.spent ∙ c.in_err-node.ensures.spent (still_error is))

pub returns-in_err-push_separators-clause-spent : goal.returns-in_err-push_separators-clause-spent
returns-in_err-push_separators-clause-spent g c =
    let x = c.in_err-push_separators.field-0.0 in
    passed c.from_residual-in_err-push_separators.result x c.from_residual-in_err-push_separators.ensures.1
    (λ r. r ≡ Err Spent → is_spent c.args.pages.now ≡ true)
    (λ is. memory_not_spent x c.in_err-push_separators.ensures.cause is)

pub returns-then-seen-len-clause-spent : goal.returns-then-seen-len-clause-spent
returns-then-seen-len-clause-spent g c = λ is. damaged_not_spent is

pub returns-in_err-push_separators-clause-damaged : goal.returns-in_err-push_separators-clause-damaged
returns-in_err-push_separators-clause-damaged g c = λ honest agrees is can level are few.
    let x = c.in_err-push_separators.field-0.0 in
    passed c.from_residual-in_err-push_separators.result x c.from_residual-in_err-push_separators.ensures.1
    (λ r. r ≡ Err Damaged → ⊥)
    (λ e. put_not_damaged x (memory_is_put x c.in_err-push_separators.ensures.cause) e) is

pub returns-in_err-node-clause-cause : goal.returns-in_err-node-clause-cause
returns-in_err-node-clause-cause g c = passed c.from_residual.result c.in_err-node.field-0.0 c.from_residual.ensures.1
    (λ r. IfErr r IsChangeRefusal) (read_is_change c.in_err-node.field-0.0 c.in_err-node.ensures.cause)

pub returns-in_err-push_separators-clause-cause : goal.returns-in_err-push_separators-clause-cause
returns-in_err-push_separators-clause-cause g c =
    let x = c.in_err-push_separators.field-0.0 in
    passed c.from_residual-in_err-push_separators.result x c.from_residual-in_err-push_separators.ensures.1
    (λ r. IfErr r IsChangeRefusal)
    (rest_is_change x (put_is_rest x (memory_is_put x c.in_err-push_separators.ensures.cause)))
