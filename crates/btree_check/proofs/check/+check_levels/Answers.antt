use Rattle.std.proofs.Common.{◌≡◌, ◌∙◌, List, Err, inr, length, sym, ap, subst, arith}
use Rattle.std.specs.Prelude.{Option}
use Rattle.std.proofs.lemmas.Result.{on_ok_weaker}
use Rattle.station.specs.Disk.{Sector}
use Rattle.pages.specs.Pages.{map_now}
use Rattle.pages.specs.declared.error.PagesError.TheVariants.{Device, Damaged, Spent}
use Rattle.btree_check.specs.declared.separator.Separator.{Separator}
use Rattle.btree_check.specs.Walks.{IsUnder, FindsLevels}
use Rattle.btree.proofs.Frames.{unchanged_on, same_pages}
use Rattle.btree.proofs.Passing.{never_ok, was_error, on_refused, reads_where}
use Rattle.btree.proofs.Passing.{damaged_not_device, damaged_not_spent}
use Rattle.station.proofs.Calls.{reads_then, reads_nothing}
use Rattle.btree_check.proofs.Checking.{first_level, finds_leaves}
use Rattle.btree_check.proofs.Descending.{finds_lower, lower_missing, none_under}
use Rattle.btree_check.proofs.check.+check_levels.Goals as goal

pub returns-in_err-lower-clause-damaged : goal.returns-in_err-lower-clause-damaged
returns-in_err-lower-clause-damaged g t c = λ honest agrees is levels under can small few.
    let damaged = was_error c.from_residual.result c.check_level.result c.in_err-lower.field-0.0 Damaged
    c.from_residual.ensures.1 c.in_err-lower.was is in
    let pages : List (Option Sector) =
    (map_now c.args.pages.now (g.D.Device.state c.args.device.now).disk.present).pages in
    let separators : List Separator = c.as_slice.result.now in
    let first = first_level c.args.layout pages separators c.args.seen.now levels
    (subst (λ (n : List Separator). IsUnder c.args.layout pages n levels) (sym c.as_slice.ensures.value) under) can in
    c.check_level.ensures.damaged honest agrees damaged first.can first.kind first.level first.is first.up first.few

pub returns-in-Some-clause-unchanged : goal.returns-in-Some-clause-unchanged
returns-in-Some-clause-unchanged g t c = unchanged_on c.args.pages.now c.check_level.new.pages c.check_levels.new.pages
    c.check_level.ensures.unchanged c.check_levels.ensures.unchanged

pub returns-in-Some-clause-finds : goal.returns-in-Some-clause-finds
returns-in-Some-clause-finds g t c = λ honest agrees.
    let level = c.check_level.ensures in
    let told = rw c.in-Some.is at (c.in_ok-lower.ensures.level honest agrees) in
    let same = same_pages c.args.pages.now c.check_level.new.pages (g.D.Device.state c.args.device.now)
    (g.D.Device.state c.check_level.new.device) level.unchanged (level.only.state honest) in
    on_ok_weaker c.check_levels.result (finds_lower c.args.layout _ _ _ c.as_slice.result.now c.in-Some.lower.items
    c.args.seen.now c.check_level.new.seen c.check_levels.new.seen c.as_slice.ensures.value told
    c.in_ok-lower.ensures.marks same)
    (c.check_levels.ensures.finds (level.only.honest.0 honest) (level.agrees honest agrees))

pub returns-in-Some-clause-damaged : goal.returns-in-Some-clause-damaged
returns-in-Some-clause-damaged g t c = λ honest agrees is levels under can small few.
    let level = c.check_level.ensures in
    let told = rw c.in-Some.is at (c.in_ok-lower.ensures.level honest agrees) in
    let same = same_pages c.args.pages.now c.check_level.new.pages (g.D.Device.state c.args.device.now)
    (g.D.Device.state c.check_level.new.device) level.unchanged (level.only.state honest) in
    lower_missing c.args.layout _ _ c.args.separators.items c.as_slice.result.now c.in-Some.lower.items c.args.seen.now
    c.check_level.new.seen levels c.args.depth (c.check_levels.result ≡ Err Damaged) c.as_slice.ensures.value
    c.requires.some told c.in_ok-lower.ensures.marks same under can small few
    (c.check_levels.ensures.damaged (level.only.honest.0 honest) (level.agrees honest agrees)) is

pub returns-clause-finds : goal.returns-clause-finds
returns-clause-finds g t c = λ honest agrees.
    let pages : List (Option Sector) =
    (map_now c.args.pages.now (g.D.Device.state c.args.device.now).disk.present).pages in
    let told = rw c.in-None.is at (c.in_ok-lower.ensures.level honest agrees) in
    let separators : List Separator = c.as_slice.result.now in
    subst (λ (n : List Separator). FindsLevels c.args.layout pages n c.args.seen.now c.check_level.new.seen)
    c.as_slice.ensures.value
    (finds_leaves c.args.layout pages separators c.args.seen.now c.check_level.new.seen told.0 told.1 told.2
    c.in_ok-lower.ensures.marks)

-- The device and the map are only read.
pub returns-then-depth-eq0-clause-only : goal.returns-then-depth-eq0-clause-only
returns-then-depth-eq0-clause-only g t c = reads_where g.D.Device _ _ _ _ (λ is. damaged_not_device is)
    (reads_nothing g.D.Device c.args.device.now)

pub returns-in_err-lower-clause-only : goal.returns-in_err-lower-clause-only
returns-in_err-lower-clause-only g t c = reads_where g.D.Device _ _ _ _
    (λ is. was_error c.from_residual.result c.check_level.result c.in_err-lower.field-0.0 Device
    c.from_residual.ensures.1 c.in_err-lower.was is) c.check_level.ensures.only

pub returns-in-Some-clause-only : goal.returns-in-Some-clause-only
returns-in-Some-clause-only g t c =
    reads_then g.D.Device _ _ _ _ _ _ (λ is. inr is) c.check_level.ensures.only c.check_levels.ensures.only

pub returns-clause-only : goal.returns-clause-only
returns-clause-only g t c = reads_where g.D.Device _ _ _ _ (λ is. never_ok is) c.check_level.ensures.only

pub returns-in-Some-clause-agrees : goal.returns-in-Some-clause-agrees
returns-in-Some-clause-agrees g t c = λ honest agrees. c.check_levels.ensures.agrees
    (c.check_level.ensures.only.honest.0 honest) (c.check_level.ensures.agrees honest agrees)

-- No levels are under separators.
pub check_level-requires-clause-some : goal.check_level-requires-clause-some
check_level-requires-clause-some g t c =
    omega (arith, c.requires.some, ap (λ (l : List Separator). length l) c.as_slice.ensures.value)

pub returns-then-depth-eq0-clause-damaged : goal.returns-then-depth-eq0-clause-damaged
returns-then-depth-eq0-clause-damaged g t c = λ honest agrees is levels under can small few.
    none_under c.args.layout _ c.args.separators.items levels under
    (let zero = c.if-depth-eq0.true in omega (arith, few, zero))

-- Why it is refused.
pub returns-in_err-lower-clause-finds : goal.returns-in_err-lower-clause-finds
returns-in_err-lower-clause-finds g t c = λ honest agrees.
    on_refused c.from_residual.result c.in_err-lower.field-0.0 c.from_residual.ensures.1 _

pub returns-then-depth-eq0-clause-spent : goal.returns-then-depth-eq0-clause-spent
returns-then-depth-eq0-clause-spent g t c = λ is. damaged_not_spent is

pub returns-in_err-lower-clause-spent : goal.returns-in_err-lower-clause-spent
returns-in_err-lower-clause-spent g t c = λ is. c.check_level.ensures.spent
    (was_error c.from_residual.result c.check_level.result c.in_err-lower.field-0.0 Spent
    c.from_residual.ensures.1 c.in_err-lower.was is)

pub returns-in-Some-clause-spent : goal.returns-in-Some-clause-spent
returns-in-Some-clause-spent g t c = λ is.
    sym c.check_level.ensures.unchanged.committed.spent ∙ c.check_levels.ensures.spent is

pub returns-clause-damaged : goal.returns-clause-damaged
returns-clause-damaged g t c = λ honest agrees is levels under can small few. never_ok is

pub returns-clause-spent : goal.returns-clause-spent
returns-clause-spent g t c = λ is. never_ok is
