use Rattle.std.proofs.Common.{◌∙◌, List, inr, sym, ap, subst, arith}
use Rattle.std.specs.Prelude.{Option, IfErr, slice_index_or}
use Rattle.station.specs.Disk.{Sector}
use Rattle.pages.specs.Pages.{map_now}
use Rattle.pages.specs.declared.error.PagesError.TheVariants.{Device, Damaged, Spent}
use Rattle.btree_pages.specs.declared.row_layout.Kind.TheVariants.{Leaf, Inner}
use Rattle.btree.specs.Calls.{pages_on}
use Rattle.btree_check.specs.Walks.{IsLevel}
use Rattle.btree_check.specs.declared.separator.Separator.{Separator}
use Rattle.btree.proofs.Frames.{unchanged_on, same_pages}
use Rattle.btree.proofs.Passing.{passed, never_ok, was_error, if_refused, on_refused, reads_where, sectors_on}
use Rattle.btree.proofs.Passing.{read_is_change}
use Rattle.btree.specs.Refusals.{IsChangeRefusal}
use Rattle.station.proofs.Calls.{reads_then}
use Rattle.btree_check.proofs.Descending.{first_kind}
use Rattle.btree_check.proofs.Walking.{named_node}
use Rattle.btree_check.proofs.check.check_level.Goals as goal

pub returns-in_err-first-clause-damaged : goal.returns-in_err-first-clause-damaged
returns-in_err-first-clause-damaged g c = λ honest agrees is can kind level are up few.
    let damaged = was_error c.from_residual.result c.read_node.result c.in_err-first.field-0.0 Damaged
    c.from_residual.ensures.1 c.in_err-first.was is in
    let pages : List (Option Sector) =
    (map_now c.args.pages.now (g.D.Device.state c.args.device.now).disk.present).pages in
    let separator = slice_index_or c.args.separators.now 0 c.index-separators-0.result in
    let here = named_node c.args.layout pages kind c.args.separators.now 0 separator level c.requires.some
    (ap (λ (n : Separator). slice_index_or c.args.separators.now 0 n) c.index-separators-0.is) are in
    c.read_node.ensures.damaged honest agrees damaged kind here.node (ap (λ (n : Separator). n.page) here.named)
    here.stands

pub returns-in_err-check_leaves-in-Leaf-clause-unchanged : goal.returns-in_err-check_leaves-in-Leaf-clause-unchanged
returns-in_err-check_leaves-in-Leaf-clause-unchanged g c = unchanged_on c.args.pages.now c.read_node.new.pages
    c.check_leaves.new.pages c.read_node.ensures.unchanged c.check_leaves.ensures.unchanged

pub returns-in_err-check_leaves-in-Leaf-clause-damaged : goal.returns-in_err-check_leaves-in-Leaf-clause-damaged
returns-in_err-check_leaves-in-Leaf-clause-damaged g c = λ honest agrees is can kind level are up few.
    let damaged = was_error c.from_residual-in_err-check_leaves-in-Leaf.result c.check_leaves.result
    c.in_err-check_leaves-in-Leaf.field-0.0 Damaged
    c.from_residual-in_err-check_leaves-in-Leaf.ensures.1 c.in_err-check_leaves-in-Leaf.was is in
    let read = c.read_node.ensures in
    let leaf = sym c.kind.ensures ∙ c.in-Leaf.is in
    let here = first_kind c.args.layout (pages_on g.D.Device c.args.pages.now c.args.device.now) kind Leaf
    c.args.separators.now c.index-separators-0.result level c.in_ok-first.first c.requires.some c.index-separators-0.is
    are (c.in_ok-first.ensures.node honest agrees) leaf in
    c.check_leaves.ensures.damaged (read.only.honest.0 honest) (read.agrees honest agrees) damaged can level
    (subst (λ (p : List (Option Sector)). IsLevel c.args.layout p Leaf c.args.separators.now level)
    (sym (same_pages c.args.pages.now c.read_node.new.pages _ _ read.unchanged (read.only.state honest))) here.1)
    (up here.0)

pub returns-in_err-lower-in-Inner-clause-unchanged : goal.returns-in_err-lower-in-Inner-clause-unchanged
returns-in_err-lower-in-Inner-clause-unchanged g c = unchanged_on c.args.pages.now c.read_node.new.pages
    c.check_inner.new.pages c.read_node.ensures.unchanged c.check_inner.ensures.unchanged

pub returns-in_err-lower-in-Inner-clause-damaged : goal.returns-in_err-lower-in-Inner-clause-damaged
returns-in_err-lower-in-Inner-clause-damaged g c = λ honest agrees is can kind level are up few.
    let damaged = was_error c.from_residual-in_err-lower-in-Inner.result c.check_inner.result
    c.in_err-lower-in-Inner.field-0.0 Damaged
    c.from_residual-in_err-lower-in-Inner.ensures.1 c.in_err-lower-in-Inner.was is in
    let read = c.read_node.ensures in
    let inner = sym c.kind.ensures ∙ c.in-Inner.is in
    let here = first_kind c.args.layout (pages_on g.D.Device c.args.pages.now c.args.device.now) kind Inner
    c.args.separators.now c.index-separators-0.result level c.in_ok-first.first c.requires.some c.index-separators-0.is
    are (c.in_ok-first.ensures.node honest agrees) inner in
    c.check_inner.ensures.damaged (read.only.honest.0 honest) (read.agrees honest agrees) damaged can level
    (subst (λ (p : List (Option Sector)). IsLevel c.args.layout p Inner c.args.separators.now level)
    (sym (same_pages c.args.pages.now c.read_node.new.pages _ _ read.unchanged (read.only.state honest))) here.1)
    (few here.0)

pub returns-in_ok-check_leaves-in-Leaf-clause-unchanged : goal.returns-in_ok-check_leaves-in-Leaf-clause-unchanged
returns-in_ok-check_leaves-in-Leaf-clause-unchanged g c = unchanged_on c.args.pages.now c.read_node.new.pages
    c.check_leaves.new.pages c.read_node.ensures.unchanged c.check_leaves.ensures.unchanged

pub returns-in_ok-check_leaves-in-Leaf-clause-level : goal.returns-in_ok-check_leaves-in-Leaf-clause-level
returns-in_ok-check_leaves-in-Leaf-clause-level g c = λ honest agrees.
    let same = same_pages c.args.pages.now c.read_node.new.pages (g.D.Device.state c.args.device.now)
    (g.D.Device.state c.read_node.new.device) c.read_node.ensures.unchanged (c.read_node.ensures.only.state honest) in
    let found = c.in_ok-check_leaves-in-Leaf.ensures.level (c.read_node.ensures.only.honest.0 honest)
    (c.read_node.ensures.agrees honest agrees) in (
      found.0,
      subst (λ (p : List (Option Sector)). IsLevel c.args.layout p Leaf c.args.separators.now found.0) same found.1,
      found.2,
    )

pub returns-in_ok-lower-in-Inner-clause-unchanged : goal.returns-in_ok-lower-in-Inner-clause-unchanged
returns-in_ok-lower-in-Inner-clause-unchanged g c = unchanged_on c.args.pages.now c.read_node.new.pages
    c.check_inner.new.pages c.read_node.ensures.unchanged c.check_inner.ensures.unchanged

pub returns-in_ok-lower-in-Inner-clause-level : goal.returns-in_ok-lower-in-Inner-clause-level
returns-in_ok-lower-in-Inner-clause-level g c = λ honest agrees.
    let same = same_pages c.args.pages.now c.read_node.new.pages (g.D.Device.state c.args.device.now)
    (g.D.Device.state c.read_node.new.device) c.read_node.ensures.unchanged (c.read_node.ensures.only.state honest) in
    let found = c.in_ok-lower-in-Inner.ensures.level (c.read_node.ensures.only.honest.0 honest)
    (c.read_node.ensures.agrees honest agrees) in (
      found.0,
      subst (λ (p : List (Option Sector)). IsLevel c.args.layout p Inner c.args.separators.now found.0) same found.1,
      found.2,
    )

-- The device and the map are only read.

pub check_leaves-requires-clause-sectors : goal.check_leaves-requires-clause-sectors
check_leaves-requires-clause-sectors g c = sectors_on c.args.pages.now c.read_node.new.pages _ _
    c.read_node.ensures.unchanged.committed.volume c.read_node.ensures.only.sectors c.requires.sectors

pub check_inner-requires-clause-sectors : goal.check_inner-requires-clause-sectors
check_inner-requires-clause-sectors g c = sectors_on c.args.pages.now c.read_node.new.pages _ _
    c.read_node.ensures.unchanged.committed.volume c.read_node.ensures.only.sectors c.requires.sectors

pub returns-in_err-first-clause-only : goal.returns-in_err-first-clause-only
returns-in_err-first-clause-only g c = reads_where g.D.Device _ _ _ _
    (λ is. was_error c.from_residual.result c.read_node.result c.in_err-first.field-0.0 Device
    c.from_residual.ensures.1 c.in_err-first.was is) c.read_node.ensures.only

pub returns-in_err-check_leaves-in-Leaf-clause-only : goal.returns-in_err-check_leaves-in-Leaf-clause-only
returns-in_err-check_leaves-in-Leaf-clause-only g c = reads_then g.D.Device _ _ _ _ _ _
    (λ is. inr (was_error c.from_residual-in_err-check_leaves-in-Leaf.result c.check_leaves.result
    c.in_err-check_leaves-in-Leaf.field-0.0 Device
    c.from_residual-in_err-check_leaves-in-Leaf.ensures.1 c.in_err-check_leaves-in-Leaf.was is))
    c.read_node.ensures.only c.check_leaves.ensures.only

pub returns-in_err-lower-in-Inner-clause-only : goal.returns-in_err-lower-in-Inner-clause-only
returns-in_err-lower-in-Inner-clause-only g c = reads_then g.D.Device _ _ _ _ _ _
    (λ is. inr (was_error c.from_residual-in_err-lower-in-Inner.result c.check_inner.result
    c.in_err-lower-in-Inner.field-0.0 Device
    c.from_residual-in_err-lower-in-Inner.ensures.1 c.in_err-lower-in-Inner.was is))
    c.read_node.ensures.only c.check_inner.ensures.only

pub returns-in_ok-check_leaves-in-Leaf-clause-only : goal.returns-in_ok-check_leaves-in-Leaf-clause-only
returns-in_ok-check_leaves-in-Leaf-clause-only g c =
    reads_then g.D.Device _ _ _ _ _ _ (λ is. never_ok is) c.read_node.ensures.only c.check_leaves.ensures.only

pub returns-in_ok-lower-in-Inner-clause-only : goal.returns-in_ok-lower-in-Inner-clause-only
returns-in_ok-lower-in-Inner-clause-only g c =
    reads_then g.D.Device _ _ _ _ _ _ (λ is. never_ok is) c.read_node.ensures.only c.check_inner.ensures.only

pub returns-in_err-check_leaves-in-Leaf-clause-agrees : goal.returns-in_err-check_leaves-in-Leaf-clause-agrees
returns-in_err-check_leaves-in-Leaf-clause-agrees g c = λ honest agrees. c.check_leaves.ensures.agrees
    (c.read_node.ensures.only.honest.0 honest) (c.read_node.ensures.agrees honest agrees)

pub returns-in_err-lower-in-Inner-clause-agrees : goal.returns-in_err-lower-in-Inner-clause-agrees
returns-in_err-lower-in-Inner-clause-agrees g c = λ honest agrees. c.check_inner.ensures.agrees
    (c.read_node.ensures.only.honest.0 honest) (c.read_node.ensures.agrees honest agrees)

pub returns-in_ok-check_leaves-in-Leaf-clause-agrees : goal.returns-in_ok-check_leaves-in-Leaf-clause-agrees
returns-in_ok-check_leaves-in-Leaf-clause-agrees g c = λ honest agrees. c.check_leaves.ensures.agrees
    (c.read_node.ensures.only.honest.0 honest) (c.read_node.ensures.agrees honest agrees)

pub returns-in_ok-lower-in-Inner-clause-agrees : goal.returns-in_ok-lower-in-Inner-clause-agrees
returns-in_ok-lower-in-Inner-clause-agrees g c = λ honest agrees. c.check_inner.ensures.agrees
    (c.read_node.ensures.only.honest.0 honest) (c.read_node.ensures.agrees honest agrees)

-- A refusal has no level, and why it is refused.

pub returns-in_err-first-clause-level : goal.returns-in_err-first-clause-level
returns-in_err-first-clause-level g c = λ honest agrees.
    if_refused c.from_residual.result c.in_err-first.field-0.0
    c.from_residual.ensures.1 _

pub returns-in_err-first-clause-marks : goal.returns-in_err-first-clause-marks
returns-in_err-first-clause-marks g c =
    on_refused c.from_residual.result c.in_err-first.field-0.0
    c.from_residual.ensures.1 _

pub returns-in_err-first-clause-some : goal.returns-in_err-first-clause-some
returns-in_err-first-clause-some g c =
    if_refused c.from_residual.result c.in_err-first.field-0.0
    c.from_residual.ensures.1 _

pub returns-in_err-first-clause-spent : goal.returns-in_err-first-clause-spent
returns-in_err-first-clause-spent g c = λ is. c.read_node.ensures.spent.0
    (was_error c.from_residual.result c.read_node.result c.in_err-first.field-0.0 Spent
    c.from_residual.ensures.1 c.in_err-first.was is)

pub returns-in_err-first-clause-cause : goal.returns-in_err-first-clause-cause
returns-in_err-first-clause-cause g c =
    passed c.from_residual.result c.in_err-first.field-0.0
    c.from_residual.ensures.1 (λ r. IfErr r IsChangeRefusal)
    (read_is_change c.in_err-first.field-0.0 c.in_err-first.ensures.cause)

pub returns-in_err-check_leaves-in-Leaf-clause-level : goal.returns-in_err-check_leaves-in-Leaf-clause-level
returns-in_err-check_leaves-in-Leaf-clause-level g c = λ honest agrees.
    if_refused c.from_residual-in_err-check_leaves-in-Leaf.result c.in_err-check_leaves-in-Leaf.field-0.0
    c.from_residual-in_err-check_leaves-in-Leaf.ensures.1 _

pub returns-in_err-check_leaves-in-Leaf-clause-marks : goal.returns-in_err-check_leaves-in-Leaf-clause-marks
returns-in_err-check_leaves-in-Leaf-clause-marks g c =
    on_refused c.from_residual-in_err-check_leaves-in-Leaf.result c.in_err-check_leaves-in-Leaf.field-0.0
    c.from_residual-in_err-check_leaves-in-Leaf.ensures.1 _

pub returns-in_err-check_leaves-in-Leaf-clause-some : goal.returns-in_err-check_leaves-in-Leaf-clause-some
returns-in_err-check_leaves-in-Leaf-clause-some g c =
    if_refused c.from_residual-in_err-check_leaves-in-Leaf.result c.in_err-check_leaves-in-Leaf.field-0.0
    c.from_residual-in_err-check_leaves-in-Leaf.ensures.1 _

pub returns-in_err-check_leaves-in-Leaf-clause-spent : goal.returns-in_err-check_leaves-in-Leaf-clause-spent
returns-in_err-check_leaves-in-Leaf-clause-spent g c = λ is. sym c.read_node.ensures.unchanged.committed.spent
    ∙ c.check_leaves.ensures.spent (was_error c.from_residual-in_err-check_leaves-in-Leaf.result c.check_leaves.result
    c.in_err-check_leaves-in-Leaf.field-0.0 Spent
    c.from_residual-in_err-check_leaves-in-Leaf.ensures.1 c.in_err-check_leaves-in-Leaf.was is)

pub returns-in_err-check_leaves-in-Leaf-clause-cause : goal.returns-in_err-check_leaves-in-Leaf-clause-cause
returns-in_err-check_leaves-in-Leaf-clause-cause g c =
    passed c.from_residual-in_err-check_leaves-in-Leaf.result c.in_err-check_leaves-in-Leaf.field-0.0
    c.from_residual-in_err-check_leaves-in-Leaf.ensures.1 (λ r. IfErr r IsChangeRefusal)
    (read_is_change c.in_err-check_leaves-in-Leaf.field-0.0 c.in_err-check_leaves-in-Leaf.ensures.cause)

pub returns-in_err-lower-in-Inner-clause-level : goal.returns-in_err-lower-in-Inner-clause-level
returns-in_err-lower-in-Inner-clause-level g c = λ honest agrees.
    if_refused c.from_residual-in_err-lower-in-Inner.result c.in_err-lower-in-Inner.field-0.0
    c.from_residual-in_err-lower-in-Inner.ensures.1 _

pub returns-in_err-lower-in-Inner-clause-marks : goal.returns-in_err-lower-in-Inner-clause-marks
returns-in_err-lower-in-Inner-clause-marks g c =
    on_refused c.from_residual-in_err-lower-in-Inner.result c.in_err-lower-in-Inner.field-0.0
    c.from_residual-in_err-lower-in-Inner.ensures.1 _

pub returns-in_err-lower-in-Inner-clause-some : goal.returns-in_err-lower-in-Inner-clause-some
returns-in_err-lower-in-Inner-clause-some g c =
    if_refused c.from_residual-in_err-lower-in-Inner.result c.in_err-lower-in-Inner.field-0.0
    c.from_residual-in_err-lower-in-Inner.ensures.1 _

pub returns-in_err-lower-in-Inner-clause-spent : goal.returns-in_err-lower-in-Inner-clause-spent
returns-in_err-lower-in-Inner-clause-spent g c = λ is. sym c.read_node.ensures.unchanged.committed.spent
    ∙ c.check_inner.ensures.spent
    (was_error c.from_residual-in_err-lower-in-Inner.result c.check_inner.result c.in_err-lower-in-Inner.field-0.0 Spent
    c.from_residual-in_err-lower-in-Inner.ensures.1 c.in_err-lower-in-Inner.was is)

pub returns-in_err-lower-in-Inner-clause-cause : goal.returns-in_err-lower-in-Inner-clause-cause
returns-in_err-lower-in-Inner-clause-cause g c =
    passed c.from_residual-in_err-lower-in-Inner.result c.in_err-lower-in-Inner.field-0.0
    c.from_residual-in_err-lower-in-Inner.ensures.1 (λ r. IfErr r IsChangeRefusal)
    c.in_err-lower-in-Inner.ensures.cause

-- A level was checked.

pub returns-in_ok-check_leaves-in-Leaf-clause-damaged : goal.returns-in_ok-check_leaves-in-Leaf-clause-damaged
returns-in_ok-check_leaves-in-Leaf-clause-damaged g c = λ honest agrees is can kind level are up few. never_ok is

pub returns-in_ok-check_leaves-in-Leaf-clause-spent : goal.returns-in_ok-check_leaves-in-Leaf-clause-spent
returns-in_ok-check_leaves-in-Leaf-clause-spent g c = λ is. never_ok is

pub returns-in_ok-lower-in-Inner-clause-damaged : goal.returns-in_ok-lower-in-Inner-clause-damaged
returns-in_ok-lower-in-Inner-clause-damaged g c = λ honest agrees is can kind level are up few. never_ok is

pub returns-in_ok-lower-in-Inner-clause-spent : goal.returns-in_ok-lower-in-Inner-clause-spent
returns-in_ok-lower-in-Inner-clause-spent g c = λ is. never_ok is

pub returns-in_ok-lower-in-Inner-clause-some : goal.returns-in_ok-lower-in-Inner-clause-some
returns-in_ok-lower-in-Inner-clause-some g c =
    omega (arith, c.requires.some, c.in_ok-lower-in-Inner.ensures.more)
