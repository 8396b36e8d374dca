use Rattle.std.proofs.Common.{◌≡◌, ℕ, List, Err, inr, sym, subst, ◌∙◌, arith}
use Rattle.std.specs.Prelude.{Option}
use Rattle.std.proofs.lemmas.Result.{on_ok_weaker}
use Rattle.station.specs.Disk.{Sector}
use Rattle.pages.specs.Pages.{map_now}
use Rattle.pages.specs.declared.error.PagesError.TheVariants.{Device, Damaged, Spent}
use Rattle.btree_pages.specs.declared.row_layout.RowLayout.{RowLayout}
use Rattle.btree.specs.Tree.{IsTreeOrEmpty}
use Rattle.btree.proofs.TreeNodes.{root_node}
use Rattle.btree.proofs.Frames.{holds_tree, unchanged_on, unchanged_still, same_pages}
use Rattle.btree.proofs.Passing.{passed, never_ok, was_error, still_error, on_refused, reads_where, sectors_on}
use Rattle.btree.proofs.Passing.{read_is_change}
use Rattle.btree.specs.Refusals.{IsChangeRefusal}
use Rattle.station.proofs.Calls.{reads_then, reads_nothing}
use Rattle.std.specs.Prelude.{IfErr}
use Rattle.btree_check.proofs.Descending.{finds_root, few_read, root_missing}
use Rattle.btree_check.proofs.check.check_tree.Goals as goal

pub returns-in_err-top-clause-damaged : goal.returns-in_err-top-clause-damaged
returns-in_err-top-clause-damaged g c = λ honest agrees is levels holds unmarked.
    let damaged = was_error c.from_residual.result c.read_node.result c.in_err-top.field-0.0 Damaged
    c.from_residual.ensures.1 c.in_err-top.was is in
    let pages : List (Option Sector) =
    (map_now c.args.pages.now (g.D.Device.state c.args.device.now).disk.present).pages in
    let layout = c.layout-layout.result in
    let root = c.root-root.result in
    let here : IsTreeOrEmpty layout pages root levels =
    subst (λ (l : RowLayout). IsTreeOrEmpty l pages root levels) (sym c.layout-layout.ensures.is)
    (subst (λ (r : ℕ). IsTreeOrEmpty c.args.tree.now.layout pages r levels) (sym c.root-root.ensures) holds) in
    let top = root_node layout pages root levels (holds_tree layout pages root levels here c.if-root-eq0.false) in
    c.read_node.ensures.damaged honest agrees damaged top.kind top.node top.page top.stands

pub returns-clause-unchanged : goal.returns-clause-unchanged
returns-clause-unchanged g c = unchanged_on c.args.pages.now c.read_node.new.pages c.check_levels.new.pages
    c.read_node.ensures.unchanged c.check_levels.ensures.unchanged

pub returns-clause-holds : goal.returns-clause-holds
returns-clause-holds g c = λ honest agrees.
    let read = c.read_node.ensures in
    let same = same_pages c.args.pages.now c.read_node.new.pages (g.D.Device.state c.args.device.now)
    (g.D.Device.state c.read_node.new.device) read.unchanged (read.only.state honest) in
    on_ok_weaker c.check_levels.result (finds_root c.layout-layout.result c.args.tree.now.layout _ _ c.root-root.result
    c.args.tree.now.root c.in_ok-key.key c.push.new.self.items c.new-separators.result.items c.args.seen.now
    c.check_levels.new.seen c.layout-layout.ensures.is c.root-root.ensures same c.in_ok-push.ensures.items
    c.new-separators.ensures.items)
    (c.check_levels.ensures.finds (read.only.honest.0 honest) (read.agrees honest agrees))

pub returns-clause-damaged : goal.returns-clause-damaged
returns-clause-damaged g c = λ honest agrees is levels holds unmarked.
    let read = c.read_node.ensures in
    let numbers = c.page_count-page_count.ensures in
    let image = (g.D.Device.state c.args.device.now).disk.present in
    let same = same_pages c.args.pages.now c.read_node.new.pages (g.D.Device.state c.args.device.now)
    (g.D.Device.state c.read_node.new.device) read.unchanged (read.only.state honest) in
    let few = few_read c.in_ok-top.top c.read_node.result c.args.pages.now image c.page_count-page_count.result
    c.in_ok-top.was read.spent.1 (numbers.pages image) numbers.count numbers.few in
    root_missing c.layout-layout.result c.args.tree.now.layout _ _ c.root-root.result c.args.tree.now.root
    c.in_ok-key.key c.in_ok-top.top c.push.new.self.items c.new-separators.result.items c.args.seen.now levels _
    (c.check_levels.result ≡ Err Damaged) c.layout-layout.ensures.is c.root-root.ensures c.if-root-eq0.false holds same
    c.in_ok-push.ensures.items c.new-separators.ensures.items (c.in_ok-top.ensures.node honest agrees)
    c.in_ok-top.ensures.shape.0 (c.in_ok-key.ensures.is ∙ c.key.ensures.key) few unmarked (omega arith)
    (c.check_levels.ensures.damaged (read.only.honest.0 honest) (read.agrees honest agrees)) is

-- The device and the map are only read.
pub check_levels-requires-clause-sectors : goal.check_levels-requires-clause-sectors
check_levels-requires-clause-sectors g c = sectors_on c.args.pages.now c.read_node.new.pages _ _
    c.read_node.ensures.unchanged.committed.volume c.read_node.ensures.only.sectors c.requires.sectors

pub returns-then-root-eq0-clause-only : goal.returns-then-root-eq0-clause-only
returns-then-root-eq0-clause-only g c =
    reads_where g.D.Device _ _ _ _ (λ is. never_ok is) (reads_nothing g.D.Device c.args.device.now)

pub returns-then-root-eq0-clause-unchanged : goal.returns-then-root-eq0-clause-unchanged
returns-then-root-eq0-clause-unchanged g c = unchanged_still c.args.pages.now

pub returns-in_err-top-clause-only : goal.returns-in_err-top-clause-only
returns-in_err-top-clause-only g c = reads_where g.D.Device _ _ _ _
    (λ is. was_error c.from_residual.result c.read_node.result c.in_err-top.field-0.0 Device
    c.from_residual.ensures.1 c.in_err-top.was is) c.read_node.ensures.only

pub returns-clause-only : goal.returns-clause-only
returns-clause-only g c =
    reads_then g.D.Device _ _ _ _ _ _ (λ is. inr is) c.read_node.ensures.only c.check_levels.ensures.only

pub returns-clause-agrees : goal.returns-clause-agrees
returns-clause-agrees g c = λ honest agrees. c.check_levels.ensures.agrees
    (c.read_node.ensures.only.honest.0 honest) (c.read_node.ensures.agrees honest agrees)

-- Why it is refused.
pub returns-in_err-top-clause-holds : goal.returns-in_err-top-clause-holds
returns-in_err-top-clause-holds g c = λ honest agrees.
    on_refused c.from_residual.result c.in_err-top.field-0.0 c.from_residual.ensures.1 _

pub returns-in_err-top-clause-cause : goal.returns-in_err-top-clause-cause
returns-in_err-top-clause-cause g c = passed c.from_residual.result c.in_err-top.field-0.0 c.from_residual.ensures.1
    (λ r. IfErr r IsChangeRefusal) (read_is_change c.in_err-top.field-0.0 c.in_err-top.ensures.cause)

pub returns-then-root-eq0-clause-damaged : goal.returns-then-root-eq0-clause-damaged
returns-then-root-eq0-clause-damaged g c = λ honest agrees is levels holds unmarked. never_ok is

pub returns-then-root-eq0-clause-spent : goal.returns-then-root-eq0-clause-spent
returns-then-root-eq0-clause-spent g c = (
  λ is. never_ok is,
  λ both. absurd (both.1 (sym c.root-root.ensures ∙ c.if-root-eq0.true)),
)

pub returns-in_err-top-clause-spent : goal.returns-in_err-top-clause-spent
returns-in_err-top-clause-spent g c = (
  λ is. (
    c.read_node.ensures.spent.0 (was_error c.from_residual.result c.read_node.result c.in_err-top.field-0.0 Spent
        c.from_residual.ensures.1 c.in_err-top.was is),
    λ zero. c.if-root-eq0.false (c.root-root.ensures ∙ zero),
  ),
  λ both. passed c.from_residual.result c.in_err-top.field-0.0 c.from_residual.ensures.1 (λ r. r ≡ Err Spent)
      (still_error (sym c.in_err-top.was ∙ c.read_node.ensures.spent.1 both.0)),
)

pub returns-clause-spent : goal.returns-clause-spent
returns-clause-spent g c =
    let read = c.read_node.ensures in (
      λ is. never_ok (sym c.in_ok-top.was
          ∙ read.spent.1 (sym read.unchanged.committed.spent ∙ c.check_levels.ensures.spent is)),
      λ both. never_ok (sym c.in_ok-top.was ∙ read.spent.1 both.0),
    )
