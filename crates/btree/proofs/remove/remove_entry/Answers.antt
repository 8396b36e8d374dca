use Rattle.std.proofs.Common.{◌≡◌, ◌≢◌, ◌↔◌, true, List, length, refl, sym, ap, subst, ◌∙◌}
use Rattle.std.specs.Prelude.{IfErr, IfOk, Err, None}
use Rattle.pages.specs.Pages.{is_spent, changed_pages_of, filled_of}
use Rattle.pages.specs.declared.error.PagesError.TheVariants.{Damaged, Device, Spent}
use Rattle.btree.specs.Calls.{pages_on, EditsPages}
use Rattle.btree.specs.Path.{EndsAt}
use Rattle.btree.specs.Refusals.{IsChangeRefusal}
use Rattle.btree.specs.Removals.{Removes}
use Rattle.btree.specs.Results.{FewChanged, FewFilled}
use Rattle.btree.specs.Tree.{TreeNode, IsTree}
use Rattle.btree.proofs.Changing.{change_read}
use Rattle.btree.proofs.EditedPages.{edits_last, edits_none, edits_read, edits_where}
use Rattle.btree.proofs.Frames.{holds_tree, unchanged_on, unchanged_still}
use Rattle.btree.proofs.Inserting.{no_levels}
use Rattle.btree.proofs.Passing.{passed, never_ok, still_error, was_error, if_refused, on_refused, refused_never}
use Rattle.btree.proofs.Passing.{few_equal, few_same, search_is_change, sectors_on, pages_before}
use Rattle.btree.proofs.ReadMaps.{live_after, small_map}
use Rattle.btree.proofs.RemovalCalls.{few_removed}
use Rattle.btree.proofs.remove.remove_entry.Goals as goal

pub returns-then-root-eq0-clause-spent : goal.returns-then-root-eq0-clause-spent
returns-then-root-eq0-clause-spent g c = (λ is. never_ok is, λ both. absurd (both.1 c.if-root-eq0.true))

pub returns-in_err-way-clause-spent : goal.returns-in_err-way-clause-spent
returns-in_err-way-clause-spent g c =
    passed c.from_residual.result c.in_err-way.field-0.0 c.from_residual.ensures.1
    (λ r. (r ≡ Err Spent) ↔ ((is_spent c.args.pages.now ≡ true) × (c.args.root ≢ 0))) (
      λ is. (c.in_err-way.ensures.spent.0 (still_error is), c.if-root-eq0.false),
      λ both. still_error (c.in_err-way.ensures.spent.1 both.0),
    )

pub returns-in_err-way-clause-cause : goal.returns-in_err-way-clause-cause
returns-in_err-way-clause-cause g c =
    passed c.from_residual.result c.in_err-way.field-0.0 c.from_residual.ensures.1
    (λ r. IfErr r IsChangeRefusal)
    (search_is_change c.args.layout c.in_err-way.field-0.0 c.in_err-way.ensures.cause)

pub returns-then-root-eq0-clause-edits : goal.returns-then-root-eq0-clause-edits
returns-then-root-eq0-clause-edits g c =
    edits_where g.D.Device _ _ _ _ _ _ (λ is. never_ok is)
    (edits_none g.D.Device c.args.pages.now c.args.device.now)

pub returns-in_err-way-clause-edits : goal.returns-in_err-way-clause-edits
returns-in_err-way-clause-edits g c =
    let way = c.in_err-way.ensures in
    passed c.from_residual.result c.in_err-way.field-0.0 c.from_residual.ensures.1
    (λ r. EditsPages g.D.Device (r ≡ Err Device) c.args.pages.now c.args.device.now c.descend.new.pages
    c.descend.new.device)
    (edits_where g.D.Device _ _ _ _ _ _ (λ is. still_error is)
    (edits_read g.D.Device _ _ _ _ _ way.only way.unchanged way.agrees))

pub returns-in_err-way-clause-removed : goal.returns-in_err-way-clause-removed
returns-in_err-way-clause-removed g c =
    λ honest agrees levels holds. if_refused c.from_residual.result c.in_err-way.field-0.0 c.from_residual.ensures.1
    (Removes c.args.layout (pages_on g.D.Device c.args.pages.now c.args.device.now) levels
    (pages_on g.D.Device c.descend.new.pages c.args.device.now) c.args.key.now)

pub returns-in_err-way-clause-missing : goal.returns-in_err-way-clause-missing
returns-in_err-way-clause-missing g c =
    λ is. refused_never c.from_residual.result c.in_err-way.field-0.0 None c.from_residual.ensures.1 is

pub returns-in_err-way-clause-changed_pages : goal.returns-in_err-way-clause-changed_pages
returns-in_err-way-clause-changed_pages g c =
    λ honest agrees levels holds. on_refused c.from_residual.result c.in_err-way.field-0.0 c.from_residual.ensures.1
    (FewChanged 42 c.args.pages.now c.descend.new.pages)

pub returns-in_err-way-clause-filled : goal.returns-in_err-way-clause-filled
returns-in_err-way-clause-filled g c =
    λ honest agrees levels holds. on_refused c.from_residual.result c.in_err-way.field-0.0 c.from_residual.ensures.1
    (FewFilled 42 c.args.pages.now c.descend.new.pages)

pub returns-in_err-way-clause-damaged : goal.returns-in_err-way-clause-damaged
returns-in_err-way-clause-damaged g c = λ honest agrees is levels holds.
    c.descend.ensures.damaged honest agrees
    (was_error c.from_residual.result c.descend.result c.in_err-way.field-0.0 Damaged c.from_residual.ensures.1
    c.in_err-way.was is) levels (holds_tree c.args.layout
    (pages_on g.D.Device c.args.pages.now c.args.device.now) c.args.root levels holds c.if-root-eq0.false)

pub returns-then-root-eq0-clause-damaged : goal.returns-then-root-eq0-clause-damaged
returns-then-root-eq0-clause-damaged g c = λ honest agrees is. never_ok is

pub returns-then-root-eq0-clause-missing : goal.returns-then-root-eq0-clause-missing
returns-then-root-eq0-clause-missing g c = λ is. unchanged_still c.args.pages.now

pub returns-then-root-eq0-clause-changed_pages : goal.returns-then-root-eq0-clause-changed_pages
returns-then-root-eq0-clause-changed_pages g c =
    λ honest agrees levels holds. few_equal (changed_pages_of c.args.pages.now)
    (changed_pages_of c.args.pages.now) 42 refl

pub returns-then-root-eq0-clause-filled : goal.returns-then-root-eq0-clause-filled
returns-then-root-eq0-clause-filled g c = λ honest agrees levels holds. few_same (filled_of c.args.pages.now)
    (filled_of c.args.pages.now) 42 refl

pub returns-then-root-eq0-clause-removed : goal.returns-then-root-eq0-clause-removed
returns-then-root-eq0-clause-removed g c = λ honest agrees levels holds.
    let pages = pages_on g.D.Device c.args.pages.now c.args.device.now in
    subst (λ (l : List (List TreeNode)). Removes c.args.layout pages l pages c.args.key.now None)
    (sym (no_levels c.args.layout pages c.args.root levels c.if-root-eq0.true holds)) refl

pub remove_from_leaf-removed-requires-clause-sectors : goal.remove_from_leaf-removed-requires-clause-sectors
remove_from_leaf-removed-requires-clause-sectors g c =
    sectors_on c.args.pages.now c.descend.new.pages _ _ c.descend.ensures.unchanged.committed.volume
    c.descend.ensures.only.sectors c.requires.sectors

pub remove_from_leaf-removed-requires-clause-leaf : goal.remove_from_leaf-removed-requires-clause-leaf
remove_from_leaf-removed-requires-clause-leaf g c = (c.in_ok-way.ensures.leaf.0, c.in_ok-way.ensures.leaf.1)

pub returns-clause-edits : goal.returns-clause-edits
returns-clause-edits g c =
    let way = c.descend.ensures in
    edits_last g.D.Device _ _ _ _ _ _ _ _ _ (λ is. is)
    (edits_read g.D.Device _ _ _ _ _ way.only way.unchanged way.agrees)
    c.remove_from_leaf-removed.ensures.edits

pub returns-clause-removed : goal.returns-clause-removed
returns-clause-removed g c = λ honest agrees levels holds.
    let d = c.in_ok-way.field-0 in
    let tree = holds_tree c.args.layout _ c.args.root levels holds c.if-root-eq0.false in
    change_read g.D.Device _ c.args.pages.now c.descend.new.pages c.remove_from_leaf-removed.new.pages c.args.device.now
    c.descend.new.device (λ before after. (l : List (List TreeNode)) → IsTree c.args.layout before c.args.root l
    → EndsAt c.args.layout c.args.key.now l d.way.path.items d.way.page d.leaf.rows d.way.right
    → IfOk c.remove_from_leaf-removed.result (Removes c.args.layout before l after c.args.key.now))
    c.descend.ensures.unchanged c.descend.ensures.only c.descend.ensures.agrees
    c.remove_from_leaf-removed.ensures.removed
    honest agrees levels tree (c.in_ok-way.ensures.way honest agrees levels tree)

pub returns-clause-damaged : goal.returns-clause-damaged
returns-clause-damaged g c = λ honest agrees is levels holds.
    let d = c.in_ok-way.field-0 in
    let tree = holds_tree c.args.layout _ c.args.root levels holds c.if-root-eq0.false in
    pages_before g.D.Device _ c.args.pages.now c.descend.new.pages c.args.device.now c.descend.new.device
    (λ before. c.remove_from_leaf-removed.result ≡ Err Damaged → (l : List (List TreeNode))
    → IsTree c.args.layout before c.args.root l
    → EndsAt c.args.layout c.args.key.now l d.way.path.items d.way.page d.leaf.rows d.way.right → ⊥)
    c.descend.ensures.unchanged c.descend.ensures.only c.descend.ensures.agrees
    c.remove_from_leaf-removed.ensures.damaged
    honest agrees is levels tree (c.in_ok-way.ensures.way honest agrees levels tree)

pub returns-clause-missing : goal.returns-clause-missing
returns-clause-missing g c =
    λ is.
    unchanged_on c.args.pages.now c.descend.new.pages c.remove_from_leaf-removed.new.pages c.descend.ensures.unchanged
    (c.remove_from_leaf-removed.ensures.missing is)

pub returns-clause-changed_pages : goal.returns-clause-changed_pages
returns-clause-changed_pages g c = λ honest agrees levels holds.
    let pages = pages_on g.D.Device c.args.pages.now c.args.device.now in
    let d = c.in_ok-way.field-0 in
    let tree = holds_tree c.args.layout pages c.args.root levels holds c.if-root-eq0.false in
    let numbers = c.page_count-page_count.ensures in
    few_removed c.remove_from_leaf-removed.result c.args.layout c.args.key.now pages c.args.root levels d.way.path.items
    d.way.page d.leaf.rows d.way.right _ _ _
    (small_map c.args.pages.now (g.D.Device.state c.args.device.now).disk.present c.page_count-page_count.result
    numbers.pages numbers.count numbers.few (live_after c.args.pages.now c.in_ok-way.ensures.spent)) tree
    (c.in_ok-way.ensures.way honest agrees levels tree) (ap length c.descend.ensures.unchanged.changed_pages)
    c.remove_from_leaf-removed.ensures.changed_pages

pub returns-clause-filled : goal.returns-clause-filled
returns-clause-filled g c = λ honest agrees levels holds.
    let pages = pages_on g.D.Device c.args.pages.now c.args.device.now in
    let d = c.in_ok-way.field-0 in
    let tree = holds_tree c.args.layout pages c.args.root levels holds c.if-root-eq0.false in
    let numbers = c.page_count-page_count.ensures in
    few_removed c.remove_from_leaf-removed.result c.args.layout c.args.key.now pages c.args.root levels d.way.path.items
    d.way.page d.leaf.rows d.way.right _ _ _
    (small_map c.args.pages.now (g.D.Device.state c.args.device.now).disk.present c.page_count-page_count.result
    numbers.pages numbers.count numbers.few (live_after c.args.pages.now c.in_ok-way.ensures.spent)) tree
    (c.in_ok-way.ensures.way honest agrees levels tree) c.descend.ensures.unchanged.filled
    c.remove_from_leaf-removed.ensures.filled

pub returns-clause-spent : goal.returns-clause-spent
returns-clause-spent g c = (
  λ is. (
    sym c.descend.ensures.unchanged.committed.spent ∙ c.remove_from_leaf-removed.ensures.spent is,
    c.if-root-eq0.false,
  ),
  λ both. never_ok (sym c.in_ok-way.was ∙ c.descend.ensures.spent.1 both.0),
)
