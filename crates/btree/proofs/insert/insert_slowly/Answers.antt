use Rattle.std.proofs.Common.{◌≡◌, ◌≤◌, ◌^◌, ℕ, List, [], length, sym, ap, subst, ◌∙◌, arith}
use Rattle.std.specs.Prelude.{Option, slice_index_or}
use Rattle.station.specs.Disk.{Sector}
use Rattle.station.specs.State.{State}
use Rattle.pages.specs.Image.{Map}
use Rattle.btree_pages.specs.declared.row_layout.RowLayout.{RowLayout}
use Rattle.btree_pages.specs.Keys.{key_of}
use Rattle.btree.specs.Tree.{TreeNode, IsTree}
use Rattle.btree.specs.Path.{PathStep, EndsAt}
use Rattle.btree.specs.Changes.{pages_of_map, InsertsIntoLeaf}
use Rattle.pages.specs.Pages.{is_spent}
use Rattle.pages.specs.declared.error.PagesError.TheVariants.{Spent}
use Rattle.btree.proofs.Changing.{change_read}
use Rattle.btree.proofs.Frames.{holds_tree}
use Rattle.btree.proofs.Depth.{few_levels}
use Rattle.btree.proofs.Entering.{turns_count}
use Rattle.btree.proofs.Searches.{FindsAt, FindsGap}
use Rattle.btree.proofs.Inserting.{came, was_there}
use Rattle.std.specs.Prelude.{IfErr, Err, Ok}
use Rattle.std.proofs.Common.{◌↔◌, true}
use Rattle.pages.specs.declared.error.PagesError.TheVariants.{Device, Full}
use Rattle.btree.specs.Refusals.{IsInsertRefusal}
use Rattle.btree.specs.Reading.{IsSearchRefusal}
use Rattle.btree.proofs.Passing.{passed, never_ok, never_err, some_not_none, same_error, still_error}
use Rattle.btree.proofs.Passing.{search_is_insert}
use Rattle.btree.proofs.Passing.{sectors_on}
use Rattle.pages.specs.Pages.{HasEachPage, IsUnchanged}
use Rattle.std.specs.Prelude.{None}
use Rattle.btree.specs.Calls.{EditsPages}
use Rattle.btree.proofs.EditedPages.{edits_last, edits_read, edits_where}
use Rattle.std.proofs.Common.{◌+◌, ◌*◌}
use Rattle.btree.specs.Calls.{pages_on}
use Rattle.btree.proofs.ReadMaps.{live_after, small_map}
use Rattle.pages.specs.Pages.{changed_pages_of, filled_of}
use Rattle.pages.specs.declared.error.PagesError.TheVariants.{Damaged}
use Rattle.btree.specs.Changes.{Inserts}
use Rattle.btree.proofs.Passing.{if_refused, few_equal, few_same, was_error}
use Rattle.btree.proofs.insert.insert_slowly.Goals as goal

pub returns-in-Ok-clause-inserted : goal.returns-in-Ok-clause-inserted
returns-in-Ok-clause-inserted g c = λ honest agrees levels holds.
    let image = (g.D.Device.state c.args.device.now).disk.present in
    let before = pages_of_map c.args.pages.now image in
    let d = c.in_ok-way.field-0 in
    let place = c.in-Ok.field-0 in
    let tree = holds_tree c.args.layout before c.args.root levels holds c.requires.root in
    let layout_is = c.in_ok-way.ensures.leaf.0 in
    was_there c.args.layout before (pages_of_map c.descend.new.pages image)
    c.args.root levels d.way.path.items d.way.page d.leaf.rows d.way.right place c.args.key.now c.args.value.now tree
    (c.in_ok-way.ensures.way honest agrees levels tree)
    c.in-Ok.ensures.found.0 (subst (λ (f : RowLayout). key_of f (slice_index_or d.leaf.rows place []) ≡ c.args.key.now)
    layout_is c.in-Ok.ensures.found.1)
    (subst (λ (f : RowLayout). FindsAt f c.args.key.now d.leaf.rows place) layout_is c.in-Ok.ensures.around)

pub returns-in_err-entered-clause-damaged : goal.returns-in_err-entered-clause-damaged
returns-in_err-entered-clause-damaged g c = λ honest agrees is levels holds.
    let image = (g.D.Device.state c.args.device.now).disk.present in
    let before = pages_of_map c.args.pages.now image in
    let told = rw is at c.from_residual-in_err-entered.ensures.1 in
    let tree = holds_tree c.args.layout before c.args.root levels holds c.requires.root in
    let same = ap (λ (s : State). pages_of_map c.descend.new.pages s.disk.present) (c.descend.ensures.only.state honest)
    ∙ ap (λ (m : Map). m.pages) (c.descend.ensures.unchanged.map image) in
    c.in_err-entered.ensures.damaged (c.descend.ensures.only.honest.0 honest) (c.descend.ensures.agrees honest agrees)
    (cc told) levels
    (subst (λ (pages : List (Option Sector)). IsTree c.args.layout pages c.args.root levels) (sym same) tree)
    (c.in_ok-way.ensures.way honest agrees levels tree)

pub returns-clause-inserted : goal.returns-clause-inserted
returns-clause-inserted g c = λ honest agrees levels holds.
    let d = c.in_ok-way.field-0 in
    let place = c.in-Err.place in
    let new = c.in_ok-entered.entered in
    let tree = holds_tree c.args.layout _ c.args.root levels holds c.requires.root in
    let enters = change_read g.D.Device _ c.args.pages.now c.descend.new.pages c.insert_into_leaf-inserted.new.pages
    c.args.device.now c.descend.new.device (λ before after. InsertsIntoLeaf c.args.layout c.args.root before after
    d.way.path.items d.way.page d.leaf.rows d.way.right place c.args.key.now c.args.value.now new)
    c.descend.ensures.unchanged
    c.descend.ensures.only c.descend.ensures.agrees c.in_ok-entered.ensures.entered honest agrees in
    came c.args.layout _ _ c.args.root levels d.way.path.items d.way.page d.leaf.rows d.way.right place c.args.key.now
    c.args.value.now new tree (c.in_ok-way.ensures.way honest agrees levels tree)
    c.in-Err.ensures.missing (subst (λ (f : RowLayout). FindsGap f c.args.key.now d.leaf.rows place)
    c.in_ok-way.ensures.leaf.0 c.in-Err.ensures.around) enters

-- At most 42 pages are changed where a row comes into a leaf, two for each of at most 19 steps, and three.
few_entered : (layout : RowLayout) (key : List ℕ) (pages : List (Option Sector)) (root : ℕ)
    (levels : List (List TreeNode)) (steps : List PathStep) (page : ℕ) (rows : List (List ℕ)) (right : Option (List ℕ))
    (old read new : ℕ) → length pages ≤ 2 ^ 20 → IsTree layout pages root levels
    → EndsAt layout key levels steps page rows right → read ≡ old → new ≤ read + 2 * length steps + 3 → new ≤ old + 42
few_entered layout key pages root levels steps page rows right old read new small tree ends same more =
    let few = few_levels layout pages root levels small tree in
    let count = turns_count layout key levels steps ends.reaches.top ends.reaches.below ends.reaches.leads in
    omega (arith, few, count, same, more)

pub returns-in_err-entered-clause-changed_pages : goal.returns-in_err-entered-clause-changed_pages
returns-in_err-entered-clause-changed_pages g c = λ honest agrees levels holds.
    let pages = pages_on g.D.Device c.args.pages.now c.args.device.now in
    let d = c.in_ok-way.field-0 in
    let tree = holds_tree c.args.layout pages c.args.root levels holds c.requires.root in
    let numbers = c.page_count-page_count.ensures in
    few_entered c.args.layout c.args.key.now pages c.args.root levels d.way.path.items d.way.page d.leaf.rows
    d.way.right _ _ _
    (small_map c.args.pages.now (g.D.Device.state c.args.device.now).disk.present c.page_count-page_count.result
    numbers.pages numbers.count numbers.few (live_after c.args.pages.now c.in_ok-way.ensures.spent)) tree
    (c.in_ok-way.ensures.way honest agrees levels tree) (ap length c.descend.ensures.unchanged.changed_pages)
    c.insert_into_leaf-inserted.ensures.changed_pages

pub returns-clause-changed_pages : goal.returns-clause-changed_pages
returns-clause-changed_pages g c = λ honest agrees levels holds.
    let pages = pages_on g.D.Device c.args.pages.now c.args.device.now in
    let d = c.in_ok-way.field-0 in
    let tree = holds_tree c.args.layout pages c.args.root levels holds c.requires.root in
    let numbers = c.page_count-page_count.ensures in
    few_entered c.args.layout c.args.key.now pages c.args.root levels d.way.path.items d.way.page d.leaf.rows
    d.way.right _ _ _
    (small_map c.args.pages.now (g.D.Device.state c.args.device.now).disk.present c.page_count-page_count.result
    numbers.pages numbers.count numbers.few (live_after c.args.pages.now c.in_ok-way.ensures.spent)) tree
    (c.in_ok-way.ensures.way honest agrees levels tree) (ap length c.descend.ensures.unchanged.changed_pages)
    c.insert_into_leaf-inserted.ensures.changed_pages

pub returns-in_err-entered-clause-full : goal.returns-in_err-entered-clause-full
returns-in_err-entered-clause-full g c = λ is.
    let told = rw is at c.from_residual-in_err-entered.ensures.1 in
    c.in_err-entered.ensures.full (cc told)

pub returns-in_err-entered-clause-filled : goal.returns-in_err-entered-clause-filled
returns-in_err-entered-clause-filled g c = λ honest agrees levels holds.
    let pages = pages_on g.D.Device c.args.pages.now c.args.device.now in
    let d = c.in_ok-way.field-0 in
    let tree = holds_tree c.args.layout pages c.args.root levels holds c.requires.root in
    let numbers = c.page_count-page_count.ensures in
    few_entered c.args.layout c.args.key.now pages c.args.root levels d.way.path.items d.way.page d.leaf.rows
    d.way.right _ _ _
    (small_map c.args.pages.now (g.D.Device.state c.args.device.now).disk.present c.page_count-page_count.result
    numbers.pages numbers.count numbers.few (live_after c.args.pages.now c.in_ok-way.ensures.spent)) tree
    (c.in_ok-way.ensures.way honest agrees levels tree) c.descend.ensures.unchanged.filled
    c.insert_into_leaf-inserted.ensures.filled

pub returns-clause-filled : goal.returns-clause-filled
returns-clause-filled g c = λ honest agrees levels holds.
    let pages = pages_on g.D.Device c.args.pages.now c.args.device.now in
    let d = c.in_ok-way.field-0 in
    let tree = holds_tree c.args.layout pages c.args.root levels holds c.requires.root in
    let numbers = c.page_count-page_count.ensures in
    few_entered c.args.layout c.args.key.now pages c.args.root levels d.way.path.items d.way.page d.leaf.rows
    d.way.right _ _ _
    (small_map c.args.pages.now (g.D.Device.state c.args.device.now).disk.present c.page_count-page_count.result
    numbers.pages numbers.count numbers.few (live_after c.args.pages.now c.in_ok-way.ensures.spent)) tree
    (c.in_ok-way.ensures.way honest agrees levels tree) c.descend.ensures.unchanged.filled
    c.insert_into_leaf-inserted.ensures.filled

pub insert_into_leaf-inserted-requires-clause-sectors : goal.insert_into_leaf-inserted-requires-clause-sectors
insert_into_leaf-inserted-requires-clause-sectors g c =
    sectors_on c.args.pages.now c.descend.new.pages _ _ c.descend.ensures.unchanged.committed.volume
    c.descend.ensures.only.sectors c.requires.sectors

pub returns-in_err-way-clause-spent : goal.returns-in_err-way-clause-spent
returns-in_err-way-clause-spent g c =
    passed c.from_residual.result c.in_err-way.field-0.0 c.from_residual.ensures.1
    (λ r. (r ≡ Err Spent) ↔ (is_spent c.args.pages.now ≡ true))
    (λ is. c.in_err-way.ensures.spent.0 (still_error is), λ was. still_error (c.in_err-way.ensures.spent.1 was))

pub returns-in-Ok-clause-spent : goal.returns-in-Ok-clause-spent
returns-in-Ok-clause-spent g c =
    (λ is. never_ok is, λ was. never_ok (sym c.in_ok-way.was ∙ c.descend.ensures.spent.1 was))

pub returns-clause-spent : goal.returns-clause-spent
returns-clause-spent g c =
    (λ is. never_ok is, λ was. never_ok (sym c.in_ok-way.was ∙ c.descend.ensures.spent.1 was))

pub returns-in_err-entered-clause-spent : goal.returns-in_err-entered-clause-spent
returns-in_err-entered-clause-spent g c =
    passed c.from_residual-in_err-entered.result c.in_err-entered.field-0.0 c.from_residual-in_err-entered.ensures.1
    (λ r. (r ≡ Err Spent) ↔ (is_spent c.args.pages.now ≡ true)) (
      λ is. sym c.descend.ensures.unchanged.committed.spent ∙ c.in_err-entered.ensures.spent (still_error is),
      λ was. never_ok (sym c.in_ok-way.was ∙ c.descend.ensures.spent.1 was),
    )

pub returns-in_err-way-clause-cause : goal.returns-in_err-way-clause-cause
returns-in_err-way-clause-cause g c =
    passed c.from_residual.result c.in_err-way.field-0.0 c.from_residual.ensures.1
    (λ r. IfErr r IsInsertRefusal)
    (search_is_insert c.args.layout c.in_err-way.field-0.0 c.in_err-way.ensures.cause)

pub returns-in_err-entered-clause-cause : goal.returns-in_err-entered-clause-cause
returns-in_err-entered-clause-cause g c =
    passed c.from_residual-in_err-entered.result c.in_err-entered.field-0.0 c.from_residual-in_err-entered.ensures.1
    (λ r. IfErr r IsInsertRefusal)
    (c.in_err-entered.ensures.cause)

pub returns-in_err-way-clause-full : goal.returns-in_err-way-clause-full
returns-in_err-way-clause-full g c =
    passed c.from_residual.result c.in_err-way.field-0.0 c.from_residual.ensures.1
    (λ r. r ≡ Err Full → HasEachPage c.descend.new.pages)
    (λ is. absurd (subst (IsSearchRefusal c.args.layout) (same_error is) c.in_err-way.ensures.cause))

pub returns-in-Ok-clause-full : goal.returns-in-Ok-clause-full
returns-in-Ok-clause-full g c = λ is. never_ok is

pub returns-clause-full : goal.returns-clause-full
returns-clause-full g c = λ is. never_ok is

pub returns-clause-there : goal.returns-clause-there
returns-clause-there g c = λ is. some_not_none is

pub returns-in_err-way-clause-there : goal.returns-in_err-way-clause-there
returns-in_err-way-clause-there g c =
    passed c.from_residual.result c.in_err-way.field-0.0 c.from_residual.ensures.1
    (λ r. r ≡ Ok None → IsUnchanged c.args.pages.now c.descend.new.pages)
    (λ is. never_err is)

pub returns-in_err-entered-clause-there : goal.returns-in_err-entered-clause-there
returns-in_err-entered-clause-there g c =
    passed c.from_residual-in_err-entered.result c.in_err-entered.field-0.0 c.from_residual-in_err-entered.ensures.1
    (λ r. r ≡ Ok None → IsUnchanged c.args.pages.now c.insert_into_leaf-inserted.new.pages)
    (λ is. never_err is)

pub returns-in_err-way-clause-edits : goal.returns-in_err-way-clause-edits
returns-in_err-way-clause-edits g c =
    let way = c.in_err-way.ensures in
    passed c.from_residual.result c.in_err-way.field-0.0 c.from_residual.ensures.1
    (λ r. EditsPages g.D.Device (r ≡ Err Device) c.args.pages.now c.args.device.now c.descend.new.pages
    c.descend.new.device)
    (edits_where g.D.Device _ _ _ _ _ _ (λ is. still_error is)
    (edits_read g.D.Device _ _ _ _ _ way.only way.unchanged way.agrees))

pub returns-in-Ok-clause-edits : goal.returns-in-Ok-clause-edits
returns-in-Ok-clause-edits g c =
    let way = c.descend.ensures in
    edits_where g.D.Device _ _ _ _ _ _ (λ is. never_ok is)
    (edits_read g.D.Device _ _ _ _ _ way.only way.unchanged way.agrees)

pub returns-in_err-entered-clause-edits : goal.returns-in_err-entered-clause-edits
returns-in_err-entered-clause-edits g c =
    let way = c.descend.ensures in
    let put = c.in_err-entered.ensures in
    passed c.from_residual-in_err-entered.result c.in_err-entered.field-0.0 c.from_residual-in_err-entered.ensures.1
    (λ r.
    EditsPages g.D.Device (r ≡ Err Device) c.args.pages.now c.args.device.now c.insert_into_leaf-inserted.new.pages
    c.insert_into_leaf-inserted.new.device)
    (edits_last g.D.Device _ _ _ _ _ _ _ _ _ (λ is. still_error is)
    (edits_read g.D.Device _ _ _ _ _ way.only way.unchanged way.agrees)
    put.edits)

pub returns-clause-edits : goal.returns-clause-edits
returns-clause-edits g c =
    let way = c.descend.ensures in
    let put = c.insert_into_leaf-inserted.ensures in
    edits_last g.D.Device _ _ _ _ _ _ _ _ _ (λ is. never_ok is)
    (edits_read g.D.Device _ _ _ _ _ way.only way.unchanged way.agrees)
    put.edits

pub returns-in_err-way-clause-inserted : goal.returns-in_err-way-clause-inserted
returns-in_err-way-clause-inserted g c = λ honest agrees levels holds.
    if_refused c.from_residual.result c.in_err-way.field-0.0 c.from_residual.ensures.1
    (Inserts c.args.layout (pages_on g.D.Device c.args.pages.now c.args.device.now) levels
    (pages_on g.D.Device c.descend.new.pages c.args.device.now) c.args.key.now c.args.value.now)

pub returns-in_err-entered-clause-inserted : goal.returns-in_err-entered-clause-inserted
returns-in_err-entered-clause-inserted g c = λ honest agrees levels holds.
    if_refused c.from_residual-in_err-entered.result c.in_err-entered.field-0.0 c.from_residual-in_err-entered.ensures.1
    (Inserts c.args.layout (pages_on g.D.Device c.args.pages.now c.args.device.now) levels
    (pages_on g.D.Device c.insert_into_leaf-inserted.new.pages c.args.device.now) c.args.key.now c.args.value.now)

pub returns-in_err-way-clause-damaged : goal.returns-in_err-way-clause-damaged
returns-in_err-way-clause-damaged g c = λ honest agrees is levels holds.
    c.descend.ensures.damaged honest agrees
    (was_error c.from_residual.result c.descend.result c.in_err-way.field-0.0 Damaged c.from_residual.ensures.1
    c.in_err-way.was is) levels (holds_tree c.args.layout
    (pages_on g.D.Device c.args.pages.now c.args.device.now) c.args.root levels holds c.requires.root)

pub returns-in_err-way-clause-changed_pages : goal.returns-in_err-way-clause-changed_pages
returns-in_err-way-clause-changed_pages g c = λ honest agrees levels holds.
    few_equal (changed_pages_of c.args.pages.now) (changed_pages_of c.descend.new.pages) 42
    c.descend.ensures.unchanged.changed_pages

pub returns-in_err-way-clause-filled : goal.returns-in_err-way-clause-filled
returns-in_err-way-clause-filled g c = λ honest agrees levels holds.
    few_same (filled_of c.args.pages.now) (filled_of c.descend.new.pages) 42 c.descend.ensures.unchanged.filled

pub returns-in-Ok-clause-changed_pages : goal.returns-in-Ok-clause-changed_pages
returns-in-Ok-clause-changed_pages g c = λ honest agrees levels holds.
    few_equal (changed_pages_of c.args.pages.now) (changed_pages_of c.descend.new.pages) 42
    c.descend.ensures.unchanged.changed_pages

pub returns-in-Ok-clause-filled : goal.returns-in-Ok-clause-filled
returns-in-Ok-clause-filled g c = λ honest agrees levels holds.
    few_same (filled_of c.args.pages.now) (filled_of c.descend.new.pages) 42 c.descend.ensures.unchanged.filled

pub returns-in-Ok-clause-damaged : goal.returns-in-Ok-clause-damaged
returns-in-Ok-clause-damaged g c = λ honest agrees is. never_ok is

pub returns-in-Ok-clause-there : goal.returns-in-Ok-clause-there
returns-in-Ok-clause-there g c = λ is. c.descend.ensures.unchanged

pub returns-clause-damaged : goal.returns-clause-damaged
returns-clause-damaged g c = λ honest agrees is. never_ok is
