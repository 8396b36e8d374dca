use Rattle.std.proofs.Common.{◌≡◌, List, length, sym, ap, subst, ◌∙◌, arith, true}
use Rattle.std.specs.Prelude.{Option, Ok, IfOk}
use Rattle.station.specs.Disk.{Sector}
use Rattle.pages.specs.declared.page_map.PageMap.{PageMap}
use Rattle.pages.specs.Pages.{IsUnchanged, changed_pages_of, filled_of}
use Rattle.btree.specs.Tree.{TreeNode, IsTreeOrEmpty}
use Rattle.btree.specs.Changes.{Inserts}
use Rattle.btree.specs.Calls.{OnChange, EditsPages}
use Rattle.btree.specs.Entering.{EntersOn}
use Rattle.btree.proofs.Changing.{change_read}
use Rattle.btree.proofs.Frames.{holds_tree, pages_yet, unchanged_on}
use Rattle.btree.proofs.InPlace.{came_in_place}
use Rattle.std.specs.Prelude.{IfErr, Err}
use Rattle.std.proofs.Common.{◌↔◌}
use Rattle.pages.specs.Pages.{is_spent}
use Rattle.pages.specs.declared.error.PagesError.TheVariants.{Device, Spent, Full}
use Rattle.btree.specs.Refusals.{IsPutRefusal, IsInsertRefusal}
use Rattle.btree.specs.Reading.{IsSearchRefusal}
use Rattle.btree.proofs.Passing.{passed, never_ok, never_err, some_not_none, same_error, still_error}
use Rattle.btree.proofs.Passing.{put_not_device}
use Rattle.btree.proofs.Passing.{search_is_insert, put_is_insert}
use Rattle.btree.proofs.Passing.{sectors_on}
use Rattle.pages.specs.Pages.{HasEachPage}
use Rattle.std.specs.Prelude.{None}
use Rattle.btree.specs.Changes.{pages_of_map}
use Rattle.btree.proofs.Inserting.{planted}
use Rattle.btree.proofs.Passing.{write_not_device, write_is_insert}
use Rattle.btree.proofs.Passing.{few_weaker}
use Rattle.btree.proofs.EditedPages.{edits_kept, edits_last, edits_none, edits_read, edits_where}
use Rattle.std.proofs.Common.{◌≤◌, ◌+◌, ℕ}
use Rattle.pages.specs.declared.error.PagesError.TheVariants.{Damaged}
use Rattle.btree.specs.Calls.{pages_on}
use Rattle.btree.specs.Refusals.{IsWriteRefusal}
use Rattle.btree.proofs.Passing.{if_refused, few_equal, few_same, few_later, put_not_damaged, was_error}
use Rattle.btree.proofs.insert.insert_entry.Goals as goal

pub returns-then-branch-clause-inserted : goal.returns-then-branch-clause-inserted
returns-then-branch-clause-inserted g c = λ honest agrees levels holds.
    let way = c.in_ok-way.way in
    let key = c.args.key.now in
    let value = c.args.value.now in
    let tree = holds_tree c.args.layout _ c.args.root levels holds c.if-root-eq0.false in
    let done : c.enter_leaf.result ≡ Ok true = c.in_ok-enter_leaf.was ∙ ap Ok c.if-branch.true in
    let on = change_read g.D.Device _ c.args.pages.now c.follow.new.pages c.enter_leaf.new.pages c.args.device.now
    c.follow.new.device (λ before after. EntersOn c.args.layout way.page key value before after)
    c.follow.ensures.unchanged c.follow.ensures.only c.follow.ensures.agrees
    (λ h a. c.enter_leaf.ensures.done done (g.D.Device.state c.follow.new.device).disk a) honest agrees in
    came_in_place c.args.layout _ _ way.page key value on c.args.root levels way.path.items way.right c.requires.key
    c.requires.value tree (c.in_ok-way.ensures.way honest agrees levels tree)

pub returns-clause-inserted : goal.returns-clause-inserted
returns-clause-inserted g c =
    let same : c.enter_leaf.new.pages ≡ c.follow.new.pages =
    c.enter_leaf.ensures.same (c.in_ok-enter_leaf.was ∙ ap Ok c.if-branch.false) in
    let P : List (Option Sector) → List (Option Sector) → Type 0 = λ before after. (levels : List (List TreeNode))
    → IsTreeOrEmpty c.args.layout before c.args.root levels → IfOk c.insert_slowly.result
    (Inserts c.args.layout before levels after c.args.key.now c.args.value.now) in
    change_read g.D.Device _ c.args.pages.now c.follow.new.pages c.insert_slowly.new.pages c.args.device.now
    c.follow.new.device P c.follow.ensures.unchanged c.follow.ensures.only c.follow.ensures.agrees
    (subst (λ (p : PageMap). OnChange g.D.Device p c.insert_slowly.new.pages c.follow.new.device P) same
    c.insert_slowly.ensures.inserted)

pub returns-clause-damaged : goal.returns-clause-damaged
returns-clause-damaged g c = λ honest agrees is levels holds.
    let old = g.D.Device.state c.args.device.now in
    let now = g.D.Device.state c.follow.new.device in
    let same : c.enter_leaf.new.pages ≡ c.follow.new.pages =
    c.enter_leaf.ensures.same (c.in_ok-enter_leaf.was ∙ ap Ok c.if-branch.false) in
    let pages_are = pages_yet c.args.pages.now c.follow.new.pages c.enter_leaf.new.pages old now
    c.follow.ensures.unchanged same (c.follow.ensures.only.state honest) in
    let agreed = c.enter_leaf.ensures.keeps.agrees now.disk (c.follow.ensures.agrees honest agrees) in
    let held = subst (λ (pages : List (Option Sector)). IsTreeOrEmpty c.args.layout pages c.args.root levels)
    (sym pages_are) holds in
    c.insert_slowly.ensures.damaged (c.follow.ensures.only.honest.0 honest) agreed is levels held

pub returns-clause-there : goal.returns-clause-there
returns-clause-there g c = λ is.
    let same : c.enter_leaf.new.pages ≡ c.follow.new.pages =
    c.enter_leaf.ensures.same (c.in_ok-enter_leaf.was ∙ ap Ok c.if-branch.false) in
    unchanged_on c.args.pages.now c.follow.new.pages c.insert_slowly.new.pages c.follow.ensures.unchanged
    (subst (λ (p : PageMap). IsUnchanged p c.insert_slowly.new.pages) same (c.insert_slowly.ensures.there is))

pub returns-clause-changed_pages : goal.returns-clause-changed_pages
returns-clause-changed_pages g c = λ honest agrees levels holds.
    let old = g.D.Device.state c.args.device.now in
    let now = g.D.Device.state c.follow.new.device in
    let same : c.enter_leaf.new.pages ≡ c.follow.new.pages =
    c.enter_leaf.ensures.same (c.in_ok-enter_leaf.was ∙ ap Ok c.if-branch.false) in
    let pages_are = pages_yet c.args.pages.now c.follow.new.pages c.enter_leaf.new.pages old now
    c.follow.ensures.unchanged same (c.follow.ensures.only.state honest) in
    let agreed = c.enter_leaf.ensures.keeps.agrees now.disk (c.follow.ensures.agrees honest agrees) in
    let held = subst (λ (pages : List (Option Sector)). IsTreeOrEmpty c.args.layout pages c.args.root levels)
    (sym pages_are) holds in
    let few = c.insert_slowly.ensures.changed_pages (c.follow.ensures.only.honest.0 honest) agreed levels held in
    let count = ap (λ (p : PageMap). length (changed_pages_of p)) same in
    let still = ap length c.follow.ensures.unchanged.changed_pages in
    omega (arith, few, count, still)

pub returns-clause-filled : goal.returns-clause-filled
returns-clause-filled g c = λ honest agrees levels holds.
    let old = g.D.Device.state c.args.device.now in
    let now = g.D.Device.state c.follow.new.device in
    let same : c.enter_leaf.new.pages ≡ c.follow.new.pages =
    c.enter_leaf.ensures.same (c.in_ok-enter_leaf.was ∙ ap Ok c.if-branch.false) in
    let pages_are = pages_yet c.args.pages.now c.follow.new.pages c.enter_leaf.new.pages old now
    c.follow.ensures.unchanged same (c.follow.ensures.only.state honest) in
    let agreed = c.enter_leaf.ensures.keeps.agrees now.disk (c.follow.ensures.agrees honest agrees) in
    let held = subst (λ (pages : List (Option Sector)). IsTreeOrEmpty c.args.layout pages c.args.root levels)
    (sym pages_are) holds in
    let few = c.insert_slowly.ensures.filled (c.follow.ensures.only.honest.0 honest) agreed levels held in
    let count = ap (λ (p : PageMap). filled_of p) same in
    let still = c.follow.ensures.unchanged.filled in
    omega (arith, few, count, still)

pub insert_slowly-requires-clause-sectors : goal.insert_slowly-requires-clause-sectors
insert_slowly-requires-clause-sectors g c = sectors_on c.args.pages.now c.enter_leaf.new.pages _ _
    (c.enter_leaf.ensures.keeps.committed.volume ∙ c.follow.ensures.unchanged.committed.volume)
    c.follow.ensures.only.sectors c.requires.sectors

pub returns-in_err-way-clause-spent : goal.returns-in_err-way-clause-spent
returns-in_err-way-clause-spent g c =
    passed c.from_residual-in_err-way.result c.in_err-way.field-0.0 c.from_residual-in_err-way.ensures.1
    (λ r. (r ≡ Err Spent) ↔ (is_spent c.args.pages.now ≡ true))
    (λ is. c.in_err-way.ensures.spent.0 (still_error is), λ was. still_error (c.in_err-way.ensures.spent.1 was))

pub returns-in_err-enter_leaf-clause-spent : goal.returns-in_err-enter_leaf-clause-spent
returns-in_err-enter_leaf-clause-spent g c = passed c.from_residual-in_err-enter_leaf.result
    c.in_err-enter_leaf.field-0.0 c.from_residual-in_err-enter_leaf.ensures.1
    (λ r. (r ≡ Err Spent) ↔ (is_spent c.args.pages.now ≡ true)) (
      λ is. sym c.follow.ensures.unchanged.committed.spent ∙ c.in_err-enter_leaf.ensures.spent (still_error is),
      λ was. never_ok (sym c.in_ok-way.was ∙ c.follow.ensures.spent.1 was),
    )

pub returns-then-branch-clause-spent : goal.returns-then-branch-clause-spent
returns-then-branch-clause-spent g c =
    (λ is. never_ok is, λ was. never_ok (sym c.in_ok-way.was ∙ c.follow.ensures.spent.1 was))

pub returns-clause-spent : goal.returns-clause-spent
returns-clause-spent g c = (
  λ is. sym (c.enter_leaf.ensures.keeps.committed.spent ∙ c.follow.ensures.unchanged.committed.spent)
      ∙ c.insert_slowly.ensures.spent.0 is,
  λ was. never_ok (sym c.in_ok-way.was ∙ c.follow.ensures.spent.1 was),
)

pub returns-in_err-way-clause-cause : goal.returns-in_err-way-clause-cause
returns-in_err-way-clause-cause g c =
    passed c.from_residual-in_err-way.result c.in_err-way.field-0.0 c.from_residual-in_err-way.ensures.1
    (λ r. IfErr r IsInsertRefusal)
    (search_is_insert c.args.layout c.in_err-way.field-0.0 c.in_err-way.ensures.cause)

pub returns-in_err-enter_leaf-clause-cause : goal.returns-in_err-enter_leaf-clause-cause
returns-in_err-enter_leaf-clause-cause g c = passed c.from_residual-in_err-enter_leaf.result
    c.in_err-enter_leaf.field-0.0 c.from_residual-in_err-enter_leaf.ensures.1
    (λ r. IfErr r IsInsertRefusal)
    (put_is_insert c.in_err-enter_leaf.field-0.0 c.in_err-enter_leaf.ensures.cause)

pub returns-in_err-way-clause-full : goal.returns-in_err-way-clause-full
returns-in_err-way-clause-full g c =
    passed c.from_residual-in_err-way.result c.in_err-way.field-0.0 c.from_residual-in_err-way.ensures.1
    (λ r. r ≡ Err Full → HasEachPage c.follow.new.pages)
    (λ is. absurd (subst (IsSearchRefusal c.args.layout) (same_error is) c.in_err-way.ensures.cause))

pub returns-in_err-enter_leaf-clause-full : goal.returns-in_err-enter_leaf-clause-full
returns-in_err-enter_leaf-clause-full g c = passed c.from_residual-in_err-enter_leaf.result
    c.in_err-enter_leaf.field-0.0 c.from_residual-in_err-enter_leaf.ensures.1
    (λ r. r ≡ Err Full → HasEachPage c.enter_leaf.new.pages)
    (λ is. absurd (subst IsPutRefusal (same_error is) c.in_err-enter_leaf.ensures.cause))

pub returns-then-branch-clause-full : goal.returns-then-branch-clause-full
returns-then-branch-clause-full g c = λ is. never_ok is

pub returns-then-branch-clause-there : goal.returns-then-branch-clause-there
returns-then-branch-clause-there g c = λ is. some_not_none is

pub returns-in_err-way-clause-there : goal.returns-in_err-way-clause-there
returns-in_err-way-clause-there g c =
    passed c.from_residual-in_err-way.result c.in_err-way.field-0.0 c.from_residual-in_err-way.ensures.1
    (λ r. r ≡ Ok None → IsUnchanged c.args.pages.now c.follow.new.pages)
    (λ is. never_err is)

pub returns-in_err-enter_leaf-clause-there : goal.returns-in_err-enter_leaf-clause-there
returns-in_err-enter_leaf-clause-there g c = passed c.from_residual-in_err-enter_leaf.result
    c.in_err-enter_leaf.field-0.0 c.from_residual-in_err-enter_leaf.ensures.1
    (λ r. r ≡ Ok None → IsUnchanged c.args.pages.now c.enter_leaf.new.pages)
    (λ is. never_err is)

pub returns-then-root-eq0-clause-inserted : goal.returns-then-root-eq0-clause-inserted
returns-then-root-eq0-clause-inserted g c = λ honest agrees levels holds.
    let image = (g.D.Device.state c.args.device.now).disk.present in
    planted c.args.layout (pages_of_map c.args.pages.now image) (pages_of_map c.first_leaf.new.pages image) c.args.root
    levels c.in_ok-new.new c.args.key.now c.args.value.now c.if-root-eq0.true holds c.requires.key
    c.in_ok-new.ensures.some (c.in_ok-new.ensures.pages image)

pub returns-in_err-new-clause-full : goal.returns-in_err-new-clause-full
returns-in_err-new-clause-full g c = λ is.
    let told = rw is at c.from_residual.ensures.1 in
    c.in_err-new.ensures.full (cc told)

pub returns-in_err-new-clause-spent : goal.returns-in_err-new-clause-spent
returns-in_err-new-clause-spent g c = passed c.from_residual.result c.in_err-new.field-0.0 c.from_residual.ensures.1
    (λ r. (r ≡ Err Spent) ↔ (is_spent c.args.pages.now ≡ true))
    (λ is. c.in_err-new.ensures.spent.0 (still_error is), λ was. still_error (c.in_err-new.ensures.spent.1 was))

pub returns-then-root-eq0-clause-spent : goal.returns-then-root-eq0-clause-spent
returns-then-root-eq0-clause-spent g c =
    (λ is. never_ok is, λ was. never_ok (sym c.in_ok-new.was ∙ c.first_leaf.ensures.spent.1 was))

pub returns-in_err-new-clause-cause : goal.returns-in_err-new-clause-cause
returns-in_err-new-clause-cause g c = passed c.from_residual.result c.in_err-new.field-0.0 c.from_residual.ensures.1
    (λ r. IfErr r IsInsertRefusal)
    (write_is_insert c.in_err-new.field-0.0 c.in_err-new.ensures.cause)

pub returns-then-root-eq0-clause-full : goal.returns-then-root-eq0-clause-full
returns-then-root-eq0-clause-full g c = λ is. never_ok is

pub returns-then-root-eq0-clause-there : goal.returns-then-root-eq0-clause-there
returns-then-root-eq0-clause-there g c = λ is. some_not_none is

pub returns-in_err-new-clause-there : goal.returns-in_err-new-clause-there
returns-in_err-new-clause-there g c = passed c.from_residual.result c.in_err-new.field-0.0 c.from_residual.ensures.1
    (λ r. r ≡ Ok None → IsUnchanged c.args.pages.now c.first_leaf.new.pages)
    (λ is. never_err is)

pub returns-in_err-new-clause-changed_pages : goal.returns-in_err-new-clause-changed_pages
returns-in_err-new-clause-changed_pages g c =
    λ honest agrees levels holds. few_weaker (length (changed_pages_of c.args.pages.now))
    (length (changed_pages_of c.first_leaf.new.pages)) 1 41 c.first_leaf.ensures.changed_pages

pub returns-in_err-new-clause-filled : goal.returns-in_err-new-clause-filled
returns-in_err-new-clause-filled g c =
    λ honest agrees levels holds. few_weaker (filled_of c.args.pages.now) (filled_of c.first_leaf.new.pages) 1 41
    c.first_leaf.ensures.filled

pub returns-then-root-eq0-clause-changed_pages : goal.returns-then-root-eq0-clause-changed_pages
returns-then-root-eq0-clause-changed_pages g c =
    λ honest agrees levels holds. few_weaker (length (changed_pages_of c.args.pages.now))
    (length (changed_pages_of c.first_leaf.new.pages)) 1 41 c.first_leaf.ensures.changed_pages

pub returns-then-root-eq0-clause-filled : goal.returns-then-root-eq0-clause-filled
returns-then-root-eq0-clause-filled g c =
    λ honest agrees levels holds. few_weaker (filled_of c.args.pages.now) (filled_of c.first_leaf.new.pages) 1 41
    c.first_leaf.ensures.filled

pub returns-then-root-eq0-clause-edits : goal.returns-then-root-eq0-clause-edits
returns-then-root-eq0-clause-edits g c = edits_kept g.D.Device _ _ _ _ _ _ _ (λ is. never_ok is)
    (edits_none g.D.Device c.args.pages.now c.args.device.now) c.first_leaf.ensures.keeps

pub returns-in_err-new-clause-edits : goal.returns-in_err-new-clause-edits
returns-in_err-new-clause-edits g c =
    passed c.from_residual.result c.in_err-new.field-0.0 c.from_residual.ensures.1
    (λ r. EditsPages g.D.Device (r ≡ Err Device) c.args.pages.now c.args.device.now c.first_leaf.new.pages
    c.args.device.now)
    (edits_kept g.D.Device _ _ _ _ _ _ _
    (λ is. write_not_device c.in_err-new.field-0.0 c.in_err-new.ensures.cause is)
    (edits_none g.D.Device c.args.pages.now c.args.device.now) c.first_leaf.ensures.keeps)

pub returns-in_err-way-clause-edits : goal.returns-in_err-way-clause-edits
returns-in_err-way-clause-edits g c =
    let way = c.in_err-way.ensures in
    passed c.from_residual-in_err-way.result c.in_err-way.field-0.0 c.from_residual-in_err-way.ensures.1
    (λ r. EditsPages g.D.Device (r ≡ Err Device) c.args.pages.now c.args.device.now c.follow.new.pages
    c.follow.new.device)
    (edits_where g.D.Device _ _ _ _ _ _ (λ is. still_error is)
    (edits_read g.D.Device _ _ _ _ _ way.only way.unchanged way.agrees))

pub returns-in_err-enter_leaf-clause-edits : goal.returns-in_err-enter_leaf-clause-edits
returns-in_err-enter_leaf-clause-edits g c =
    let way = c.follow.ensures in
    passed c.from_residual-in_err-enter_leaf.result c.in_err-enter_leaf.field-0.0
    c.from_residual-in_err-enter_leaf.ensures.1
    (λ r. EditsPages g.D.Device (r ≡ Err Device) c.args.pages.now c.args.device.now c.enter_leaf.new.pages
    c.follow.new.device)
    (edits_kept g.D.Device _ _ _ _ _ _ _
    (λ is. put_not_device c.in_err-enter_leaf.field-0.0 c.in_err-enter_leaf.ensures.cause is)
    (edits_read g.D.Device _ _ _ _ _ way.only way.unchanged way.agrees) c.enter_leaf.ensures.keeps)

pub returns-then-branch-clause-edits : goal.returns-then-branch-clause-edits
returns-then-branch-clause-edits g c =
    let way = c.follow.ensures in
    edits_kept g.D.Device _ _ _ _ _ _ _ (λ is. never_ok is)
    (edits_read g.D.Device _ _ _ _ _ way.only way.unchanged way.agrees) c.enter_leaf.ensures.keeps

pub returns-clause-edits : goal.returns-clause-edits
returns-clause-edits g c =
    let way = c.follow.ensures in
    edits_last g.D.Device _ _ _ _ _ _ _ _ _ (λ is. is)
    (edits_kept g.D.Device _ ⊥ _ _ _ _ _ (λ never. absurd never)
    (edits_read g.D.Device _ _ _ _ _ way.only way.unchanged way.agrees) c.enter_leaf.ensures.keeps)
    c.insert_slowly.ensures.edits

pub returns-in_err-new-clause-inserted : goal.returns-in_err-new-clause-inserted
returns-in_err-new-clause-inserted g c = λ honest agrees levels holds.
    if_refused c.from_residual.result c.in_err-new.field-0.0 c.from_residual.ensures.1
    (Inserts c.args.layout (pages_on g.D.Device c.args.pages.now c.args.device.now) levels
    (pages_on g.D.Device c.first_leaf.new.pages c.args.device.now) c.args.key.now c.args.value.now)

pub returns-in_err-way-clause-inserted : goal.returns-in_err-way-clause-inserted
returns-in_err-way-clause-inserted g c = λ honest agrees levels holds.
    if_refused c.from_residual-in_err-way.result c.in_err-way.field-0.0 c.from_residual-in_err-way.ensures.1
    (Inserts c.args.layout (pages_on g.D.Device c.args.pages.now c.args.device.now) levels
    (pages_on g.D.Device c.follow.new.pages c.args.device.now) c.args.key.now c.args.value.now)

pub returns-in_err-enter_leaf-clause-inserted : goal.returns-in_err-enter_leaf-clause-inserted
returns-in_err-enter_leaf-clause-inserted g c = λ honest agrees levels holds.
    if_refused c.from_residual-in_err-enter_leaf.result c.in_err-enter_leaf.field-0.0
    c.from_residual-in_err-enter_leaf.ensures.1
    (Inserts c.args.layout (pages_on g.D.Device c.args.pages.now c.args.device.now) levels
    (pages_on g.D.Device c.enter_leaf.new.pages c.args.device.now) c.args.key.now c.args.value.now)

pub returns-in_err-new-clause-damaged : goal.returns-in_err-new-clause-damaged
returns-in_err-new-clause-damaged g c = λ honest agrees is levels holds.
    passed c.from_residual.result c.in_err-new.field-0.0 c.from_residual.ensures.1
    (λ r. r ≡ Err Damaged → ⊥) (λ e. subst IsWriteRefusal (same_error e) c.in_err-new.ensures.cause) is

pub returns-in_err-way-clause-damaged : goal.returns-in_err-way-clause-damaged
returns-in_err-way-clause-damaged g c = λ honest agrees is levels holds.
    c.follow.ensures.damaged honest agrees
    (was_error c.from_residual-in_err-way.result c.follow.result c.in_err-way.field-0.0 Damaged
    c.from_residual-in_err-way.ensures.1 c.in_err-way.was is) levels (holds_tree c.args.layout
    (pages_on g.D.Device c.args.pages.now c.args.device.now) c.args.root levels holds c.if-root-eq0.false)

pub returns-in_err-enter_leaf-clause-damaged : goal.returns-in_err-enter_leaf-clause-damaged
returns-in_err-enter_leaf-clause-damaged g c = λ honest agrees is levels holds.
    passed c.from_residual-in_err-enter_leaf.result c.in_err-enter_leaf.field-0.0
    c.from_residual-in_err-enter_leaf.ensures.1 (λ r. r ≡ Err Damaged → ⊥)
    (λ e. put_not_damaged c.in_err-enter_leaf.field-0.0 c.in_err-enter_leaf.ensures.cause e) is

pub returns-then-root-eq0-clause-damaged : goal.returns-then-root-eq0-clause-damaged
returns-then-root-eq0-clause-damaged g c = λ honest agrees is. never_ok is

pub returns-then-branch-clause-damaged : goal.returns-then-branch-clause-damaged
returns-then-branch-clause-damaged g c = λ honest agrees is. never_ok is

pub returns-in_err-way-clause-changed_pages : goal.returns-in_err-way-clause-changed_pages
returns-in_err-way-clause-changed_pages g c = λ honest agrees levels holds.
    few_equal (changed_pages_of c.args.pages.now) (changed_pages_of c.follow.new.pages) 42
    c.follow.ensures.unchanged.changed_pages

pub returns-in_err-way-clause-filled : goal.returns-in_err-way-clause-filled
returns-in_err-way-clause-filled g c = λ honest agrees levels holds.
    few_same (filled_of c.args.pages.now) (filled_of c.follow.new.pages) 42 c.follow.ensures.unchanged.filled

pub returns-in_err-enter_leaf-clause-changed_pages : goal.returns-in_err-enter_leaf-clause-changed_pages
returns-in_err-enter_leaf-clause-changed_pages g c = λ honest agrees levels holds.
    few_later (changed_pages_of c.args.pages.now) (changed_pages_of c.follow.new.pages)
    (changed_pages_of c.enter_leaf.new.pages) 1 41 c.follow.ensures.unchanged.changed_pages
    c.enter_leaf.ensures.changed_pages

pub returns-in_err-enter_leaf-clause-filled : goal.returns-in_err-enter_leaf-clause-filled
returns-in_err-enter_leaf-clause-filled g c = λ honest agrees levels holds.
    subst (λ (n : ℕ). filled_of c.enter_leaf.new.pages ≤ n + 42) c.follow.ensures.unchanged.filled
    (few_weaker (filled_of c.follow.new.pages) (filled_of c.enter_leaf.new.pages) 1 41 c.enter_leaf.ensures.filled)

pub returns-then-branch-clause-changed_pages : goal.returns-then-branch-clause-changed_pages
returns-then-branch-clause-changed_pages g c = λ honest agrees levels holds.
    few_later (changed_pages_of c.args.pages.now) (changed_pages_of c.follow.new.pages)
    (changed_pages_of c.enter_leaf.new.pages) 1 41 c.follow.ensures.unchanged.changed_pages
    c.enter_leaf.ensures.changed_pages

pub returns-then-branch-clause-filled : goal.returns-then-branch-clause-filled
returns-then-branch-clause-filled g c = λ honest agrees levels holds.
    subst (λ (n : ℕ). filled_of c.enter_leaf.new.pages ≤ n + 42) c.follow.ensures.unchanged.filled
    (few_weaker (filled_of c.follow.new.pages) (filled_of c.enter_leaf.new.pages) 1 41 c.enter_leaf.ensures.filled)
