use Rattle.std.proofs.Common.{◌++◌, length}
use Rattle.std.specs.Prelude.{Some, None}
use Rattle.btree.specs.Changes.{pages_of_map}
use Rattle.btree.proofs.Lessening.{has_room, true_or_false}
use Rattle.btree.proofs.Upward.{propagates_still}
use Rattle.btree.proofs.Settling.{settle_same}
use Rattle.btree.proofs.StepsUp.{same_way, never_way}
use Rattle.btree.proofs.Entering.{end_stands, end_in, leaf_put, enters_with, tells_some, tells_none, never_entered}
use Rattle.btree.proofs.Entering.{split_keys}
use Rattle.std.specs.Prelude.{IfErr, Err}
use Rattle.std.proofs.Common.{◌≡◌, true, sym, ◌∙◌, ap, refl}
use Rattle.pages.specs.Pages.{is_spent, page_count, changed_pages_of, filled_of}
use Rattle.pages.specs.declared.error.PagesError.TheVariants.{Device, Spent}
use Rattle.btree.specs.Refusals.{IsInsertRefusal}
use Rattle.btree.proofs.Passing.{passed, never_ok, still_error, damaged_not_device, damaged_not_spent}
use Rattle.btree.proofs.Passing.{write_not_device, write_is_insert}
use Rattle.btree.proofs.Passing.{sectors_on}
use Rattle.btree.proofs.Passing.{few_one, few_two, few_three}
use Rattle.btree.specs.Calls.{EditsPages}
use Rattle.btree.proofs.EditedPages.{edits_kept, edits_last, edits_more, edits_none, edits_where}
use Rattle.std.proofs.Common.{◌<◌, subst}
use Rattle.pages.specs.declared.error.PagesError.TheVariants.{Damaged}
use Rattle.btree.specs.Calls.{pages_on}
use Rattle.btree_pages.specs.declared.row_layout.RowLayout.{RowLayout}
use Rattle.btree_pages.specs.declared.row_layout.Kind.{Kind}
use Rattle.btree_pages.specs.RowLayouts.{rest_length}
use Rattle.btree.specs.Changes.{HasKeys, InsertsIntoLeaf}
use Rattle.btree.specs.Refusals.{IsWriteRefusal}
use Rattle.btree.proofs.Passing.{damaged_not_full, few_more, if_refused, same_error}
use Rattle.btree.proofs.insert_into_leaf.insert_into_leaf.Goals as goal

pub returns-then-not-is_page-clause-damaged : goal.returns-then-not-is_page-clause-damaged
returns-then-not-is_page-clause-damaged g c = λ honest agrees is levels tree ends.
    let d = c.args.way.now in
    let image = (g.D.Device.state c.args.device.now).disk.present in
    let before = pages_of_map c.args.pages.now image in
    let end = end_stands c.args.layout c.args.row.key.now before c.args.root levels d.path.items d.page c.args.leaf.rows
    d.right tree ends in
    true_or_false (c.is_page.ensures.is.1 (has_room before (page_count c.args.pages.now) d.page
    (c.is_page.ensures.count image) end.some (end_in c.args.layout before d.page c.args.leaf.rows end)))
    c.if-not-is_page.true

pub returns-in-None-clause-entered : goal.returns-in-None-clause-entered
returns-in-None-clause-entered g c = λ honest agrees.
    let d = c.args.way.now in
    let image = (g.D.Device.state c.args.device.now).disk.present in
    let one = pages_of_map c.put_row.new.pages image in
    let row = c.args.row.key.now ++ c.args.row.value.now in
    let put =
    leaf_put c.args.layout _ one d.page c.args.leaf c.args.row.place row c.in_ok-put.put c.requires.leaf.0
    c.requires.leaf.1 (c.in_ok-put.ensures.pages image) c.in_ok-put.ensures.rows c.in_ok-put.ensures.split.page_is in
    enters_with c.args.layout _ one one one c.args.root c.args.root d.path.items d.page c.args.leaf.rows d.right
    c.args.row.place c.args.row.key.now c.args.row.value.now None None c.in_ok-put.put c.requires.key put
    (tells_none c.args.layout d.page c.args.leaf.rows c.args.row.place row c.in_ok-put.put
    c.in_ok-put.ensures.split.page_is
    c.in_ok-put.ensures.rows c.in-None.ensures.is)
    (propagates_still c.args.layout one d.path.items) (settle_same c.args.layout c.args.root one)

pub returns-in_err-up-clause-damaged : goal.returns-in_err-up-clause-damaged
returns-in_err-up-clause-damaged g c = λ honest agrees is levels tree ends.
    let d = c.args.way.now in
    let image = (g.D.Device.state c.args.device.now).disk.present in
    let one = pages_of_map c.put_row.new.pages image in
    let row = c.args.row.key.now ++ c.args.row.value.now in
    let put = leaf_put c.args.layout _ one d.page c.args.leaf c.args.row.place row c.in_ok-put.put c.requires.leaf.0
    c.requires.leaf.1 (c.in_ok-put.ensures.pages image) c.in_ok-put.ensures.rows c.in_ok-put.ensures.split.page_is in
    let told = rw is at c.from_residual-in_err-up.ensures.1 in
    let never = c.in_err-up.ensures.damaged honest (c.put_row.ensures.keeps.agrees _ agrees) (cc told) in
    never_entered c.args.layout _ one c.args.root d.path.items d.page c.args.leaf.rows d.right c.args.row.place
    c.args.row.key.now row c.in_ok-put.put levels put (never_way c.args.layout _ d.path.items one c.in-Some.split
    c.in_ok-put.put c.as_slice.ensures c.in-Some.ensures.is never) tree ends

pub returns-clause-entered : goal.returns-clause-entered
returns-clause-entered g c = λ honest agrees.
    let d = c.args.way.now in
    let image = (g.D.Device.state c.args.device.now).disk.present in
    let one = pages_of_map c.put_row.new.pages image in
    let row = c.args.row.key.now ++ c.args.row.value.now in
    let put = leaf_put c.args.layout _ one d.page c.args.leaf c.args.row.place row c.in_ok-put.put c.requires.leaf.0
    c.requires.leaf.1 (c.in_ok-put.ensures.pages image) c.in_ok-put.ensures.rows c.in_ok-put.ensures.split.page_is in
    enters_with c.args.layout _ one _ _ c.args.root c.in_ok-new.new d.path.items d.page c.args.leaf.rows d.right
    c.args.row.place c.args.row.key.now c.args.row.value.now (Some c.in_ok-put.put) c.in_ok-up.up c.in_ok-put.put
    c.requires.key put
    (tells_some c.args.layout d.page c.args.leaf.rows c.in_ok-put.put c.in_ok-put.ensures.split.page_is)
    (same_way c.args.layout _ d.path.items one _ c.in-Some.split c.in_ok-put.put c.in_ok-up.up c.as_slice.ensures
    c.in-Some.ensures.is (c.in_ok-up.ensures.propagates honest (c.put_row.ensures.keeps.agrees _ agrees)))
    (c.in_ok-new.ensures.settles image)

pub returns-in_err-put-clause-full : goal.returns-in_err-put-clause-full
returns-in_err-put-clause-full g c = λ is.
    let told = rw is at c.from_residual.ensures.1 in
    c.in_err-put.ensures.full (cc told)

pub returns-in_err-up-clause-full : goal.returns-in_err-up-clause-full
returns-in_err-up-clause-full g c = λ is.
    let told = rw is at c.from_residual-in_err-up.ensures.1 in
    c.in_err-up.ensures.full (cc told)

pub returns-in_err-new-clause-full : goal.returns-in_err-new-clause-full
returns-in_err-new-clause-full g c = λ is.
    let told = rw is at c.from_residual-in_err-new.ensures.1 in
    c.in_err-new.ensures.full (cc told)

pub propagate_split-requires-clause-sectors : goal.propagate_split-requires-clause-sectors
propagate_split-requires-clause-sectors g c =
    sectors_on c.args.pages.now c.put_row.new.pages _ _ c.put_row.ensures.keeps.committed.volume refl
    c.requires.sectors

pub returns-in_err-put-clause-cause : goal.returns-in_err-put-clause-cause
returns-in_err-put-clause-cause g c = passed c.from_residual.result c.in_err-put.field-0.0 c.from_residual.ensures.1
    (λ r. IfErr r IsInsertRefusal)
    (write_is_insert c.in_err-put.field-0.0 c.in_err-put.ensures.cause)

pub returns-in_err-up-clause-cause : goal.returns-in_err-up-clause-cause
returns-in_err-up-clause-cause g c =
    passed c.from_residual-in_err-up.result c.in_err-up.field-0.0 c.from_residual-in_err-up.ensures.1
    (λ r. IfErr r IsInsertRefusal)
    (c.in_err-up.ensures.cause)

pub returns-in_err-new-clause-cause : goal.returns-in_err-new-clause-cause
returns-in_err-new-clause-cause g c =
    passed c.from_residual-in_err-new.result c.in_err-new.field-0.0 c.from_residual-in_err-new.ensures.1
    (λ r. IfErr r IsInsertRefusal)
    (write_is_insert c.in_err-new.field-0.0 c.in_err-new.ensures.cause)

pub returns-in_err-put-clause-spent : goal.returns-in_err-put-clause-spent
returns-in_err-put-clause-spent g c = passed c.from_residual.result c.in_err-put.field-0.0 c.from_residual.ensures.1
    (λ r. r ≡ Err Spent → is_spent c.args.pages.now ≡ true)
    (λ is. c.in_err-put.ensures.spent.0 (still_error is))

pub returns-in_err-up-clause-spent : goal.returns-in_err-up-clause-spent
returns-in_err-up-clause-spent g c =
    passed c.from_residual-in_err-up.result c.in_err-up.field-0.0 c.from_residual-in_err-up.ensures.1
    (λ r. r ≡ Err Spent → is_spent c.args.pages.now ≡ true)
    (λ is. sym c.put_row.ensures.keeps.committed.spent ∙ c.in_err-up.ensures.spent (still_error is))

pub returns-in_err-new-clause-spent : goal.returns-in_err-new-clause-spent
returns-in_err-new-clause-spent g c =
    passed c.from_residual-in_err-new.result c.in_err-new.field-0.0 c.from_residual-in_err-new.ensures.1
    (λ r. r ≡ Err Spent → is_spent c.args.pages.now ≡ true)
    (λ is. sym (c.propagate_split.ensures.edits.committed.spent ∙ c.put_row.ensures.keeps.committed.spent)
    ∙ c.in_err-new.ensures.spent (still_error is))

pub returns-in-None-clause-spent : goal.returns-in-None-clause-spent
returns-in-None-clause-spent g c = λ is. never_ok is

pub returns-clause-spent : goal.returns-clause-spent
returns-clause-spent g c = λ is. never_ok is

pub returns-then-not-is_page-clause-spent : goal.returns-then-not-is_page-clause-spent
returns-then-not-is_page-clause-spent g c = λ is. damaged_not_spent is

pub returns-in_err-put-clause-changed_pages : goal.returns-in_err-put-clause-changed_pages
returns-in_err-put-clause-changed_pages g c = few_one (length (changed_pages_of c.args.pages.now))
    (length (changed_pages_of c.put_row.new.pages)) (length c.args.way.now.path.items)
    c.put_row.ensures.changed_pages

pub returns-in-None-clause-changed_pages : goal.returns-in-None-clause-changed_pages
returns-in-None-clause-changed_pages g c = few_one (length (changed_pages_of c.args.pages.now))
    (length (changed_pages_of c.put_row.new.pages)) (length c.args.way.now.path.items)
    c.put_row.ensures.changed_pages

pub returns-in_err-up-clause-changed_pages : goal.returns-in_err-up-clause-changed_pages
returns-in_err-up-clause-changed_pages g c =
    few_two (length (changed_pages_of c.args.pages.now)) (length (changed_pages_of c.put_row.new.pages))
    (length (changed_pages_of c.propagate_split.new.pages)) (length c.as_slice.result.now)
    (length c.args.way.now.path.items)
    c.put_row.ensures.changed_pages c.propagate_split.ensures.changed_pages (ap length c.as_slice.ensures)

pub returns-in_err-new-clause-changed_pages : goal.returns-in_err-new-clause-changed_pages
returns-in_err-new-clause-changed_pages g c =
    few_three (length (changed_pages_of c.args.pages.now)) (length (changed_pages_of c.put_row.new.pages))
    (length (changed_pages_of c.propagate_split.new.pages)) (length (changed_pages_of c.root_after_split.new.pages))
    (length c.as_slice.result.now) (length c.args.way.now.path.items) c.put_row.ensures.changed_pages
    c.propagate_split.ensures.changed_pages (ap length c.as_slice.ensures) c.root_after_split.ensures.changed_pages

pub returns-clause-changed_pages : goal.returns-clause-changed_pages
returns-clause-changed_pages g c =
    few_three (length (changed_pages_of c.args.pages.now)) (length (changed_pages_of c.put_row.new.pages))
    (length (changed_pages_of c.propagate_split.new.pages)) (length (changed_pages_of c.root_after_split.new.pages))
    (length c.as_slice.result.now) (length c.args.way.now.path.items) c.put_row.ensures.changed_pages
    c.propagate_split.ensures.changed_pages (ap length c.as_slice.ensures) c.root_after_split.ensures.changed_pages

pub returns-in_err-put-clause-filled : goal.returns-in_err-put-clause-filled
returns-in_err-put-clause-filled g c =
    few_one (filled_of c.args.pages.now) (filled_of c.put_row.new.pages) (length c.args.way.now.path.items)
    c.put_row.ensures.filled

pub returns-in-None-clause-filled : goal.returns-in-None-clause-filled
returns-in-None-clause-filled g c =
    few_one (filled_of c.args.pages.now) (filled_of c.put_row.new.pages) (length c.args.way.now.path.items)
    c.put_row.ensures.filled

pub returns-in_err-up-clause-filled : goal.returns-in_err-up-clause-filled
returns-in_err-up-clause-filled g c = few_two (filled_of c.args.pages.now) (filled_of c.put_row.new.pages)
    (filled_of c.propagate_split.new.pages) (length c.as_slice.result.now) (length c.args.way.now.path.items)
    c.put_row.ensures.filled c.propagate_split.ensures.filled (ap length c.as_slice.ensures)

pub returns-in_err-new-clause-filled : goal.returns-in_err-new-clause-filled
returns-in_err-new-clause-filled g c = few_three (filled_of c.args.pages.now) (filled_of c.put_row.new.pages)
    (filled_of c.propagate_split.new.pages) (filled_of c.root_after_split.new.pages)
    (length c.as_slice.result.now) (length c.args.way.now.path.items) c.put_row.ensures.filled
    c.propagate_split.ensures.filled (ap length c.as_slice.ensures) c.root_after_split.ensures.filled

pub returns-clause-filled : goal.returns-clause-filled
returns-clause-filled g c = few_three (filled_of c.args.pages.now) (filled_of c.put_row.new.pages)
    (filled_of c.propagate_split.new.pages) (filled_of c.root_after_split.new.pages)
    (length c.as_slice.result.now) (length c.args.way.now.path.items) c.put_row.ensures.filled
    c.propagate_split.ensures.filled (ap length c.as_slice.ensures) c.root_after_split.ensures.filled

pub returns-then-not-is_page-clause-edits : goal.returns-then-not-is_page-clause-edits
returns-then-not-is_page-clause-edits g c =
    edits_where g.D.Device _ _ _ _ _ _ (λ is. damaged_not_device is)
    (edits_none g.D.Device c.args.pages.now c.args.device.now)

pub returns-in_err-put-clause-edits : goal.returns-in_err-put-clause-edits
returns-in_err-put-clause-edits g c =
    passed c.from_residual.result c.in_err-put.field-0.0 c.from_residual.ensures.1
    (λ r. EditsPages g.D.Device (r ≡ Err Device) c.args.pages.now c.args.device.now c.put_row.new.pages
    c.args.device.now)
    (edits_kept g.D.Device _ _ _ _ _ _ _
    (λ is. write_not_device c.in_err-put.field-0.0 c.in_err-put.ensures.cause is)
    (edits_none g.D.Device c.args.pages.now c.args.device.now) c.put_row.ensures.keeps)

pub returns-in-None-clause-edits : goal.returns-in-None-clause-edits
returns-in-None-clause-edits g c =
    edits_kept g.D.Device _ _ _ _ _ _ _ (λ is. never_ok is) (edits_none g.D.Device c.args.pages.now c.args.device.now)
    c.put_row.ensures.keeps

pub returns-in_err-up-clause-edits : goal.returns-in_err-up-clause-edits
returns-in_err-up-clause-edits g c =
    let put = edits_kept g.D.Device _ ⊥ _ _ _ _ _ (λ never. absurd never)
    (edits_none g.D.Device c.args.pages.now c.args.device.now) c.put_row.ensures.keeps in
    let up = c.in_err-up.ensures in
    passed c.from_residual-in_err-up.result c.in_err-up.field-0.0 c.from_residual-in_err-up.ensures.1
    (λ r. EditsPages g.D.Device (r ≡ Err Device) c.args.pages.now c.args.device.now c.propagate_split.new.pages
    c.propagate_split.new.device)
    (edits_last g.D.Device _ _ _ _ _ _ _ _ _ (λ is. still_error is) put
    up.edits)

pub returns-in_err-new-clause-edits : goal.returns-in_err-new-clause-edits
returns-in_err-new-clause-edits g c =
    let put = edits_kept g.D.Device _ ⊥ _ _ _ _ _ (λ never. absurd never)
    (edits_none g.D.Device c.args.pages.now c.args.device.now) c.put_row.ensures.keeps in
    let up = c.propagate_split.ensures in
    passed c.from_residual-in_err-new.result c.in_err-new.field-0.0 c.from_residual-in_err-new.ensures.1
    (λ r. EditsPages g.D.Device (r ≡ Err Device) c.args.pages.now c.args.device.now c.root_after_split.new.pages
    c.propagate_split.new.device)
    (edits_kept g.D.Device _ _ _ _ _ _ _
    (λ is. write_not_device c.in_err-new.field-0.0 c.in_err-new.ensures.cause is)
    (edits_more g.D.Device _ _ _ _ _ _ _ put up.edits)
    c.root_after_split.ensures.keeps)

pub returns-clause-edits : goal.returns-clause-edits
returns-clause-edits g c =
    let put = edits_kept g.D.Device _ ⊥ _ _ _ _ _ (λ never. absurd never)
    (edits_none g.D.Device c.args.pages.now c.args.device.now) c.put_row.ensures.keeps in
    let up = c.propagate_split.ensures in
    edits_kept g.D.Device _ _ _ _ _ _ _ (λ is. never_ok is)
    (edits_more g.D.Device _ _ _ _ _ _ _ put up.edits)
    c.root_after_split.ensures.keeps

pub returns-then-not-is_page-clause-entered : goal.returns-then-not-is_page-clause-entered
returns-then-not-is_page-clause-entered g c = λ honest agrees. tt

pub returns-then-not-is_page-clause-some : goal.returns-then-not-is_page-clause-some
returns-then-not-is_page-clause-some g c = λ some. tt

pub returns-then-not-is_page-clause-changed_pages : goal.returns-then-not-is_page-clause-changed_pages
returns-then-not-is_page-clause-changed_pages g c =
    few_one (length (changed_pages_of c.args.pages.now)) (length (changed_pages_of c.args.pages.now))
    (length c.args.way.now.path.items)
    (few_more (length (changed_pages_of c.args.pages.now)) 2)

pub returns-then-not-is_page-clause-filled : goal.returns-then-not-is_page-clause-filled
returns-then-not-is_page-clause-filled g c =
    few_one (filled_of c.args.pages.now) (filled_of c.args.pages.now) (length c.args.way.now.path.items)
    (few_more (filled_of c.args.pages.now) 2)

pub returns-then-not-is_page-clause-full : goal.returns-then-not-is_page-clause-full
returns-then-not-is_page-clause-full g c = λ is. damaged_not_full is

pub returns-in_err-put-clause-entered : goal.returns-in_err-put-clause-entered
returns-in_err-put-clause-entered g c = λ honest agrees.
    if_refused c.from_residual.result c.in_err-put.field-0.0 c.from_residual.ensures.1
    (InsertsIntoLeaf c.args.layout c.args.root (pages_on g.D.Device c.args.pages.now c.args.device.now)
    (pages_on g.D.Device c.put_row.new.pages c.args.device.now) c.args.way.now.path.items c.args.way.now.page
    c.args.leaf.rows c.args.way.now.right c.args.row.place c.args.row.key.now c.args.row.value.now)

pub returns-in_err-put-clause-some : goal.returns-in_err-put-clause-some
returns-in_err-put-clause-some g c =
    λ some. if_refused c.from_residual.result c.in_err-put.field-0.0 c.from_residual.ensures.1
    (λ new. 0 < new)

pub returns-in_err-put-clause-damaged : goal.returns-in_err-put-clause-damaged
returns-in_err-put-clause-damaged g c = λ honest agrees is levels tree ends.
    passed c.from_residual.result c.in_err-put.field-0.0 c.from_residual.ensures.1
    (λ r. r ≡ Err Damaged → ⊥) (λ e. subst IsWriteRefusal (same_error e) c.in_err-put.ensures.cause) is

pub returns-in_err-up-clause-entered : goal.returns-in_err-up-clause-entered
returns-in_err-up-clause-entered g c = λ honest agrees.
    if_refused c.from_residual-in_err-up.result c.in_err-up.field-0.0 c.from_residual-in_err-up.ensures.1
    (InsertsIntoLeaf c.args.layout c.args.root (pages_on g.D.Device c.args.pages.now c.args.device.now)
    (pages_on g.D.Device c.propagate_split.new.pages c.args.device.now) c.args.way.now.path.items c.args.way.now.page
    c.args.leaf.rows c.args.way.now.right c.args.row.place c.args.row.key.now c.args.row.value.now)

pub returns-in_err-up-clause-some : goal.returns-in_err-up-clause-some
returns-in_err-up-clause-some g c =
    λ some. if_refused c.from_residual-in_err-up.result c.in_err-up.field-0.0 c.from_residual-in_err-up.ensures.1
    (λ new. 0 < new)

pub returns-in_err-new-clause-entered : goal.returns-in_err-new-clause-entered
returns-in_err-new-clause-entered g c = λ honest agrees.
    if_refused c.from_residual-in_err-new.result c.in_err-new.field-0.0 c.from_residual-in_err-new.ensures.1
    (InsertsIntoLeaf c.args.layout c.args.root (pages_on g.D.Device c.args.pages.now c.args.device.now)
    (pages_on g.D.Device c.root_after_split.new.pages c.args.device.now) c.args.way.now.path.items c.args.way.now.page
    c.args.leaf.rows c.args.way.now.right c.args.row.place c.args.row.key.now c.args.row.value.now)

pub returns-in_err-new-clause-some : goal.returns-in_err-new-clause-some
returns-in_err-new-clause-some g c =
    λ some. if_refused c.from_residual-in_err-new.result c.in_err-new.field-0.0 c.from_residual-in_err-new.ensures.1
    (λ new. 0 < new)

pub returns-in_err-new-clause-damaged : goal.returns-in_err-new-clause-damaged
returns-in_err-new-clause-damaged g c = λ honest agrees is levels tree ends.
    passed c.from_residual-in_err-new.result c.in_err-new.field-0.0 c.from_residual-in_err-new.ensures.1
    (λ r. r ≡ Err Damaged → ⊥) (λ e. subst IsWriteRefusal (same_error e) c.in_err-new.ensures.cause) is

pub returns-in-None-clause-damaged : goal.returns-in-None-clause-damaged
returns-in-None-clause-damaged g c = λ honest agrees is. never_ok is

pub returns-in-None-clause-some : goal.returns-in-None-clause-some
returns-in-None-clause-some g c = λ some. some

pub returns-in-None-clause-full : goal.returns-in-None-clause-full
returns-in-None-clause-full g c = λ is. never_ok is

pub returns-clause-damaged : goal.returns-clause-damaged
returns-clause-damaged g c = λ honest agrees is. never_ok is

pub returns-clause-full : goal.returns-clause-full
returns-clause-full g c = λ is. never_ok is

pub put_row-requires-clause-page : goal.put_row-requires-clause-page
put_row-requires-clause-page g c = c.is_page.ensures.is.0 c.if-not-is_page.false

pub put_row-requires-clause-key : goal.put_row-requires-clause-key
put_row-requires-clause-key g c =
    subst (λ (f : RowLayout). length c.args.row.key.now ≡ f.key_length) (sym c.requires.leaf.0) c.requires.key

pub put_row-requires-clause-rest : goal.put_row-requires-clause-rest
put_row-requires-clause-rest g c =
    subst (λ (f : RowLayout). length c.args.row.value.now ≡ rest_length f c.args.leaf.kind) (sym c.requires.leaf.0)
    (subst (λ (k : Kind). length c.args.row.value.now ≡ rest_length c.args.layout k) (sym c.requires.leaf.1)
    c.requires.value)

pub propagate_split-requires-clause-keys : goal.propagate_split-requires-clause-keys
propagate_split-requires-clause-keys g c =
    subst (HasKeys c.args.layout) (sym c.in-Some.ensures.is)
    (split_keys c.args.layout c.args.way.now.page c.args.leaf c.in_ok-put.put c.requires.leaf.0
    c.in_ok-put.ensures.split)
