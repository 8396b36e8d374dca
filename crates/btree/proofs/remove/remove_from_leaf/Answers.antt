use Rattle.std.proofs.Common.{◌≡◌, ◌+◌, ◌*◌, true, List, length, refl, sym, subst, ◌∙◌}
use Rattle.std.specs.Prelude.{IfErr, Err, None}
use Rattle.pages.specs.Pages.{is_spent, page_count, changed_pages_of, filled_of}
use Rattle.pages.specs.declared.error.PagesError.TheVariants.{Damaged, Device, Spent}
use Rattle.btree_pages.specs.declared.row_layout.RowLayout.{RowLayout}
use Rattle.btree.specs.Calls.{pages_on, EditsPages}
use Rattle.btree.specs.Outcomes.{FitsAbove, spare}
use Rattle.btree.specs.Path.{PathStep}
use Rattle.btree.specs.Refusals.{IsChangeRefusal}
use Rattle.btree.specs.Removals.{Removes}
use Rattle.btree.specs.Results.{FewChanged, FewFilled}
use Rattle.btree.specs.Shrinks.{ShrinksBy, NeverShrinks}
use Rattle.btree.proofs.EditedPages.{edits_by, edits_kept, edits_last, edits_more, edits_none, edits_where}
use Rattle.btree.proofs.Entering.{end_stands, end_in}
use Rattle.btree.proofs.Frames.{unchanged_still}
use Rattle.btree.proofs.Lessening.{has_room, true_or_false}
use Rattle.btree.proofs.Passing.{passed, never_ok, never_err, some_not_none, still_error, damaged_not_device}
use Rattle.btree.proofs.Passing.{damaged_not_spent, if_refused, on_refused, refused_never, few_equal, few_same}
use Rattle.btree.proofs.Passing.{put_is_rest, rest_is_change, put_not_damaged, put_not_device, rest_not_device}
use Rattle.btree.proofs.Passing.{sectors_on}
use Rattle.btree.proofs.RemovalCalls.{few_taken, taken_out}
use Rattle.btree.proofs.Removing.{went, never_went, never_left, not_there}
use Rattle.btree.proofs.Searches.{FindsGap}
use Rattle.btree.proofs.remove.remove_from_leaf.Goals as goal

pub shrink-requires-clause-sectors : goal.shrink-requires-clause-sectors
shrink-requires-clause-sectors g c =
    sectors_on c.args.pages.now c.take_out.new.pages _ _ c.take_out.ensures.keeps.committed.volume refl
    c.requires.sectors

pub shrink-requires-clause-fits : goal.shrink-requires-clause-fits
shrink-requires-clause-fits g c =
    subst (λ (f : RowLayout). FitsAbove f c.in_ok-out.out) c.requires.leaf.0 c.in_ok-out.ensures.fits

pub returns-in-Err-clause-edits : goal.returns-in-Err-clause-edits
returns-in-Err-clause-edits g c =
    edits_where g.D.Device _ _ _ _ _ _ (λ is. never_ok is)
    (edits_none g.D.Device c.args.pages.now c.args.device.now)

pub returns-then-not-is_page-clause-edits : goal.returns-then-not-is_page-clause-edits
returns-then-not-is_page-clause-edits g c =
    edits_where g.D.Device _ _ _ _ _ _ (λ is. damaged_not_device is)
    (edits_none g.D.Device c.args.pages.now c.args.device.now)

pub returns-in_err-out-clause-edits : goal.returns-in_err-out-clause-edits
returns-in_err-out-clause-edits g c =
    passed c.from_residual.result c.in_err-out.field-0.0 c.from_residual.ensures.1
    (λ r. EditsPages g.D.Device (r ≡ Err Device) c.args.pages.now c.args.device.now c.take_out.new.pages
    c.args.device.now)
    (edits_kept g.D.Device _ _ _ _ _ _ _
    (λ is. put_not_device c.in_err-out.field-0.0 c.in_err-out.ensures.cause is)
    (edits_none g.D.Device c.args.pages.now c.args.device.now) c.take_out.ensures.keeps)

pub returns-in_err-outcome-clause-edits : goal.returns-in_err-outcome-clause-edits
returns-in_err-outcome-clause-edits g c =
    let taken = edits_kept g.D.Device _ ⊥ _ _ _ _ _ (λ never. absurd never)
    (edits_none g.D.Device c.args.pages.now c.args.device.now) c.take_out.ensures.keeps in
    let up = c.in_err-outcome.ensures in
    passed c.from_residual-in_err-outcome.result c.in_err-outcome.field-0.0 c.from_residual-in_err-outcome.ensures.1
    (λ r. EditsPages g.D.Device (r ≡ Err Device) c.args.pages.now c.args.device.now c.shrink.new.pages
    c.shrink.new.device)
    (edits_last g.D.Device _ _ _ _ _ _ _ _ _ (λ is. still_error is) taken
    (edits_by g.D.Device _ _ _ _ _ up.only up.committed up.catalog up.agrees))

pub returns-in_err-new-clause-edits : goal.returns-in_err-new-clause-edits
returns-in_err-new-clause-edits g c =
    let taken = edits_kept g.D.Device _ ⊥ _ _ _ _ _ (λ never. absurd never)
    (edits_none g.D.Device c.args.pages.now c.args.device.now) c.take_out.ensures.keeps in
    let up = c.shrink.ensures in
    passed c.from_residual-in_err-new.result c.in_err-new.field-0.0 c.from_residual-in_err-new.ensures.1
    (λ r. EditsPages g.D.Device (r ≡ Err Device) c.args.pages.now c.args.device.now c.root_after_removal.new.pages
    c.shrink.new.device)
    (edits_kept g.D.Device _ _ _ _ _ _ _
    (λ is. rest_not_device c.in_err-new.field-0.0 c.in_err-new.ensures.cause is)
    (edits_more g.D.Device _ _ _ _ _ _ _ taken
    (edits_by g.D.Device _ _ _ _ _ up.only up.committed up.catalog up.agrees))
    c.root_after_removal.ensures.keeps)

pub returns-clause-edits : goal.returns-clause-edits
returns-clause-edits g c =
    let taken = edits_kept g.D.Device _ ⊥ _ _ _ _ _ (λ never. absurd never)
    (edits_none g.D.Device c.args.pages.now c.args.device.now) c.take_out.ensures.keeps in
    let up = c.shrink.ensures in
    edits_kept g.D.Device _ _ _ _ _ _ _ (λ is. never_ok is)
    (edits_more g.D.Device _ _ _ _ _ _ _ taken
    (edits_by g.D.Device _ _ _ _ _ up.only up.committed up.catalog up.agrees))
    c.root_after_removal.ensures.keeps

pub returns-in-Err-clause-removed : goal.returns-in-Err-clause-removed
returns-in-Err-clause-removed g c = λ honest agrees levels tree ends.
    let w = c.args.way.now in
    let pages = pages_on g.D.Device c.args.pages.now c.args.device.now in
    not_there c.args.layout pages pages c.args.root levels w.path.items w.page c.args.leaf.rows w.right c.in-Err.field-0
    c.args.key.now tree ends c.in-Err.ensures.missing
    (subst (λ (f : RowLayout). FindsGap f c.args.key.now c.args.leaf.rows c.in-Err.field-0) c.requires.leaf.0
    c.in-Err.ensures.around)

pub returns-then-not-is_page-clause-removed : goal.returns-then-not-is_page-clause-removed
returns-then-not-is_page-clause-removed g c = λ honest agrees levels tree ends. tt

pub returns-in_err-out-clause-removed : goal.returns-in_err-out-clause-removed
returns-in_err-out-clause-removed g c = λ honest agrees levels tree ends.
    if_refused c.from_residual.result c.in_err-out.field-0.0 c.from_residual.ensures.1
    (Removes c.args.layout (pages_on g.D.Device c.args.pages.now c.args.device.now) levels
    (pages_on g.D.Device c.take_out.new.pages c.args.device.now) c.args.key.now)

pub returns-in_err-outcome-clause-removed : goal.returns-in_err-outcome-clause-removed
returns-in_err-outcome-clause-removed g c = λ honest agrees levels tree ends.
    if_refused c.from_residual-in_err-outcome.result c.in_err-outcome.field-0.0 c.from_residual-in_err-outcome.ensures.1
    (Removes c.args.layout (pages_on g.D.Device c.args.pages.now c.args.device.now) levels
    (pages_on g.D.Device c.shrink.new.pages c.args.device.now) c.args.key.now)

pub returns-in_err-new-clause-removed : goal.returns-in_err-new-clause-removed
returns-in_err-new-clause-removed g c = λ honest agrees levels tree ends.
    if_refused c.from_residual-in_err-new.result c.in_err-new.field-0.0 c.from_residual-in_err-new.ensures.1
    (Removes c.args.layout (pages_on g.D.Device c.args.pages.now c.args.device.now) levels
    (pages_on g.D.Device c.root_after_removal.new.pages c.args.device.now) c.args.key.now)

pub returns-clause-removed : goal.returns-clause-removed
returns-clause-removed g c = λ honest agrees levels tree ends.
    let w = c.args.way.now in
    went c.args.layout _ _ (pages_on g.D.Device c.shrink.new.pages c.args.device.now) _ c.args.root c.in_ok-new.new
    levels w.path.items w.page c.args.leaf w.right c.in-Ok.place c.args.key.now c.in_ok-out.out
    c.in_ok-outcome.outcome tree ends
    (taken_out c.args.pages.now c.take_out.new.pages _ c.args.layout c.args.key.now w.page c.args.leaf c.in-Ok.place
    c.in_ok-out.out c.requires.leaf c.in-Ok.ensures.found c.in-Ok.ensures.around c.in_ok-out.ensures.pages)
    (subst
    (λ (s : List PathStep). ShrinksBy c.args.layout s (pages_on g.D.Device c.take_out.new.pages c.args.device.now)
    (pages_on g.D.Device c.shrink.new.pages c.args.device.now) c.in_ok-out.out c.in_ok-outcome.outcome)
    c.as_slice.ensures (c.in_ok-outcome.ensures.shrinks honest (c.take_out.ensures.keeps.agrees _ agrees)))
    (c.in_ok-new.ensures.settles _ c.args.layout)

pub returns-in-Err-clause-damaged : goal.returns-in-Err-clause-damaged
returns-in-Err-clause-damaged g c = λ honest agrees is. never_ok is

pub returns-then-not-is_page-clause-damaged : goal.returns-then-not-is_page-clause-damaged
returns-then-not-is_page-clause-damaged g c = λ honest agrees is levels tree ends.
    let w = c.args.way.now in
    let before = pages_on g.D.Device c.args.pages.now c.args.device.now in
    let end = end_stands c.args.layout c.args.key.now before c.args.root levels w.path.items w.page c.args.leaf.rows
    w.right tree ends in
    true_or_false (c.is_page.ensures.is.1 (has_room before (page_count c.args.pages.now) w.page
    (c.is_page.ensures.count _) end.some (end_in c.args.layout before w.page c.args.leaf.rows end)))
    c.if-not-is_page.true

pub returns-in_err-out-clause-damaged : goal.returns-in_err-out-clause-damaged
returns-in_err-out-clause-damaged g c = λ honest agrees is levels tree ends.
    passed c.from_residual.result c.in_err-out.field-0.0 c.from_residual.ensures.1
    (λ r. r ≡ Err Damaged → ⊥) (λ e. put_not_damaged c.in_err-out.field-0.0 c.in_err-out.ensures.cause e) is

pub returns-in_err-outcome-clause-damaged : goal.returns-in_err-outcome-clause-damaged
returns-in_err-outcome-clause-damaged g c = λ honest agrees is levels tree ends.
    let w = c.args.way.now in
    let told = rw is at c.from_residual-in_err-outcome.ensures.1 in
    never_went c.args.layout _ _ c.args.root levels w.path.items w.page c.args.leaf w.right c.in-Ok.place
    c.args.key.now c.in_ok-out.out tree ends
    (taken_out c.args.pages.now c.take_out.new.pages _ c.args.layout c.args.key.now w.page c.args.leaf c.in-Ok.place
    c.in_ok-out.out c.requires.leaf c.in-Ok.ensures.found c.in-Ok.ensures.around c.in_ok-out.ensures.pages)
    (subst (λ (s : List PathStep). NeverShrinks c.args.layout s
    (pages_on g.D.Device c.take_out.new.pages c.args.device.now) c.in_ok-out.out) c.as_slice.ensures
    (c.in_err-outcome.ensures.damaged honest (c.take_out.ensures.keeps.agrees _ agrees) (cc told)))

pub returns-in_err-new-clause-damaged : goal.returns-in_err-new-clause-damaged
returns-in_err-new-clause-damaged g c = λ honest agrees is levels tree ends.
    let w = c.args.way.now in
    let told = rw is at c.from_residual-in_err-new.ensures.1 in
    never_left c.args.layout _ _ (pages_on g.D.Device c.shrink.new.pages c.args.device.now) c.args.root levels
    w.path.items w.page c.args.leaf w.right c.in-Ok.place c.args.key.now c.in_ok-out.out c.in_ok-outcome.outcome tree
    ends
    (taken_out c.args.pages.now c.take_out.new.pages _ c.args.layout c.args.key.now w.page c.args.leaf c.in-Ok.place
    c.in_ok-out.out c.requires.leaf c.in-Ok.ensures.found c.in-Ok.ensures.around c.in_ok-out.ensures.pages)
    (subst
    (λ (s : List PathStep). ShrinksBy c.args.layout s (pages_on g.D.Device c.take_out.new.pages c.args.device.now)
    (pages_on g.D.Device c.shrink.new.pages c.args.device.now) c.in_ok-out.out c.in_ok-outcome.outcome)
    c.as_slice.ensures (c.in_ok-outcome.ensures.shrinks honest (c.take_out.ensures.keeps.agrees _ agrees)))
    (c.in_err-new.ensures.damaged (cc told) _ c.args.layout)

pub returns-clause-damaged : goal.returns-clause-damaged
returns-clause-damaged g c = λ honest agrees is. never_ok is

pub returns-in-Err-clause-missing : goal.returns-in-Err-clause-missing
returns-in-Err-clause-missing g c = λ is. unchanged_still c.args.pages.now

pub returns-then-not-is_page-clause-missing : goal.returns-then-not-is_page-clause-missing
returns-then-not-is_page-clause-missing g c = λ is. never_err is

pub returns-in_err-out-clause-missing : goal.returns-in_err-out-clause-missing
returns-in_err-out-clause-missing g c =
    λ is. refused_never c.from_residual.result c.in_err-out.field-0.0 None c.from_residual.ensures.1 is

pub returns-in_err-outcome-clause-missing : goal.returns-in_err-outcome-clause-missing
returns-in_err-outcome-clause-missing g c =
    λ is. refused_never c.from_residual-in_err-outcome.result c.in_err-outcome.field-0.0 None
    c.from_residual-in_err-outcome.ensures.1 is

pub returns-in_err-new-clause-missing : goal.returns-in_err-new-clause-missing
returns-in_err-new-clause-missing g c =
    λ is.
    refused_never c.from_residual-in_err-new.result c.in_err-new.field-0.0 None c.from_residual-in_err-new.ensures.1 is

pub returns-clause-missing : goal.returns-clause-missing
returns-clause-missing g c = λ is. some_not_none is

pub returns-in-Err-clause-changed_pages : goal.returns-in-Err-clause-changed_pages
returns-in-Err-clause-changed_pages g c =
    few_equal (changed_pages_of c.args.pages.now) (changed_pages_of c.args.pages.now)
    (2 * length c.args.way.now.path.items + 1) refl

pub returns-in_err-out-clause-changed_pages : goal.returns-in_err-out-clause-changed_pages
returns-in_err-out-clause-changed_pages g c =
    on_refused c.from_residual.result c.in_err-out.field-0.0 c.from_residual.ensures.1
    (FewChanged (2 * length c.args.way.now.path.items + 1) c.args.pages.now c.take_out.new.pages)

pub returns-in_err-outcome-clause-changed_pages : goal.returns-in_err-outcome-clause-changed_pages
returns-in_err-outcome-clause-changed_pages g c =
    on_refused c.from_residual-in_err-outcome.result c.in_err-outcome.field-0.0 c.from_residual-in_err-outcome.ensures.1
    (FewChanged (2 * length c.args.way.now.path.items + 1) c.args.pages.now c.shrink.new.pages)

pub returns-in_err-new-clause-changed_pages : goal.returns-in_err-new-clause-changed_pages
returns-in_err-new-clause-changed_pages g c =
    on_refused c.from_residual-in_err-new.result c.in_err-new.field-0.0 c.from_residual-in_err-new.ensures.1
    (FewChanged (2 * length c.args.way.now.path.items + 1) c.args.pages.now c.root_after_removal.new.pages)

pub returns-clause-changed_pages : goal.returns-clause-changed_pages
returns-clause-changed_pages g c =
    few_taken _ _ _ _ (spare c.in_ok-out.out) (spare c.in_ok-outcome.outcome) c.as_slice.result.now
    c.args.way.now.path.items c.as_slice.ensures c.in_ok-out.ensures.changed_pages c.in_ok-outcome.ensures.changed_pages
    c.in_ok-new.ensures.changed_pages

pub returns-in-Err-clause-filled : goal.returns-in-Err-clause-filled
returns-in-Err-clause-filled g c =
    few_same (filled_of c.args.pages.now) (filled_of c.args.pages.now)
    (2 * length c.args.way.now.path.items + 1) refl

pub returns-in_err-out-clause-filled : goal.returns-in_err-out-clause-filled
returns-in_err-out-clause-filled g c =
    on_refused c.from_residual.result c.in_err-out.field-0.0 c.from_residual.ensures.1
    (FewFilled (2 * length c.args.way.now.path.items + 1) c.args.pages.now c.take_out.new.pages)

pub returns-in_err-outcome-clause-filled : goal.returns-in_err-outcome-clause-filled
returns-in_err-outcome-clause-filled g c =
    on_refused c.from_residual-in_err-outcome.result c.in_err-outcome.field-0.0 c.from_residual-in_err-outcome.ensures.1
    (FewFilled (2 * length c.args.way.now.path.items + 1) c.args.pages.now c.shrink.new.pages)

pub returns-in_err-new-clause-filled : goal.returns-in_err-new-clause-filled
returns-in_err-new-clause-filled g c =
    on_refused c.from_residual-in_err-new.result c.in_err-new.field-0.0 c.from_residual-in_err-new.ensures.1
    (FewFilled (2 * length c.args.way.now.path.items + 1) c.args.pages.now c.root_after_removal.new.pages)

pub returns-clause-filled : goal.returns-clause-filled
returns-clause-filled g c =
    few_taken _ _ _ _ (spare c.in_ok-out.out) (spare c.in_ok-outcome.outcome) c.as_slice.result.now
    c.args.way.now.path.items c.as_slice.ensures c.in_ok-out.ensures.filled c.in_ok-outcome.ensures.filled
    c.in_ok-new.ensures.filled

pub returns-in-Err-clause-spent : goal.returns-in-Err-clause-spent
returns-in-Err-clause-spent g c = λ is. never_ok is

pub returns-then-not-is_page-clause-spent : goal.returns-then-not-is_page-clause-spent
returns-then-not-is_page-clause-spent g c = λ is. damaged_not_spent is

pub returns-in_err-out-clause-spent : goal.returns-in_err-out-clause-spent
returns-in_err-out-clause-spent g c =
    passed c.from_residual.result c.in_err-out.field-0.0 c.from_residual.ensures.1
    (λ r. r ≡ Err Spent → is_spent c.args.pages.now ≡ true)
    (λ is. c.in_err-out.ensures.spent (still_error is))

pub returns-in_err-outcome-clause-spent : goal.returns-in_err-outcome-clause-spent
returns-in_err-outcome-clause-spent g c =
    passed c.from_residual-in_err-outcome.result c.in_err-outcome.field-0.0 c.from_residual-in_err-outcome.ensures.1
    (λ r. r ≡ Err Spent → is_spent c.args.pages.now ≡ true)
    (λ is. sym c.take_out.ensures.keeps.committed.spent ∙ c.in_err-outcome.ensures.spent (still_error is))

pub returns-in_err-new-clause-spent : goal.returns-in_err-new-clause-spent
returns-in_err-new-clause-spent g c =
    passed c.from_residual-in_err-new.result c.in_err-new.field-0.0 c.from_residual-in_err-new.ensures.1
    (λ r. r ≡ Err Spent → is_spent c.args.pages.now ≡ true)
    (λ is. sym (c.shrink.ensures.committed.spent ∙ c.take_out.ensures.keeps.committed.spent)
    ∙ c.in_err-new.ensures.spent (still_error is))

pub returns-clause-spent : goal.returns-clause-spent
returns-clause-spent g c = λ is. never_ok is

pub returns-in_err-out-clause-cause : goal.returns-in_err-out-clause-cause
returns-in_err-out-clause-cause g c =
    passed c.from_residual.result c.in_err-out.field-0.0 c.from_residual.ensures.1
    (λ r. IfErr r IsChangeRefusal)
    (rest_is_change c.in_err-out.field-0.0 (put_is_rest c.in_err-out.field-0.0 c.in_err-out.ensures.cause))

pub returns-in_err-outcome-clause-cause : goal.returns-in_err-outcome-clause-cause
returns-in_err-outcome-clause-cause g c =
    passed c.from_residual-in_err-outcome.result c.in_err-outcome.field-0.0 c.from_residual-in_err-outcome.ensures.1
    (λ r. IfErr r IsChangeRefusal)
    c.in_err-outcome.ensures.cause

pub returns-in_err-new-clause-cause : goal.returns-in_err-new-clause-cause
returns-in_err-new-clause-cause g c =
    passed c.from_residual-in_err-new.result c.in_err-new.field-0.0 c.from_residual-in_err-new.ensures.1
    (λ r. IfErr r IsChangeRefusal)
    (rest_is_change c.in_err-new.field-0.0 c.in_err-new.ensures.cause)
