use Rattle.std.proofs.Common.{◌≡◌, ℕ, List, Ok, Err, sym, ap, subst, ◌∙◌}
use Rattle.std.specs.Prelude.{Option}
use Rattle.station.specs.Disk.{Sector}
use Rattle.pages.specs.Pages.{map_now, catalog_of, mark_of}
use Rattle.pages.specs.declared.error.PagesError.TheVariants as pages
use Rattle.btree.specs.Rooted.{RootedTree}
use Rattle.btree.specs.Entries.{Entry}
use Rattle.file_bytes.specs.Description.{padded_name}
use Rattle.records.specs.declared.fault.StoreFault.TheVariants.{Damaged}
use Rattle.volume_format.specs.Catalog.{catalog_value, catalog_layout}
use Rattle.volume_format.specs.Forest.{TreeLevels}
use Rattle.volume_format.specs.Grows.{IsTreeAmong}
use Rattle.volume_format.proofs.Faults.{damaged_back}
use Rattle.alternate_keys.specs.Listed.{catalog_at}
use Rattle.alternate_keys.proofs.Among.{grows}
use Rattle.alternate_keys.proofs.Becoming.{replaces_among, never_missing}
use Rattle.alternate_keys.proofs.Keeping.{same_tree}
use Rattle.alternate_keys.proofs.listing.replace_listing.Given.{Over}
use Rattle.row_trees.specs.Calls.{EditsPages}
use Rattle.alternate_keys.proofs.Calling.{edits_blamed, edits_nothing}
use Rattle.alternate_keys.proofs.Passing.{passed, memory_not_device}
use Rattle.records.specs.declared.fault.StoreFault.TheVariants.{Device}
use Rattle.alternate_keys.proofs.Passing.{on_refused}
use Rattle.alternate_keys.proofs.Passing.{memory_never_damaged}
use Rattle.alternate_keys.proofs.Passing.{few_more}
use Rattle.alternate_keys.proofs.Passing.{memory_never_spent}
use Rattle.std.specs.Prelude.{IfErr}
use Rattle.alternate_keys.proofs.Passing.{memory_is_read}
use Rattle.alternate_keys.specs.Faults.{IsReadFault}
use Rattle.std.proofs.Common.{refl}
use Rattle.alternate_keys.proofs.Passing.{never_ok, same_error, spent_back, change_is_read, damaged_not_device}
use Rattle.alternate_keys.proofs.Passing.{damaged_not_spent}
use Rattle.volume_format.proofs.Faults.{device_back}
use Rattle.alternate_keys.proofs.listing.replace_listing.Goals as goal
use Rattle.alternate_keys.proofs.listing.replace_listing.Goals.{After-replace}

-- the tree that is changed is the catalog
is_catalog : (g : Over) (c : After-replace g) → c.catalog_tree-catalog.result
    ≡ catalog_at (mark_of c.args.pages.now) (catalog_of c.args.pages.now)
is_catalog g c =
    same_tree c.catalog_tree-catalog.result (catalog_at (mark_of c.args.pages.now) (catalog_of c.args.pages.now))
    (c.catalog_tree-catalog.ensures.layout ∙ ap catalog_layout c.mark.ensures.is)
    (c.catalog_tree-catalog.ensures.root ∙ c.catalog.ensures)

here : (g : Over) (c : After-replace g) {before : List (Option Sector)} {left right : List TreeLevels}
    {entries : List Entry} → IsTreeAmong before left right
    (catalog_at (mark_of c.args.pages.now) (catalog_of c.args.pages.now)) entries
    → IsTreeAmong before left right c.catalog_tree-catalog.result entries
here g c {before} {left} {right} {entries} stands =
    subst (λ (t : RootedTree). IsTreeAmong before left right t entries) (sym (is_catalog g c)) stands

pub returns-in-Ok-true-clause-replaced : goal.returns-in-Ok-true-clause-replaced
returns-in-Ok-true-clause-replaced g c = λ honest agrees left right entries stands.
    let at = (goal.at.returns-in-Ok-true-clause-replaced g c).After-replace in
    let image = (g.D.Device.state c.args.device.now).disk.present in
    let before : List (Option Sector) = (map_now c.args.pages.now image).pages in
    let there = here g at stands in
    replaces_among before (map_now c.replace.new.pages image).pages left right c.catalog_tree-catalog.result _ entries
    c.pad_name.result (padded_name c.args.name.now) c.deref.result.now _ (is_catalog g at) c.pad_name.ensures
    (c.deref.ensures.value ∙ c.in_ok-value.ensures.bytes
    ∙ ap (λ (m : ℕ). catalog_value m c.args.listing.now c.args.rows) c.mark-2.ensures.is) there
    (c.in-Ok-true.ensures.replaced honest agrees there.levels
    (grows before left right c.catalog_tree-catalog.result entries there) (ap Ok c.in-Ok-true.field-0-test)).1

pub returns-in-Ok-false-clause-damaged : goal.returns-in-Ok-false-clause-damaged
returns-in-Ok-false-clause-damaged g c = λ honest agrees left right entries stands some is.
    let before : List (Option Sector) =
    (map_now c.args.pages.now (g.D.Device.state c.args.device.now).disk.present).pages in
    let there = here g (goal.at.returns-in-Ok-false-clause-damaged g c).After-replace stands in
    never_missing before left right c.catalog_tree-catalog.result entries c.pad_name.result
    (padded_name c.args.name.now) c.pad_name.ensures there
    (c.in-Ok-false.ensures.missing honest agrees there.levels
    (grows before left right c.catalog_tree-catalog.result entries there) (ap Ok c.in-Ok-false.field-0-test)) some

pub returns-clause-damaged : goal.returns-clause-damaged
returns-clause-damaged g c = λ honest agrees left right entries stands some is.
    let before : List (Option Sector) =
    (map_now c.args.pages.now (g.D.Device.state c.args.device.now).disk.present).pages in
    let there = here g (goal.at.returns-clause-damaged g c).After-replace stands in
    let told : c.to_fault.result ≡ Damaged = cc in
    let fault : c.in-Err.error ≡ pages.Damaged = damaged_back c.in-Err.error (sym c.to_fault.ensures ∙ told) in
    c.in-Err.ensures.damaged honest agrees (ap Err fault) there.levels
    (grows before left right c.catalog_tree-catalog.result entries there)

pub returns-in_err-value-clause-edits : goal.returns-in_err-value-clause-edits
returns-in_err-value-clause-edits g c =
    passed c.from_residual.result c.in_err-value.field-0.0 c.from_residual.ensures.1
    (λ r. EditsPages g.D.Device (r ≡ Err Device) c.args.pages.now c.args.device.now c.args.pages.now c.args.device.now)
    (edits_blamed g.D.Device _ _ _ _ _ _ (λ e. memory_not_device _ c.in_err-value.ensures.memory e)
    (edits_nothing g.D.Device c.args.pages.now c.args.device.now))

pub returns-in_err-value-clause-replaced : goal.returns-in_err-value-clause-replaced
returns-in_err-value-clause-replaced g c =
    λ honest agrees left right entries stands.
    on_refused c.from_residual.result c.in_err-value.field-0.0 c.from_residual.ensures.1 _

pub returns-in_err-value-clause-damaged : goal.returns-in_err-value-clause-damaged
returns-in_err-value-clause-damaged g c =
    λ honest agrees left right entries stands some is.
    memory_never_damaged c.from_residual.result c.in_err-value.field-0.0 c.from_residual.ensures.1
    c.in_err-value.ensures.memory is

pub returns-in_err-value-clause-few : goal.returns-in_err-value-clause-few
returns-in_err-value-clause-few g c =
    few_more _ _

pub returns-in_err-value-clause-filled : goal.returns-in_err-value-clause-filled
returns-in_err-value-clause-filled g c =
    few_more _ _

pub returns-in_err-value-clause-spent : goal.returns-in_err-value-clause-spent
returns-in_err-value-clause-spent g c =
    λ is.
    memory_never_spent c.from_residual.result c.in_err-value.field-0.0 c.from_residual.ensures.1
    c.in_err-value.ensures.memory is

pub returns-in_err-value-clause-cause : goal.returns-in_err-value-clause-cause
returns-in_err-value-clause-cause g c =
    passed c.from_residual.result c.in_err-value.field-0.0 c.from_residual.ensures.1
    (λ r. IfErr r IsReadFault) (memory_is_read _ c.in_err-value.ensures.memory)

pub returns-in-Ok-true-clause-edits : goal.returns-in-Ok-true-clause-edits
returns-in-Ok-true-clause-edits g c =
    edits_blamed g.D.Device _ _ _ _ _ _ (λ is. never_ok is) c.in-Ok-true.ensures.edits

pub returns-in-Ok-true-clause-damaged : goal.returns-in-Ok-true-clause-damaged
returns-in-Ok-true-clause-damaged g c =
    λ honest agrees left right entries stands some is. never_ok is

pub returns-in-Ok-true-clause-spent : goal.returns-in-Ok-true-clause-spent
returns-in-Ok-true-clause-spent g c =
    λ is. never_ok is

pub returns-in-Ok-false-clause-edits : goal.returns-in-Ok-false-clause-edits
returns-in-Ok-false-clause-edits g c =
    edits_blamed g.D.Device _ _ _ _ _ _ (λ is. damaged_not_device is) c.in-Ok-false.ensures.edits

pub returns-in-Ok-false-clause-spent : goal.returns-in-Ok-false-clause-spent
returns-in-Ok-false-clause-spent g c =
    λ is. damaged_not_spent Damaged refl is

pub returns-clause-edits : goal.returns-clause-edits
returns-clause-edits g c =
    edits_blamed g.D.Device _ _ _ _ _ _
    (λ is. ap Err (device_back c.in-Err.error (sym c.to_fault.ensures ∙ same_error is)))
    c.in-Err.ensures.edits

pub returns-clause-cause : goal.returns-clause-cause
returns-clause-cause g c =
    change_is_read c.in-Err.error c.to_fault.result c.in-Err.ensures.cause c.to_fault.ensures

pub returns-clause-spent : goal.returns-clause-spent
returns-clause-spent g c =
    λ is. (c.in-Err.ensures.spent.0 (ap Err (spent_back c.in-Err.error (sym c.to_fault.ensures ∙ same_error is)))).0
