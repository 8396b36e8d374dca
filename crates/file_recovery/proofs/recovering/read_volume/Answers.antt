use Rattle.std.proofs.Common.{◌≡◌, ◌≤◌, ◌^◌, false, Bool, List, Err, length, refl, sym, ap, subst, ◌∙◌, arith}
use Rattle.std.proofs.lemmas.List.{length-replicate, with_items_is}
use Rattle.pages.specs.Image.{Map}
use Rattle.pages.specs.Pages.{map_now}
use Rattle.records.specs.declared.fault.StoreFault.TheVariants.{Device, Damaged}
use Rattle.file_recovery.specs.Covered.{IsCovered}
use Rattle.records.specs.Files.{AreShort}
use Rattle.file_bytes.specs.declared.stored.StoredFile.{StoredFile}
use Rattle.file_bytes.specs.Stored.{files_of}
use Rattle.btree.proofs.Passing.{if_refused, never_ok, reads_where, was_error}
use Rattle.file_recovery.proofs.Faults.{cause_passed, damaged_not_device}
use Rattle.file_recovery.proofs.Covering.{NoneMarked}
use Rattle.file_recovery.proofs.ReadTrees.{none_marked, catalog_is_held, none_is_held, stray_is_held, long_is_held}
use Rattle.file_recovery.proofs.recovering.read_volume.Given.{Over}
use Rattle.file_recovery.proofs.recovering.read_volume.Goals as goal
use Rattle.file_recovery.proofs.recovering.read_volume.Goals.{After-read_catalog, After-are_covered}

-- no page is marked before the catalog is read
none_yet : (g : Over) (c : After-read_catalog g) → NoneMarked c.deref_mut.result.now
none_yet g c = subst NoneMarked
    (sym (c.deref_mut.ensures.value ∙ c.in_ok-seen.ensures.items_if_clones_equal (λ y is. is)))
    (none_marked c.page_count.result)

-- how many pages there are
small_map : (g : Over) (c : After-read_catalog g)
    → length (map_now c.args.pages.now (g.D.Device.state c.args.device.now).disk.present).pages ≤ 2 ^ 20
small_map g c =
    let few = c.page_count.ensures.few c.requires.unspent in
    let counted = c.page_count.ensures.count in
    let many = c.page_count.ensures.pages (g.D.Device.state c.args.device.now).disk.present in
    omega (arith, few, counted, many)

-- the marks that the catalog's files left
marks_after : (g : Over) (c : After-are_covered g) → c.deref.result.now ≡ c.read_catalog.new.seen
marks_after g c = c.deref.ensures.value
    ∙ with_items_is c.in_ok-seen.seen c.read_catalog.new.seen (c.read_catalog.auto.seen ∙ c.deref_mut.ensures.len)

pub returns-in_err-files-clause-damaged : goal.returns-in_err-files-clause-damaged
returns-in_err-files-clause-damaged g c = λ honest agrees told files holds.
    let image = (g.D.Device.state c.args.device.now).disk.present in
    let m : Map = map_now c.args.pages.now image in
    let refused = was_error c.from_residual-in_err-files.result c.read_catalog.result c.in_err-files.field-0.0 Damaged
    c.from_residual-in_err-files.ensures.1 c.in_err-files.was told in
    let many : length c.deref_mut.result.now ≡ length m.pages = ap (λ (l : List Bool). length l)
    (c.deref_mut.ensures.value ∙ c.in_ok-seen.ensures.items_if_clones_equal (λ y is. is))
    ∙ length-replicate c.page_count.result false ∙ c.page_count.ensures.count
    ∙ sym (c.page_count.ensures.pages image) in
    none_is_held m m refl c.generation.result (c.generation.ensures.is image) c.deref_mut.result.now
    (none_yet g (goal.at.returns-in_err-files-clause-damaged g c).After-read_catalog) many
    (c.read_catalog.ensures.damaged honest agrees refused) files holds

pub returns-then-not-are_covered-clause-damaged : goal.returns-then-not-are_covered-clause-damaged
returns-then-not-are_covered-clause-damaged g c = λ honest agrees told files holds.
    let to = goal.at.returns-then-not-are_covered-clause-damaged g c in
    let image = (g.D.Device.state c.args.device.now).disk.present in
    let after : Map = map_now c.read_catalog.new.pages image in
    stray_is_held (map_now c.args.pages.now image) after (c.read_catalog.ensures.looks.unchanged.map image)
    c.generation.result (c.generation.ensures.is image) c.deref_mut.result.now (none_yet g to.After-read_catalog)
    (files_of c.in_ok-files.files.items) c.read_catalog.new.seen (small_map g to.After-read_catalog)
    (c.in_ok-files.ensures.files honest agrees)
    (λ covered. c.are_covered.ensures.no c.if-not-are_covered.true image
    (subst (λ (l : List Bool). IsCovered after.pages l) (sym (marks_after g to.After-are_covered)) covered)) files holds

pub returns-then-may_hold-clause-holds : goal.returns-then-may_hold-clause-holds
returns-then-may_hold-clause-holds g c = λ honest agrees.
    let to = goal.at.returns-then-may_hold-clause-holds g c in
    let image = (g.D.Device.state c.args.device.now).disk.present in
    let after : Map = map_now c.read_catalog.new.pages image in
    catalog_is_held (map_now c.args.pages.now image) after (c.read_catalog.ensures.looks.unchanged.map image)
    c.generation.result (c.generation.ensures.is image) c.deref_mut.result.now (none_yet g to.After-read_catalog)
    (files_of c.in_ok-files.files.items) c.read_catalog.new.seen (c.in_ok-files.ensures.files honest agrees)
    (subst (λ (l : List Bool). IsCovered after.pages l) (marks_after g to.After-are_covered)
    (c.are_covered.ensures.yes c.if-not-are_covered.false image))
    (λ first. subst (λ (l : List StoredFile). AreShort (files_of l)) c.deref-2.ensures.value
    (c.may_hold.ensures.yes c.if-may_hold.true
    (c.mark.ensures.is ∙ c.read_catalog.ensures.looks.unchanged.committed.mark ∙ first)))

pub returns-clause-damaged : goal.returns-clause-damaged
returns-clause-damaged g c = λ honest agrees told files holds.
    let to = (goal.at.returns-clause-damaged g c).After-read_catalog in
    let image = (g.D.Device.state c.args.device.now).disk.present in
    long_is_held (map_now c.args.pages.now image) (map_now c.read_catalog.new.pages image)
    (c.read_catalog.ensures.looks.unchanged.map image) c.generation.result (c.generation.ensures.is image)
    c.deref_mut.result.now (none_yet g to) (files_of c.in_ok-files.files.items) c.read_catalog.new.seen (small_map g to)
    (c.in_ok-files.ensures.files honest agrees)
    (λ short. c.may_hold.ensures.no c.if-may_hold.false
    (λ first. subst (λ (l : List StoredFile). AreShort (files_of l)) (sym c.deref-2.ensures.value)
    (short (sym (c.mark.ensures.is ∙ c.read_catalog.ensures.looks.unchanged.committed.mark) ∙ first)))) files holds

pub returns-in_err-files-clause-only : goal.returns-in_err-files-clause-only
returns-in_err-files-clause-only g c =
    reads_where g.D.Device (c.read_catalog.result ≡ Err Device) _ _ _
    (λ is. was_error c.from_residual-in_err-files.result c.read_catalog.result c.in_err-files.field-0.0 Device
    c.from_residual-in_err-files.ensures.1 c.in_err-files.was is) c.read_catalog.ensures.looks.only

pub returns-in_err-files-clause-holds : goal.returns-in_err-files-clause-holds
returns-in_err-files-clause-holds g c = λ honest agrees. if_refused c.from_residual-in_err-files.result
    c.in_err-files.field-0.0 c.from_residual-in_err-files.ensures.1 _

pub returns-in_err-files-clause-cause : goal.returns-in_err-files-clause-cause
returns-in_err-files-clause-cause g c =
    cause_passed c.from_residual-in_err-files.result c.in_err-files.field-0.0 c.from_residual-in_err-files.ensures.1
    c.in_err-files.ensures.cause

pub returns-then-not-are_covered-clause-only : goal.returns-then-not-are_covered-clause-only
returns-then-not-are_covered-clause-only g c =
    reads_where g.D.Device _ _ _ _ (λ is. let never : ⊥ = cc in absurd never) c.read_catalog.ensures.looks.only

pub returns-then-may_hold-clause-only : goal.returns-then-may_hold-clause-only
returns-then-may_hold-clause-only g c =
    reads_where g.D.Device _ _ _ _ (λ is. never_ok is) c.read_catalog.ensures.looks.only

pub returns-then-may_hold-clause-damaged : goal.returns-then-may_hold-clause-damaged
returns-then-may_hold-clause-damaged g c = λ honest agrees told files holds. never_ok told

pub returns-clause-only : goal.returns-clause-only
returns-clause-only g c =
    reads_where g.D.Device _ _ _ _ (λ is. damaged_not_device is) c.read_catalog.ensures.looks.only
