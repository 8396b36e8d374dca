use Rattle.std.proofs.Common.{◌≡◌, inr, ℕ, List, Err, sym, ap, subst, ◌∙◌, arith}
use Rattle.std.specs.Prelude.{Option, Result, Ok, IfOk}
use Rattle.std.proofs.lemmas.List.{length-map}
use Rattle.station.specs.Disk.{Sector}
use Rattle.pages.specs.Image.{Map}
use Rattle.pages.specs.Pages.{map_now, mark_of}
use Rattle.btree_pages.specs.declared.row_layout.RowLayout.{RowLayout}
use Rattle.btree.specs.Calls.{OnTree, pages_on}
use Rattle.btree.specs.Entries.{Entry, entries_of}
use Rattle.btree.specs.Rooted.{RootedTree}
use Rattle.btree.specs.Tree.{TreeNode, IsTreeOrEmpty, pages_of}
use Rattle.records.specs.declared.fault.StoreFault.TheVariants.{Device, Damaged}
use Rattle.volume_format.specs.Catalog.{catalog_layout}
use Rattle.file_recovery.specs.Kept.{FindsCatalog}
use Rattle.file_recovery.specs.Listed.{FindsFiles, NoFiles, pages_of_files}
use Rattle.file_bytes.specs.Stored.{named_of, files_of}
use Rattle.volume_format.proofs.Looks.{looks_then, looks_blamed}
use Rattle.btree.proofs.Passing.{was_error, if_refused}
use Rattle.file_recovery.proofs.Faults.{cause_passed}
use Rattle.file_recovery.proofs.Calling.{on_marked_before, unspent_kept, sectors_kept}
use Rattle.file_recovery.proofs.Listed.{catalog_read, no_catalog_read, catalog_grows}
use Rattle.btree_check.proofs.Marking.{can_left}
use Rattle.file_recovery.proofs.catalog.read_catalog.Given.{Over}
use Rattle.file_recovery.proofs.catalog.read_catalog.Goals as goal
use Rattle.file_recovery.proofs.catalog.read_catalog.Goals.{After-read_files}

both_if_ok : {T E : Type 0} (r : Result T E) (P Q R : T → Type 0) → ((x : T) → P x → Q x → R x) → IfOk r P → IfOk r Q
    → IfOk r R
both_if_ok (Ok x) P Q R from one two = from x one two
both_if_ok (Err e) P Q R from one two = tt

-- the tree of the map's catalog
catalog_named : (m : Map) (tree : RootedTree) (levels : List (List TreeNode))
    → tree.layout ≡ catalog_layout m.mark → tree.root ≡ m.catalog
    → IsTreeOrEmpty (catalog_layout m.mark) m.pages m.catalog levels
    → IsTreeOrEmpty tree.layout m.pages tree.root levels
catalog_named m tree levels layout root holds = subst (λ (l : RowLayout). IsTreeOrEmpty l m.pages tree.root levels)
    (sym layout) (subst (λ (r : ℕ). IsTreeOrEmpty (catalog_layout m.mark) m.pages r levels) (sym root) holds)

pub returns-clause-looks : goal.returns-clause-looks
returns-clause-looks g c =
    looks_then g.D.Device (c.check_pages.result ≡ Err Device) (c.read_files.result ≡ Err Device)
    (c.read_files.result ≡ Err Device) c.args.pages.now c.check_pages.new.pages c.read_files.new.pages c.args.device.now
    c.check_pages.new.device c.read_files.new.device
    (λ is. inr is) c.check_pages.ensures.looks c.read_files.ensures.looks

pub read_files-requires-clause-layout : goal.read_files-requires-clause-layout
read_files-requires-clause-layout g c = c.catalog_tree-catalog.ensures.layout
    ∙ ap catalog_layout (c.mark.ensures.is ∙ sym c.check_pages.ensures.looks.unchanged.committed.mark)

-- what the entries of the catalog's tree say of files
catalog_claim : (g : Over) (c : After-read_files g) (C : List Entry → ℕ → List (Option Sector) → Type 0)
    → OnTree g.D.Device c.catalog_tree-catalog.result.layout c.catalog_tree-catalog.result.root c.check_pages.new.pages
    c.check_pages.new.device (λ levels. C (entries_of c.catalog_tree-catalog.result.layout levels)
    (mark_of c.check_pages.new.pages) (pages_on g.D.Device c.check_pages.new.pages c.check_pages.new.device))
    → OnTree g.D.Device c.catalog_tree-catalog.result.layout c.catalog_tree-catalog.result.root c.args.pages.now
    c.args.device.now (λ levels. C (entries_of c.catalog_tree-catalog.result.layout levels) (mark_of c.args.pages.now)
    (pages_on g.D.Device c.args.pages.now c.args.device.now))
catalog_claim g c C claim =
    let tree : RootedTree = c.catalog_tree-catalog.result in
    on_marked_before g.D.Device (λ mark pages. (levels : List (List TreeNode))
    → IsTreeOrEmpty tree.layout pages tree.root levels → C (entries_of tree.layout levels) mark pages)
    c.check_pages.ensures.looks claim

pub returns-clause-files : goal.returns-clause-files
returns-clause-files g c = λ honest agrees.
    let m : Map = map_now c.args.pages.now (g.D.Device.state c.args.device.now).disk.present in
    let found = c.in_ok-check_pages.ensures.holds honest agrees in
    both_if_ok c.read_files.result _ _
    (λ files. FindsCatalog m c.args.generation (files_of files.items) c.args.seen.now c.read_files.new.seen)
    (λ files few finds. let many = length-map files.items named_of in catalog_read m c.args.generation
    (c.catalog_tree-catalog.ensures.layout ∙ ap catalog_layout c.mark.ensures.is)
    (c.catalog_tree-catalog.ensures.root ∙ c.catalog.ensures) found (omega (arith, few, many)) finds)
    c.read_files.ensures.few
    (catalog_claim g (goal.at.returns-clause-files g c).After-read_files (λ entries mark pages. IfOk c.read_files.result
    (λ files. FindsFiles mark pages c.args.generation entries (files_of files.items) c.check_pages.new.seen
    c.read_files.new.seen)) c.read_files.ensures.files honest agrees found.levels found.holds)

pub returns-clause-damaged : goal.returns-clause-damaged
returns-clause-damaged g c = λ honest agrees told.
    let m : Map = map_now c.args.pages.now (g.D.Device.state c.args.device.now).disk.present in
    let found = c.in_ok-check_pages.ensures.holds honest agrees in
    let few = (c.map_bounds.ensures.open c.args.pages.now (g.D.Device.state c.args.device.now).disk.present
    c.requires.unspent).1 in
    no_catalog_read m c.args.generation (c.catalog_tree-catalog.ensures.layout ∙ ap catalog_layout c.mark.ensures.is)
    (c.catalog_tree-catalog.ensures.root ∙ c.catalog.ensures) found (omega (arith, few))
    (catalog_claim g (goal.at.returns-clause-damaged g c).After-read_files
    (λ entries mark pages. NoFiles mark pages c.args.generation entries c.check_pages.new.seen)
    (λ still same levels holds. c.read_files.ensures.damaged still same levels holds told) honest agrees found.levels
    found.holds)

pub returns-in_err-check_pages-clause-damaged : goal.returns-in_err-check_pages-clause-damaged
returns-in_err-check_pages-clause-damaged g c = λ honest agrees refused catalog kept is can.
    let told =
    was_error c.from_residual.result c.check_pages.result c.in_err-check_pages.field-0.0 Damaged
    c.from_residual.ensures.1 c.in_err-check_pages.was refused in
    let m : Map = map_now c.args.pages.now (g.D.Device.state c.args.device.now).disk.present in
    let tree : RootedTree = c.catalog_tree-catalog.result in
    let there = catalog_named m tree catalog
    (c.catalog_tree-catalog.ensures.layout ∙ ap catalog_layout c.mark.ensures.is)
    (c.catalog_tree-catalog.ensures.root ∙ c.catalog.ensures) (catalog_grows m c.args.generation catalog kept is) in
    c.check_pages.ensures.damaged honest agrees told catalog there
    (can_left c.args.seen.now (pages_of catalog) (pages_of_files kept) can).unmarked

pub read_files-requires-clause-unspent : goal.read_files-requires-clause-unspent
read_files-requires-clause-unspent g c =
    unspent_kept g.D.Device (c.check_pages.result ≡ Err Device) c.args.pages.now c.check_pages.new.pages
    c.args.device.now c.check_pages.new.device c.check_pages.ensures.looks c.requires.unspent

pub read_files-requires-clause-sectors : goal.read_files-requires-clause-sectors
read_files-requires-clause-sectors g c =
    sectors_kept g.D.Device (c.check_pages.result ≡ Err Device) c.args.pages.now c.check_pages.new.pages
    c.args.device.now c.check_pages.new.device c.check_pages.ensures.looks c.requires.sectors

pub returns-in_err-check_pages-clause-looks : goal.returns-in_err-check_pages-clause-looks
returns-in_err-check_pages-clause-looks g c =
    looks_blamed g.D.Device (c.check_pages.result ≡ Err Device) _ c.args.pages.now c.check_pages.new.pages
    c.args.device.now c.check_pages.new.device (λ is. was_error c.from_residual.result c.check_pages.result
    c.in_err-check_pages.field-0.0 Device c.from_residual.ensures.1 c.in_err-check_pages.was is)
    c.check_pages.ensures.looks

pub returns-in_err-check_pages-clause-files : goal.returns-in_err-check_pages-clause-files
returns-in_err-check_pages-clause-files g c = λ honest agrees.
    if_refused c.from_residual.result c.in_err-check_pages.field-0.0 c.from_residual.ensures.1 _

pub returns-in_err-check_pages-clause-cause : goal.returns-in_err-check_pages-clause-cause
returns-in_err-check_pages-clause-cause g c =
    cause_passed c.from_residual.result c.in_err-check_pages.field-0.0 c.from_residual.ensures.1
    c.in_err-check_pages.ensures.cause
