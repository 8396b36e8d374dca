use Rattle.std.proofs.Common.{◌≡◌, List, Err, sym, ap, ◌∙◌}
use Rattle.pages.specs.Image.{Map}
use Rattle.pages.specs.Pages.{map_now}
use Rattle.pages.specs.declared.error.PagesError.TheVariants as pages
use Rattle.records.specs.declared.fault.StoreFault.TheVariants.{Damaged}
use Rattle.btree_pages.specs.declared.row_layout.RowLayout.{RowLayout}
use Rattle.btree.specs.Rooted.{RootedTree}
use Rattle.btree.specs.Entries.{Entry, entries_of, entry_with}
use Rattle.volume_format.specs.Catalog.{catalog_layout}
use Rattle.file_bytes.specs.Description.{padded_name}
use Rattle.alternate_keys.proofs.Catalogs.{listed, catalog_holds}
use Rattle.volume_format.proofs.Faults.{damaged_back}
use Rattle.alternate_keys.proofs.Passing.{never_ok, same_error}
use Rattle.volume_format.proofs.Faults.{device_back}
use Rattle.alternate_keys.proofs.Passing.{reads_where, search_is_read}
use Rattle.alternate_keys.proofs.listing.find_listing.Goals as goal

pub returns-in-Ok-clause-listed : goal.returns-in-Ok-clause-listed
returns-in-Ok-clause-listed g c = λ honest agrees files holds.
    let m : Map = map_now c.args.pages.now (g.D.Device.state c.args.device.now).disk.present in
    let tree : RootedTree = c.catalog_tree-catalog.result in
    let root : tree.root ≡ m.catalog = c.catalog_tree-catalog.ensures.root ∙ c.catalog.ensures in
    let layout : tree.layout ≡ catalog_layout m.mark =
    c.catalog_tree-catalog.ensures.layout ∙ ap catalog_layout c.mark.ensures.is in
    let levels = holds.keeps.catalog in
    listed m files c.args.name.now c.in-Ok.entry c.requires.name holds
    (c.in-Ok.ensures.entry honest agrees levels
    (catalog_holds m files holds tree layout root)
    ∙ ap (λ (l : RowLayout). entry_with (entries_of l levels) c.pad_name.result) layout
    ∙ ap (entry_with (entries_of (catalog_layout m.mark) levels)) c.pad_name.ensures)

pub returns-in-Ok-clause-entry : goal.returns-in-Ok-clause-entry
returns-in-Ok-clause-entry g c = λ honest agrees files holds.
    let m : Map = map_now c.args.pages.now (g.D.Device.state c.args.device.now).disk.present in
    let tree : RootedTree = c.catalog_tree-catalog.result in
    let root : tree.root ≡ m.catalog = c.catalog_tree-catalog.ensures.root ∙ c.catalog.ensures in
    let layout : tree.layout ≡ catalog_layout m.mark =
    c.catalog_tree-catalog.ensures.layout ∙ ap catalog_layout c.mark.ensures.is in
    let levels = holds.keeps.catalog in
    c.in-Ok.ensures.entry honest agrees levels
    (catalog_holds m files holds tree layout root)
    ∙ ap (λ (l : RowLayout). entry_with (entries_of l levels) c.pad_name.result) layout
    ∙ ap (entry_with (entries_of (catalog_layout m.mark) levels)) c.pad_name.ensures
    ∙ ap (λ (es : List Entry). entry_with es (padded_name c.args.name.now)) holds.keeps.listed

pub returns-in-Err-clause-damaged : goal.returns-in-Err-clause-damaged
returns-in-Err-clause-damaged g c = λ honest agrees files holds is.
    let m : Map = map_now c.args.pages.now (g.D.Device.state c.args.device.now).disk.present in
    let tree : RootedTree = c.catalog_tree-catalog.result in
    let root : tree.root ≡ m.catalog = c.catalog_tree-catalog.ensures.root ∙ c.catalog.ensures in
    let layout : tree.layout ≡ catalog_layout m.mark =
    c.catalog_tree-catalog.ensures.layout ∙ ap catalog_layout c.mark.ensures.is in
    let told : c.to_fault.result ≡ Damaged = cc in
    let fault : c.in-Err.error ≡ pages.Damaged = damaged_back c.in-Err.error (sym c.to_fault.ensures ∙ told) in
    c.in-Err.ensures.damaged honest agrees (ap Err fault) holds.keeps.catalog
    (catalog_holds m files holds tree layout root)

pub returns-in-Ok-clause-only : goal.returns-in-Ok-clause-only
returns-in-Ok-clause-only g c =
    reads_where g.D.Device _ _ _ _ (λ is. never_ok is) c.in-Ok.ensures.only

pub returns-in-Ok-clause-damaged : goal.returns-in-Ok-clause-damaged
returns-in-Ok-clause-damaged g c =
    λ honest agrees files holds is. never_ok is

pub returns-in-Ok-clause-spent : goal.returns-in-Ok-clause-spent
returns-in-Ok-clause-spent g c =
    λ is. never_ok is

pub returns-in-Err-clause-only : goal.returns-in-Err-clause-only
returns-in-Err-clause-only g c =
    reads_where g.D.Device _ _ _ _ (λ is. ap Err (device_back c.in-Err.error (sym c.to_fault.ensures ∙ same_error is)))
    c.in-Err.ensures.only

pub returns-in-Err-clause-cause : goal.returns-in-Err-clause-cause
returns-in-Err-clause-cause g c =
    search_is_read c.catalog_tree-catalog.result.layout c.in-Err.error c.to_fault.result c.in-Err.ensures.cause
    c.to_fault.ensures
