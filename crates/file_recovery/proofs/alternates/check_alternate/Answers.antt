use Rattle.std.proofs.Common.{◌≡◌, inr, List, Err, ◌∙◌}
use Rattle.std.specs.Prelude.{Option, OnOk}
use Rattle.std.proofs.lemmas.Result.{on_ok_weaker}
use Rattle.station.specs.Disk.{Sector}
use Rattle.btree.specs.Calls.{pages_on}
use Rattle.btree.specs.Entries.{entries_of}
use Rattle.btree.specs.Rooted.{RootedTree}
use Rattle.btree.specs.Tree.{pages_of}
use Rattle.btree_check.specs.Walks.{IsUnmarked}
use Rattle.records.specs.declared.fault.StoreFault.TheVariants.{Device, Damaged}
use Rattle.records.specs.declared.key.KeyOfReference.TheVariants.{Alternate}
use Rattle.records.specs.Stores.{spec_of}
use Rattle.volume_format.specs.Trees.{AreOf}
use Rattle.file_bytes.specs.Stored.{rows_of}
use Rattle.volume_format.proofs.Forests.{all_right}
use Rattle.volume_format.proofs.Looks.{looks_then}
use Rattle.btree.proofs.Passing.{was_error}
use Rattle.file_recovery.proofs.Calling.{on_tree_before}
use Rattle.file_recovery.proofs.Indexes.{index_is, index_there, index_entries}
use Rattle.file_recovery.proofs.alternates.check_alternate.Goals as goal

pub returns-clause-looks : goal.returns-clause-looks
returns-clause-looks g c =
    looks_then g.D.Device (c.check_pages.result ≡ Err Device) (c.check_index.result ≡ Err Device)
    (c.check_index.result ≡ Err Device) c.args.pages.now c.check_pages.new.pages c.check_index.new.pages
    c.args.device.now c.check_pages.new.device c.check_index.new.device
    (λ is. inr is) c.check_pages.ensures.looks c.check_index.ensures.looks

pub returns-clause-index : goal.returns-clause-index
returns-clause-index g c = λ up honest agrees.
    let spec = spec_of c.args.file.now in
    let rows = rows_of c.args.rows.now in
    let tree : RootedTree = c.new-tree.result in
    let found = c.in_ok-check_pages.ensures.holds honest agrees in
    on_ok_weaker c.check_index.result
    (index_is (pages_on g.D.Device c.args.pages.now c.args.device.now) spec rows c.args.root.value.now
    (c.new-tree.ensures.layout ∙ c.tree_layout-layout.ensures.layout)
    (c.new-tree.ensures.root ∙ c.alternate_root.ensures) found)
    (on_tree_before g.D.Device (λ pages levels.
    OnOk c.check_index.result (AreOf spec (Alternate c.args.root.key) rows (entries_of tree.layout levels)))
    c.check_pages.ensures.looks (c.check_index.ensures.index up) honest agrees found.levels found.holds)

pub returns-clause-damaged : goal.returns-clause-damaged
returns-clause-damaged g c = λ up honest agrees told own is rooted grows can.
    let spec = spec_of c.args.file.now in
    let rows = rows_of c.args.rows.now in
    let tree : RootedTree = c.new-tree.result in
    let before : List (Option Sector) = pages_on g.D.Device c.args.pages.now c.args.device.now in
    let layout = c.new-tree.ensures.layout ∙ c.tree_layout-layout.ensures.layout in
    let there = index_there before spec rows c.args.root.value.now _ layout own is grows
    (c.new-tree.ensures.root ∙ c.alternate_root.ensures) rooted in
    on_tree_before g.D.Device (λ pages levels.
    AreOf spec (Alternate c.args.root.key) rows (entries_of tree.layout levels) → ⊥) c.check_pages.ensures.looks
    (λ still same levels holds. c.check_index.ensures.damaged up still same levels holds told) honest agrees own.levels
    there (index_entries before spec rows c.args.root.value.now tree layout own is grows)

pub returns-in_err-check_pages-clause-damaged : goal.returns-in_err-check_pages-clause-damaged
returns-in_err-check_pages-clause-damaged g c = λ up honest agrees refused own is rooted grows can.
    let told =
    was_error c.from_residual.result c.check_pages.result c.in_err-check_pages.field-0.0 Damaged
    c.from_residual.ensures.1 c.in_err-check_pages.was refused in
    let before : List (Option Sector) = pages_on g.D.Device c.args.pages.now c.args.device.now in
    let there = index_there before (spec_of c.args.file.now) (rows_of c.args.rows.now) c.args.root.value.now _
    (c.new-tree.ensures.layout ∙ c.tree_layout-layout.ensures.layout) own is grows
    (c.new-tree.ensures.root ∙ c.alternate_root.ensures) rooted in
    c.check_pages.ensures.damaged honest agrees told own.levels there
    (all_right (IsUnmarked c.args.seen.now) own.chains (pages_of own.levels) can.unmarked)
