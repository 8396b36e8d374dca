use Rattle.std.proofs.Common.{◌≡◌, Err, ℕ, List, [], length, sym, ap, subst, ◌∙◌, arith}
use Rattle.std.specs.Prelude.{map, IfErr}
use Rattle.std.specs.List.{All, flat_map}
use Rattle.station.specs.State.{State}
use Rattle.pages.specs.Pages.{map_now, mark_of, Agrees}
use Rattle.pages.specs.declared.error.PagesError.TheVariants as pages
use Rattle.btree_pages.specs.declared.row_layout.RowLayout.{RowLayout}
use Rattle.btree_pages.specs.declared.row_layout.Kind.TheVariants.{Inner}
use Rattle.btree_pages.specs.Node.{Node}
use Rattle.btree_pages.specs.RowLayouts.{capacity}
use Rattle.btree.specs.Builds.{IsLeafOf, rows_of_nodes}
use Rattle.btree.specs.Entries.{Entry, entries_of_rows}
use Rattle.records.specs.declared.fault.StoreFault.TheVariants.{Device, Full}
use Rattle.records.specs.Files.{Files}
use Rattle.volume_format.specs.Catalog.{catalog_layout}
use Rattle.volume_format.specs.Forest.{IsForest, TreeLevels}
use Rattle.volume_format.specs.Grows.{IsTreeAmong}
use Rattle.volume_format.specs.Volume.{MapHolds, catalog_entry, trees_of}
use Rattle.volume_format.proofs.Faults.{full_back}
use Rattle.btree.specs.Calls.{pages_on}
use Rattle.row_trees.specs.Calls.{EditsPages}
use Rattle.alternate_keys.specs.Faults.{IsWriteFault}
use Rattle.alternate_keys.proofs.Calling.{edits_blamed, edits_last, looks_edits, prepares_of, prepares_set}
use Rattle.alternate_keys.proofs.Calling.{sectors_still}
use Rattle.alternate_keys.proofs.CatalogLeaves.{keys_ascend}
use Rattle.alternate_keys.proofs.Faults.{never_full, refused_by_call}
use Rattle.alternate_keys.proofs.FilledPages.{room_filled}
use Rattle.alternate_keys.proofs.Making.{catalog_here}
use Rattle.alternate_keys.proofs.Passing.{never_ok, on_refused, passed, read_is_write, spent_back, spent_before}
use Rattle.alternate_keys.proofs.Passing.{committed_on, same_error}
use Rattle.alternate_keys.proofs.Remaking.{build_not_damaged, build_not_device, build_writes, edits_kept, remade_map}
use Rattle.alternate_keys.proofs.second_mark.remake_catalog.Given.{Over}
use Rattle.alternate_keys.proofs.second_mark.remake_catalog.Goals as goal
use Rattle.alternate_keys.proofs.second_mark.remake_catalog.Goals.{After-clear_among, After-build}

-- what the calls before the new tree change
cleared : (g : Over) (c : After-clear_among g) (B : Type 0) → (B → c.clear_among.result ≡ Err Device)
    → EditsPages g.D.Device B c.args.pages.now c.args.device.now c.clear_among.new.pages c.clear_among.new.device
cleared g c B from = edits_last g.D.Device (c.counted_leaves.result ≡ Err Device) (c.clear_among.result ≡ Err Device) B
    _ _ _ _ _ _ from (looks_edits g.D.Device _ _ _ _ _ c.counted_leaves.ensures.looks) c.clear_among.ensures.edits

-- and those with it
built : (g : Over) (c : After-build g) → EditsPages g.D.Device ⊥ c.args.pages.now c.args.device.now c.build.new.pages
    c.clear_among.new.device
built g c =
    edits_last g.D.Device (c.clear_among.result ≡ Err Device) ⊥ ⊥ _ _ _ _ _ _ (λ is. is)
    (edits_last g.D.Device (c.counted_leaves.result ≡ Err Device) (c.clear_among.result ≡ Err Device)
    (c.clear_among.result ≡ Err Device) _ _ _ _ _ _ (λ is. is)
    (looks_edits g.D.Device _ _ _ _ _ c.counted_leaves.ensures.looks) c.clear_among.ensures.edits)
    (edits_kept g.D.Device c.clear_among.new.pages c.build.new.pages c.clear_among.new.device
    c.build.ensures.keeps)

layout_is : (g : Over) (c : After-build g) → c.layout-layout.result ≡ catalog_layout 1
layout_is g c = c.layout-layout.ensures.is ∙ c.catalog_tree.ensures.layout

-- the catalog among the trees of its files
stands : (g : Over) (c : After-clear_among g) → g.D.Device.is_honest c.args.device.now → (files : Files)
    → (holds : MapHolds (map_now c.args.pages.now (g.D.Device.state c.args.device.now).disk.present) files) →
    IsTreeAmong (pages_on g.D.Device c.counted_leaves.new.pages c.counted_leaves.new.device) []
    (flat_map trees_of holds.kept) c.catalog_tree-old.result
    (map (catalog_entry (mark_of c.args.pages.now)) holds.kept)
stands g c honest files holds =
    let looks = c.counted_leaves.ensures.looks in
    let mark : mark_of c.counted_leaves.new.pages ≡ 0 = looks.unchanged.committed.mark ∙ c.requires.mark in
    catalog_here g.D.Device (c.counted_leaves.result ≡ Err Device) c.args.pages.now c.counted_leaves.new.pages
    c.args.device.now c.counted_leaves.new.device files holds c.catalog_tree-old.result honest looks
    (c.catalog_tree-old.ensures.layout ∙ ap catalog_layout (sym mark))
    (c.catalog_tree-old.ensures.root ∙ c.catalog.ensures)

pub returns-in_err-leaves-clause-prepares : goal.returns-in_err-leaves-clause-prepares
returns-in_err-leaves-clause-prepares g c = prepares_of g.D.Device _ _ _ _ _
    (edits_blamed g.D.Device (c.counted_leaves.result ≡ Err Device) _ _ _ _ _
    (λ is. refused_by_call c.in_err-leaves.was c.from_residual.ensures.1 is)
    (looks_edits g.D.Device _ _ _ _ _ c.counted_leaves.ensures.looks))

pub returns-in_err-leaves-clause-damaged : goal.returns-in_err-leaves-clause-damaged
returns-in_err-leaves-clause-damaged g c = λ honest agrees files holds is.
    c.counted_leaves.ensures.damaged honest agrees files holds
    (refused_by_call c.in_err-leaves.was c.from_residual.ensures.1 is)

pub returns-in_err-leaves-clause-room : goal.returns-in_err-leaves-clause-room
returns-in_err-leaves-clause-room g c = λ is. absurd (never_full c.counted_leaves.result c.counted_leaves.ensures.cause
    (refused_by_call c.in_err-leaves.was c.from_residual.ensures.1 is))

pub returns-in_err-leaves-clause-spent : goal.returns-in_err-leaves-clause-spent
returns-in_err-leaves-clause-spent g c =
    λ is. c.counted_leaves.ensures.spent (refused_by_call c.in_err-leaves.was c.from_residual.ensures.1 is)

pub returns-in_err-leaves-clause-cause : goal.returns-in_err-leaves-clause-cause
returns-in_err-leaves-clause-cause g c =
    passed c.from_residual.result c.in_err-leaves.field-0.0 c.from_residual.ensures.1 (λ r. IfErr r IsWriteFault)
    (read_is_write c.in_err-leaves.field-0.0 c.in_err-leaves.ensures.cause)

pub clear_among-requires : goal.clear_among-requires
clear_among-requires g c =
    let looks = c.counted_leaves.ensures.looks in
    record {
      sectors = sectors_still g.D.Device _ c.args.pages.now c.counted_leaves.new.pages c.args.device.now
          c.counted_leaves.new.device looks.only looks.unchanged.committed c.requires.sectors;
    }

pub returns-in_err-clear_among-clause-prepares : goal.returns-in_err-clear_among-clause-prepares
returns-in_err-clear_among-clause-prepares g c =
    let at = goal.at.returns-in_err-clear_among-clause-prepares g c in
    prepares_of g.D.Device _ _ _ _ _ (cleared g at.After-clear_among _
    (λ is. refused_by_call c.in_err-clear_among.was c.from_residual-in_err-clear_among.ensures.1 is))

pub returns-in_err-clear_among-clause-damaged : goal.returns-in_err-clear_among-clause-damaged
returns-in_err-clear_among-clause-damaged g c = λ honest agrees files holds is.
    let at = goal.at.returns-in_err-clear_among-clause-damaged g c in
    let looks = c.counted_leaves.ensures.looks in
    let own = stands g at.After-clear_among honest files holds in
    c.clear_among.ensures.damaged (looks.only.honest.0 honest) (looks.agrees honest agrees) []
    (flat_map trees_of holds.kept) own.levels own.forest
    (refused_by_call c.in_err-clear_among.was c.from_residual-in_err-clear_among.ensures.1 is)

pub returns-in_err-clear_among-clause-room : goal.returns-in_err-clear_among-clause-room
returns-in_err-clear_among-clause-room g c = λ is. absurd (never_full c.clear_among.result c.clear_among.ensures.cause
    (refused_by_call c.in_err-clear_among.was c.from_residual-in_err-clear_among.ensures.1 is))

pub returns-in_err-clear_among-clause-spent : goal.returns-in_err-clear_among-clause-spent
returns-in_err-clear_among-clause-spent g c =
    λ is. spent_before c.args.pages.now c.counted_leaves.new.pages c.counted_leaves.ensures.looks.unchanged.committed
    (c.clear_among.ensures.spent
    (refused_by_call c.in_err-clear_among.was c.from_residual-in_err-clear_among.ensures.1 is))

pub returns-in_err-clear_among-clause-cause : goal.returns-in_err-clear_among-clause-cause
returns-in_err-clear_among-clause-cause g c =
    passed c.from_residual-in_err-clear_among.result c.in_err-clear_among.field-0.0
    c.from_residual-in_err-clear_among.ensures.1 (λ r. IfErr r IsWriteFault)
    (read_is_write c.in_err-clear_among.field-0.0 c.in_err-clear_among.ensures.cause)

pub build-requires-clause-leaves : goal.build-requires-clause-leaves
build-requires-clause-leaves g c =
    let is : c.layout-layout.result ≡ catalog_layout 1 = c.layout-layout.ensures.is ∙ c.catalog_tree.ensures.layout in
    subst (λ (ls : List Node). All (IsLeafOf c.layout-layout.result) ls) (sym c.as_slice.ensures.value)
    (subst (λ (l : RowLayout). All (IsLeafOf l) c.in_ok-leaves.leaves.items) (sym is)
    c.in_ok-leaves.ensures.leaves.each)

pub returns-in-Ok-clause-prepares : goal.returns-in-Ok-clause-prepares
returns-in-Ok-clause-prepares g c =
    let at = goal.at.returns-in-Ok-clause-prepares g c in
    prepares_set g.D.Device ⊥ _ c.args.pages.now c.build.new.pages c.set_catalog.new.self c.args.device.now
    c.clear_among.new.device (λ is. never_ok is) (built g at.After-build) c.set_catalog.ensures.committed
    c.set_catalog.ensures.agrees

-- the old catalog has released its pages
released : (g : Over) (c : After-build g) → g.D.Device.is_honest c.args.device.now
    → Agrees c.args.pages.now (g.D.Device.state c.args.device.now).disk → (trees : List TreeLevels)
    (entries : List Entry) → IsTreeAmong (pages_on g.D.Device c.counted_leaves.new.pages c.counted_leaves.new.device) []
    trees c.catalog_tree-old.result entries
    → IsForest (map_now c.clear_among.new.pages (g.D.Device.state c.args.device.now).disk.present).pages trees
released g c honest agrees trees entries own =
    let looks = c.counted_leaves.ensures.looks in
    subst (λ (s : State). IsForest (map_now c.clear_among.new.pages s.disk.present).pages trees)
    (looks.only.state honest)
    (c.in_ok-clear_among.ensures.cleared (looks.only.honest.0 honest) (looks.agrees honest agrees) [] trees own.levels
    own.forest)

pub returns-in-Ok-clause-will : goal.returns-in-Ok-clause-will
returns-in-Ok-clause-will g c = λ honest agrees files holds.
    let at = goal.at.returns-in-Ok-clause-will g c in
    let image = (g.D.Device.state c.args.device.now).disk.present in
    let rows : List (List ℕ) = rows_of_nodes c.as_slice.result.now in
    let listed : entries_of_rows (catalog_layout 1) rows ≡ map (catalog_entry 1) holds.kept =
    ap (λ (ls : List Node). entries_of_rows (catalog_layout 1) (rows_of_nodes ls)) c.as_slice.ensures.value
    ∙ c.in_ok-leaves.ensures.lists honest agrees files holds in
    let is = layout_is g at.After-build in
    remade_map c.args.pages.now c.set_catalog.new.self image files holds _ _ _ rows _ is
    (released g at.After-build honest agrees _ _ (stands g at.After-clear_among honest files holds)) listed
    (c.in-Ok.ensures.built (keys_ascend (map_now c.args.pages.now image) files holds _ rows is listed) image)
    (committed_on c.args.pages.now c.build.new.pages c.set_catalog.new.self (built g at.After-build).committed
    c.set_catalog.ensures.committed) (c.set_catalog.ensures.catalog ∙ c.root.ensures)
    (c.set_catalog.ensures.pages image)

pub returns-clause-room : goal.returns-clause-room
returns-clause-room g c = λ is.
    let at = goal.at.returns-clause-room g c in
    let edits = built g at.After-build in
    let told : c.to_fault.result ≡ Full = cc in
    let fault : c.in-Err.error ≡ pages.Full = full_back c.in-Err.error (sym c.to_fault.ensures ∙ told) in
    let seen = c.counted_leaves.ensures.looks.unchanged.filled in
    let clear = c.clear_among.ensures.filled in
    let more = c.build.ensures.filled in
    let long = ap (λ (l : List Node). length l) c.as_slice.ensures.value in
    let few = c.in_ok-leaves.ensures.leaves.few in
    room_filled c.args.pages.now c.build.new.pages 9 c.few_free.ensures edits.committed
    c.requires.unspent (c.in-Err.ensures.full (ap Err fault)) (omega (arith, seen, clear, more, long, few))

pub returns-in_err-leaves-clause-will : goal.returns-in_err-leaves-clause-will
returns-in_err-leaves-clause-will g c = λ honest agrees files holds.
    on_refused c.from_residual.result c.in_err-leaves.field-0.0 c.from_residual.ensures.1 _

pub returns-in_err-leaves-clause-filled : goal.returns-in_err-leaves-clause-filled
returns-in_err-leaves-clause-filled g c =
    let seen = c.counted_leaves.ensures.looks.unchanged.filled in
    omega (arith, seen)

pub returns-in_err-clear_among-clause-will : goal.returns-in_err-clear_among-clause-will
returns-in_err-clear_among-clause-will g c = λ honest agrees files holds.
    on_refused c.from_residual-in_err-clear_among.result c.in_err-clear_among.field-0.0
    c.from_residual-in_err-clear_among.ensures.1 _

pub returns-in_err-clear_among-clause-filled : goal.returns-in_err-clear_among-clause-filled
returns-in_err-clear_among-clause-filled g c =
    let seen = c.counted_leaves.ensures.looks.unchanged.filled in
    let clear = c.clear_among.ensures.filled in
    omega (arith, seen, clear)

pub build-requires-clause-few : goal.build-requires-clause-few
build-requires-clause-few g c =
    let is : c.layout-layout.result ≡ catalog_layout 1 = c.layout-layout.ensures.is ∙ c.catalog_tree.ensures.layout in
    let most : capacity c.layout-layout.result Inner ≡ 120 = ap (λ (l : RowLayout). capacity l Inner) is in
    let long = ap (λ (l : List Node). length l) c.as_slice.ensures.value in
    let few = c.in_ok-leaves.ensures.leaves.few in
    omega (arith, most, long, few)

pub returns-in-Ok-clause-filled : goal.returns-in-Ok-clause-filled
returns-in-Ok-clause-filled g c =
    let seen = c.counted_leaves.ensures.looks.unchanged.filled in
    let clear = c.clear_among.ensures.filled in
    let more = c.build.ensures.filled in
    let set = c.set_catalog.ensures.filled in
    let long = ap (λ (l : List Node). length l) c.as_slice.ensures.value in
    let few = c.in_ok-leaves.ensures.leaves.few in
    omega (arith, seen, clear, more, set, long, few)

pub returns-in-Ok-clause-room : goal.returns-in-Ok-clause-room
returns-in-Ok-clause-room g c = λ is. never_ok is

pub returns-in-Ok-clause-damaged : goal.returns-in-Ok-clause-damaged
returns-in-Ok-clause-damaged g c = λ honest agrees files holds is. never_ok is

pub returns-in-Ok-clause-spent : goal.returns-in-Ok-clause-spent
returns-in-Ok-clause-spent g c = λ is. never_ok is

pub returns-clause-prepares : goal.returns-clause-prepares
returns-clause-prepares g c =
    let at = goal.at.returns-clause-prepares g c in
    prepares_of g.D.Device _ _ _ _ _ (edits_blamed g.D.Device ⊥ _ _ _ _ _
    (λ is. build_not_device c.in-Err.error c.to_fault.result c.in-Err.ensures.cause c.to_fault.ensures
    (same_error is)) (built g at.After-build))

pub returns-clause-filled : goal.returns-clause-filled
returns-clause-filled g c =
    let seen = c.counted_leaves.ensures.looks.unchanged.filled in
    let clear = c.clear_among.ensures.filled in
    let more = c.build.ensures.filled in
    let long = ap (λ (l : List Node). length l) c.as_slice.ensures.value in
    let few = c.in_ok-leaves.ensures.leaves.few in
    omega (arith, seen, clear, more, long, few)

pub returns-clause-damaged : goal.returns-clause-damaged
returns-clause-damaged g c = λ honest agrees files holds is.
    build_not_damaged c.in-Err.error c.to_fault.result c.in-Err.ensures.cause c.to_fault.ensures (same_error is)

pub returns-clause-spent : goal.returns-clause-spent
returns-clause-spent g c = λ is.
    spent_before c.args.pages.now c.clear_among.new.pages
    (committed_on c.args.pages.now c.counted_leaves.new.pages c.clear_among.new.pages
    c.counted_leaves.ensures.looks.unchanged.committed c.clear_among.ensures.edits.committed)
    (c.in-Err.ensures.spent (ap Err (spent_back c.in-Err.error (sym c.to_fault.ensures ∙ same_error is))))

pub returns-clause-cause : goal.returns-clause-cause
returns-clause-cause g c = build_writes c.in-Err.error c.to_fault.result c.in-Err.ensures.cause c.to_fault.ensures

pub returns-clause-will : goal.returns-clause-will
returns-clause-will g c = λ honest agrees files holds. tt
