use Rattle.std.proofs.Common.{◌≡◌, inl, inr, Ok, Err, ℕ, List, [], length, sym, ap, ◌∙◌, arith, refl}
use Rattle.std.specs.Prelude.{map, IfErr}
use Rattle.std.specs.List.{flat_map}
use Rattle.pages.specs.Layout.{version_of}
use Rattle.pages.specs.Pages.{map_now, mark_of}
use Rattle.btree.specs.Calls.{pages_on}
use Rattle.btree.specs.Entries.{entry_with}
use Rattle.records.specs.declared.fault.StoreFault.TheVariants.{Device, Damaged}
use Rattle.records.specs.Files.{Files}
use Rattle.file_bytes.specs.Description.{padded_name}
use Rattle.btree_pages.specs.declared.row_layout.RowLayout.{RowLayout}
use Rattle.volume_format.specs.Catalog.{catalog_layout, catalog_value}
use Rattle.volume_format.specs.Grows.{IsTreeAmong}
use Rattle.volume_format.specs.Volume.{MapHolds, trees_of, catalog_entry}
use Rattle.volume_format.proofs.Values.{reads_back}
use Rattle.row_trees.specs.Calls.{EditsPages}
use Rattle.alternate_keys.proofs.Calling.{looks_edits, edits_blamed, edits_last, prepares_of, prepares_set}
use Rattle.alternate_keys.proofs.Faults.{refused_by_call, never_full, never_device, never_full_memory, never_damaged}
use Rattle.alternate_keys.proofs.Faults.{never_spent}
use Rattle.alternate_keys.proofs.Making.{catalog_here, catalog_with}
use Rattle.alternate_keys.proofs.Passing.{none_or_some, damaged_not_device, memory_is_write}
use Rattle.alternate_keys.proofs.Still.{room_before}
use Rattle.alternate_keys.proofs.Passing.{damaged_not_spent, never_ok, passed, read_is_write, spent_before}
use Rattle.alternate_keys.specs.Faults.{IsWriteFault}
use Rattle.alternate_keys.proofs.Calling.{sectors_still}
use Rattle.alternate_keys.proofs.creating.add_listing.Given.{Over}
use Rattle.alternate_keys.proofs.creating.add_listing.Goals as goal
use Rattle.alternate_keys.proofs.creating.add_listing.Goals.{After-insert_among}

pub returns-in_err-is_full-clause-prepares : goal.returns-in_err-is_full-clause-prepares
returns-in_err-is_full-clause-prepares g c = prepares_of g.D.Device _ _ _ _ _
    (edits_blamed g.D.Device (c.is_full.result ≡ Err Device) _ _ _ _ _
    (λ is. refused_by_call c.in_err-is_full.was c.from_residual.ensures.1 is)
    (looks_edits g.D.Device _ _ _ _ _ c.is_full.ensures.looks))

pub returns-then-branch-clause-prepares : goal.returns-then-branch-clause-prepares
returns-then-branch-clause-prepares g c = prepares_of g.D.Device _ _ _ _ _
    (edits_blamed g.D.Device (c.is_full.result ≡ Err Device) _ _ _ _ _ (λ is. absurd cc)
    (looks_edits g.D.Device _ _ _ _ _ c.is_full.ensures.looks))

-- what the new entry changes, and what both calls change
put : (g : Over) (c : After-insert_among g) → EditsPages g.D.Device (c.insert_among.result ≡ Err Device)
    c.is_full.new.pages c.is_full.new.device c.insert_among.new.pages c.insert_among.new.device
put g c = record {
  only = c.insert_among.ensures.only;
  committed = c.insert_among.ensures.committed;
  catalog = c.insert_among.ensures.catalog;
  agrees = c.insert_among.ensures.agrees;
}

both : (g : Over) (c : After-insert_among g) (B : Type 0) → (B → c.insert_among.result ≡ Err Device)
    → EditsPages g.D.Device B c.args.pages.now c.args.device.now c.insert_among.new.pages c.insert_among.new.device
both g c B from = edits_last g.D.Device (c.is_full.result ≡ Err Device) (c.insert_among.result ≡ Err Device) B _ _ _ _ _
    _ from (looks_edits g.D.Device _ _ _ _ _ c.is_full.ensures.looks) (put g c)

pub returns-in_err-value-clause-prepares : goal.returns-in_err-value-clause-prepares
returns-in_err-value-clause-prepares g c = prepares_of g.D.Device _ _ _ _ _
    (edits_blamed g.D.Device (c.is_full.result ≡ Err Device) _ _ _ _ _
    (λ is. absurd (never_device c.spell_value.result c.spell_value.ensures.memory
    (refused_by_call c.in_err-value.was c.from_residual-in_err-value.ensures.1 is)))
    (looks_edits g.D.Device _ _ _ _ _ c.is_full.ensures.looks))

pub returns-in_err-value-clause-room : goal.returns-in_err-value-clause-room
returns-in_err-value-clause-room g c =
    λ honest agrees files holds is. absurd (never_full_memory c.spell_value.result c.spell_value.ensures.memory
    (refused_by_call c.in_err-value.was c.from_residual-in_err-value.ensures.1 is))

pub returns-in_err-value-clause-damaged : goal.returns-in_err-value-clause-damaged
returns-in_err-value-clause-damaged g c =
    λ honest agrees files holds none is. never_damaged c.spell_value.result c.spell_value.ensures.memory
    (refused_by_call c.in_err-value.was c.from_residual-in_err-value.ensures.1 is)

pub returns-in_err-value-clause-spent : goal.returns-in_err-value-clause-spent
returns-in_err-value-clause-spent g c =
    λ is. absurd (never_spent c.spell_value.result c.spell_value.ensures.memory
    (refused_by_call c.in_err-value.was c.from_residual-in_err-value.ensures.1 is))

pub returns-in_err-value-clause-cause : goal.returns-in_err-value-clause-cause
returns-in_err-value-clause-cause g c =
    passed c.from_residual-in_err-value.result c.in_err-value.field-0.0 c.from_residual-in_err-value.ensures.1
    (λ r. IfErr r IsWriteFault) (memory_is_write c.in_err-value.field-0.0 c.in_err-value.ensures.memory)

pub insert_among-requires-clause-value : goal.insert_among-requires-clause-value
insert_among-requires-clause-value g c =
    ap (λ (l : List ℕ). length l) (c.deref.ensures.value ∙ c.in_ok-value.ensures.bytes)
    ∙ (reads_back (version_of c.mark-mark.result) c.args.listing.now 0 c.requires.listing).long
    ∙ sym (ap (λ (l : RowLayout). l.value_length) c.catalog_tree-catalog.ensures.layout)

pub returns-in_err-insert_among-clause-prepares : goal.returns-in_err-insert_among-clause-prepares
returns-in_err-insert_among-clause-prepares g c =
    let at = goal.at.returns-in_err-insert_among-clause-prepares g c in
    prepares_of g.D.Device _ _ _ _ _ (both g at.After-insert_among _
    (λ is. refused_by_call c.in_err-insert_among.was c.from_residual-in_err-insert_among.ensures.1 is))

pub returns-then-not-branch-clause-prepares : goal.returns-then-not-branch-clause-prepares
returns-then-not-branch-clause-prepares g c =
    let at = goal.at.returns-then-not-branch-clause-prepares g c in
    prepares_of g.D.Device _ _ _ _ _ (both g at.After-insert_among _ (λ is. damaged_not_device is))

pub returns-clause-prepares : goal.returns-clause-prepares
returns-clause-prepares g c =
    let at = goal.at.returns-clause-prepares g c in
    prepares_set g.D.Device (c.insert_among.result ≡ Err Device) _ c.args.pages.now c.insert_among.new.pages
    c.set_catalog.new.self c.args.device.now c.insert_among.new.device (λ is. never_ok is)
    (both g at.After-insert_among _ (λ is. is)) c.set_catalog.ensures.committed c.set_catalog.ensures.agrees

pub returns-in_err-is_full-clause-damaged : goal.returns-in_err-is_full-clause-damaged
returns-in_err-is_full-clause-damaged g c = λ honest agrees files holds none refused.
    c.is_full.ensures.damaged honest agrees files holds
    (refused_by_call c.in_err-is_full.was c.from_residual.ensures.1 refused)

pub returns-then-branch-clause-room : goal.returns-then-branch-clause-room
returns-then-branch-clause-room g c = λ honest agrees files holds full.
    inr (c.in_ok-is_full.ensures.full honest agrees files holds c.if-branch.true)

-- the mark that was read is that from before
mark_read : (g : Over) (c : After-insert_among g) → version_of c.mark-mark.result ≡ mark_of c.args.pages.now
mark_read g c = c.mark-mark.ensures.is ∙ c.is_full.ensures.looks.unchanged.committed.mark

-- the catalog among the trees of its files
stands : (g : Over) (c : After-insert_among g) → g.D.Device.is_honest c.args.device.now → (files : Files)
    → (holds : MapHolds (map_now c.args.pages.now (g.D.Device.state c.args.device.now).disk.present) files) →
    IsTreeAmong (pages_on g.D.Device c.is_full.new.pages c.is_full.new.device) [] (flat_map trees_of holds.kept)
    c.catalog_tree-catalog.result (map (catalog_entry (mark_of c.args.pages.now)) holds.kept)
stands g c honest files holds =
    catalog_here g.D.Device (c.is_full.result ≡ Err Device) c.args.pages.now c.is_full.new.pages c.args.device.now
    c.is_full.new.device files holds c.catalog_tree-catalog.result honest c.is_full.ensures.looks
    (c.catalog_tree-catalog.ensures.layout ∙ ap catalog_layout c.mark-mark.ensures.is)
    (c.catalog_tree-catalog.ensures.root ∙ c.catalog.ensures)

pub returns-in_err-insert_among-clause-room : goal.returns-in_err-insert_among-clause-room
returns-in_err-insert_among-clause-room g c = λ honest agrees files holds full.
    let at = goal.at.returns-in_err-insert_among-clause-room g c in
    let looks = c.is_full.ensures.looks in
    inl (room_before c.args.pages.now c.is_full.new.pages 42 looks.unchanged (c.insert_among.ensures.room
    (looks.only.honest.0 honest) (looks.agrees honest agrees) [] (flat_map trees_of holds.kept)
    (map (catalog_entry (mark_of c.args.pages.now)) holds.kept) (stands g at.After-insert_among honest files holds)
    (refused_by_call c.in_err-insert_among.was c.from_residual-in_err-insert_among.ensures.1 full)))

pub returns-in_err-insert_among-clause-damaged : goal.returns-in_err-insert_among-clause-damaged
returns-in_err-insert_among-clause-damaged g c = λ honest agrees files holds none refused.
    let at = goal.at.returns-in_err-insert_among-clause-damaged g c in
    let looks = c.is_full.ensures.looks in
    c.insert_among.ensures.damaged (looks.only.honest.0 honest) (looks.agrees honest agrees) []
    (flat_map trees_of holds.kept) (map (catalog_entry (mark_of c.args.pages.now)) holds.kept)
    (stands g at.After-insert_among honest files holds)
    (refused_by_call c.in_err-insert_among.was c.from_residual-in_err-insert_among.ensures.1 refused)

pub returns-then-not-branch-clause-damaged : goal.returns-then-not-branch-clause-damaged
returns-then-not-branch-clause-damaged g c = λ honest agrees files holds none refused.
    let at = goal.at.returns-then-not-branch-clause-damaged g c in
    let looks = c.is_full.ensures.looks in
    none_or_some (ap (entry_with (map (catalog_entry (mark_of c.args.pages.now)) holds.kept)) c.pad_name.ensures ∙ none)
    (c.in_ok-insert_among.ensures.there (looks.only.honest.0 honest) (looks.agrees honest agrees) []
    (flat_map trees_of holds.kept) (map (catalog_entry (mark_of c.args.pages.now)) holds.kept)
    (stands g at.After-insert_among honest files holds)
    (ap Ok c.if-not-branch.true))

pub returns-clause-added : goal.returns-clause-added
returns-clause-added g c = λ honest agrees files holds.
    let at = (goal.at.returns-clause-added g c).After-insert_among in
    let looks = c.is_full.ensures.looks in
    let entries = map (catalog_entry (mark_of c.args.pages.now)) holds.kept in
    catalog_with g.D.Device (mark_of c.args.pages.now) c.insert_among.new.pages c.set_catalog.new.self
    c.args.device.now c.is_full.new.device (flat_map trees_of holds.kept) c.insert_among.new.tree entries
    c.pad_name.result (padded_name c.args.name.now) c.deref.result.now (catalog_value (mark_of c.args.pages.now)
    c.args.listing.now 0) (looks.only.state honest) (c.insert_among.ensures.layout
    ∙ c.catalog_tree-catalog.ensures.layout ∙ ap catalog_layout (mark_read g at)) (sym c.root.ensures
    ∙ sym c.set_catalog.ensures.catalog) c.pad_name.ensures (c.deref.ensures.value ∙ c.in_ok-value.ensures.bytes
    ∙ ap (λ (m : ℕ). catalog_value m c.args.listing.now 0) (mark_read g at)) c.set_catalog.ensures.pages
    (c.in_ok-insert_among.ensures.inserted (looks.only.honest.0 honest) (looks.agrees honest agrees) []
    (flat_map trees_of holds.kept) entries (stands g at honest files holds) (ap Ok c.if-not-branch.false)).1

pub returns-clause-few_files : goal.returns-clause-few_files
returns-clause-few_files g c = λ honest agrees files holds.
    c.in_ok-is_full.ensures.room honest agrees files holds c.if-branch.false

pub returns-clause-few : goal.returns-clause-few
returns-clause-few g c = λ honest agrees files holds.
    let at = goal.at.returns-clause-few g c in
    let looks = c.is_full.ensures.looks in
    let few = c.in_ok-insert_among.ensures.changed_pages (looks.only.honest.0 honest) (looks.agrees honest agrees) []
    (flat_map trees_of holds.kept) (map (catalog_entry (mark_of c.args.pages.now)) holds.kept)
    (stands g at.After-insert_among honest files holds) in
    let changed = ap (λ (l : List ℕ). length l) looks.unchanged.changed_pages in
    let last = ap (λ (l : List ℕ). length l) c.set_catalog.ensures.changed_pages in
    omega (arith, few, changed, last)

pub returns-in_err-is_full-clause-spent : goal.returns-in_err-is_full-clause-spent
returns-in_err-is_full-clause-spent g c =
    λ is. c.is_full.ensures.spent (refused_by_call c.in_err-is_full.was c.from_residual.ensures.1 is)

pub returns-in_err-is_full-clause-cause : goal.returns-in_err-is_full-clause-cause
returns-in_err-is_full-clause-cause g c =
    passed c.from_residual.result c.in_err-is_full.field-0.0 c.from_residual.ensures.1 (λ r. IfErr r IsWriteFault)
    (read_is_write c.in_err-is_full.field-0.0 c.in_err-is_full.ensures.cause)

pub returns-in_err-is_full-clause-room : goal.returns-in_err-is_full-clause-room
returns-in_err-is_full-clause-room g c =
    λ honest agrees files holds is. absurd (never_full c.is_full.result c.is_full.ensures.cause (refused_by_call
    c.in_err-is_full.was c.from_residual.ensures.1 is))

pub insert_among-requires-clause-sectors : goal.insert_among-requires-clause-sectors
insert_among-requires-clause-sectors g c =
    sectors_still g.D.Device _ c.args.pages.now c.is_full.new.pages c.args.device.now c.is_full.new.device
    c.is_full.ensures.looks.only c.is_full.ensures.looks.unchanged.committed c.requires.sectors

pub returns-in_err-insert_among-clause-spent : goal.returns-in_err-insert_among-clause-spent
returns-in_err-insert_among-clause-spent g c =
    λ is. spent_before c.args.pages.now c.is_full.new.pages c.is_full.ensures.looks.unchanged.committed
    (c.insert_among.ensures.spent (refused_by_call c.in_err-insert_among.was
    c.from_residual-in_err-insert_among.ensures.1 is))

pub returns-in_err-insert_among-clause-cause : goal.returns-in_err-insert_among-clause-cause
returns-in_err-insert_among-clause-cause g c =
    passed c.from_residual-in_err-insert_among.result c.in_err-insert_among.field-0.0
    c.from_residual-in_err-insert_among.ensures.1 (λ r. IfErr r IsWriteFault) c.in_err-insert_among.ensures.cause

pub returns-clause-spent : goal.returns-clause-spent
returns-clause-spent g c = λ is. never_ok is

pub returns-then-not-branch-clause-spent : goal.returns-then-not-branch-clause-spent
returns-then-not-branch-clause-spent g c = λ is. damaged_not_spent Damaged refl is
