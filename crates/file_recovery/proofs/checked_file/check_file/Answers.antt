use Rattle.std.proofs.Common.{◌≡◌, ◌≤◌, ◌^◌, inr, ℕ, List, Err, length, drop, sym, ap, subst, ◌∙◌, arith}
use Rattle.std.specs.Prelude.{Option, Ok}
use Rattle.std.specs.List.{All}
use Rattle.byteorder.specs.Endian.{big_number}
use Rattle.station.specs.Disk.{Sector}
use Rattle.std.proofs.lemmas.List.{length-map}
use Rattle.pages.specs.Layout.{version_of}
use Rattle.pages.specs.Pages.{map_now, mark_of}
use Rattle.btree.specs.Calls.{OnPages, pages_on}
use Rattle.btree.specs.Entries.{Entry, entries_of}
use Rattle.btree.specs.Rooted.{RootedTree}
use Rattle.btree.specs.Tree.{TreeNode, IsTreeOrEmpty}
use Rattle.records.specs.declared.fault.StoreFault.TheVariants.{Device, Damaged}
use Rattle.records.specs.declared.file_spec.FileSpec.{FileSpec}
use Rattle.records.specs.Rows.{Row}
use Rattle.records.specs.Stores.{spec_of}
use Rattle.file_bytes.specs.declared.stored.StoredRow.{StoredRow}
use Rattle.records.specs.Laws.{RowsAscend}
use Rattle.file_recovery.specs.Found.{FindsIndexes, NoIndexes}
use Rattle.file_recovery.specs.Rows.{FindsRows, IsSized, NoRows}
use Rattle.file_bytes.specs.Stored.{row_of, rows_of}
use Rattle.volume_format.proofs.Looks.{looks_then, looks_blamed, looks_nowhere}
use Rattle.file_recovery.proofs.Calling.{on_pages_before, on_pages_before_both, unspent_kept, sectors_kept}
use Rattle.btree.proofs.Passing.{if_refused, never_ok, was_error}
use Rattle.file_recovery.proofs.Faults.{cause_passed, memory_read, memory_passed, memory_not_device, memory_not_damaged}
use Rattle.file_recovery.proofs.Faults.{damaged_not_device}
use Rattle.file_recovery.proofs.Entered.{is_none}
use Rattle.file_recovery.proofs.FirstMark.{long_by, listing_fits}
use Rattle.file_recovery.proofs.FirstMark.{without_count, counted_as, none_counted, none_miscounted, finds_counted}
use Rattle.file_recovery.proofs.Kepts.{rows_sized, own_listing, own_key, own_value, own_next}
use Rattle.file_recovery.proofs.NoFiles.{ReadsEntry, ReadsRows, entry_is, rows_read, file_read}
use Rattle.file_recovery.proofs.NoFiles.{no_tree_there, no_rows_there, no_pairs_there, same_rows_there}
use Rattle.file_recovery.proofs.checked_file.check_file.Given.{Over}
use Rattle.file_recovery.proofs.checked_file.check_file.Goals as goal
use Rattle.file_recovery.proofs.checked_file.check_file.Goals.{After-check_pages, After-is_counted}
use Rattle.file_recovery.proofs.checked_file.check_file.Goals.{After-check_alternates}

-- the words for what is counted
mark_read : (g : Over) (c : After-is_counted g) → version_of c.mark.result ≡ mark_of c.args.pages.now
mark_read g c = c.mark.ensures.is ∙ c.read_rows.ensures.looks.unchanged.committed.mark
    ∙ c.check_pages.ensures.looks.unchanged.committed.mark

rows_counted : (g : Over) (c : After-is_counted g) → c.len.result ≡ length (rows_of c.in_ok-rows.rows.items)
rows_counted g c = let many = length-map c.in_ok-rows.rows.items row_of in omega
    (arith, many, c.len.ensures, c.in_ok-rows.rows.ok)

-- what was read of the entry
entry_read : (g : Over) (c : After-check_pages g)
    → ReadsEntry (pages_on g.D.Device c.args.pages.now c.args.device.now) c.args.generation
    (without_count c.args.entry.now) c.in-Some.file.name.items (spec_of c.in-Some.file) c.next_arrival-next.result
    c.new-tree.result
entry_read g c =
    let few = (c.map_bounds.ensures.open c.args.pages.now (g.D.Device.state c.args.device.now).disk.present
    c.requires.unspent).1 in
    entry_is (without_count c.args.entry.now) c.key.result.now c.listing_part-value.result.now c.key.ensures
    c.listing_part-value.ensures.part c.requires.generation c.in-Some.is c.in_ok-file.ensures.some
    c.next_arrival-next.ensures (c.is_next.ensures.yes c.if-not-is_next.false)
    (c.new-tree.ensures.layout ∙ c.tree_layout-layout.ensures.layout)
    (c.new-tree.ensures.root ∙ c.prime_root.ensures) (omega (arith, few))

-- and its rows
rows_read_on : (g : Over) (c : After-is_counted g) {name : List ℕ} {generation : ℕ} {entry : Entry}
    → OnPages g.D.Device c.args.pages.now c.args.device.now (λ before.
    ReadsEntry before generation entry name (spec_of c.in-Some.file) c.next_arrival-next.result c.new-tree.result
    → ReadsRows before (spec_of c.in-Some.file) c.next_arrival-next.result c.new-tree.result
    (rows_of c.in_ok-rows.rows.items) c.args.seen.now c.check_pages.new.seen c.read_rows.new.seen)
rows_read_on g c = λ honest agrees read.
    let tree : RootedTree = c.new-tree.result in
    rows_read read (c.in_ok-check_pages.ensures.holds honest agrees)
    (on_pages_before g.D.Device (λ pages. (levels : List (List TreeNode))
    → IsTreeOrEmpty tree.layout pages tree.root levels
    → FindsRows (spec_of c.in-Some.file) pages (entries_of tree.layout levels) (rows_of c.in_ok-rows.rows.items)
    c.check_pages.new.seen c.read_rows.new.seen)
    c.check_pages.ensures.looks c.in_ok-rows.ensures.rows honest agrees) c.in_ok-rows.ensures.are

-- a claim of the pairs of its rows, of the pages before all calls
pairs_before : (g : Over) (c : After-check_alternates g) (C : List (Option Sector) → List Row → List ℕ → Type 0)
    → OnPages g.D.Device c.read_rows.new.pages c.read_rows.new.device (λ pages.
    C pages (rows_of c.deref.result.now) c.listing_part-value.result.now)
    → OnPages g.D.Device c.args.pages.now c.args.device.now (λ pages.
    C pages (rows_of c.in_ok-rows.rows.items) (without_count c.args.entry.now).value)
pairs_before g c C = on_pages_before_both g.D.Device C c.check_pages.ensures.looks c.read_rows.ensures.looks
    (ap rows_of c.deref.ensures.value) c.listing_part-value.ensures.part

-- the rows in the words of the check of their pairs
rows_ascend_there : (g : Over) (c : After-check_alternates g)
    → RowsAscend c.in-Some.file.organization (rows_of c.in_ok-rows.rows.items)
    → RowsAscend c.in-Some.file.organization (rows_of c.deref.result.now)
rows_ascend_there g c = subst (λ (l : List StoredRow). RowsAscend c.in-Some.file.organization (rows_of l))
    (sym c.deref.ensures.value)

pub returns-then-not-is_counted-clause-damaged : goal.returns-then-not-is_counted-clause-damaged
returns-then-not-is_counted-clause-damaged g c = λ honest agrees told.
    let to = goal.at.returns-then-not-is_counted-clause-damaged g c in
    let read = entry_read g to.After-check_pages in
    let got = rows_read_on g to.After-is_counted honest agrees read in
    none_miscounted (rows_of c.in_ok-rows.rows.items) c.args.seen.now (same_rows_there read got)
    (λ is. c.is_counted.ensures.no c.if-not-is_counted.true
    (counted_as (sym c.value.ensures) (sym (mark_read g to.After-is_counted))
    (sym (rows_counted g to.After-is_counted)) is))

pub returns-then-not-is_counted-clause-looks : goal.returns-then-not-is_counted-clause-looks
returns-then-not-is_counted-clause-looks g c =
    looks_then g.D.Device (c.check_pages.result ≡ Err Device) (c.read_rows.result ≡ Err Device) _ c.args.pages.now
    c.check_pages.new.pages c.read_rows.new.pages c.args.device.now c.check_pages.new.device c.read_rows.new.device
    (λ is. damaged_not_device is) c.check_pages.ensures.looks c.read_rows.ensures.looks

pub returns-in_default-clause-damaged : goal.returns-in_default-clause-damaged
returns-in_default-clause-damaged g c = λ honest agrees told. none_counted (λ kept found can.
    let entry : Entry = without_count c.args.entry.now in
    let before : List (Option Sector) =
    (map_now c.args.pages.now (g.D.Device.state c.args.device.now).disk.present).pages in
    let few = (c.map_bounds.ensures.open c.args.pages.now (g.D.Device.state c.args.device.now).disk.present
    c.requires.unspent).1 in
    let small : length before ≤ 2 ^ 20 = omega (arith, few) in
    c.in_ok-file.ensures.none (ap (λ (o : Option FileSpec). Ok o) (is_none c.in_ok-file.field-0 c.in_default.not-Some))
    kept.named.name _ found.named.name
    (own_listing before c.args.generation entry kept small c.requires.generation found)
    (c.key.ensures ∙ own_key before c.args.generation entry kept small c.requires.generation found)
    (c.listing_part-value.ensures.part
    ∙ own_value before c.args.generation entry kept small c.requires.generation found))

pub returns-then-not-is_next-clause-damaged : goal.returns-then-not-is_next-clause-damaged
returns-then-not-is_next-clause-damaged g c = λ honest agrees told. none_counted (λ kept found can.
    let entry : Entry = without_count c.args.entry.now in
    let before : List (Option Sector) =
    (map_now c.args.pages.now (g.D.Device.state c.args.device.now).disk.present).pages in
    let few = (c.map_bounds.ensures.open c.args.pages.now (g.D.Device.state c.args.device.now).disk.present
    c.requires.unspent).1 in
    let small : length before ≤ 2 ^ 20 = omega (arith, few) in
    let next : c.next_arrival-next.result ≡ kept.named.file.next_arrival =
    c.next_arrival-next.ensures ∙ ap (λ (v : List ℕ). big_number 8 (drop 75 v)) c.listing_part-value.ensures.part
    ∙ sym (own_next before c.args.generation entry kept small c.requires.generation found) in
    let some = found.named.file.next in
    let low = found.is.arrivals in
    c.is_next.ensures.no c.if-not-is_next.true (omega (arith, next, some)) (omega (arith, next, low)))

pub returns-clause-file : goal.returns-clause-file
returns-clause-file g c = λ honest agrees.
    let to = goal.at.returns-clause-file g c in
    let read = entry_read g to.After-check_pages in
    let got = rows_read_on g to.After-is_counted honest agrees read in
    let pairs =
    pairs_before g to.After-check_alternates (λ pages rows value. FindsIndexes pages (spec_of c.in-Some.file)
    rows value (length c.in-Some.file.alternates.items) c.read_rows.new.seen c.check_alternates.new.seen)
    (c.in_ok-check_alternates.ensures.indexes (rows_ascend_there g to.After-check_alternates got.ascend)) honest
    agrees in
    finds_counted (file_read read got pairs) (counted_as c.value.ensures (mark_read g to.After-is_counted)
    (rows_counted g to.After-is_counted) (c.is_counted.ensures.yes c.if-not-is_counted.false))

pub returns-in_err-check_pages-clause-damaged : goal.returns-in_err-check_pages-clause-damaged
returns-in_err-check_pages-clause-damaged g c = λ honest agrees refused.
    let to = goal.at.returns-in_err-check_pages-clause-damaged g c in
    let told =
    was_error c.from_residual-in_err-check_pages.result c.check_pages.result c.in_err-check_pages.field-0.0 Damaged
    c.from_residual-in_err-check_pages.ensures.1 c.in_err-check_pages.was refused in
    none_counted (no_tree_there (entry_read g to.After-check_pages) c.args.seen.now
    (λ levels holds unmarked. c.check_pages.ensures.damaged honest agrees told levels holds unmarked))

pub returns-in_err-rows-clause-damaged : goal.returns-in_err-rows-clause-damaged
returns-in_err-rows-clause-damaged g c = λ honest agrees refused.
    let to = goal.at.returns-in_err-rows-clause-damaged g c in
    let tree : RootedTree = c.new-tree.result in
    let told =
    was_error c.from_residual-in_err-rows.result c.read_rows.result c.in_err-rows.field-0.0 Damaged
    c.from_residual-in_err-rows.ensures.1 c.in_err-rows.was refused in
    let found = c.in_ok-check_pages.ensures.holds honest agrees in
    none_counted (no_rows_there (entry_read g to.After-check_pages) c.args.seen.now c.check_pages.new.seen found.levels
    found.holds found.marks (on_pages_before g.D.Device (λ pages. (levels : List (List TreeNode))
    → IsTreeOrEmpty tree.layout pages tree.root levels → NoRows (spec_of c.in-Some.file) c.next_arrival-next.result
    pages (entries_of tree.layout levels) c.check_pages.new.seen) c.check_pages.ensures.looks
    (λ still same levels holds. c.read_rows.ensures.damaged still same levels holds told) honest agrees found.levels
    found.holds))

pub returns-in_err-check_alternates-clause-damaged : goal.returns-in_err-check_alternates-clause-damaged
returns-in_err-check_alternates-clause-damaged g c = λ honest agrees refused.
    let to = goal.at.returns-in_err-check_alternates-clause-damaged g c in
    let told =
    was_error c.from_residual-in_err-check_alternates.result c.check_alternates.result
    c.in_err-check_alternates.field-0.0 Damaged c.from_residual-in_err-check_alternates.ensures.1
    c.in_err-check_alternates.was refused in
    let read = entry_read g to.After-check_pages in
    let got = rows_read_on g to.After-is_counted honest agrees read in
    let up = rows_ascend_there g to.After-check_alternates got.ascend in
    none_counted (no_pairs_there read got (pairs_before g to.After-check_alternates
    (λ pages rows value. NoIndexes pages (spec_of c.in-Some.file) rows value (length c.in-Some.file.alternates.items)
    c.read_rows.new.seen) (λ still same. c.check_alternates.ensures.damaged up still same told) honest agrees))

pub check_alternates-requires-clause-rows : goal.check_alternates-requires-clause-rows
check_alternates-requires-clause-rows g c =
    let spec = spec_of c.in-Some.file in
    subst (λ (l : List StoredRow). All (IsSized spec) (rows_of l)) (sym c.deref.ensures.value)
    (rows_sized spec c.next_arrival-next.result (rows_of c.in_ok-rows.rows.items) c.in_ok-rows.ensures.are)

pub returns-in_err-rows-clause-looks : goal.returns-in_err-rows-clause-looks
returns-in_err-rows-clause-looks g c =
    looks_then g.D.Device (c.check_pages.result ≡ Err Device) (c.read_rows.result ≡ Err Device) _ c.args.pages.now
    c.check_pages.new.pages c.read_rows.new.pages c.args.device.now c.check_pages.new.device c.read_rows.new.device
    (λ is. inr (was_error c.from_residual-in_err-rows.result c.read_rows.result c.in_err-rows.field-0.0 Device
    c.from_residual-in_err-rows.ensures.1 c.in_err-rows.was is))
    c.check_pages.ensures.looks c.read_rows.ensures.looks

pub returns-in_err-check_alternates-clause-looks : goal.returns-in_err-check_alternates-clause-looks
returns-in_err-check_alternates-clause-looks g c =
    let both =
    looks_then g.D.Device (c.check_pages.result ≡ Err Device) (c.read_rows.result ≡ Err Device) ⊥ c.args.pages.now
    c.check_pages.new.pages c.read_rows.new.pages c.args.device.now c.check_pages.new.device c.read_rows.new.device
    (λ is. absurd is) c.check_pages.ensures.looks c.read_rows.ensures.looks in
    looks_then g.D.Device ⊥ (c.check_alternates.result ≡ Err Device) _ c.args.pages.now c.read_rows.new.pages
    c.check_alternates.new.pages c.args.device.now c.read_rows.new.device c.check_alternates.new.device
    (λ is. inr (was_error c.from_residual-in_err-check_alternates.result c.check_alternates.result
    c.in_err-check_alternates.field-0.0 Device c.from_residual-in_err-check_alternates.ensures.1
    c.in_err-check_alternates.was is))
    both c.check_alternates.ensures.looks

pub returns-clause-looks : goal.returns-clause-looks
returns-clause-looks g c =
    let both =
    looks_then g.D.Device (c.check_pages.result ≡ Err Device) (c.read_rows.result ≡ Err Device) ⊥ c.args.pages.now
    c.check_pages.new.pages c.read_rows.new.pages c.args.device.now c.check_pages.new.device c.read_rows.new.device
    (λ is. absurd is) c.check_pages.ensures.looks c.read_rows.ensures.looks in
    looks_then g.D.Device ⊥ (c.check_alternates.result ≡ Err Device) _ c.args.pages.now c.read_rows.new.pages
    c.check_alternates.new.pages c.args.device.now c.read_rows.new.device c.check_alternates.new.device
    (λ is. never_ok is) both c.check_alternates.ensures.looks

pub returns-in_err-file-clause-file : goal.returns-in_err-file-clause-file
returns-in_err-file-clause-file g c =
    λ honest agrees. if_refused c.from_residual.result c.in_err-file.field-0.0 c.from_residual.ensures.1 _

pub returns-in_err-file-clause-cause : goal.returns-in_err-file-clause-cause
returns-in_err-file-clause-cause g c =
    cause_passed c.from_residual.result c.in_err-file.field-0.0 c.from_residual.ensures.1
    (memory_read c.in_err-file.field-0.0 c.in_err-file.ensures.memory)

pub returns-in_err-check_pages-clause-file : goal.returns-in_err-check_pages-clause-file
returns-in_err-check_pages-clause-file g c =
    λ honest agrees. if_refused c.from_residual-in_err-check_pages.result c.in_err-check_pages.field-0.0
    c.from_residual-in_err-check_pages.ensures.1 _

pub returns-in_err-check_pages-clause-cause : goal.returns-in_err-check_pages-clause-cause
returns-in_err-check_pages-clause-cause g c =
    cause_passed c.from_residual-in_err-check_pages.result c.in_err-check_pages.field-0.0
    c.from_residual-in_err-check_pages.ensures.1 c.in_err-check_pages.ensures.cause

pub returns-in_err-rows-clause-file : goal.returns-in_err-rows-clause-file
returns-in_err-rows-clause-file g c =
    λ honest agrees.
    if_refused c.from_residual-in_err-rows.result c.in_err-rows.field-0.0 c.from_residual-in_err-rows.ensures.1 _

pub returns-in_err-rows-clause-cause : goal.returns-in_err-rows-clause-cause
returns-in_err-rows-clause-cause g c =
    cause_passed c.from_residual-in_err-rows.result c.in_err-rows.field-0.0 c.from_residual-in_err-rows.ensures.1
    c.in_err-rows.ensures.cause

pub returns-in_err-check_alternates-clause-file : goal.returns-in_err-check_alternates-clause-file
returns-in_err-check_alternates-clause-file g c =
    λ honest agrees. if_refused c.from_residual-in_err-check_alternates.result c.in_err-check_alternates.field-0.0
    c.from_residual-in_err-check_alternates.ensures.1 _

pub returns-in_err-check_alternates-clause-cause : goal.returns-in_err-check_alternates-clause-cause
returns-in_err-check_alternates-clause-cause g c =
    cause_passed c.from_residual-in_err-check_alternates.result c.in_err-check_alternates.field-0.0
    c.from_residual-in_err-check_alternates.ensures.1 c.in_err-check_alternates.ensures.cause

pub returns-then-not-is_next-clause-file : goal.returns-then-not-is_next-clause-file
returns-then-not-is_next-clause-file g c = λ honest agrees. tt

pub returns-then-not-is_counted-clause-file : goal.returns-then-not-is_counted-clause-file
returns-then-not-is_counted-clause-file g c = λ honest agrees. tt

pub returns-in_default-clause-file : goal.returns-in_default-clause-file
returns-in_default-clause-file g c = λ honest agrees. tt

pub returns-then-not-is_next-clause-looks : goal.returns-then-not-is_next-clause-looks
returns-then-not-is_next-clause-looks g c =
    looks_blamed g.D.Device ⊥ _ c.args.pages.now c.args.pages.now c.args.device.now c.args.device.now
    (λ is. damaged_not_device is) (looks_nowhere g.D.Device c.args.pages.now c.args.device.now)

pub returns-in_default-clause-looks : goal.returns-in_default-clause-looks
returns-in_default-clause-looks g c =
    looks_blamed g.D.Device ⊥ _ c.args.pages.now c.args.pages.now c.args.device.now c.args.device.now
    (λ is. damaged_not_device is) (looks_nowhere g.D.Device c.args.pages.now c.args.device.now)

pub returns-in_err-file-clause-looks : goal.returns-in_err-file-clause-looks
returns-in_err-file-clause-looks g c =
    looks_blamed g.D.Device ⊥ _ c.args.pages.now c.args.pages.now c.args.device.now c.args.device.now
    (λ is. memory_not_device c.from_residual.result
    (memory_passed c.from_residual.result c.in_err-file.field-0.0 c.from_residual.ensures.1
    c.in_err-file.ensures.memory) is)
    (looks_nowhere g.D.Device c.args.pages.now c.args.device.now)

pub returns-in_err-file-clause-damaged : goal.returns-in_err-file-clause-damaged
returns-in_err-file-clause-damaged g c =
    λ honest agrees told. memory_not_damaged c.from_residual.result
    (memory_passed c.from_residual.result c.in_err-file.field-0.0 c.from_residual.ensures.1
    c.in_err-file.ensures.memory) told

pub returns-in_err-check_pages-clause-looks : goal.returns-in_err-check_pages-clause-looks
returns-in_err-check_pages-clause-looks g c =
    looks_blamed g.D.Device (c.check_pages.result ≡ Err Device) _ c.args.pages.now c.check_pages.new.pages
    c.args.device.now c.check_pages.new.device
    (λ is. was_error c.from_residual-in_err-check_pages.result c.check_pages.result c.in_err-check_pages.field-0.0
    Device c.from_residual-in_err-check_pages.ensures.1 c.in_err-check_pages.was is) c.check_pages.ensures.looks

pub returns-clause-damaged : goal.returns-clause-damaged
returns-clause-damaged g c = λ honest agrees told. never_ok told

pub read_rows-requires-clause-unspent : goal.read_rows-requires-clause-unspent
read_rows-requires-clause-unspent g c =
    unspent_kept g.D.Device (c.check_pages.result ≡ Err Device) c.args.pages.now
    c.check_pages.new.pages c.args.device.now c.check_pages.new.device c.check_pages.ensures.looks c.requires.unspent

pub check_alternates-requires-clause-unspent : goal.check_alternates-requires-clause-unspent
check_alternates-requires-clause-unspent g c =
    unspent_kept g.D.Device (c.read_rows.result ≡ Err Device) c.check_pages.new.pages
    c.read_rows.new.pages c.check_pages.new.device c.read_rows.new.device c.read_rows.ensures.looks
    (unspent_kept g.D.Device (c.check_pages.result ≡ Err Device) c.args.pages.now
    c.check_pages.new.pages c.args.device.now c.check_pages.new.device c.check_pages.ensures.looks c.requires.unspent)

pub read_rows-requires-clause-sectors : goal.read_rows-requires-clause-sectors
read_rows-requires-clause-sectors g c =
    sectors_kept g.D.Device (c.check_pages.result ≡ Err Device) c.args.pages.now
    c.check_pages.new.pages c.args.device.now c.check_pages.new.device c.check_pages.ensures.looks c.requires.sectors

pub check_alternates-requires-clause-sectors : goal.check_alternates-requires-clause-sectors
check_alternates-requires-clause-sectors g c =
    sectors_kept g.D.Device (c.read_rows.result ≡ Err Device) c.check_pages.new.pages
    c.read_rows.new.pages c.check_pages.new.device c.read_rows.new.device c.read_rows.ensures.looks
    (sectors_kept g.D.Device (c.check_pages.result ≡ Err Device) c.args.pages.now
    c.check_pages.new.pages c.args.device.now c.check_pages.new.device c.check_pages.ensures.looks c.requires.sectors)

pub read_rows-requires-clause-layout : goal.read_rows-requires-clause-layout
read_rows-requires-clause-layout g c = c.new-tree.ensures.layout ∙ c.tree_layout-layout.ensures.layout

pub listing_part-value-requires : goal.listing_part-value-requires
listing_part-value-requires g c = listing_fits (mark_of c.args.pages.now) c.args.entry.now.value c.requires.lengths.1

pub is_counted-requires : goal.is_counted-requires
is_counted-requires g c =
    long_by c.requires.lengths.1 c.value.ensures (c.mark.ensures.is
    ∙ c.read_rows.ensures.looks.unchanged.committed.mark ∙ c.check_pages.ensures.looks.unchanged.committed.mark)
