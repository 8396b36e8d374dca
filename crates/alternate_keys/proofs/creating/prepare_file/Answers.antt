use Rattle.std.proofs.Common.{◌≡◌, ◌<◌, ◌++◌, true, Err, ℕ, List, [], length, refl, sym, ap, subst, ◌∙◌, arith}
use Rattle.std.specs.Prelude.{map, Option, None}
use Rattle.std.specs.List.{flat_map}
use Rattle.station.specs.State.{State}
use Rattle.pages.specs.Image.{Map}
use Rattle.pages.specs.Pages.{map_now, catalog_of, mark_of, changed_pages_of, committed_of}
use Rattle.pages.specs.Pages.{Agrees, SameCommitted, IsFull}
use Rattle.btree.specs.Calls.{pages_on}
use Rattle.btree.specs.Entries.{Entry, entry_with, with_value, with_new_entry}
use Rattle.btree.specs.Results.{FewChanged}
use Rattle.btree.proofs.Frames.{same_pages}
use Rattle.records.specs.declared.fault.StoreFault.TheVariants.{Device, Damaged}
use Rattle.records.specs.Files.{Files, file_at}
use Rattle.records.specs.Spec.{is_name}
use Rattle.records.specs.Stores.{spec_of}
use Rattle.file_bytes.specs.Description.{padded_name}
use Rattle.volume_format.specs.Catalog.{catalog_value}
use Rattle.volume_format.specs.Forest.{IsForest}
use Rattle.volume_format.specs.Grows.{IsTreeAmong}
use Rattle.volume_format.specs.Volume.{MapHolds, catalog_entry, trees_of}
use Rattle.row_trees.specs.Calls.{EditsPages}
use Rattle.alternate_keys.specs.Among.{OnAmong}
use Rattle.alternate_keys.specs.Created.{OnFiles, Prepares, with_empty}
use Rattle.alternate_keys.specs.Listed.{IsListed, catalog_at}
use Rattle.alternate_keys.specs.Stands.{LacksSpace}
use Rattle.alternate_keys.proofs.Calling.{looks_edits, edits_nothing, edits_blamed, edits_last, prepares_of}
use Rattle.alternate_keys.proofs.Calling.{prepares_then}
use Rattle.alternate_keys.proofs.Calling.{sectors_still}
use Rattle.alternate_keys.proofs.Empties.{empty_placed}
use Rattle.alternate_keys.proofs.Faults.{memory_reads, never_damaged, never_device, never_spent}
use Rattle.alternate_keys.proofs.FileMaking.{WillHold, file_refused, file_refused_early, file_made}
use Rattle.alternate_keys.proofs.FoundTrees.{listed_as}
use Rattle.alternate_keys.proofs.MadeFile.{holds_at, lacks_filled, lacks_needed}
use Rattle.alternate_keys.proofs.Making.{IsThere, IsEmptied, is_there_as, entry_is_there, left_there, right_there}
use Rattle.alternate_keys.proofs.Making.{all_around, lacks_added, made_added, made_replaced, map_still, stands_emptied}
use Rattle.alternate_keys.proofs.Passing.{committed_on, spent_before}
use Rattle.alternate_keys.proofs.creating.prepare_file.Given.{Over}
use Rattle.alternate_keys.proofs.creating.prepare_file.Goals as goal
use Rattle.alternate_keys.proofs.creating.prepare_file.Goals.{After-find_listing, After-clear_trees}
use Rattle.alternate_keys.proofs.creating.prepare_file.Goals.{After-replace_listing, After-add_listing}

-- the file of that name, with its trees, after the look into the catalog
found : (g : Over) (c : After-clear_trees g) → OnFiles g.D.Device c.args.pages.now c.args.device.now (λ files holds.
    IsThere (map_now c.args.pages.now (g.D.Device.state c.args.device.now).disk.present) files holds
    c.args.file.now.name.items c.args.file.now.named
    (pages_on g.D.Device c.find_listing.new.pages c.find_listing.new.device) c.listing_part.result.now)
found g c honest agrees files holds =
    let old = g.D.Device.state c.args.device.now in
    let bounds = c.map_bounds.ensures.open c.args.pages.now old.disk.present c.requires.unspent in
    is_there_as (map_now c.args.pages.now old.disk.present) files holds c.deref.result.now c.args.file.now.name.items
    c.args.file.now.named (pages_on g.D.Device c.find_listing.new.pages c.find_listing.new.device)
    c.listing_part.result.now c.in_ok-entry.field-0 c.in-Some.entry c.deref.ensures.value
    (c.in_ok-entry.ensures.entry honest agrees files holds) (c.in_ok-entry.ensures.listed honest agrees files holds)
    c.in-Some.is c.listing_part.ensures.part bounds.0 bounds.1
    (same_pages c.args.pages.now c.find_listing.new.pages old (g.D.Device.state c.find_listing.new.device)
    c.find_listing.ensures.unchanged (c.find_listing.ensures.only.state honest))

-- a file without rows is in its place when its trees have released their pages
cleared : (g : Over) (c : After-replace_listing g) → g.D.Device.is_honest c.find_listing.new.device
    → Agrees c.find_listing.new.pages (g.D.Device.state c.find_listing.new.device).disk → {m : Map} {files : Files}
    {holds : MapHolds m files} {name : List ℕ} {named : is_name name ≡ true} → (here : IsThere m files holds name named
    (pages_on g.D.Device c.find_listing.new.pages c.find_listing.new.device) c.listing_part.result.now) →
    IsEmptied here (spec_of c.args.file.now) (pages_on g.D.Device c.clear_trees.new.pages c.clear_trees.new.device)
    c.in_ok-listing.listing.items
cleared g c honest agrees {m} {name} here =
    let forest = subst (λ (s : State). IsForest (map_now c.clear_trees.new.pages s.disk.present).pages
    (left_there here ++ right_there here)) (sym (c.clear_trees.ensures.edits.only.state honest))
    (c.in_ok-clear_trees-in-Some.ensures.cleared honest agrees here.held.spec _ _ _ _ here.trees) in
    empty_placed (spec_of c.args.file.now) name m.generation
    (pages_on g.D.Device c.clear_trees.new.pages c.clear_trees.new.device) (left_there here) (right_there here)
    c.in_ok-listing.listing.items forest c.in_ok-listing.ensures.bytes

-- and the catalog is that from before
same_catalog : (g : Over) (c : After-replace_listing g) → catalog_of c.clear_trees.new.pages ≡ catalog_of
    c.args.pages.now
same_catalog g c =
    c.clear_trees.ensures.edits.catalog ∙ ap (λ (x : Map). x.catalog) (c.find_listing.ensures.unchanged.map [])

same_mark : (g : Over) (c : After-replace_listing g) → mark_of c.clear_trees.new.pages ≡ mark_of c.args.pages.now
same_mark g c = c.clear_trees.ensures.edits.committed.mark ∙ c.find_listing.ensures.unchanged.committed.mark

-- what is committed stays through all calls
committed : (g : Over) (c : After-replace_listing g) → SameCommitted c.args.pages.now c.replace_listing.new.pages
committed g c = committed_on c.args.pages.now c.clear_trees.new.pages c.replace_listing.new.pages
    (committed_on c.args.pages.now c.find_listing.new.pages c.clear_trees.new.pages
    c.find_listing.ensures.unchanged.committed c.clear_trees.ensures.edits.committed)
    c.replace_listing.ensures.edits.committed

-- no file of that name is there
absent : (g : Over) (c : After-add_listing g) → OnFiles g.D.Device c.args.pages.now c.args.device.now
    (λ files holds. file_at c.args.file.now.name.items files ≡ None)
absent g c honest agrees files holds =
    let m : Map = map_now c.args.pages.now (g.D.Device.state c.args.device.now).disk.present in
    subst (IsListed m (file_at c.args.file.now.name.items files)) c.in-None.is (listed_as m files c.deref.result.now
    c.args.file.now.name.items c.in_ok-entry.field-0 c.deref.ensures.value
    (c.in_ok-entry.ensures.listed honest agrees files holds))

-- the map still holds the files after the look into the catalog
abbrev held_still : (g : Over) (c : After-add_listing g) → g.D.Device.is_honest c.args.device.now → (files : Files)
    → MapHolds (map_now c.args.pages.now (g.D.Device.state c.args.device.now).disk.present) files
    → MapHolds (map_now c.find_listing.new.pages (g.D.Device.state c.find_listing.new.device).disk.present) files
held_still g c honest files holds =
    holds_at (map_now c.args.pages.now (g.D.Device.state c.args.device.now).disk.present)
    (map_now c.find_listing.new.pages (g.D.Device.state c.find_listing.new.device).disk.present) files
    (map_still c.args.pages.now c.find_listing.new.pages (g.D.Device.state c.args.device.now)
    (g.D.Device.state c.find_listing.new.device) c.find_listing.ensures.unchanged
    (c.find_listing.ensures.only.state honest)) holds

pub clear_trees-requires-clause-sectors : goal.clear_trees-requires-clause-sectors
clear_trees-requires-clause-sectors g c =
    sectors_still g.D.Device _ c.args.pages.now c.find_listing.new.pages c.args.device.now c.find_listing.new.device
    c.find_listing.ensures.only c.find_listing.ensures.unchanged.committed c.requires.sectors

pub replace_listing-requires-clause-sectors : goal.replace_listing-requires-clause-sectors
replace_listing-requires-clause-sectors g c =
    sectors_still g.D.Device _ c.find_listing.new.pages c.clear_trees.new.pages c.find_listing.new.device
    c.clear_trees.new.device c.clear_trees.ensures.edits.only c.clear_trees.ensures.edits.committed (sectors_still
    g.D.Device _ c.args.pages.now c.find_listing.new.pages c.args.device.now c.find_listing.new.device
    c.find_listing.ensures.only c.find_listing.ensures.unchanged.committed c.requires.sectors)

pub add_listing-requires-clause-sectors : goal.add_listing-requires-clause-sectors
add_listing-requires-clause-sectors g c =
    sectors_still g.D.Device _ c.args.pages.now c.find_listing.new.pages c.args.device.now c.find_listing.new.device
    c.find_listing.ensures.only c.find_listing.ensures.unchanged.committed c.requires.sectors

-- what was read and written until a call
looked : (g : Over) (c : After-find_listing g) → EditsPages g.D.Device (c.find_listing.result ≡ Err Device)
    c.args.pages.now c.args.device.now c.find_listing.new.pages c.find_listing.new.device
looked g c = looks_edits g.D.Device _ _ _ _ _ (record {
  only = c.find_listing.ensures.only;
  unchanged = c.find_listing.ensures.unchanged;
  agrees = c.find_listing.ensures.agrees;
})

emptied : (g : Over) (c : After-clear_trees g) → EditsPages g.D.Device (c.find_listing.result ≡ Err Device)
    c.args.pages.now c.args.device.now c.find_listing.new.pages c.find_listing.new.device
    → EditsPages g.D.Device (c.clear_trees.result ≡ Err Device) c.args.pages.now c.args.device.now
    c.clear_trees.new.pages c.clear_trees.new.device
emptied g c before = edits_last g.D.Device _ _ _ _ _ _ _ _ _ (λ is. is) before c.clear_trees.ensures.edits

listed_anew : (g : Over) (c : After-replace_listing g) → EditsPages g.D.Device (c.clear_trees.result ≡ Err Device)
    c.args.pages.now c.args.device.now c.clear_trees.new.pages c.clear_trees.new.device
    → EditsPages g.D.Device (c.replace_listing.result ≡ Err Device) c.args.pages.now c.args.device.now
    c.replace_listing.new.pages c.replace_listing.new.device
listed_anew g c before = edits_last g.D.Device _ _ _ _ _ _ _ _ _ (λ is. is) before c.replace_listing.ensures.edits

pub returns-in_err-listing : goal.returns-in_err-listing
returns-in_err-listing g c =
    let memory = c.empty_listing.ensures.memory in
    file_refused_early g.D.Device c.in_err-listing.was c.from_residual.ensures.1
    (prepares_of g.D.Device _ _ _ _ _ (edits_blamed g.D.Device _ _ _ _ _ _
    (λ is. never_device c.empty_listing.result memory is)
    (edits_nothing g.D.Device c.args.pages.now c.args.device.now)))
    (λ honest agrees files holds is. never_damaged c.empty_listing.result memory is)
    (λ is. absurd (never_spent c.empty_listing.result memory is)) (memory_reads c.empty_listing.result memory)

pub returns-in_err-entry : goal.returns-in_err-entry
returns-in_err-entry g c =
    file_refused_early g.D.Device c.in_err-entry.was c.from_residual-in_err-entry.ensures.1
    (prepares_of g.D.Device _ _ _ _ _ (looked g (goal.at.returns-in_err-entry g c).After-find_listing))
    c.find_listing.ensures.damaged c.find_listing.ensures.spent c.find_listing.ensures.cause

pub returns-in_err-clear_trees-in-Some : goal.returns-in_err-clear_trees-in-Some
returns-in_err-clear_trees-in-Some g c =
    let at = goal.at.returns-in_err-clear_trees-in-Some g c in
    file_refused_early g.D.Device c.in_err-clear_trees-in-Some.was c.from_residual-in_err-clear_trees-in-Some.ensures.1
    (prepares_of g.D.Device _ _ _ _ _ (emptied g at.After-clear_trees (looked g at.After-find_listing)))
    (λ honest agrees files holds refused.
    let here = found g at.After-clear_trees honest agrees files holds in
    c.clear_trees.ensures.damaged (c.find_listing.ensures.only.honest.0 honest)
    (c.find_listing.ensures.agrees honest agrees) here.held.spec _ _ _ _ here.trees refused)
    (λ is. spent_before c.args.pages.now c.find_listing.new.pages c.find_listing.ensures.unchanged.committed
    (c.clear_trees.ensures.spent is)) c.clear_trees.ensures.cause

-- the file is there after the look into the catalog
abbrev Stands : (g : Over) (c : After-replace_listing g) → Type 0
Stands g c = OnFiles g.D.Device c.args.pages.now c.args.device.now (λ files holds.
    IsThere (map_now c.args.pages.now (g.D.Device.state c.args.device.now).disk.present) files holds
    c.args.file.now.name.items c.args.file.now.named
    (pages_on g.D.Device c.find_listing.new.pages c.find_listing.new.device) c.listing_part.result.now)

-- the entry of the file is in the catalog when its trees are empty
entry_never : (g : Over) (c : After-replace_listing g) → Stands g c
    → OnFiles g.D.Device c.args.pages.now c.args.device.now (λ files holds. c.replace_listing.result ≡ Err Damaged → ⊥)
entry_never g c there honest agrees files holds refused =
    let honest_found = c.find_listing.ensures.only.honest.0 honest in
    let agrees_found = c.find_listing.ensures.agrees honest agrees in
    let here = there honest agrees files holds in
    let placed = cleared g c honest_found agrees_found here in
    c.replace_listing.ensures.damaged (c.clear_trees.ensures.edits.only.honest.0 honest_found)
    (c.clear_trees.ensures.edits.agrees honest_found agrees_found) [] (all_around here _ _ _ placed)
    (map (catalog_entry (mark_of c.args.pages.now)) holds.kept)
    (stands_emptied here _ _ _ placed _ _ (same_mark g c) (same_catalog g c))
    (entry_is_there here _ c.deref-in-Some.ensures.value) refused

pub returns-in_err-replace_listing-in-Some : goal.returns-in_err-replace_listing-in-Some
returns-in_err-replace_listing-in-Some g c =
    let at = goal.at.returns-in_err-replace_listing-in-Some g c in
    let before = emptied g at.After-clear_trees (looked g at.After-find_listing) in
    file_refused_early g.D.Device c.in_err-replace_listing-in-Some.was
    c.from_residual-in_err-replace_listing-in-Some.ensures.1
    (prepares_of g.D.Device _ _ _ _ _ (listed_anew g at.After-replace_listing before))
    (entry_never g at.After-replace_listing (found g at.After-clear_trees))
    (λ is. spent_before c.args.pages.now c.clear_trees.new.pages before.committed (c.replace_listing.ensures.spent is))
    c.replace_listing.ensures.cause

-- the map holds the file without rows in place of the old one
abbrev Replaced : (g : Over) (c : After-replace_listing g) → Type 0
Replaced g c = OnAmong g.D.Device (catalog_at (mark_of c.clear_trees.new.pages) (catalog_of c.clear_trees.new.pages))
    c.clear_trees.new.pages c.clear_trees.new.device (λ left right entries.
    IsTreeAmong (pages_on g.D.Device c.replace_listing.new.pages c.clear_trees.new.device) left right
    (catalog_at (mark_of c.clear_trees.new.pages) (catalog_of c.clear_trees.new.pages)) (with_value entries (record {
      key = padded_name c.deref-in-Some.result.now;
      value = catalog_value (mark_of c.clear_trees.new.pages) c.deref-in-Some-2.result.now 0;
    })))

holds_replaced : (g : Over) (c : After-replace_listing g) → Stands g c → Replaced g c
    → WillHold g.D.Device c.args.file.now c.args.pages.now c.args.device.now c.replace_listing.new.pages
holds_replaced g c there replaced fits honest agrees files holds =
    let honest_found = c.find_listing.ensures.only.honest.0 honest in
    let agrees_found = c.find_listing.ensures.agrees honest agrees in
    let edits = c.clear_trees.ensures.edits in
    let here = there honest agrees files holds in
    let placed = cleared g c honest_found agrees_found here in
    made_replaced here g.D.Device _ _ _ placed c.args.file.now.sound fits c.args.pages.now c.replace_listing.new.pages
    c.args.device.now c.clear_trees.new.device refl (committed g c) (edits.only.state honest_found
    ∙ c.find_listing.ensures.only.state honest) _ _ (same_mark g c) (same_catalog g c)
    c.replace_listing.ensures.edits.catalog _ _ c.deref-in-Some.ensures.value c.deref-in-Some-2.ensures.value
    (replaced (edits.only.honest.0 honest_found) (edits.agrees honest_found agrees_found) [] (all_around here _ _ _
    placed) (map (catalog_entry (mark_of c.args.pages.now)) holds.kept))

lacks_replaced : (g : Over) (c : After-replace_listing g) → OnFiles g.D.Device c.args.pages.now c.args.device.now
    (λ files holds. changed_pages_of c.args.pages.now ≡ [] → IsFull c.replace_listing.new.pages
    → LacksSpace (committed_of c.args.pages.now) true c.args.file.now.name.items (with_empty c.args.file.now files))
lacks_replaced g c honest agrees files holds rested full =
    let same = committed g c in
    let none = ap (λ (l : List ℕ). length l) rested in
    let start = (c.needed_by.ensures.needed c.args.pages.now c.requires.unspent).1 in
    let found_filled = c.find_listing.ensures.unchanged.filled in
    let clear = c.clear_trees.ensures.filled in
    let put = c.replace_listing.ensures.filled in
    lacks_filled c.args.pages.now c.replace_listing.new.pages c.args.file.now.name.items
    (with_empty c.args.file.now files) same (omega (arith, none, start, found_filled, clear, put))
    (c.needed_by.ensures.short c.replace_listing.new.pages (same.spent ∙ c.requires.unspent) full)

pub returns-in-Some : goal.returns-in-Some
returns-in-Some g c =
    let at = goal.at.returns-in-Some g c in
    let before = emptied g at.After-clear_trees (looked g at.After-find_listing) in
    file_made g.D.Device (prepares_of g.D.Device _ _ _ _ _ (listed_anew g at.After-replace_listing before))
    (holds_replaced g at.After-replace_listing (found g at.After-clear_trees)
    c.in_ok-replace_listing-in-Some.ensures.replaced) (lacks_replaced g at.After-replace_listing)

-- it is not added as a file that is there
added_never : (g : Over) (c : After-add_listing g) → OnFiles g.D.Device c.args.pages.now c.args.device.now
    (λ files holds. c.add_listing.result ≡ Err Damaged → ⊥)
added_never g c honest agrees files holds refused =
    let entry_at : ℕ → List ℕ → Option Entry =
    λ mark n. entry_with (map (catalog_entry mark) holds.kept) (padded_name n) in
    let told : c.in_ok-entry.field-0 ≡ entry_at (mark_of c.args.pages.now) c.args.file.now.name.items =
    c.in_ok-entry.ensures.entry honest agrees files holds
    ∙ ap (entry_at (mark_of c.args.pages.now)) c.deref.ensures.value in
    c.add_listing.ensures.damaged (c.find_listing.ensures.only.honest.0 honest)
    (c.find_listing.ensures.agrees honest agrees) files (held_still g c honest files holds)
    (ap (λ (m : ℕ). entry_at m c.deref-in-None.result.now) c.find_listing.ensures.unchanged.committed.mark
    ∙ ap (entry_at (mark_of c.args.pages.now)) c.deref-in-None.ensures.value ∙ sym told ∙ c.in-None.is) refused

prepared : (g : Over) (c : After-add_listing g) → EditsPages g.D.Device (c.find_listing.result ≡ Err Device)
    c.args.pages.now c.args.device.now c.find_listing.new.pages c.find_listing.new.device
    → Prepares g.D.Device (c.add_listing.result ≡ Err Device) c.args.pages.now c.args.device.now
    c.add_listing.new.pages c.add_listing.new.device
prepared g c before = prepares_then g.D.Device _ _ _ _ _ _ _ _ _ (λ is. is) before c.add_listing.ensures.prepares

pub returns-in_err-add_listing-in-None : goal.returns-in_err-add_listing-in-None
returns-in_err-add_listing-in-None g c =
    let to = goal.at.returns-in_err-add_listing-in-None g c in
    let at = to.After-add_listing in
    file_refused g.D.Device c.in_err-add_listing-in-None.was c.from_residual-in_err-add_listing-in-None.ensures.1
    (prepared g at (looked g to.After-find_listing))
    (λ honest agrees files holds rested full.
    lacks_added c.args.pages.now c.find_listing.new.pages c.args.file.now.name.items (spec_of c.args.file.now) files
    (absent g at honest agrees files holds) c.find_listing.ensures.unchanged rested
    (c.add_listing.ensures.room (c.find_listing.ensures.only.honest.0 honest)
    (c.find_listing.ensures.agrees honest agrees) files (held_still g at honest files holds) full))
    (added_never g at)
    (λ is. spent_before c.args.pages.now c.find_listing.new.pages c.find_listing.ensures.unchanged.committed
    (c.add_listing.ensures.spent is)) c.add_listing.ensures.cause

-- the map holds the new file
abbrev Added : (g : Over) (c : After-add_listing g) → Type 0
Added g c = OnFiles g.D.Device c.find_listing.new.pages c.find_listing.new.device (λ files holds.
    IsTreeAmong (pages_on g.D.Device c.add_listing.new.pages c.find_listing.new.device) []
    (flat_map trees_of holds.kept)
    (catalog_at (mark_of c.find_listing.new.pages) (catalog_of c.add_listing.new.pages))
    (with_new_entry (map (catalog_entry (mark_of c.find_listing.new.pages)) holds.kept) (record {
      key = padded_name c.deref-in-None.result.now;
      value = catalog_value (mark_of c.find_listing.new.pages) c.deref-in-None-2.result.now 0;
    })))

holds_added : (g : Over) (c : After-add_listing g) → OnFiles g.D.Device c.find_listing.new.pages
    c.find_listing.new.device (λ files holds. length files < 255) → Added g c
    → WillHold g.D.Device c.args.file.now c.args.pages.now c.args.device.now c.add_listing.new.pages
holds_added g c few added fits honest agrees files holds =
    let honest_found = c.find_listing.ensures.only.honest.0 honest in
    let agrees_found = c.find_listing.ensures.agrees honest agrees in
    let here = held_still g c honest files holds in
    made_added g.D.Device c.args.pages.now c.add_listing.new.pages c.args.device.now c.find_listing.new.device files
    holds c.args.file.now.name.items (spec_of c.args.file.now) c.args.file.now.named c.args.file.now.sound fits
    (absent g c honest agrees files holds) (committed_on c.args.pages.now c.find_listing.new.pages
    c.add_listing.new.pages c.find_listing.ensures.unchanged.committed c.add_listing.ensures.prepares.committed)
    (few honest_found agrees_found files here) c.in_ok-listing.listing.items c.in_ok-listing.ensures.bytes
    (c.find_listing.ensures.only.state honest) _ c.find_listing.ensures.unchanged.committed.mark _ _
    c.deref-in-None.ensures.value c.deref-in-None-2.ensures.value (added honest_found agrees_found files here)

lacks_filed : (g : Over) (c : After-add_listing g) → OnFiles g.D.Device c.find_listing.new.pages
    c.find_listing.new.device (λ files holds. FewChanged 42 c.find_listing.new.pages c.add_listing.new.pages)
    → OnFiles g.D.Device c.args.pages.now c.args.device.now
    (λ files holds. changed_pages_of c.args.pages.now ≡ [] → IsFull c.add_listing.new.pages
    → LacksSpace (committed_of c.args.pages.now) true c.args.file.now.name.items (with_empty c.args.file.now files))
lacks_filed g c added honest agrees files holds rested full =
    let empty = ap (λ (l : List ℕ). length l) rested in
    let changed = ap (λ (l : List ℕ). length l) c.find_listing.ensures.unchanged.changed_pages in
    let few = added (c.find_listing.ensures.only.honest.0 honest) (c.find_listing.ensures.agrees honest agrees) files
    (held_still g c honest files holds) in
    lacks_needed c.args.pages.now c.add_listing.new.pages c.args.file.now.name.items
    (with_empty c.args.file.now files) (committed_on c.args.pages.now c.find_listing.new.pages
    c.add_listing.new.pages c.find_listing.ensures.unchanged.committed c.add_listing.ensures.prepares.committed)
    (c.few_needed.ensures c.add_listing.new.pages) (omega (arith, few, changed, empty)) full

pub returns : goal.returns
returns g c =
    let at = goal.at.returns g c in
    let put = c.in_ok-add_listing-in-None.ensures in
    file_made g.D.Device (prepared g at.After-add_listing (looked g at.After-find_listing))
    (holds_added g at.After-add_listing put.few_files put.added) (lacks_filed g at.After-add_listing put.few)
