use Rattle.std.proofs.Common.{◌≡◌, ◌<◌, ◌≤◌, ◌+◌, ◌*◌, ◌%◌, ◌^◌, true, Err, ℕ, List, length, refl, sym, ap}
use Rattle.std.proofs.Common.{◌&&◌, nat_le, subst, ◌∙◌, arith}
use Rattle.std.proofs.lemmas.Bool.{leb-true}
use Rattle.std.specs.Prelude.{drop, Option, IfErr, IfSome}
use Rattle.byteorder.specs.Endian.{big_number}
use Rattle.pages.specs.Layout.{version_of}
use Rattle.pages.specs.Pages.{mark_of, changed_pages_of}
use Rattle.btree.specs.Entries.{Entry}
use Rattle.btree.proofs.Frames.{unchanged_on}
use Rattle.btree.proofs.Passing.{if_refused, on_refused, few_equal, never_true}
use Rattle.records.specs.declared.fault.StoreFault.TheVariants.{Device}
use Rattle.records.proofs.Places.{both}
use Rattle.records.specs.Spec.{is_name}
use Rattle.records.specs.Files.{File, Files, NamedFile}
use Rattle.chains.specs.Chain.{pages_for}
use Rattle.volume_format.specs.Chained.{chained_bytes}
use Rattle.records.specs.Stores.{spec_of, is_change}
use Rattle.volume_format.specs.Calls.{LooksAt}
use Rattle.volume_format.specs.Catalog.{value_length}
use Rattle.volume_format.specs.Forest.{TreeLevels}
use Rattle.row_trees.specs.Calls.{EditsPages}
use Rattle.alternate_keys.specs.Moved.{changed_by}
use Rattle.alternate_keys.proofs.Bytes.{bytes_by}
use Rattle.alternate_keys.proofs.Calling.{looks_edits, edits_blamed, edits_last, sectors_still}
use Rattle.alternate_keys.proofs.Faults.{never_full, refused_by_call}
use Rattle.alternate_keys.proofs.HeldTrees.{HoldsTrees}
use Rattle.alternate_keys.proofs.ListedFile.{HoldsFile, HoldsChanged, file_held, map_at, lefts, rights, named_at}
use Rattle.alternate_keys.proofs.ListedFile.{never_listed, trees_listed, entry_listed, changed_from, catalog_there}
use Rattle.alternate_keys.proofs.ListedFile.{files_listed, rows_listed}
use Rattle.alternate_keys.proofs.Preparing.{are_then, short_then}
use Rattle.alternate_keys.proofs.RowCounts.{rows_spelled}
use Rattle.alternate_keys.proofs.Still.{room_before}
use Rattle.alternate_keys.specs.Faults.{IsWriteFault}
use Rattle.alternate_keys.proofs.Passing.{never_ok, passed, read_is_write, spent_before}
use Rattle.alternate_keys.proofs.changing.prepare.Given.{Over}
use Rattle.alternate_keys.proofs.changing.prepare.Goals as goal
use Rattle.alternate_keys.proofs.changing.prepare.Goals.{After-find_listing, After-change_trees}
use Rattle.alternate_keys.proofs.changing.prepare.Goals.{Else-not-is_done}

looks : (g : Over) (c : After-find_listing g) → LooksAt g.D.Device (c.find_listing.result ≡ Err Device) c.args.pages.now
    c.args.device.now c.find_listing.new.pages c.find_listing.new.device
looks g c = record {
  only = c.find_listing.ensures.only;
  unchanged = c.find_listing.ensures.unchanged;
  agrees = c.find_listing.ensures.agrees;
}

-- the trees of the file that the catalog lists
listed : (g : Over) (c : After-change_trees g) {held : File} {files : Files} (at : HoldsFile g.D.Device
    c.args.file.now.name.items held files c.args.pages.now c.args.device.now) → held.spec ≡ spec_of c.args.file.now
    → LooksAt g.D.Device (c.find_listing.result ≡ Err Device) c.args.pages.now c.args.device.now
    c.find_listing.new.pages c.find_listing.new.device → HoldsTrees g.D.Device (spec_of c.args.file.now)
    (named_at g.D.Device at) (map_at g.D.Device at).generation (lefts g.D.Device at) (rights g.D.Device at)
    c.listing_part.result.now c.find_listing.new.pages c.find_listing.new.device
listed g c {files} at spec_is seen =
    trees_listed g.D.Device at seen c.deref.ensures.value
    (c.in_ok-entry.ensures.entry at.honest at.agrees files at.holds) c.in-Some.is c.listing_part.ensures.part spec_is
    (c.map_bounds.ensures.open c.args.pages.now (g.D.Device.state c.args.device.now).disk.present c.requires.unspent)

-- the file has changed in its trees
changed : (g : Over) (c : Else-not-is_done g) {held : File} {files : Files} (at : HoldsFile g.D.Device
    c.args.file.now.name.items held files c.args.pages.now c.args.device.now)
    → LooksAt g.D.Device (c.find_listing.result ≡ Err Device) c.args.pages.now c.args.device.now
    c.find_listing.new.pages c.find_listing.new.device → HoldsTrees g.D.Device (spec_of c.args.file.now)
    (named_at g.D.Device at) (map_at g.D.Device at).generation (lefts g.D.Device at) (rights g.D.Device at)
    c.listing_part.result.now c.find_listing.new.pages c.find_listing.new.device →
    HoldsChanged g.D.Device at (changed_by c.args.verb c.args.file.now.organization c.args.number c.args.bytes.now held)
    c.in_ok-turn.turn.listing.items c.change_trees.new.pages c.change_trees.new.device
changed g c at seen trees =
    changed_from g.D.Device at seen c.change_trees.ensures.edits (c.in_ok-turn.ensures.placed trees.honest trees.agrees
    _ _ _ _ trees.has (sym c.is_done.ensures ∙ c.if-not-is_done.false))

-- the change was made
is_made : (g : Over) (c : Else-not-is_done g) {named : NamedFile} {generation : ℕ} {left right : List TreeLevels}
    → HoldsTrees g.D.Device (spec_of c.args.file.now) named generation left right c.listing_part.result.now
    c.find_listing.new.pages c.find_listing.new.device
    → is_change (changed_by c.args.verb c.args.file.now.organization c.args.number c.args.bytes.now named.file).outcome
    ≡ true
is_made g c trees =
    sym (ap is_change (c.in_ok-turn.ensures.outcome trees.honest trees.agrees _ _ _ _ trees.has))
    ∙ sym c.is_done.ensures ∙ c.if-not-is_done.false

-- the mark that was read is that of the map
mark_read : (g : Over) (c : After-change_trees g) → version_of c.mark.result ≡ mark_of c.args.pages.now
mark_read g c = c.mark.ensures.is ∙ c.find_listing.ensures.unchanged.committed.mark

-- the number of rows that was read is that of the file
counted : (g : Over) (c : After-change_trees g) {held : File} {files : Files} (at : HoldsFile g.D.Device
    c.args.file.now.name.items held files c.args.pages.now c.args.device.now) → 0 < (map_at g.D.Device at).mark
    → c.stored_rows.result ≡ length held.rows % 2 ^ 64
counted g c {files} at second =
    c.stored_rows.ensures.second (subst (λ (m : ℕ). 0 < m) (sym (mark_read g c)) second)
    ∙ ap (λ (l : List ℕ). big_number 8 (drop 83 l)) c.value.ensures
    ∙ rows_listed g.D.Device at c.deref.ensures.value
    (c.in_ok-entry.ensures.entry at.honest at.agrees files at.holds) c.in-Some.is second

pub returns-in_err-entry-clause-damaged : goal.returns-in_err-entry-clause-damaged
returns-in_err-entry-clause-damaged g c = λ honest agrees files held holds has refused.
    c.find_listing.ensures.damaged honest agrees files holds
    (refused_by_call c.in_err-entry.was c.from_residual.ensures.1 refused)

pub returns-in-None-clause-outcome : goal.returns-in-None-clause-outcome
returns-in-None-clause-outcome g c = λ honest agrees files held holds has.
    let at = file_held g.D.Device c.args.file.now c.args.pages.now c.args.device.now honest agrees holds has in
    absurd (never_listed g.D.Device at c.deref.ensures.value
    (c.in_ok-entry.ensures.entry honest agrees files holds) c.in-None.is)

pub returns-in_err-turn-clause-room : goal.returns-in_err-turn-clause-room
returns-in_err-turn-clause-room g c = λ honest agrees files held holds has full.
    let at = file_held g.D.Device c.args.file.now c.args.pages.now c.args.device.now honest agrees holds has in
    let to = goal.at.returns-in_err-turn-clause-room g c in
    let trees = listed g to.After-change_trees at has.spec (looks g to.After-find_listing) in
    let room = room_before c.args.pages.now c.find_listing.new.pages (84 * length c.args.file.now.alternates.items
    + (42 + pages_for (chained_bytes (spec_of c.args.file.now))))
    c.find_listing.ensures.unchanged (c.change_trees.ensures.room trees.honest trees.agrees _ _ _ _ trees.has
    (refused_by_call c.in_err-turn.was c.from_residual-in_err-turn.ensures.1 full)) in
    omega (arith, room)

pub returns-in_err-turn-clause-damaged : goal.returns-in_err-turn-clause-damaged
returns-in_err-turn-clause-damaged g c = λ honest agrees files held holds has refused.
    let at = file_held g.D.Device c.args.file.now c.args.pages.now c.args.device.now honest agrees holds has in
    let to = goal.at.returns-in_err-turn-clause-damaged g c in
    let trees = listed g to.After-change_trees at has.spec (looks g to.After-find_listing) in
    c.change_trees.ensures.damaged trees.honest trees.agrees _ _ _ _ trees.has
    (refused_by_call c.in_err-turn.was c.from_residual-in_err-turn.ensures.1 refused)

pub returns-then-not-is_done-clause-outcome : goal.returns-then-not-is_done-clause-outcome
returns-then-not-is_done-clause-outcome g c = λ honest agrees files held holds has.
    let at = file_held g.D.Device c.args.file.now c.args.pages.now c.args.device.now honest agrees holds has in
    let to = goal.at.returns-then-not-is_done-clause-outcome g c in
    let trees = listed g to.After-change_trees at has.spec (looks g to.After-find_listing) in
    c.in_ok-turn.ensures.outcome trees.honest trees.agrees _ _ _ _ trees.has

pub returns-then-not-is_done-clause-few : goal.returns-then-not-is_done-clause-few
returns-then-not-is_done-clause-few g c = λ honest agrees files held holds has.
    let at = file_held g.D.Device c.args.file.now c.args.pages.now c.args.device.now honest agrees holds has in
    let to = goal.at.returns-then-not-is_done-clause-few g c in
    let trees = listed g to.After-change_trees at has.spec (looks g to.After-find_listing) in
    let few = c.in_ok-turn.ensures.few trees.honest trees.agrees _ _ _ _ trees.has in
    let same = ap (λ (l : List ℕ). length l) c.find_listing.ensures.unchanged.changed_pages in
    omega (arith, few, same)

pub returns-in_err-replace_listing-clause-damaged : goal.returns-in_err-replace_listing-clause-damaged
returns-in_err-replace_listing-clause-damaged g c = λ honest agrees files held holds has refused.
    let at = file_held g.D.Device c.args.file.now c.args.pages.now c.args.device.now honest agrees holds has in
    let to = goal.at.returns-in_err-replace_listing-clause-damaged g c in
    let seen = looks g to.After-find_listing in
    let put = changed g to.Else-not-is_done at seen (listed g to.After-change_trees at has.spec seen) in
    c.replace_listing.ensures.damaged put.honest put.agrees _ _ _ (catalog_there g.D.Device at put)
    (entry_listed g.D.Device at c.deref-2.ensures.value)
    (refused_by_call c.in_err-replace_listing.was c.from_residual-in_err-replace_listing.ensures.1 refused)

pub returns-clause-outcome : goal.returns-clause-outcome
returns-clause-outcome g c = λ honest agrees files held holds has.
    let at = file_held g.D.Device c.args.file.now c.args.pages.now c.args.device.now honest agrees holds has in
    let to = goal.at.returns-clause-outcome g c in
    let trees = listed g to.After-change_trees at has.spec (looks g to.After-find_listing) in
    c.in_ok-turn.ensures.outcome trees.honest trees.agrees _ _ _ _ trees.has

pub returns-clause-few : goal.returns-clause-few
returns-clause-few g c = λ honest agrees files held holds has.
    let at = file_held g.D.Device c.args.file.now c.args.pages.now c.args.device.now honest agrees holds has in
    let to = goal.at.returns-clause-few g c in
    let trees = listed g to.After-change_trees at has.spec (looks g to.After-find_listing) in
    let few = c.in_ok-turn.ensures.few trees.honest trees.agrees _ _ _ _ trees.has in
    let same = ap (λ (l : List ℕ). length l) c.find_listing.ensures.unchanged.changed_pages in
    let more = c.in_ok-replace_listing.ensures.few in
    omega (arith, few, same, more)

pub returns-clause-will : goal.returns-clause-will
returns-clause-will g c = λ honest agrees files held holds has change.
    let at = file_held g.D.Device c.args.file.now c.args.pages.now c.args.device.now honest agrees holds has in
    let to = goal.at.returns-clause-will g c in
    let seen = looks g to.After-find_listing in
    let trees = listed g to.After-change_trees at has.spec seen in
    let change_is = is_made g to.Else-not-is_done trees in
    files_listed g.D.Device at (changed g to.Else-not-is_done at seen trees) c.rows_after-rows.result
    c.replace_listing.ensures.edits c.deref-2.ensures.value c.deref-3.ensures.value (rows_spelled
    (map_at g.D.Device at).mark c.args.verb c.args.file.now.organization c.in_ok-turn.turn.listing.items c.args.number
    c.args.bytes.now held c.stored_rows.result c.rows_after-rows.result trees.has.is_named.file.ascend
    (counted g to.After-change_trees at) c.rows_after-rows.ensures change_is) c.in_ok-replace_listing.ensures.replaced
    change_is (are_then c.args.verb c.args.file.now files held holds.are has c.args.number c.args.bytes.now
    c.requires.asked (bytes_by c.args.bytes.now c.type_inv.bytes)) (λ first. short_then c.args.verb c.args.file.now
    files held has c.args.number c.args.bytes.now (holds.short first))

pub returns-in_err-entry-clause-edits : goal.returns-in_err-entry-clause-edits
returns-in_err-entry-clause-edits g c =
    edits_blamed g.D.Device _ _ _ _ _ _ (λ is. refused_by_call c.in_err-entry.was c.from_residual.ensures.1 is)
    (looks_edits g.D.Device _ _ _ _ _ (looks g (goal.at.returns-in_err-entry-clause-edits g c).After-find_listing))

pub returns-in-None-clause-edits : goal.returns-in-None-clause-edits
returns-in-None-clause-edits g c =
    edits_blamed g.D.Device _ _ _ _ _ _ (λ is. never_ok is)
    (looks_edits g.D.Device _ _ _ _ _ (looks g (goal.at.returns-in-None-clause-edits g c).After-find_listing))

-- what was read and written until the trees have changed
turned : (g : Over) (c : After-change_trees g) → LooksAt g.D.Device (c.find_listing.result ≡ Err Device)
    c.args.pages.now c.args.device.now c.find_listing.new.pages c.find_listing.new.device →
    EditsPages g.D.Device (c.change_trees.result ≡ Err Device) c.args.pages.now c.args.device.now
    c.change_trees.new.pages
    c.change_trees.new.device
turned g c seen =
    edits_last g.D.Device _ _ _ _ _ _ _ _ _ (λ is. is) (looks_edits g.D.Device _ _ _ _ _ seen)
    c.change_trees.ensures.edits

pub returns-in_err-turn-clause-edits : goal.returns-in_err-turn-clause-edits
returns-in_err-turn-clause-edits g c =
    let to = goal.at.returns-in_err-turn-clause-edits g c in
    edits_blamed g.D.Device _ _ _ _ _ _
    (λ is. refused_by_call c.in_err-turn.was c.from_residual-in_err-turn.ensures.1 is)
    (turned g to.After-change_trees (looks g to.After-find_listing))

pub returns-then-not-is_done-clause-edits : goal.returns-then-not-is_done-clause-edits
returns-then-not-is_done-clause-edits g c =
    let to = goal.at.returns-then-not-is_done-clause-edits g c in
    edits_blamed g.D.Device _ _ _ _ _ _ (λ is. never_ok is)
    (turned g to.After-change_trees (looks g to.After-find_listing))

pub returns-then-not-is_done-clause-same : goal.returns-then-not-is_done-clause-same
returns-then-not-is_done-clause-same g c =
    λ none. unchanged_on c.args.pages.now c.find_listing.new.pages c.change_trees.new.pages
    c.find_listing.ensures.unchanged (c.in_ok-turn.ensures.same none)

pub returns-in_err-replace_listing-clause-edits : goal.returns-in_err-replace_listing-clause-edits
returns-in_err-replace_listing-clause-edits g c =
    let to = goal.at.returns-in_err-replace_listing-clause-edits g c in
    edits_last g.D.Device _ _ _ _ _ _ _ _ _
    (λ is. refused_by_call c.in_err-replace_listing.was c.from_residual-in_err-replace_listing.ensures.1 is)
    (turned g to.After-change_trees (looks g to.After-find_listing)) c.replace_listing.ensures.edits

pub returns-clause-edits : goal.returns-clause-edits
returns-clause-edits g c =
    let to = goal.at.returns-clause-edits g c in
    edits_last g.D.Device _ _ _ _ _ _ _ _ _ (λ is. never_ok is)
    (turned g to.After-change_trees (looks g to.After-find_listing)) c.replace_listing.ensures.edits

pub returns-in_err-turn-clause-full : goal.returns-in_err-turn-clause-full
returns-in_err-turn-clause-full g c = λ honest agrees files held holds has full.
    let at = file_held g.D.Device c.args.file.now c.args.pages.now c.args.device.now honest agrees holds has in
    let to = goal.at.returns-in_err-turn-clause-full g c in
    let trees = listed g to.After-change_trees at has.spec (looks g to.After-find_listing) in
    c.change_trees.ensures.full (c.find_listing.ensures.unchanged.committed.spent ∙ c.requires.unspent) trees.honest
    trees.agrees _ _ _ _ trees.has (refused_by_call c.in_err-turn.was c.from_residual-in_err-turn.ensures.1 full)

pub returns-in_err-replace_listing-clause-full : goal.returns-in_err-replace_listing-clause-full
returns-in_err-replace_listing-clause-full g c = λ honest agrees files held holds has refused.
    let at = file_held g.D.Device c.args.file.now c.args.pages.now c.args.device.now honest agrees holds has in
    let to = goal.at.returns-in_err-replace_listing-clause-full g c in
    let trees = listed g to.After-change_trees at has.spec (looks g to.After-find_listing) in
    sym (ap is_change (c.in_ok-turn.ensures.outcome trees.honest trees.agrees _ _ _ _ trees.has))
    ∙ sym c.is_done.ensures ∙ c.if-not-is_done.false

pub returns-in_err-entry-clause-full : goal.returns-in_err-entry-clause-full
returns-in_err-entry-clause-full g c = λ honest agrees files held holds has full.
    absurd (never_full c.find_listing.result c.find_listing.ensures.cause
    (refused_by_call c.in_err-entry.was c.from_residual.ensures.1 full))

pub returns-in_err-entry-clause-spent : goal.returns-in_err-entry-clause-spent
returns-in_err-entry-clause-spent g c =
    λ is. c.find_listing.ensures.spent (refused_by_call c.in_err-entry.was c.from_residual.ensures.1 is)

pub returns-in_err-entry-clause-cause : goal.returns-in_err-entry-clause-cause
returns-in_err-entry-clause-cause g c =
    passed c.from_residual.result c.in_err-entry.field-0.0 c.from_residual.ensures.1 (λ r. IfErr r IsWriteFault)
    (read_is_write c.in_err-entry.field-0.0 c.in_err-entry.ensures.cause)

pub returns-in_err-entry-clause-room : goal.returns-in_err-entry-clause-room
returns-in_err-entry-clause-room g c =
    λ honest agrees files held holds has is. absurd (never_full c.find_listing.result c.find_listing.ensures.cause
    (refused_by_call c.in_err-entry.was c.from_residual.ensures.1 is))

pub find_listing-requires-clause-name : goal.find_listing-requires-clause-name
find_listing-requires-clause-name g c = ap is_name c.deref.ensures.value ∙ c.args.file.now.named

pub stored_rows-requires : goal.stored_rows-requires
stored_rows-requires g c =
    let long = subst (λ (o : Option Entry).
    IfSome o (λ e. (length e.value ≡ value_length (mark_of c.args.pages.now)) × (83 ≤ length e.value)))
    c.in-Some.is c.in_ok-entry.ensures.long in
    ap (λ (l : List ℕ). length l) c.value.ensures ∙ long.0
    ∙ ap value_length (sym (c.mark.ensures.is ∙ c.find_listing.ensures.unchanged.committed.mark))

pub listing_part-requires : goal.listing_part-requires
listing_part-requires g c =
    let long = subst (λ (o : Option Entry).
    IfSome o (λ e. (length e.value ≡ value_length (mark_of c.args.pages.now)) × (83 ≤ length e.value)))
    c.in-Some.is c.in_ok-entry.ensures.long in
    long.1

-- a name is short
name_fits : (name : List ℕ) → is_name name ≡ true → length name ≤ 30
name_fits name is = leb-true (length name) 30
    (both (nat_le 1 (length name)) _ (both (nat_le 1 (length name) && nat_le (length name) 30) _ is).0).1

pub replace_listing-requires-clause-name : goal.replace_listing-requires-clause-name
replace_listing-requires-clause-name g c =
    subst (λ (l : List ℕ). length l ≤ 30) (sym c.deref-2.ensures.value)
    (name_fits c.args.file.now.name.items c.args.file.now.named)

pub replace_listing-requires-clause-listing : goal.replace_listing-requires-clause-listing
replace_listing-requires-clause-listing g c =
    ap (λ (l : List ℕ). length l) c.deref-3.ensures.value
    ∙ c.in_ok-turn.ensures.long (sym c.is_done.ensures ∙ c.if-not-is_done.false)

pub change_trees-requires-clause-sectors : goal.change_trees-requires-clause-sectors
change_trees-requires-clause-sectors g c =
    sectors_still g.D.Device _ c.args.pages.now c.find_listing.new.pages c.args.device.now c.find_listing.new.device
    c.find_listing.ensures.only c.find_listing.ensures.unchanged.committed c.requires.sectors

pub returns-in_err-turn-clause-spent : goal.returns-in_err-turn-clause-spent
returns-in_err-turn-clause-spent g c =
    λ is. spent_before c.args.pages.now c.find_listing.new.pages c.find_listing.ensures.unchanged.committed
    (c.change_trees.ensures.spent (refused_by_call c.in_err-turn.was c.from_residual-in_err-turn.ensures.1 is))

pub returns-in_err-turn-clause-cause : goal.returns-in_err-turn-clause-cause
returns-in_err-turn-clause-cause g c =
    passed c.from_residual-in_err-turn.result c.in_err-turn.field-0.0 c.from_residual-in_err-turn.ensures.1 (λ r.
    IfErr r IsWriteFault) c.in_err-turn.ensures.cause

pub replace_listing-requires-clause-sectors : goal.replace_listing-requires-clause-sectors
replace_listing-requires-clause-sectors g c =
    sectors_still g.D.Device _ c.find_listing.new.pages c.change_trees.new.pages c.find_listing.new.device
    c.change_trees.new.device c.change_trees.ensures.edits.only c.change_trees.ensures.edits.committed (sectors_still
    g.D.Device _ c.args.pages.now c.find_listing.new.pages c.args.device.now c.find_listing.new.device
    c.find_listing.ensures.only c.find_listing.ensures.unchanged.committed c.requires.sectors)

pub returns-in_err-replace_listing-clause-spent : goal.returns-in_err-replace_listing-clause-spent
returns-in_err-replace_listing-clause-spent g c =
    λ is. spent_before c.args.pages.now c.find_listing.new.pages c.find_listing.ensures.unchanged.committed
    (spent_before c.find_listing.new.pages c.change_trees.new.pages c.change_trees.ensures.edits.committed
    (c.replace_listing.ensures.spent (refused_by_call c.in_err-replace_listing.was
    c.from_residual-in_err-replace_listing.ensures.1 is)))

pub returns-in_err-replace_listing-clause-cause : goal.returns-in_err-replace_listing-clause-cause
returns-in_err-replace_listing-clause-cause g c =
    passed c.from_residual-in_err-replace_listing.result c.in_err-replace_listing.field-0.0
    c.from_residual-in_err-replace_listing.ensures.1 (λ r. IfErr r IsWriteFault) (read_is_write
    c.in_err-replace_listing.field-0.0 c.in_err-replace_listing.ensures.cause)

pub returns-in_err-replace_listing-clause-room : goal.returns-in_err-replace_listing-clause-room
returns-in_err-replace_listing-clause-room g c =
    λ honest agrees files held holds has is. absurd (never_full c.replace_listing.result
    c.replace_listing.ensures.cause (refused_by_call c.in_err-replace_listing.was
    c.from_residual-in_err-replace_listing.ensures.1 is))

pub returns-in-None-clause-spent : goal.returns-in-None-clause-spent
returns-in-None-clause-spent g c = λ is. never_ok is

pub returns-then-not-is_done-clause-spent : goal.returns-then-not-is_done-clause-spent
returns-then-not-is_done-clause-spent g c = λ is. never_ok is

pub returns-clause-spent : goal.returns-clause-spent
returns-clause-spent g c = λ is. never_ok is

pub returns-in_err-entry-clause-outcome : goal.returns-in_err-entry-clause-outcome
returns-in_err-entry-clause-outcome g c = λ honest agrees files held holds has.
    if_refused c.from_residual.result c.in_err-entry.field-0.0 c.from_residual.ensures.1 _

pub returns-in_err-entry-clause-will : goal.returns-in_err-entry-clause-will
returns-in_err-entry-clause-will g c = λ honest agrees files held holds has.
    if_refused c.from_residual.result c.in_err-entry.field-0.0 c.from_residual.ensures.1 _

pub returns-in_err-entry-clause-few : goal.returns-in_err-entry-clause-few
returns-in_err-entry-clause-few g c = λ honest agrees files held holds has.
    on_refused c.from_residual.result c.in_err-entry.field-0.0 c.from_residual.ensures.1 _

pub returns-in_err-entry-clause-same : goal.returns-in_err-entry-clause-same
returns-in_err-entry-clause-same g c =
    if_refused c.from_residual.result c.in_err-entry.field-0.0 c.from_residual.ensures.1 _

pub returns-in_err-turn-clause-outcome : goal.returns-in_err-turn-clause-outcome
returns-in_err-turn-clause-outcome g c = λ honest agrees files held holds has.
    if_refused c.from_residual-in_err-turn.result c.in_err-turn.field-0.0 c.from_residual-in_err-turn.ensures.1 _

pub returns-in_err-turn-clause-will : goal.returns-in_err-turn-clause-will
returns-in_err-turn-clause-will g c = λ honest agrees files held holds has.
    if_refused c.from_residual-in_err-turn.result c.in_err-turn.field-0.0 c.from_residual-in_err-turn.ensures.1 _

pub returns-in_err-turn-clause-few : goal.returns-in_err-turn-clause-few
returns-in_err-turn-clause-few g c = λ honest agrees files held holds has.
    on_refused c.from_residual-in_err-turn.result c.in_err-turn.field-0.0 c.from_residual-in_err-turn.ensures.1 _

pub returns-in_err-turn-clause-same : goal.returns-in_err-turn-clause-same
returns-in_err-turn-clause-same g c =
    if_refused c.from_residual-in_err-turn.result c.in_err-turn.field-0.0 c.from_residual-in_err-turn.ensures.1 _

pub returns-in_err-replace_listing-clause-outcome : goal.returns-in_err-replace_listing-clause-outcome
returns-in_err-replace_listing-clause-outcome g c = λ honest agrees files held holds has.
    if_refused c.from_residual-in_err-replace_listing.result c.in_err-replace_listing.field-0.0
    c.from_residual-in_err-replace_listing.ensures.1 _

pub returns-in_err-replace_listing-clause-will : goal.returns-in_err-replace_listing-clause-will
returns-in_err-replace_listing-clause-will g c = λ honest agrees files held holds has.
    if_refused c.from_residual-in_err-replace_listing.result c.in_err-replace_listing.field-0.0
    c.from_residual-in_err-replace_listing.ensures.1 _

pub returns-in_err-replace_listing-clause-few : goal.returns-in_err-replace_listing-clause-few
returns-in_err-replace_listing-clause-few g c = λ honest agrees files held holds has.
    on_refused c.from_residual-in_err-replace_listing.result c.in_err-replace_listing.field-0.0
    c.from_residual-in_err-replace_listing.ensures.1 _

pub returns-in_err-replace_listing-clause-same : goal.returns-in_err-replace_listing-clause-same
returns-in_err-replace_listing-clause-same g c =
    if_refused c.from_residual-in_err-replace_listing.result c.in_err-replace_listing.field-0.0
    c.from_residual-in_err-replace_listing.ensures.1 _

pub returns-in-None-clause-room : goal.returns-in-None-clause-room
returns-in-None-clause-room g c = λ honest agrees files held holds has is. never_ok is

pub returns-in-None-clause-full : goal.returns-in-None-clause-full
returns-in-None-clause-full g c = λ honest agrees files held holds has is. never_ok is

pub returns-in-None-clause-damaged : goal.returns-in-None-clause-damaged
returns-in-None-clause-damaged g c = λ honest agrees files held holds has is. never_ok is

pub returns-then-not-is_done-clause-room : goal.returns-then-not-is_done-clause-room
returns-then-not-is_done-clause-room g c = λ honest agrees files held holds has is. never_ok is

pub returns-then-not-is_done-clause-full : goal.returns-then-not-is_done-clause-full
returns-then-not-is_done-clause-full g c = λ honest agrees files held holds has is. never_ok is

pub returns-then-not-is_done-clause-damaged : goal.returns-then-not-is_done-clause-damaged
returns-then-not-is_done-clause-damaged g c = λ honest agrees files held holds has is. never_ok is

pub returns-clause-room : goal.returns-clause-room
returns-clause-room g c = λ honest agrees files held holds has is. never_ok is

pub returns-clause-full : goal.returns-clause-full
returns-clause-full g c = λ honest agrees files held holds has is. never_ok is

pub returns-clause-damaged : goal.returns-clause-damaged
returns-clause-damaged g c = λ honest agrees files held holds has is. never_ok is

pub returns-in-None-clause-will : goal.returns-in-None-clause-will
returns-in-None-clause-will g c = λ honest agrees files held holds has made. never_true refl made

pub returns-in-None-clause-few : goal.returns-in-None-clause-few
returns-in-None-clause-few g c = λ honest agrees files held holds has.
    few_equal (changed_pages_of c.args.pages.now) (changed_pages_of c.find_listing.new.pages) _
    c.find_listing.ensures.unchanged.changed_pages

pub returns-in-None-clause-same : goal.returns-in-None-clause-same
returns-in-None-clause-same g c = λ none. c.find_listing.ensures.unchanged

pub returns-then-not-is_done-clause-will : goal.returns-then-not-is_done-clause-will
returns-then-not-is_done-clause-will g c = λ honest agrees files held holds has made.
    never_true (sym c.is_done.ensures ∙ c.if-not-is_done.true) made

pub returns-clause-same : goal.returns-clause-same
returns-clause-same g c = λ none. never_true none (sym c.is_done.ensures ∙ c.if-not-is_done.false)
