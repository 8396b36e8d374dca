use Rattle.std.proofs.Common.{◌≡◌, ◌<◌, ◌≤◌, ◌^◌, inr, List, Err, sym, ap, subst, ◌∙◌, arith, rules}
use Rattle.std.specs.Prelude.{Option, IfErr}
use Rattle.station.specs.Disk.{Sector}
use Rattle.pages.specs.Pages.{map_now}
use Rattle.pages.specs.declared.error.PagesError.TheVariants as pages
use Rattle.records.specs.declared.fault.StoreFault.TheVariants.{Damaged, Device}
use Rattle.records.specs.Spec.{Spec}
use Rattle.records.specs.Files.{File, Files, file_at}
use Rattle.records.specs.Stores.{spec_of, Has, bound_of}
use Rattle.btree_pages.specs.declared.row_layout.RowLayout.{RowLayout}
use Rattle.btree.proofs.Frames.{same_pages}
use Rattle.btree.specs.Calls.{pages_on}
use Rattle.btree.specs.Places.{IsLeafPlace}
use Rattle.volume_format.specs.Volume.{MapHolds}
use Rattle.alternate_keys.specs.Faults.{IsReadFault}
use Rattle.alternate_keys.specs.Notes.{AreNotesOf, OnNotes, noted_search}
use Rattle.alternate_keys.specs.Seen.{IsSought}
use Rattle.volume_format.proofs.Faults.{damaged_back, device_back}
use Rattle.volume_format.proofs.Looks.{looks_blamed, looks_then}
use Rattle.alternate_keys.proofs.FoundTrees.{Knows, knows_listed, layout_short, sought_in}
use Rattle.alternate_keys.proofs.Noted.{never_missing, leaf_noted}
use Rattle.alternate_keys.proofs.Faults.{refused_by_call}
use Rattle.alternate_keys.proofs.Passing.{never_ok, passed, same_error}
use Rattle.alternate_keys.proofs.seeking.seek_in.Given.{Over}
use Rattle.alternate_keys.proofs.seeking.seek_in.Goals as goal
use Rattle.alternate_keys.proofs.seeking.seek_in.Goals.{After-seek_row}

-- the file's listing, and its trees
knows : (g : Over) (c : After-seek_row g) → OnNotes g.D.Device (noted_search c.args.notes.now) c.args.pages.now
    c.args.device.now (λ m. (files : Files) (held : File) → MapHolds m files → Has files c.args.file.now held
    → Knows m (file_at c.args.file.now.name.items files) held (spec_of c.args.file.now) c.args.key
    c.note_file.new.self.listing c.row_tree-prime.result c.file_tree-under.result)
knows g c honest agrees are files held holds has =
    let image = (g.D.Device.state c.args.device.now).disk.present in
    knows_listed (map_now c.args.pages.now image) files held (spec_of c.args.file.now) c.args.key
    c.deref.result.now
    c.args.file.now.name.items c.in_ok-note_file.field-0 c.note_file.new.self.listing c.row_tree-prime.result
    c.file_tree-under.result (c.map_bounds.ensures.open c.args.pages.now image c.requires.unspent)
    c.deref.ensures.value c.if-not-branch.false (c.in_ok-note_file.ensures.listed honest agrees are files holds)
    has.there has.spec c.args.file.now.sound c.requires.key c.row_tree-prime.ensures.layout
    c.row_tree-prime.ensures.root c.row_tree-prime.ensures.form c.file_tree-under.ensures.layout
    c.file_tree-under.ensures.root

-- the pages stay
same_after : (g : Over) (c : After-seek_row g) → g.D.Device.is_honest c.args.device.now
    → pages_on g.D.Device c.note_file.new.pages c.note_file.new.device
    ≡ pages_on g.D.Device c.args.pages.now c.args.device.now
same_after g c honest = same_pages c.args.pages.now c.note_file.new.pages (g.D.Device.state c.args.device.now)
    (g.D.Device.state c.note_file.new.device) c.note_file.ensures.looks.unchanged
    (c.note_file.ensures.looks.only.state honest)

-- the row is sought in them
sought : (g : Over) (c : After-seek_row g) → OnNotes g.D.Device (noted_search c.args.notes.now) c.args.pages.now
    c.args.device.now (λ m. (files : Files) (held : File) → MapHolds m files → Has files c.args.file.now held
    → IsSought (spec_of c.args.file.now) c.args.key (bound_of c.args.bound)
    (pages_on g.D.Device c.note_file.new.pages c.note_file.new.device) held.rows c.row_tree-prime.result
    c.file_tree-under.result c.search_start_for-aim.result c.bytes-from.result.now)
sought g c honest agrees are files held holds has =
    let low : c.args.bound.number < 2 ^ 64 = search rules in
    let way = sought_in _ _ held (spec_of c.args.file.now) c.args.key (bound_of c.args.bound)
    c.note_file.new.self.listing c.row_tree-prime.result c.file_tree-under.result
    c.search_start_for-aim.result c.bytes-from.result.now (knows g c honest agrees are files held holds has)
    (record { value = c.requires.value; number = omega (arith, low) })
    c.search_start_for-aim.ensures (c.bytes-from.ensures ∙ c.put_key.ensures) in
    subst (λ (p : List (Option Sector)). IsSought (spec_of c.args.file.now) c.args.key (bound_of c.args.bound) p
    held.rows c.row_tree-prime.result c.file_tree-under.result c.search_start_for-aim.result
    c.bytes-from.result.now) (sym (same_after g c honest)) way

-- the leaf that is noted is one of its tree, before the search and after it
near : (g : Over) (c : After-seek_row g) → OnNotes g.D.Device (noted_search c.args.notes.now) c.args.pages.now
    c.args.device.now (λ m. IsLeafPlace c.note_file.new.self.place
    (pages_on g.D.Device c.note_file.new.pages c.note_file.new.device))
near g c honest agrees are =
    subst (λ (p : List (Option Sector)). IsLeafPlace c.note_file.new.self.place p) (sym (same_after g c honest))
    (c.note_file.ensures.notes honest agrees are).place

noted : (g : Over) (c : After-seek_row g) → OnNotes g.D.Device (noted_search c.args.notes.now) c.args.pages.now
    c.args.device.now (AreNotesOf (noted_search c.seek_row.new.notes))
noted g c honest agrees are =
    leaf_noted _ (noted_search c.note_file.new.self) (noted_search c.seek_row.new.notes) c.seek_row.ensures.file.0
    c.seek_row.ensures.file.1 (subst (λ (p : List (Option Sector)). IsLeafPlace c.seek_row.new.notes.place p)
    (same_after g c honest) (c.seek_row.ensures.place (c.note_file.ensures.looks.only.honest.0 honest)
    (c.note_file.ensures.looks.agrees honest agrees) (near g c honest agrees are)))
    (c.note_file.ensures.notes honest agrees are)

pub returns-in-Ok-clause-notes : goal.returns-in-Ok-clause-notes
returns-in-Ok-clause-notes g c = noted g (goal.at.returns-in-Ok-clause-notes g c).After-seek_row

pub returns-in-Err-clause-notes : goal.returns-in-Err-clause-notes
returns-in-Err-clause-notes g c = noted g (goal.at.returns-in-Err-clause-notes g c).After-seek_row

pub returns-in_err-note_file-clause-damaged : goal.returns-in_err-note_file-clause-damaged
returns-in_err-note_file-clause-damaged g c = λ honest agrees are files held holds has is.
    let damaged = refused_by_call c.in_err-note_file.was c.from_residual.ensures.1 is in
    c.note_file.ensures.damaged honest agrees files holds damaged

pub returns-then-not-branch-clause-found : goal.returns-then-not-branch-clause-found
returns-then-not-branch-clause-found g c = λ honest agrees are files held holds has.
    absurd (never_missing _ files c.deref.result.now c.args.file.now.name.items c.in_ok-note_file.field-0
    c.note_file.new.self.listing held c.deref.ensures.value c.if-not-branch.true
    (c.in_ok-note_file.ensures.listed honest agrees are files holds) has.there)

pub returns-then-not-branch-clause-bytes : goal.returns-then-not-branch-clause-bytes
returns-then-not-branch-clause-bytes g c = λ honest agrees are files held holds has.
    absurd (never_missing _ files c.deref.result.now c.args.file.now.name.items c.in_ok-note_file.field-0
    c.note_file.new.self.listing held c.deref.ensures.value c.if-not-branch.true
    (c.in_ok-note_file.ensures.listed honest agrees are files holds) has.there)

pub seek_row-requires-clause-short : goal.seek_row-requires-clause-short
seek_row-requires-clause-short g c =
    let spec : Spec = spec_of c.args.file.now in
    let sound = c.args.file.now.sound in
    let P : RowLayout → Type 0 = λ l. l.key_length ≤ 128 in
    subst P (sym c.file_tree-under.ensures.layout) (layout_short spec c.args.key sound c.requires.key)

pub returns-in-Ok-clause-found : goal.returns-in-Ok-clause-found
returns-in-Ok-clause-found g c = λ honest agrees are files held holds has.
    let at = goal.at.returns-in-Ok-clause-found g c in
    c.in-Ok.ensures.found (c.note_file.ensures.looks.only.honest.0 honest)
    (c.note_file.ensures.looks.agrees honest agrees)
    (bound_of c.args.bound) held.rows
    (sought g at.After-seek_row honest agrees are files held holds has)
    (near g at.After-seek_row honest agrees are)

pub returns-in-Ok-clause-bytes : goal.returns-in-Ok-clause-bytes
returns-in-Ok-clause-bytes g c = λ honest agrees are files held holds has.
    let at = goal.at.returns-in-Ok-clause-bytes g c in
    c.in-Ok.ensures.bytes (c.note_file.ensures.looks.only.honest.0 honest)
    (c.note_file.ensures.looks.agrees honest agrees)
    (bound_of c.args.bound) held.rows
    (sought g at.After-seek_row honest agrees are files held holds has)
    (near g at.After-seek_row honest agrees are) c.requires.bytes

pub returns-in-Err-clause-damaged : goal.returns-in-Err-clause-damaged
returns-in-Err-clause-damaged g c = λ honest agrees are files held holds has is.
    let at = goal.at.returns-in-Err-clause-damaged g c in
    let told : c.to_fault.result ≡ Damaged = same_error is in
    let fault : c.in-Err.error ≡ pages.Damaged = damaged_back c.in-Err.error (sym c.to_fault.ensures ∙ told) in
    c.in-Err.ensures.damaged (c.note_file.ensures.looks.only.honest.0 honest)
    (c.note_file.ensures.looks.agrees honest agrees)
    (bound_of c.args.bound) held.rows
    (sought g at.After-seek_row honest agrees are files held holds has)
    (near g at.After-seek_row honest agrees are) c.requires.bytes (ap Err fault)

pub returns-in_err-note_file-clause-looks : goal.returns-in_err-note_file-clause-looks
returns-in_err-note_file-clause-looks g c =
    looks_blamed g.D.Device (c.note_file.result ≡ Err Device) _ _ _ _ _
    (λ is. refused_by_call c.in_err-note_file.was c.from_residual.ensures.1 is)
    c.note_file.ensures.looks

pub returns-then-not-branch-clause-looks : goal.returns-then-not-branch-clause-looks
returns-then-not-branch-clause-looks g c =
    looks_blamed g.D.Device (c.note_file.result ≡ Err Device) _ _ _ _ _ (λ is. never_ok is)
    c.note_file.ensures.looks

pub returns-in-Ok-clause-looks : goal.returns-in-Ok-clause-looks
returns-in-Ok-clause-looks g c =
    looks_then g.D.Device (c.note_file.result ≡ Err Device) (c.seek_row.result ≡ Err pages.Device) _ _ _ _ _ _ _
    (λ is. never_ok is) c.note_file.ensures.looks c.seek_row.ensures.looks

pub returns-in-Err-clause-looks : goal.returns-in-Err-clause-looks
returns-in-Err-clause-looks g c =
    looks_then g.D.Device (c.note_file.result ≡ Err Device) (c.seek_row.result ≡ Err pages.Device) _ _ _ _ _ _ _
    (λ is. let told : c.to_fault.result ≡ Device = same_error is in
    inr (c.in-Err.is ∙ ap Err (device_back c.in-Err.error (sym c.to_fault.ensures ∙ told))))
    c.note_file.ensures.looks c.seek_row.ensures.looks

pub returns-in_err-note_file-clause-notes : goal.returns-in_err-note_file-clause-notes
returns-in_err-note_file-clause-notes g c = c.note_file.ensures.notes

pub returns-then-not-branch-clause-notes : goal.returns-then-not-branch-clause-notes
returns-then-not-branch-clause-notes g c = c.note_file.ensures.notes

pub returns-in_err-note_file-clause-spent : goal.returns-in_err-note_file-clause-spent
returns-in_err-note_file-clause-spent g c =
    λ is. c.note_file.ensures.spent (refused_by_call c.in_err-note_file.was c.from_residual.ensures.1 is)

pub returns-in_err-note_file-clause-cause : goal.returns-in_err-note_file-clause-cause
returns-in_err-note_file-clause-cause g c =
    passed c.from_residual.result c.in_err-note_file.field-0.0 c.from_residual.ensures.1 (λ r. IfErr r IsReadFault)
    c.in_err-note_file.ensures.cause
