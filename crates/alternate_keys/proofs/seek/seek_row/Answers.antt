use Rattle.std.proofs.Common.{◌≡◌, inr, Ok, Err, Bool, List, refl, sym, ap, subst, ◌∙◌}
use Rattle.std.specs.Prelude.{Option, OnErr, IfErr}
use Rattle.std.specs.Option.{option_map}
use Rattle.station.specs.Disk.{Sector}
use Rattle.pages.specs.Pages.{Agrees}
use Rattle.pages.specs.declared.error.PagesError.{PagesError}
use Rattle.pages.specs.declared.error.PagesError.TheVariants.{Device}
use Rattle.pages.specs.declared.error.PagesError.TheVariants as pages
use Rattle.volume_format.proofs.Looks.{looks_blamed, looks_then}
use Rattle.btree.specs.Calls.{pages_on}
use Rattle.btree.specs.Places.{IsLeafPlace, if_found}
use Rattle.btree.specs.Reading.{IsReadRefusal}
use Rattle.btree.proofs.Frames.{same_pages}
use Rattle.btree.proofs.Passing.{if_refused, on_refused}
use Rattle.chains.specs.Refusals.{IsRecordRefusal}
use Rattle.records.specs.declared.file_spec.KeyPlace.{KeyPlace}
use Rattle.records.specs.declared.key.KeyOfReference.{KeyOfReference}
use Rattle.records.specs.declared.key.KeyOfReference.TheVariants.{Prime, Alternate}
use Rattle.records.specs.Rows.{Row, place_of}
use Rattle.records.specs.Order.{RowBound, sought_row, found_row}
use Rattle.records.specs.Stores.{spec_of, record_of}
use Rattle.alternate_keys.specs.Seen.{IsSought, IsPairEntry, IsRowEntry}
use Rattle.alternate_keys.proofs.Calling.{sectors_still}
use Rattle.alternate_keys.proofs.Faults.{refused_by_call}
use Rattle.alternate_keys.proofs.RowFor.{IsRowFor, row_for, row_entry_for, row_key_for, pair_entry_for}
use Rattle.alternate_keys.proofs.RowFor.{told_as, record_as}
use Rattle.alternate_keys.proofs.Passing.{never_ok, passed, spent_before}
use Rattle.alternate_keys.proofs.Tells.{found_none}
use Rattle.alternate_keys.proofs.seek.seek_row.Given.{Over}
use Rattle.alternate_keys.proofs.seek.seek_row.Goals as goal
use Rattle.alternate_keys.proofs.seek.seek_row.Goals.{In-Prime}
use Rattle.alternate_keys.proofs.seek.seek_row.Goals.{After-read_prime_row, After-read_alternate_row}

pub returns-then-not-branch-clause-found : goal.returns-then-not-branch-clause-found
returns-then-not-branch-clause-found g c = λ honest agrees bound rows way near.
    let none =
    found_none (spec_of c.args.key_search.file.now) c.args.key_search.key bound (pages_on g.D.Device c.args.pages.now
    c.args.device.now) rows c.args.prime.now c.args.under.now c.args.key_search.aim c.args.key_search.at.now _ way
    (c.in_ok-look_near.ensures.entry honest agrees way.pairs.levels way.pairs.holds near)
    (ap (λ (b : Bool). if_found b c.look_near.new.entry) c.if-not-branch.true) in
    sym (ap (option_map (found_row (spec_of c.args.key_search.file.now) c.args.key_search.key rows)) none)

pub returns-then-not-branch-clause-bytes : goal.returns-then-not-branch-clause-bytes
returns-then-not-branch-clause-bytes g c = λ honest agrees bound rows way near fits.
    let none =
    found_none (spec_of c.args.key_search.file.now) c.args.key_search.key bound (pages_on g.D.Device c.args.pages.now
    c.args.device.now) rows c.args.prime.now c.args.under.now c.args.key_search.aim c.args.key_search.at.now _ way
    (c.in_ok-look_near.ensures.entry honest agrees way.pairs.levels way.pairs.holds near)
    (ap (λ (b : Bool). if_found b c.look_near.new.entry) c.if-not-branch.true) in
    sym (ap (record_of c.args.bytes.now) none)

-- the row of the entry that was found, in the tree of rows
prime_row : (g : Over) (c : In-Prime g) → g.D.Device.is_honest c.args.device.now
    → Agrees c.args.pages.now (g.D.Device.state c.args.device.now).disk → (bound : RowBound) (rows : List Row)
    → IsSought (spec_of c.args.key_search.file.now) c.args.key_search.key bound (pages_on g.D.Device c.args.pages.now
    c.args.device.now) rows c.args.prime.now c.args.under.now c.args.key_search.aim c.args.key_search.at.now
    → IsLeafPlace c.args.notes.now.place (pages_on g.D.Device c.args.pages.now c.args.device.now)
    → IsRowFor (spec_of c.args.key_search.file.now) Prime bound (pages_on g.D.Device c.args.pages.now c.args.device.now)
    rows c.args.prime.now c.args.under.now c.args.key_search.aim c.args.key_search.at.now c.look_near.new.entry
prime_row g c honest agrees bound rows way near =
    row_for (spec_of c.args.key_search.file.now) c.args.key_search.key
    Prime bound (pages_on g.D.Device c.args.pages.now c.args.device.now) rows c.args.prime.now c.args.under.now
    c.args.key_search.aim c.args.key_search.at.now _ c.look_near.new.entry
    way c.in-Prime.is (λ levels holds. c.in_ok-look_near.ensures.entry honest agrees levels holds near)
    (ap (λ (b : Bool). if_found b c.look_near.new.entry) c.if-not-branch.false)

-- the entry that was found is that of the row, and has its record
row_entry : (g : Over) (c : After-read_prime_row g)
    → g.D.Device.is_honest c.args.device.now → (bound : RowBound) (rows : List Row) → (row :
    IsRowFor (spec_of c.args.key_search.file.now) Prime bound (pages_on g.D.Device c.args.pages.now c.args.device.now)
    rows c.args.prime.now c.args.under.now c.args.key_search.aim c.args.key_search.at.now c.look_near.new.entry)
    → IsRowEntry (spec_of c.args.key_search.file.now) c.args.prime.now.record_bytes
    (pages_on g.D.Device c.look_near.new.pages c.look_near.new.device) c.look_near.new.entry row.for.row
row_entry g c honest bound rows row =
    row_entry_for (spec_of c.args.key_search.file.now) bound (pages_on g.D.Device c.args.pages.now c.args.device.now)
    (pages_on g.D.Device c.look_near.new.pages c.look_near.new.device)
    rows c.args.prime.now c.args.under.now c.args.key_search.aim c.args.key_search.at.now c.look_near.new.entry
    row (c.look_near.ensures.lengths (c.in_ok-look_near.was ∙ ap Ok c.if-not-branch.false)) (same_pages c.args.pages.now
    c.look_near.new.pages (g.D.Device.state c.args.device.now) (g.D.Device.state c.look_near.new.device)
    c.look_near.ensures.looks.unchanged (c.look_near.ensures.looks.only.state honest))

pub returns-in_err-look_near-clause-looks : goal.returns-in_err-look_near-clause-looks
returns-in_err-look_near-clause-looks g c =
    looks_blamed g.D.Device (c.look_near.result ≡ Err Device) _ _ _ _ _
    (λ is. refused_by_call c.in_err-look_near.was c.from_residual.ensures.1 is)
    c.look_near.ensures.looks

pub returns-then-not-branch-clause-looks : goal.returns-then-not-branch-clause-looks
returns-then-not-branch-clause-looks g c =
    looks_blamed g.D.Device (c.look_near.result ≡ Err Device) _ _ _ _ _ (λ is. never_ok is)
    c.look_near.ensures.looks

pub returns-in_err-told-in-Prime-clause-looks : goal.returns-in_err-told-in-Prime-clause-looks
returns-in_err-told-in-Prime-clause-looks g c =
    looks_then g.D.Device (c.look_near.result ≡ Err Device) (c.read_prime_row.result ≡ Err Device) _ _ _ _ _ _ _
    (λ is. inr (refused_by_call c.in_err-told-in-Prime.was c.from_residual-in_err-told-in-Prime.ensures.1 is))
    c.look_near.ensures.looks c.read_prime_row.ensures.looks

pub returns-in_ok-told-in-Prime-clause-looks : goal.returns-in_ok-told-in-Prime-clause-looks
returns-in_ok-told-in-Prime-clause-looks g c =
    looks_then g.D.Device (c.look_near.result ≡ Err Device) (c.read_prime_row.result ≡ Err Device) _ _ _ _ _ _ _
    (λ is. never_ok is) c.look_near.ensures.looks
    c.read_prime_row.ensures.looks

pub returns-in_err-told-in-Alternate-clause-looks : goal.returns-in_err-told-in-Alternate-clause-looks
returns-in_err-told-in-Alternate-clause-looks g c =
    looks_then g.D.Device (c.look_near.result ≡ Err Device) (c.read_alternate_row.result ≡ Err Device) _ _ _ _ _ _ _
    (λ is. inr (refused_by_call c.in_err-told-in-Alternate.was c.from_residual-in_err-told-in-Alternate.ensures.1 is))
    c.look_near.ensures.looks
    c.read_alternate_row.ensures.looks

pub returns-in_ok-told-in-Alternate-clause-looks : goal.returns-in_ok-told-in-Alternate-clause-looks
returns-in_ok-told-in-Alternate-clause-looks g c =
    looks_then g.D.Device (c.look_near.result ≡ Err Device) (c.read_alternate_row.result ≡ Err Device) _ _ _ _ _ _ _
    (λ is. never_ok is) c.look_near.ensures.looks
    c.read_alternate_row.ensures.looks

pub returns-in_err-told-in-Prime-clause-damaged : goal.returns-in_err-told-in-Prime-clause-damaged
returns-in_err-told-in-Prime-clause-damaged g c = λ honest agrees bound rows way near fits is.
    let at = goal.at.returns-in_err-told-in-Prime-clause-damaged g c in
    let row = prime_row g at.In-Prime honest agrees bound rows way near in
    c.read_prime_row.ensures.damaged (c.look_near.ensures.looks.only.honest.0 honest)
    (c.look_near.ensures.looks.agrees honest agrees)
    (spec_of c.args.key_search.file.now) row.for.row (row_entry g at.After-read_prime_row honest bound rows row) refl
    row.is_under
    (row.long ∙ sym fits)
    (refused_by_call c.in_err-told-in-Prime.was c.from_residual-in_err-told-in-Prime.ensures.1 is)

pub returns-in_ok-told-in-Prime-clause-found : goal.returns-in_ok-told-in-Prime-clause-found
returns-in_ok-told-in-Prime-clause-found g c = λ honest agrees bound rows way near.
    let at = goal.at.returns-in_ok-told-in-Prime-clause-found g c in
    let row = prime_row g at.In-Prime honest agrees bound rows way near in
    told_as (λ (k : KeyOfReference). found_row (spec_of c.args.key_search.file.now) k rows)
    (λ (k : KeyOfReference). sought_row (spec_of c.args.key_search.file.now) k bound rows) c.args.key_search.key Prime
    row.for.row
    c.in_ok-told-in-Prime.told c.in-Prime.is row.for.is
    (c.in_ok-told-in-Prime.ensures.found (spec_of c.args.key_search.file.now) row.for.row rows refl
    (row_key_for (row_entry g at.After-read_prime_row honest bound rows row)) row.is_under)

pub returns-in_ok-told-in-Prime-clause-bytes : goal.returns-in_ok-told-in-Prime-clause-bytes
returns-in_ok-told-in-Prime-clause-bytes g c = λ honest agrees bound rows way near fits.
    let at = goal.at.returns-in_ok-told-in-Prime-clause-bytes g c in
    let row = prime_row g at.In-Prime honest agrees bound rows way near in
    record_as (λ (k : KeyOfReference). sought_row (spec_of c.args.key_search.file.now) k bound rows)
    c.args.key_search.key Prime row.for.row
    c.args.bytes.now c.read_prime_row.new.bytes c.in-Prime.is row.for.is (c.in_ok-told-in-Prime.ensures.bytes
    (c.look_near.ensures.looks.only.honest.0 honest) (c.look_near.ensures.looks.agrees honest agrees)
    (spec_of c.args.key_search.file.now) row.for.row
    (row_entry g at.After-read_prime_row honest bound rows row) (row.long ∙ sym fits))

-- and in the tree of an alternate key
alternate_row : (g : Over) (c : After-read_alternate_row g) → g.D.Device.is_honest c.args.device.now
    → Agrees c.args.pages.now (g.D.Device.state c.args.device.now).disk → (bound : RowBound) (rows : List Row)
    → IsSought (spec_of c.args.key_search.file.now) c.args.key_search.key bound (pages_on g.D.Device c.args.pages.now
    c.args.device.now) rows c.args.prime.now c.args.under.now c.args.key_search.aim c.args.key_search.at.now
    → IsLeafPlace c.args.notes.now.place (pages_on g.D.Device c.args.pages.now c.args.device.now)
    → IsRowFor (spec_of c.args.key_search.file.now) (Alternate c.in-Alternate.field-0)
    bound (pages_on g.D.Device c.args.pages.now c.args.device.now) rows c.args.prime.now c.args.under.now
    c.args.key_search.aim c.args.key_search.at.now c.look_near.new.entry
alternate_row g c honest agrees bound rows way near =
    row_for (spec_of c.args.key_search.file.now) c.args.key_search.key
    (Alternate c.in-Alternate.field-0) bound (pages_on g.D.Device c.args.pages.now c.args.device.now)
    rows c.args.prime.now c.args.under.now c.args.key_search.aim c.args.key_search.at.now _ c.look_near.new.entry
    way c.in-Alternate.is (λ levels holds. c.in_ok-look_near.ensures.entry honest agrees levels holds near)
    (ap (λ (b : Bool). if_found b c.look_near.new.entry) c.if-not-branch.false)

pair_entry : (g : Over) (c : After-read_alternate_row g) → g.D.Device.is_honest c.args.device.now
    → (bound : RowBound) (rows : List Row) → (row : IsRowFor (spec_of c.args.key_search.file.now)
    (Alternate c.in-Alternate.field-0) bound (pages_on g.D.Device c.args.pages.now c.args.device.now)
    rows c.args.prime.now c.args.under.now c.args.key_search.aim c.args.key_search.at.now c.look_near.new.entry)
    → IsPairEntry (spec_of c.args.key_search.file.now) c.in-Alternate.field-0
    (pages_on g.D.Device c.look_near.new.pages c.look_near.new.device) rows c.args.prime.now c.args.under.now
    c.key_place.result.length c.look_near.new.entry row.for.row
pair_entry g c honest bound rows row =
    pair_entry_for (spec_of c.args.key_search.file.now) c.in-Alternate.field-0 bound (pages_on
    g.D.Device c.args.pages.now c.args.device.now) (pages_on g.D.Device c.look_near.new.pages c.look_near.new.device)
    rows c.args.prime.now c.args.under.now c.args.key_search.aim c.args.key_search.at.now
    c.look_near.new.entry c.key_place.result.length row (same_pages c.args.pages.now c.look_near.new.pages
    (g.D.Device.state c.args.device.now) (g.D.Device.state c.look_near.new.device) c.look_near.ensures.looks.unchanged
    (c.look_near.ensures.looks.only.state honest)) (ap (λ (p : KeyPlace). p.length)
    (c.key_place.ensures.place ∙ ap (place_of (spec_of c.args.key_search.file.now)) c.in-Alternate.is))

-- the leaf that is noted is one of its tree, before that row is read and after it
near_then : (g : Over) (c : After-read_alternate_row g) → g.D.Device.is_honest c.args.device.now
    → Agrees c.args.pages.now (g.D.Device.state c.args.device.now).disk
    → IsLeafPlace c.args.notes.now.place (pages_on g.D.Device c.args.pages.now c.args.device.now)
    → IsLeafPlace c.look_near.new.place (pages_on g.D.Device c.look_near.new.pages c.look_near.new.device)
near_then g c honest agrees near =
    subst (λ (p : List (Option Sector)). IsLeafPlace c.look_near.new.place p)
    (sym (same_pages c.args.pages.now c.look_near.new.pages (g.D.Device.state c.args.device.now)
    (g.D.Device.state c.look_near.new.device) c.look_near.ensures.looks.unchanged
    (c.look_near.ensures.looks.only.state honest))) (c.look_near.ensures.place honest agrees near)

near_after : (g : Over) (c : After-read_alternate_row g) → g.D.Device.is_honest c.args.device.now
    → Agrees c.args.pages.now (g.D.Device.state c.args.device.now).disk
    → IsLeafPlace c.args.notes.now.place (pages_on g.D.Device c.args.pages.now c.args.device.now)
    → IsLeafPlace c.read_alternate_row.new.notes.place (pages_on g.D.Device c.args.pages.now c.args.device.now)
near_after g c honest agrees near =
    subst (λ (p : List (Option Sector)). IsLeafPlace c.read_alternate_row.new.notes.place p)
    (same_pages c.args.pages.now c.look_near.new.pages (g.D.Device.state c.args.device.now)
    (g.D.Device.state c.look_near.new.device) c.look_near.ensures.looks.unchanged
    (c.look_near.ensures.looks.only.state honest))
    (c.read_alternate_row.ensures.place (c.look_near.ensures.looks.only.honest.0 honest)
    (c.look_near.ensures.looks.agrees honest agrees) (near_then g c honest agrees near))

pub returns-in_err-told-in-Alternate-clause-place : goal.returns-in_err-told-in-Alternate-clause-place
returns-in_err-told-in-Alternate-clause-place g c =
    near_after g (goal.at.returns-in_err-told-in-Alternate-clause-place g c).After-read_alternate_row

pub returns-in_ok-told-in-Alternate-clause-place : goal.returns-in_ok-told-in-Alternate-clause-place
returns-in_ok-told-in-Alternate-clause-place g c =
    near_after g (goal.at.returns-in_ok-told-in-Alternate-clause-place g c).After-read_alternate_row

pub returns-in_err-told-in-Alternate-clause-damaged : goal.returns-in_err-told-in-Alternate-clause-damaged
returns-in_err-told-in-Alternate-clause-damaged g c = λ honest agrees bound rows way near fits is.
    let at = goal.at.returns-in_err-told-in-Alternate-clause-damaged g c in
    let row = alternate_row g at.After-read_alternate_row honest agrees bound rows way near in
    c.read_alternate_row.ensures.damaged (c.look_near.ensures.looks.only.honest.0 honest)
    (c.look_near.ensures.looks.agrees honest agrees)
    (spec_of c.args.key_search.file.now) c.in-Alternate.field-0 rows row.for.row
    (pair_entry g at.After-read_alternate_row honest bound rows row)
    (near_then g at.After-read_alternate_row honest agrees near) fits
    (refused_by_call c.in_err-told-in-Alternate.was c.from_residual-in_err-told-in-Alternate.ensures.1 is)

pub returns-in_ok-told-in-Alternate-clause-found : goal.returns-in_ok-told-in-Alternate-clause-found
returns-in_ok-told-in-Alternate-clause-found g c = λ honest agrees bound rows way near.
    let at = goal.at.returns-in_ok-told-in-Alternate-clause-found g c in
    let row = alternate_row g at.After-read_alternate_row honest agrees bound rows way near in
    told_as (λ (k : KeyOfReference). found_row (spec_of c.args.key_search.file.now) k rows)
    (λ (k : KeyOfReference). sought_row (spec_of c.args.key_search.file.now) k bound rows) c.args.key_search.key
    (Alternate c.in-Alternate.field-0) row.for.row c.in_ok-told-in-Alternate.told c.in-Alternate.is row.for.is
    (c.in_ok-told-in-Alternate.ensures.found (c.look_near.ensures.looks.only.honest.0 honest)
    (c.look_near.ensures.looks.agrees honest agrees)
    (spec_of c.args.key_search.file.now) c.in-Alternate.field-0 rows row.for.row
    (pair_entry g at.After-read_alternate_row honest bound rows row)
    (near_then g at.After-read_alternate_row honest agrees near))

pub returns-in_ok-told-in-Alternate-clause-bytes : goal.returns-in_ok-told-in-Alternate-clause-bytes
returns-in_ok-told-in-Alternate-clause-bytes g c = λ honest agrees bound rows way near fits.
    let at = goal.at.returns-in_ok-told-in-Alternate-clause-bytes g c in
    let row = alternate_row g at.After-read_alternate_row honest agrees bound rows way near in
    record_as (λ (k : KeyOfReference). sought_row (spec_of c.args.key_search.file.now) k bound rows)
    c.args.key_search.key
    (Alternate c.in-Alternate.field-0) row.for.row c.args.bytes.now c.read_alternate_row.new.bytes c.in-Alternate.is
    row.for.is (c.in_ok-told-in-Alternate.ensures.bytes (c.look_near.ensures.looks.only.honest.0 honest)
    (c.look_near.ensures.looks.agrees honest agrees) (spec_of c.args.key_search.file.now) c.in-Alternate.field-0 rows
    row.for.row
    (pair_entry g at.After-read_alternate_row honest bound rows row) fits)

pub returns-in_err-look_near-clause-damaged : goal.returns-in_err-look_near-clause-damaged
returns-in_err-look_near-clause-damaged g c = λ honest agrees bound rows way near fits is.
    c.look_near.ensures.damaged honest agrees
    (refused_by_call c.in_err-look_near.was c.from_residual.ensures.1 is, near) way.pairs.levels way.pairs.holds

-- a page that is read is refused for a reason for which a record may be refused
read_is_record : (e : PagesError) → IsReadRefusal e → IsRecordRefusal e
read_is_record pages.Device why = tt
read_is_record pages.Full why = why
read_is_record pages.Damaged why = tt
read_is_record pages.Memory why = absurd why
read_is_record pages.Spent why = tt
read_is_record pages.ForeignMark why = why

pub returns-in_err-look_near-clause-found : goal.returns-in_err-look_near-clause-found
returns-in_err-look_near-clause-found g c = λ honest agrees bound rows way near.
    if_refused c.from_residual.result c.in_err-look_near.field-0.0 c.from_residual.ensures.1 _

pub returns-in_err-look_near-clause-bytes : goal.returns-in_err-look_near-clause-bytes
returns-in_err-look_near-clause-bytes g c = λ honest agrees bound rows way near fits.
    on_refused c.from_residual.result c.in_err-look_near.field-0.0 c.from_residual.ensures.1 _

pub returns-in_err-look_near-clause-spent : goal.returns-in_err-look_near-clause-spent
returns-in_err-look_near-clause-spent g c = λ is.
    c.look_near.ensures.spent (refused_by_call c.in_err-look_near.was c.from_residual.ensures.1 is)

pub returns-in_err-look_near-clause-kept : goal.returns-in_err-look_near-clause-kept
returns-in_err-look_near-clause-kept g c =
    passed c.from_residual.result c.in_err-look_near.field-0.0 c.from_residual.ensures.1 (λ r.
    OnErr r (c.args.bytes.now ≡ c.args.bytes.now)) refl

pub returns-in_err-look_near-clause-cause : goal.returns-in_err-look_near-clause-cause
returns-in_err-look_near-clause-cause g c =
    passed c.from_residual.result c.in_err-look_near.field-0.0 c.from_residual.ensures.1 (λ r. IfErr r IsRecordRefusal)
    (read_is_record c.in_err-look_near.field-0.0 c.in_err-look_near.ensures.cause)

pub returns-in_err-told-in-Prime-clause-found : goal.returns-in_err-told-in-Prime-clause-found
returns-in_err-told-in-Prime-clause-found g c = λ honest agrees bound rows way near.
    if_refused c.from_residual-in_err-told-in-Prime.result c.in_err-told-in-Prime.field-0.0
    c.from_residual-in_err-told-in-Prime.ensures.1 _

pub returns-in_err-told-in-Prime-clause-bytes : goal.returns-in_err-told-in-Prime-clause-bytes
returns-in_err-told-in-Prime-clause-bytes g c = λ honest agrees bound rows way near fits.
    on_refused c.from_residual-in_err-told-in-Prime.result c.in_err-told-in-Prime.field-0.0
    c.from_residual-in_err-told-in-Prime.ensures.1 _

pub returns-in_err-told-in-Prime-clause-spent : goal.returns-in_err-told-in-Prime-clause-spent
returns-in_err-told-in-Prime-clause-spent g c = λ is.
    spent_before c.args.pages.now c.look_near.new.pages c.look_near.ensures.looks.unchanged.committed
    (c.read_prime_row.ensures.spent
    (refused_by_call c.in_err-told-in-Prime.was c.from_residual-in_err-told-in-Prime.ensures.1 is))

pub returns-in_err-told-in-Prime-clause-kept : goal.returns-in_err-told-in-Prime-clause-kept
returns-in_err-told-in-Prime-clause-kept g c =
    passed c.from_residual-in_err-told-in-Prime.result c.in_err-told-in-Prime.field-0.0
    c.from_residual-in_err-told-in-Prime.ensures.1 (λ r.
    OnErr r (c.read_prime_row.new.bytes ≡ c.args.bytes.now)) c.in_err-told-in-Prime.ensures.kept

pub returns-in_err-told-in-Prime-clause-cause : goal.returns-in_err-told-in-Prime-clause-cause
returns-in_err-told-in-Prime-clause-cause g c =
    passed c.from_residual-in_err-told-in-Prime.result c.in_err-told-in-Prime.field-0.0
    c.from_residual-in_err-told-in-Prime.ensures.1 (λ r. IfErr r IsRecordRefusal)
    c.in_err-told-in-Prime.ensures.cause

pub returns-in_err-told-in-Alternate-clause-found : goal.returns-in_err-told-in-Alternate-clause-found
returns-in_err-told-in-Alternate-clause-found g c = λ honest agrees bound rows way near.
    if_refused c.from_residual-in_err-told-in-Alternate.result c.in_err-told-in-Alternate.field-0.0
    c.from_residual-in_err-told-in-Alternate.ensures.1 _

pub returns-in_err-told-in-Alternate-clause-bytes : goal.returns-in_err-told-in-Alternate-clause-bytes
returns-in_err-told-in-Alternate-clause-bytes g c = λ honest agrees bound rows way near fits.
    on_refused c.from_residual-in_err-told-in-Alternate.result c.in_err-told-in-Alternate.field-0.0
    c.from_residual-in_err-told-in-Alternate.ensures.1 _

pub returns-in_err-told-in-Alternate-clause-spent : goal.returns-in_err-told-in-Alternate-clause-spent
returns-in_err-told-in-Alternate-clause-spent g c = λ is.
    spent_before c.args.pages.now c.look_near.new.pages c.look_near.ensures.looks.unchanged.committed
    (c.read_alternate_row.ensures.spent
    (refused_by_call c.in_err-told-in-Alternate.was c.from_residual-in_err-told-in-Alternate.ensures.1 is))

pub returns-in_err-told-in-Alternate-clause-kept : goal.returns-in_err-told-in-Alternate-clause-kept
returns-in_err-told-in-Alternate-clause-kept g c =
    passed c.from_residual-in_err-told-in-Alternate.result c.in_err-told-in-Alternate.field-0.0
    c.from_residual-in_err-told-in-Alternate.ensures.1 (λ r.
    OnErr r (c.read_alternate_row.new.bytes ≡ c.args.bytes.now)) c.in_err-told-in-Alternate.ensures.kept

pub returns-in_err-told-in-Alternate-clause-cause : goal.returns-in_err-told-in-Alternate-clause-cause
returns-in_err-told-in-Alternate-clause-cause g c =
    passed c.from_residual-in_err-told-in-Alternate.result c.in_err-told-in-Alternate.field-0.0
    c.from_residual-in_err-told-in-Alternate.ensures.1 (λ r. IfErr r IsRecordRefusal)
    c.in_err-told-in-Alternate.ensures.cause

pub returns-in_err-look_near-clause-file : goal.returns-in_err-look_near-clause-file
returns-in_err-look_near-clause-file g c = (refl, refl)

pub returns-then-not-branch-clause-file : goal.returns-then-not-branch-clause-file
returns-then-not-branch-clause-file g c = (refl, refl)

pub returns-in_err-told-in-Prime-clause-file : goal.returns-in_err-told-in-Prime-clause-file
returns-in_err-told-in-Prime-clause-file g c = (refl, refl)

pub returns-in_ok-told-in-Prime-clause-file : goal.returns-in_ok-told-in-Prime-clause-file
returns-in_ok-told-in-Prime-clause-file g c = (refl, refl)

pub returns-then-not-branch-clause-damaged : goal.returns-then-not-branch-clause-damaged
returns-then-not-branch-clause-damaged g c = λ honest agrees bound rows way near fits is. never_ok is

pub returns-then-not-branch-clause-spent : goal.returns-then-not-branch-clause-spent
returns-then-not-branch-clause-spent g c = λ is. never_ok is

pub returns-in_ok-told-in-Prime-clause-damaged : goal.returns-in_ok-told-in-Prime-clause-damaged
returns-in_ok-told-in-Prime-clause-damaged g c = λ honest agrees bound rows way near fits is. never_ok is

pub returns-in_ok-told-in-Prime-clause-spent : goal.returns-in_ok-told-in-Prime-clause-spent
returns-in_ok-told-in-Prime-clause-spent g c = λ is. never_ok is

pub returns-in_ok-told-in-Alternate-clause-damaged : goal.returns-in_ok-told-in-Alternate-clause-damaged
returns-in_ok-told-in-Alternate-clause-damaged g c = λ honest agrees bound rows way near fits is. never_ok is

pub returns-in_ok-told-in-Alternate-clause-spent : goal.returns-in_ok-told-in-Alternate-clause-spent
returns-in_ok-told-in-Alternate-clause-spent g c = λ is. never_ok is

pub read_prime_row-requires : goal.read_prime_row-requires
read_prime_row-requires g c = record {
  sectors = sectors_still g.D.Device _ c.args.pages.now c.look_near.new.pages c.args.device.now c.look_near.new.device
      c.look_near.ensures.looks.only c.look_near.ensures.looks.unchanged.committed c.requires.sectors;
}

pub read_alternate_row-requires-clause-sectors : goal.read_alternate_row-requires-clause-sectors
read_alternate_row-requires-clause-sectors g c =
    sectors_still g.D.Device _ c.args.pages.now c.look_near.new.pages c.args.device.now c.look_near.new.device
    c.look_near.ensures.looks.only c.look_near.ensures.looks.unchanged.committed c.requires.sectors
