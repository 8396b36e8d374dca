use Rattle.std.proofs.Common.{◌≡◌, Err, false, ℕ, List, length, sym, ap, subst, ◌∙◌, arith}
use Rattle.std.specs.Prelude.{take}
use Rattle.std.specs.List.{flat_map}
use Rattle.std.proofs.lemmas.List.{take_at}
use Rattle.byteorder.specs.Endian.{big_bytes}
use Rattle.pages.specs.declared.error.PagesError.TheVariants.{Device, Spent}
use Rattle.btree.specs.Calls.{pages_on}
use Rattle.btree.specs.Entries.{Entry}
use Rattle.btree.proofs.Passing.{passed, same_error, never_ok}
use Rattle.records.specs.declared.answer.Found.{Found}
use Rattle.records.specs.declared.file_spec.Organization.{Organization}
use Rattle.row_trees.specs.Reading.{HasRecord, IsRecordLength}
use Rattle.file_bytes.specs.Rows.{prime_key_length}
use Rattle.volume_format.specs.Calls.{LooksAt}
use Rattle.volume_format.specs.Trees.{entry_under}
use Rattle.volume_format.proofs.Looks.{looks_blamed, looks_nowhere, looks_past}
use Rattle.records.specs.declared.key.KeyOfReference.TheVariants.{Prime}
use Rattle.alternate_keys.specs.Seen.{number_in}
use Rattle.alternate_keys.proofs.Faults.{refused_by_call}
use Rattle.alternate_keys.proofs.RowFor.{row_key_for}
use Rattle.alternate_keys.proofs.Tells.{prime_number, prime_long}
use Rattle.alternate_keys.proofs.found_rows.read_prime_row.Goals as goal

pub returns-in_err-number-clause-looks : goal.returns-in_err-number-clause-looks
returns-in_err-number-clause-looks g c =
    passed c.from_residual.result c.in_err-number.field-0.0 c.from_residual.ensures.1
    (λ r. LooksAt g.D.Device (r ≡ Err Device) c.args.pages.now c.args.device.now c.args.pages.now c.args.device.now)
    (looks_blamed g.D.Device ⊥ _ _ _ _ _
    (λ is. let why = c.in_err-number.ensures.err.0 in
    let told : c.in_err-number.field-0.0 ≡ Device = same_error is in cc (why, told))
    (looks_nowhere g.D.Device c.args.pages.now c.args.device.now))

pub returns-in_err-number-clause-damaged : goal.returns-in_err-number-clause-damaged
returns-in_err-number-clause-damaged g c = λ honest agrees spec row entry_is same under fits told.
    let key : c.args.entry.now.key ≡ (entry_under spec Prime row).key = row_key_for entry_is in
    let count : length c.key.result.now ≡ prime_key_length c.args.organization =
    ap length c.key.ensures ∙ ap length key ∙ prime_long spec row under ∙ ap prime_key_length same in
    let low = c.in_err-number.ensures.err.1 in
    absurd (omega (arith, count, low))

pub returns-in_err-number-clause-spent : goal.returns-in_err-number-clause-spent
returns-in_err-number-clause-spent g c = λ is.
    let told : c.in_err-number.field-0.0 ≡ Spent =
    same_error (sym c.in_err-number.was ∙ refused_by_call c.in_err-number.was c.from_residual.ensures.1 is) in
    let why = c.in_err-number.ensures.err.0 in
    cc (why, told)

pub returns-in_err-read_record-clause-looks : goal.returns-in_err-read_record-clause-looks
returns-in_err-read_record-clause-looks g c =
    looks_blamed g.D.Device (c.read_record.result ≡ Err Device) _ _ _ _ _
    (λ is. refused_by_call c.in_err-read_record.was c.from_residual-in_err-read_record.ensures.1 is)
    (looks_past g.D.Device _ c.args.pages.now _ _ c.read_record.ensures.only)

pub returns-in_err-read_record-clause-damaged : goal.returns-in_err-read_record-clause-damaged
returns-in_err-read_record-clause-damaged g c = λ honest agrees spec row entry_is same under fits told.
    let before = pages_on g.D.Device c.args.pages.now c.args.device.now in
    c.read_record.ensures.damaged honest agrees
    (refused_by_call c.in_err-read_record.was c.from_residual-in_err-read_record.ensures.1 told)
    (subst (HasRecord c.args.prime.now.record_bytes before c.args.entry.now) fits entry_is.has)

pub returns-clause-looks : goal.returns-clause-looks
returns-clause-looks g c = looks_blamed g.D.Device (c.read_record.result ≡ Err Device) _ _ _ _ _ (λ is. never_ok is)
    (looks_past g.D.Device _ c.args.pages.now _ _ c.read_record.ensures.only)

pub returns-clause-found : goal.returns-clause-found
returns-clause-found g c = λ spec row rows same key under.
    let own : List ℕ = (entry_under spec Prime row).key in
    let Told : ℕ → Found = λ n. record { number = n; repeated = false } in
    ap Told (c.in_ok-number.ensures.ok ∙ ap (λ k. number_in c.args.organization k) c.key.ensures
    ∙ ap (λ k. number_in c.args.organization k) key
    ∙ ap (λ (o : Organization). number_in o own) (sym same) ∙ prime_number spec row under)

pub returns-clause-bytes : goal.returns-clause-bytes
returns-clause-bytes g c = λ honest agrees spec row entry_is fits.
    let read = c.in_ok-read_record.ensures.record honest agrees
    (subst (IsRecordLength c.args.prime.now.record_bytes) fits entry_is.fits) in
    read.bytes_are ∙ ap (λ (e : Entry). take (length c.args.bytes.now) e.value) entry_is.is
    ∙ take_at row.bytes (flat_map (big_bytes 8) row.arrivals) (length c.args.bytes.now) fits
