use Rattle.std.proofs.Common.{◌≡◌, ℕ, List, Err, length, sym, ap, ◌∙◌, arith}
use Rattle.std.proofs.lemmas.Result.{IfErr-weaker}
use Rattle.btree.specs.Calls.{pages_on}
use Rattle.records.specs.declared.fault.StoreFault.TheVariants.{Device, Damaged}
use Rattle.records.specs.Stores.{spec_of}
use Rattle.volume_format.proofs.Looks.{looks_nowhere, looks_blamed}
use Rattle.file_recovery.specs.Faults.{IsReadFault}
use Rattle.file_recovery.specs.Rows.{IsOwnFault}
use Rattle.btree.proofs.Passing.{was_error}
use Rattle.file_recovery.proofs.Faults.{own_fault, own_not_device}
use Rattle.file_recovery.proofs.Following.{long_kept, short_kept, short_row, short_none, long_row, long_none}
use Rattle.file_recovery.proofs.Following.{long_other}
use Rattle.file_recovery.proofs.reading.read_row.Goals as goal

pub row_of_entry-requires-clause-value : goal.row_of_entry-requires-clause-value
row_of_entry-requires-clause-value g c =
    let kept = short_kept (spec_of c.args.file.now) (sym c.is_long.ensures ∙ c.if-not-is_long.true) in
    let long = c.requires.lengths.1 in
    let same = ap (λ (l : List ℕ). length l) c.value.ensures in
    omega (arith, kept, long, same)

pub whole_value-requires-clause-value : goal.whole_value-requires-clause-value
whole_value-requires-clause-value g c =
    let kept = long_kept (spec_of c.args.file.now) (sym c.is_long.ensures ∙ c.if-not-is_long.false) in
    let long = c.requires.lengths.1 in
    let same = ap (λ (l : List ℕ). length l) c.value-2.ensures in
    omega (arith, kept, long, same)

pub row_of_entry-requires-2-clause-value : goal.row_of_entry-requires-2-clause-value
row_of_entry-requires-2-clause-value g c =
    let kept = long_kept (spec_of c.args.file.now) (sym c.is_long.ensures ∙ c.if-not-is_long.false) in
    let long = c.requires.lengths.1 in
    let same = ap (λ (l : List ℕ). length l) c.value-2.ensures in
    let whole = c.in_ok-whole.ensures.long in
    let passed = c.deref.ensures.len in
    omega (arith, kept, long, same, whole, passed)

pub returns-then-not-is_long-clause-looks : goal.returns-then-not-is_long-clause-looks
returns-then-not-is_long-clause-looks g c =
    looks_blamed g.D.Device ⊥ _ c.args.pages.now c.args.pages.now c.args.device.now c.args.device.now
    (λ is. own_not_device c.row_of_entry.result c.row_of_entry.ensures.cause is)
    (looks_nowhere g.D.Device c.args.pages.now c.args.device.now)

pub returns-then-not-is_long-clause-row : goal.returns-then-not-is_long-clause-row
returns-then-not-is_long-clause-row g c = λ honest agrees.
    short_row (spec_of c.args.file.now) (pages_on g.D.Device c.args.pages.now c.args.device.now) c.args.entry.now
    c.args.seen.now (sym c.is_long.ensures ∙ c.if-not-is_long.true) c.row_of_entry.result c.key.result.now
    c.value.result.now c.key.ensures c.value.ensures c.row_of_entry.ensures.row

pub returns-then-not-is_long-clause-damaged : goal.returns-then-not-is_long-clause-damaged
returns-then-not-is_long-clause-damaged g c = λ honest agrees told.
    short_none (spec_of c.args.file.now) c.args.next_arrival
    (pages_on g.D.Device c.args.pages.now c.args.device.now) c.args.entry.now c.args.seen.now
    (sym c.is_long.ensures ∙ c.if-not-is_long.true) c.key.result.now c.value.result.now c.key.ensures c.value.ensures
    (c.row_of_entry.ensures.damaged told)

pub returns-then-not-is_long-clause-cause : goal.returns-then-not-is_long-clause-cause
returns-then-not-is_long-clause-cause g c =
    IfErr-weaker c.row_of_entry.result IsOwnFault IsReadFault own_fault c.row_of_entry.ensures.cause

pub returns-in_err-whole-clause-damaged : goal.returns-in_err-whole-clause-damaged
returns-in_err-whole-clause-damaged g c = λ honest agrees refused.
    let told =
    was_error c.from_residual.result c.whole_value.result c.in_err-whole.field-0.0 Damaged c.from_residual.ensures.1
    c.in_err-whole.was refused in
    long_none (spec_of c.args.file.now) c.args.next_arrival
    (pages_on g.D.Device c.args.pages.now c.args.device.now) c.args.entry.now c.args.seen.now
    (sym c.is_long.ensures ∙ c.if-not-is_long.false) c.value-2.result.now c.value-2.ensures
    (c.whole_value.ensures.damaged honest agrees told)

pub returns-clause-looks : goal.returns-clause-looks
returns-clause-looks g c =
    looks_blamed g.D.Device (c.whole_value.result ≡ Err Device) _ c.args.pages.now c.whole_value.new.pages
    c.args.device.now c.whole_value.new.device
    (λ is. own_not_device c.row_of_entry-2.result c.row_of_entry-2.ensures.cause is) c.whole_value.ensures.looks

pub returns-clause-row : goal.returns-clause-row
returns-clause-row g c = λ honest agrees.
    long_row (spec_of c.args.file.now) (pages_on g.D.Device c.args.pages.now c.args.device.now) c.args.entry.now
    c.args.seen.now (sym c.is_long.ensures ∙ c.if-not-is_long.false) c.row_of_entry-2.result c.key-2.result.now
    c.value-2.result.now c.deref.result.now c.in_ok-whole.whole.items c.whole_value.new.seen c.key-2.ensures
    c.value-2.ensures c.deref.ensures.value (c.in_ok-whole.ensures.whole honest agrees) c.row_of_entry-2.ensures.row

pub returns-clause-damaged : goal.returns-clause-damaged
returns-clause-damaged g c = λ honest agrees told.
    long_other (spec_of c.args.file.now) c.args.next_arrival
    (pages_on g.D.Device c.args.pages.now c.args.device.now) c.args.entry.now c.args.seen.now
    (sym c.is_long.ensures ∙ c.if-not-is_long.false) c.key-2.result.now c.value-2.result.now c.deref.result.now
    c.in_ok-whole.whole.items c.whole_value.new.seen c.key-2.ensures c.value-2.ensures c.deref.ensures.value
    (c.in_ok-whole.ensures.whole honest agrees) (c.row_of_entry-2.ensures.damaged told)

pub returns-clause-cause : goal.returns-clause-cause
returns-clause-cause g c =
    IfErr-weaker c.row_of_entry-2.result IsOwnFault IsReadFault own_fault c.row_of_entry-2.ensures.cause
