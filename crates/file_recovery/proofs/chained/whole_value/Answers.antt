use Rattle.std.proofs.Common.{◌≡◌, inr, ℕ, List, Err, sym, subst}
use Rattle.std.specs.Prelude.{Option}
use Rattle.station.specs.Disk.{Sector}
use Rattle.btree.specs.Calls.{pages_on}
use Rattle.chains.specs.Chain.{Stands, pages_for}
use Rattle.chains.specs.Changes.{IsRecordOf}
use Rattle.records.specs.declared.fault.StoreFault.TheVariants.{Device, Damaged}
use Rattle.volume_format.proofs.Looks.{looks_then, looks_past}
use Rattle.btree.proofs.Passing.{was_error, never_ok}
use Rattle.file_recovery.proofs.Calling.{pages_kept}
use Rattle.file_recovery.proofs.Faults.{memory_not_device}
use Rattle.file_recovery.proofs.Following.{whole_made, whole_read, none_named}
use Rattle.file_recovery.proofs.chained.whole_value.Goals as goal

pub returns-in_err-check_chain-clause-damaged : goal.returns-in_err-check_chain-clause-damaged
returns-in_err-check_chain-clause-damaged g c = λ honest agrees refused.
    let told =
    was_error c.from_residual.result c.check_chain.result c.in_err-check_chain.field-0.0 Damaged
    c.from_residual.ensures.1 c.in_err-check_chain.was refused in
    none_named (pages_on g.D.Device c.args.pages.now c.args.device.now) _ _ c.args.value.now c.args.seen.now
    c.read_u32-first.ensures (c.check_chain.ensures.damaged honest agrees told)

pub returns-in_err-whole-clause-looks : goal.returns-in_err-whole-clause-looks
returns-in_err-whole-clause-looks g c =
    looks_then g.D.Device (c.check_chain.result ≡ Err Device) (c.record_of.result ≡ Err Device) _ c.args.pages.now
    c.check_chain.new.pages c.check_chain.new.pages c.args.device.now c.check_chain.new.device c.record_of.new.device
    (λ is. inr (was_error c.from_residual-in_err-whole.result c.record_of.result c.in_err-whole.field-0.0 Device
    c.from_residual-in_err-whole.ensures.1 c.in_err-whole.was is))
    c.check_chain.ensures.looks
    (looks_past g.D.Device _ c.check_chain.new.pages _ _ c.record_of.ensures.only)

pub returns-in_err-whole-clause-damaged : goal.returns-in_err-whole-clause-damaged
returns-in_err-whole-clause-damaged g c = λ honest agrees refused stands can.
    let told =
    was_error c.from_residual-in_err-whole.result c.record_of.result c.in_err-whole.field-0.0 Damaged
    c.from_residual-in_err-whole.ensures.1 c.in_err-whole.was refused in
    let looks = c.check_chain.ensures.looks in
    let before : List (Option Sector) = pages_on g.D.Device c.args.pages.now c.args.device.now in
    let same = pages_kept g.D.Device (c.check_chain.result ≡ Err Device) c.args.pages.now c.check_chain.new.pages
    c.args.device.now c.check_chain.new.device looks honest in
    let size : ℕ = c.args.file.now.record_length in
    let first : ℕ = c.read_u32-first.result in
    c.record_of.ensures.damaged (looks.only.honest.0 honest) (looks.agrees honest agrees) told
    (subst (λ (p : List (Option Sector)). Stands p (pages_for size) first) (sym same)
    (subst (λ (n : ℕ). Stands before (pages_for size) n) (sym c.read_u32-first.ensures) stands))

pub returns-in_err-extend_from_slice-clause-looks :
    goal.returns-in_err-extend_from_slice-clause-looks
returns-in_err-extend_from_slice-clause-looks g c =
    looks_then g.D.Device (c.check_chain.result ≡ Err Device) (c.record_of.result ≡ Err Device) _ c.args.pages.now
    c.check_chain.new.pages c.check_chain.new.pages c.args.device.now c.check_chain.new.device c.record_of.new.device
    (λ is. memory_not_device c.from_residual-in_err-extend_from_slice.result
    c.from_residual-in_err-extend_from_slice.ensures.1 is)
    c.check_chain.ensures.looks
    (looks_past g.D.Device _ c.check_chain.new.pages _ _ c.record_of.ensures.only)

pub returns-clause-looks : goal.returns-clause-looks
returns-clause-looks g c =
    looks_then g.D.Device (c.check_chain.result ≡ Err Device) (c.record_of.result ≡ Err Device) _ c.args.pages.now
    c.check_chain.new.pages c.check_chain.new.pages c.args.device.now c.check_chain.new.device c.record_of.new.device
    (λ is. never_ok is) c.check_chain.ensures.looks
    (looks_past g.D.Device _ c.check_chain.new.pages _ _ c.record_of.ensures.only)

pub returns-clause-whole : goal.returns-clause-whole
returns-clause-whole g c = λ honest agrees.
    let looks = c.check_chain.ensures.looks in
    let same = pages_kept g.D.Device (c.check_chain.result ≡ Err Device) c.args.pages.now c.check_chain.new.pages
    c.args.device.now c.check_chain.new.device looks honest in
    let bytes = c.in_ok-whole.whole.items in
    whole_read (pages_on g.D.Device c.args.pages.now c.args.device.now) c.args.file.now.record_length _
    c.args.value.now bytes c.extend_from_slice.new.self.items c.args.seen.now c.check_chain.new.seen
    (c.in_ok-check_chain.ensures.chain honest agrees)
    (subst (λ (p : List (Option Sector)). IsRecordOf p c.read_u32-first.result bytes) same
    (c.in_ok-whole.ensures.bytes (looks.only.honest.0 honest) (looks.agrees honest agrees)))
    c.in_ok-whole.ensures.long c.read_u32-first.ensures
    (whole_made bytes c.args.value.now _ c.in_ok-extend_from_slice.ensures.items)
