use Rattle.std.proofs.Common.{◌≡◌, ◌∙◌, List, ℕ, length, refl, ap, subst}
use Rattle.std.specs.Prelude.{Err, IfErr}
use Rattle.station.specs.Calls.{OnlyWrites}
use Rattle.station.proofs.Calls.{blamed_where, writes_nothing}
use Rattle.station.proofs.Spans.{stays}
use Rattle.records.specs.declared.fault.StoreFault.TheVariants.{Device, Full}
use Rattle.half_store.specs.Write.{IsCause, IsFull}
use Rattle.half_store.specs.Spelled.{files_bytes}
use Rattle.file_bytes.specs.Stored.{files_of}
use Rattle.file_bytes.specs.declared.stored.StoredFile.{StoredFile}
use Rattle.half_store.proofs.Passed.{passed, on_refused, never_ok, still_error, memory_only, memory_never_full}
use Rattle.half_store.proofs.Passed.{memory_cause}
use Rattle.half_store.proofs.Written.{at_rest}
use Rattle.half_store.proofs.store.HalfStore.write.Goals as goal

pub returns-in_err-bytes-clause-moments : goal.returns-in_err-bytes-clause-moments
returns-in_err-bytes-clause-moments g c = λ honest before rests are.
    let old = g.D.Device.state c.args.device.now in
    stays (g.D.Device.history c.args.device.now) old _
    (at_rest c.args.self.now.sectors c.args.self.now.generation before (files_of c.args.self.now.files.items) old rests)

pub returns-clause-rests : goal.returns-clause-rests
returns-clause-rests g c = λ honest before rests are.
    c.in_ok-write_half.ensures.rests honest before (files_of c.args.self.now.files.items) rests
    (c.in_ok-bytes.ensures.bytes ∙ ap (λ (l : List StoredFile). files_bytes (files_of l)) c.deref.ensures.value) are

pub returns-in_err-bytes-clause-only : goal.returns-in_err-bytes-clause-only
returns-in_err-bytes-clause-only g c =
    passed c.from_residual.result c.in_err-bytes.field-0.0 c.from_residual.ensures.1
    (λ r. OnlyWrites g.D.Device (r ≡ Err Device) c.args.device.now c.args.device.now)
    (blamed_where g.D.Device _ _ _ _ (λ is. memory_only _ c.in_err-bytes.ensures.memory is)
    (writes_nothing g.D.Device c.args.device.now))

pub returns-in_err-bytes-clause-cause : goal.returns-in_err-bytes-clause-cause
returns-in_err-bytes-clause-cause g c =
    passed c.from_residual.result c.in_err-bytes.field-0.0 c.from_residual.ensures.1 (λ r. IfErr r IsCause)
    (memory_cause _ c.in_err-bytes.ensures.memory)

pub returns-in_err-bytes-clause-full : goal.returns-in_err-bytes-clause-full
returns-in_err-bytes-clause-full g c =
    memory_never_full c.from_residual.result c.in_err-bytes.field-0.0 c.from_residual.ensures.1
    c.in_err-bytes.ensures.memory

pub returns-in_err-bytes-clause-unwritten : goal.returns-in_err-bytes-clause-unwritten
returns-in_err-bytes-clause-unwritten g c =
    λ is honest. refl

pub returns-in_err-bytes-clause-rests : goal.returns-in_err-bytes-clause-rests
returns-in_err-bytes-clause-rests g c =
    λ honest before rests are. on_refused c.from_residual.result c.in_err-bytes.field-0.0 c.from_residual.ensures.1 _

pub returns-in_err-write_half-clause-only : goal.returns-in_err-write_half-clause-only
returns-in_err-write_half-clause-only g c =
    passed c.from_residual-in_err-write_half.result c.in_err-write_half.field-0.0
    c.from_residual-in_err-write_half.ensures.1
    (λ r. OnlyWrites g.D.Device (r ≡ Err Device) c.args.device.now c.write_half.new.device)
    (blamed_where g.D.Device _ _ _ _ (λ is. still_error is) c.in_err-write_half.ensures.only)

pub returns-in_err-write_half-clause-cause : goal.returns-in_err-write_half-clause-cause
returns-in_err-write_half-clause-cause g c =
    passed c.from_residual-in_err-write_half.result c.in_err-write_half.field-0.0
    c.from_residual-in_err-write_half.ensures.1
    (λ r. IfErr r IsCause) c.in_err-write_half.ensures.cause

pub returns-in_err-write_half-clause-full : goal.returns-in_err-write_half-clause-full
returns-in_err-write_half-clause-full g c =
    passed c.from_residual-in_err-write_half.result c.in_err-write_half.field-0.0
    c.from_residual-in_err-write_half.ensures.1
    (λ r. r ≡ Err Full → IsFull c.args.self.now.sectors c.args.self.now.generation
    (length (files_bytes (files_of c.args.self.now.files.items))))
    (λ is. subst (λ (l : List ℕ). IsFull c.args.self.now.sectors c.args.self.now.generation (length l))
    (c.in_ok-bytes.ensures.bytes ∙ ap (λ (l : List StoredFile). files_bytes (files_of l)) c.deref.ensures.value)
    (c.in_err-write_half.ensures.full (still_error is)))

pub returns-in_err-write_half-clause-unwritten : goal.returns-in_err-write_half-clause-unwritten
returns-in_err-write_half-clause-unwritten g c =
    passed c.from_residual-in_err-write_half.result c.in_err-write_half.field-0.0
    c.from_residual-in_err-write_half.ensures.1
    (λ r. r ≡ Err Full → g.D.Device.is_honest c.args.device.now
    → g.D.Device.state c.write_half.new.device ≡ g.D.Device.state c.args.device.now)
    (λ is. c.in_err-write_half.ensures.unwritten (still_error is))

pub returns-in_err-write_half-clause-moments : goal.returns-in_err-write_half-clause-moments
returns-in_err-write_half-clause-moments g c =
    λ honest before rests are.
    c.write_half.ensures.moments honest before (files_of c.args.self.now.files.items) rests
    (c.in_ok-bytes.ensures.bytes ∙ ap (λ (l : List StoredFile). files_bytes (files_of l)) c.deref.ensures.value) are

pub returns-clause-moments : goal.returns-clause-moments
returns-clause-moments g c =
    λ honest before rests are.
    c.write_half.ensures.moments honest before (files_of c.args.self.now.files.items) rests
    (c.in_ok-bytes.ensures.bytes ∙ ap (λ (l : List StoredFile). files_bytes (files_of l)) c.deref.ensures.value) are

pub returns-in_err-write_half-clause-rests : goal.returns-in_err-write_half-clause-rests
returns-in_err-write_half-clause-rests g c =
    λ honest before rests are.
    on_refused c.from_residual-in_err-write_half.result c.in_err-write_half.field-0.0
    c.from_residual-in_err-write_half.ensures.1 _

pub returns-clause-only : goal.returns-clause-only
returns-clause-only g c =
    blamed_where g.D.Device _ _ _ _ (λ is. never_ok is) c.in_ok-write_half.ensures.only
