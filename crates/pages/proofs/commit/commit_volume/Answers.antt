use Rattle.std.proofs.Common.{true, ◌<◌, ℕ, List, refl, sym, ◌∙◌, ap, subst, arith}
use Rattle.station.specs.Blocks.{SectorsAre}
use Rattle.station.specs.declared.blocks.Block.{Block}
use Rattle.pages.specs.Layout.{version_of}
use Rattle.pages.specs.Plan.{IsPlan}
use Rattle.pages.specs.Changes.{next_map}
use Rattle.pages.specs.Use.{use_after}
use Rattle.pages.specs.Image.{map_of}
use Rattle.pages.specs.Volumes.{volume_of}
use Rattle.pages.proofs.Committed.{stays_at_rest, amid_through, now_committed, now_is_as}
use Rattle.pages.proofs.Stages.{sound_marked}
use Rattle.std.proofs.Common.{◌≡◌, inl, inr}
use Rattle.std.specs.Prelude.{Err}
use Rattle.station.specs.Failures.{Blames}
use Rattle.pages.specs.Commits.{DoesNothing, IsRefusalForRoom}
use Rattle.pages.specs.Errors.{IsCommitError}
use Rattle.pages.specs.Needed.{LacksSectors}
use Rattle.pages.specs.declared.error.PagesError.TheVariants.{Device, Full}
use Rattle.pages.proofs.Passing.{passed, never_ok, still_error, on_refused, blames_where, plan_not_device}
use Rattle.pages.proofs.Passing.{plan_for_room, device_not_full}
use Rattle.pages.proofs.commit.commit_volume.Goals as goal

pub two_phase_write-requires-clause-blocks : goal.two_phase_write-requires-clause-blocks
two_phase_write-requires-clause-blocks g c =
    subst (SectorsAre (λ (s : ℕ). s < g.D.Device.sectors c.args.device.now)) (sym c.deref.ensures.value)
    (λ k d lt. omega (arith, (c.in_ok-draft.ensures.plan.free k d lt).low, c.requires.sectors))

pub two_phase_write-requires-clause-root : goal.two_phase_write-requires-clause-root
two_phase_write-requires-clause-root g c = omega (arith, c.requires.sectors, c.requires.sound.least)

pub returns-in_err-draft-clause-moments : goal.returns-in_err-draft-clause-moments
returns-in_err-draft-clause-moments g c = λ honest rests.
    let old = g.D.Device.state c.args.device.now in
    stays_at_rest (g.D.Device.history c.args.device.now) old (volume_of c.args.volume.now)
    (next_map (map_of old.disk.present (volume_of c.args.volume.now)) c.args.changes.now
    (version_of c.args.mark) c.args.catalog) rests

pub returns-in_err-two_phase_write-clause-moments : goal.returns-in_err-two_phase_write-clause-moments
returns-in_err-two_phase_write-clause-moments g c = λ honest rests.
    let old = g.D.Device.state c.args.device.now in
    let v = volume_of c.args.volume.now in
    let w = volume_of c.next_volume.new.volume in
    let plan : IsPlan v w c.deref.result.now c.args.changes.now = subst
    (λ (b : List Block). IsPlan v w b c.args.changes.now) (sym c.deref.ensures.value) c.in_ok-draft.ensures.plan in
    amid_through v w old.disk.present c.deref.result.now c.args.changes.now c.root_bytes_of-bytes.result rests.reads
    plan c.root_bytes_of-bytes.ensures (version_of c.args.mark) c.args.catalog c.in_ok-draft.ensures.next.mark
    c.in_ok-draft.ensures.next.catalog (g.D.Device.history c.args.device.now)
    (g.D.Device.history c.two_phase_write.new.device) (g.D.Device.state c.two_phase_write.new.device) old.events
    (c.two_phase_write.ensures.moments honest rests.settled)

pub returns-clause-moments : goal.returns-clause-moments
returns-clause-moments g c = λ honest rests.
    let old = g.D.Device.state c.args.device.now in
    let v = volume_of c.args.volume.now in
    let w = volume_of c.next_volume.new.volume in
    let plan : IsPlan v w c.deref.result.now c.args.changes.now = subst
    (λ (b : List Block). IsPlan v w b c.args.changes.now) (sym c.deref.ensures.value) c.in_ok-draft.ensures.plan in
    amid_through v w old.disk.present c.deref.result.now c.args.changes.now c.root_bytes_of-bytes.result rests.reads
    plan c.root_bytes_of-bytes.ensures (version_of c.args.mark) c.args.catalog c.in_ok-draft.ensures.next.mark
    c.in_ok-draft.ensures.next.catalog (g.D.Device.history c.args.device.now)
    (g.D.Device.history c.two_phase_write.new.device) (g.D.Device.state c.two_phase_write.new.device) old.events
    (c.two_phase_write.ensures.moments honest rests.settled)

pub returns-clause-committed : goal.returns-clause-committed
returns-clause-committed g c = λ honest rests.
    let old = g.D.Device.state c.args.device.now in
    let v = volume_of c.args.volume.now in
    let w = volume_of c.next_volume.new.volume in
    let plan : IsPlan v w c.deref.result.now c.args.changes.now = subst
    (λ (b : List Block). IsPlan v w b c.args.changes.now) (sym c.deref.ensures.value) c.in_ok-draft.ensures.plan in
    now_committed v w old.disk.present c.deref.result.now c.args.changes.now c.root_bytes_of-bytes.result
    rests.reads plan c.root_bytes_of-bytes.ensures (g.D.Device.state c.two_phase_write.new.device).disk
    (c.in_ok-two_phase_write.ensures.durable honest)

pub returns-clause-map : goal.returns-clause-map
returns-clause-map g c = λ honest rests.
    let old = g.D.Device.state c.args.device.now in
    let v = volume_of c.args.volume.now in
    let w = volume_of c.next_volume.new.volume in
    let plan : IsPlan v w c.deref.result.now c.args.changes.now = subst
    (λ (b : List Block). IsPlan v w b c.args.changes.now) (sym c.deref.ensures.value) c.in_ok-draft.ensures.plan in
    now_is_as v w old.disk.present c.deref.result.now c.args.changes.now c.root_bytes_of-bytes.result rests.reads
    plan c.root_bytes_of-bytes.ensures (version_of c.args.mark) c.args.catalog c.in_ok-draft.ensures.next.mark
    c.in_ok-draft.ensures.next.catalog
    (g.D.Device.state c.two_phase_write.new.device).disk (c.in_ok-two_phase_write.ensures.durable honest)

pub returns-clause-sound : goal.returns-clause-sound
returns-clause-sound g c = sound_marked c.next_volume.new.volume _ c.in_ok-draft.draft.turns.items
    c.in_ok-draft.ensures.sound refl refl refl refl
    (c.mark_turns.ensures.used ∙ ap (use_after c.next_volume.new.volume.used) c.deref-2.ensures.value)
    c.mark_turns.ensures.free

pub returns-in_err-draft-clause-honest : goal.returns-in_err-draft-clause-honest
returns-in_err-draft-clause-honest g c = (λ h. h, λ h. h)

pub returns-in_err-draft-clause-failures : goal.returns-in_err-draft-clause-failures
returns-in_err-draft-clause-failures g c =
    passed c.from_residual.result c.in_err-draft.field-0.0 c.from_residual.ensures.1
    (λ r. Blames (r ≡ Err Device) (g.D.Device.failures c.args.device.now) (g.D.Device.failures c.args.device.now))
    (record {
      no_fewer = omega arith;
      failed = λ is. plan_not_device c.in_err-draft.field-0.0 c.in_err-draft.ensures.cause is;
    })

pub returns-in_err-draft-clause-cause : goal.returns-in_err-draft-clause-cause
returns-in_err-draft-clause-cause g c =
    passed c.from_residual.result c.in_err-draft.field-0.0 c.from_residual.ensures.1 (λ r. IsCommitError r)
    (inr c.in_err-draft.ensures.cause)

pub returns-in_err-draft-clause-console : goal.returns-in_err-draft-clause-console
returns-in_err-draft-clause-console g c = λ honest. record { events = refl; lines = refl }

pub returns-in_err-draft-clause-committed : goal.returns-in_err-draft-clause-committed
returns-in_err-draft-clause-committed g c = λ honest rests.
    on_refused c.from_residual.result c.in_err-draft.field-0.0 c.from_residual.ensures.1 _

pub returns-in_err-draft-clause-map : goal.returns-in_err-draft-clause-map
returns-in_err-draft-clause-map g c = λ honest rests.
    on_refused c.from_residual.result c.in_err-draft.field-0.0 c.from_residual.ensures.1 _

pub returns-in_err-draft-clause-sound : goal.returns-in_err-draft-clause-sound
returns-in_err-draft-clause-sound g c =
    on_refused c.from_residual.result c.in_err-draft.field-0.0 c.from_residual.ensures.1 _

pub returns-in_err-draft-clause-next : goal.returns-in_err-draft-clause-next
returns-in_err-draft-clause-next g c =
    on_refused c.from_residual.result c.in_err-draft.field-0.0 c.from_residual.ensures.1 _

pub returns-in_err-draft-clause-short : goal.returns-in_err-draft-clause-short
returns-in_err-draft-clause-short g c =
    passed c.from_residual.result c.in_err-draft.field-0.0 c.from_residual.ensures.1
    (λ r. r ≡ Err Full → LacksSectors (volume_of c.args.volume.now) c.args.changes.now)
    (λ is. c.in_err-draft.ensures.full (still_error is))

pub returns-in_err-draft-clause-told : goal.returns-in_err-draft-clause-told
returns-in_err-draft-clause-told g c = λ lacks.
    passed c.from_residual.result c.in_err-draft.field-0.0 c.from_residual.ensures.1 (λ r. IsRefusalForRoom r)
    (plan_for_room c.in_err-draft.field-0.0 c.in_err-draft.ensures.cause)

pub returns-in_err-draft-clause-full : goal.returns-in_err-draft-clause-full
returns-in_err-draft-clause-full g c = λ is honest. (refl, refl)

pub returns-in_err-two_phase_write-clause-failures : goal.returns-in_err-two_phase_write-clause-failures
returns-in_err-two_phase_write-clause-failures g c =
    passed c.from_residual-in_err-two_phase_write.result Device c.from_residual-in_err-two_phase_write.ensures.1
    (λ r. Blames (r ≡ Err Device) (g.D.Device.failures c.args.device.now)
    (g.D.Device.failures c.two_phase_write.new.device))
    (blames_where _ _ _ _ (λ _. refl {a = true}) c.in_err-two_phase_write.ensures.only.failures)

pub returns-in_err-two_phase_write-clause-cause : goal.returns-in_err-two_phase_write-clause-cause
returns-in_err-two_phase_write-clause-cause g c =
    passed c.from_residual-in_err-two_phase_write.result Device c.from_residual-in_err-two_phase_write.ensures.1
    (λ r. IsCommitError r) (inl refl)

pub returns-in_err-two_phase_write-clause-committed : goal.returns-in_err-two_phase_write-clause-committed
returns-in_err-two_phase_write-clause-committed g c = λ honest rests.
    on_refused c.from_residual-in_err-two_phase_write.result Device c.from_residual-in_err-two_phase_write.ensures.1 _

pub returns-in_err-two_phase_write-clause-map : goal.returns-in_err-two_phase_write-clause-map
returns-in_err-two_phase_write-clause-map g c = λ honest rests.
    on_refused c.from_residual-in_err-two_phase_write.result Device c.from_residual-in_err-two_phase_write.ensures.1 _

pub returns-in_err-two_phase_write-clause-sound : goal.returns-in_err-two_phase_write-clause-sound
returns-in_err-two_phase_write-clause-sound g c =
    on_refused c.from_residual-in_err-two_phase_write.result Device c.from_residual-in_err-two_phase_write.ensures.1 _

pub returns-in_err-two_phase_write-clause-next : goal.returns-in_err-two_phase_write-clause-next
returns-in_err-two_phase_write-clause-next g c =
    on_refused c.from_residual-in_err-two_phase_write.result Device c.from_residual-in_err-two_phase_write.ensures.1 _

pub returns-in_err-two_phase_write-clause-short : goal.returns-in_err-two_phase_write-clause-short
returns-in_err-two_phase_write-clause-short g c =
    passed c.from_residual-in_err-two_phase_write.result Device c.from_residual-in_err-two_phase_write.ensures.1
    (λ r. r ≡ Err Full → LacksSectors (volume_of c.args.volume.now) c.args.changes.now) (λ is. device_not_full is)

pub returns-in_err-two_phase_write-clause-told : goal.returns-in_err-two_phase_write-clause-told
returns-in_err-two_phase_write-clause-told g c = λ lacks. absurd (c.in_ok-draft.ensures.room lacks)

pub returns-in_err-two_phase_write-clause-full : goal.returns-in_err-two_phase_write-clause-full
returns-in_err-two_phase_write-clause-full g c =
    passed c.from_residual-in_err-two_phase_write.result Device c.from_residual-in_err-two_phase_write.ensures.1
    (λ r. r ≡ Err Full → DoesNothing g.D.Device c.args.device.now c.two_phase_write.new.device)
    (λ is. device_not_full is)

pub returns-clause-failures : goal.returns-clause-failures
returns-clause-failures g c = blames_where _ _ _ _ (λ is. never_ok is) c.in_ok-two_phase_write.ensures.only.failures

pub returns-clause-short : goal.returns-clause-short
returns-clause-short g c = λ is. never_ok is

pub returns-clause-told : goal.returns-clause-told
returns-clause-told g c = λ lacks. absurd (c.in_ok-draft.ensures.room lacks)

pub returns-clause-full : goal.returns-clause-full
returns-clause-full g c = λ is. never_ok is
