use Rattle.std.proofs.Common.{◌∙◌, inr, sym, ap, subst}
use Rattle.std.specs.Prelude.{slice_set}
use Rattle.station.specs.Disk.{Disk, idle_disk, IsCrashImage}
use Rattle.station.proofs.Spans.{weakens}
use Rattle.station.proofs.Crash.{settled_image}
use Rattle.station.proofs.Calls.{writes_then}
use Rattle.station.proofs.TwoPhase.{early, on_ok}
use Rattle.station.proofs.Moments.{two_phase_moments}
use Rattle.station.proofs.two_phase.two_phase_write.Goals as goal

pub returns-in_err-write_blocks_through-clause-moments : goal.returns-in_err-write_blocks_through-clause-moments
returns-in_err-write_blocks_through-clause-moments g c = λ honest disk.
    let old = g.D.Device.state c.args.device.now in
    weakens _ _ _ _ _ (early old.events old.disk.present c.args.blocks.now c.args.root c.args.bytes.now)
    (c.write_blocks_through.ensures.moments honest disk)

pub returns-clause-durable : goal.returns-clause-durable
returns-clause-durable g c = λ honest.
    let there = c.in_ok-write_blocks_through.ensures.durable honest in
    on_ok c.write_through.result
    (λ is. is ∙ ap (λ (d : Disk). idle_disk (slice_set d.present c.args.root c.args.bytes.now)) there)
    (c.write_through.ensures.durable (c.write_blocks_through.ensures.only.honest.0 honest))

pub returns-clause-only : goal.returns-clause-only
returns-clause-only g c = writes_then g.D.Device _ _ _ _ _ _ (λ failed. inr failed) c.write_blocks_through.ensures.only
    c.write_through.ensures.only

pub returns-clause-moments : goal.returns-clause-moments
returns-clause-moments g c = λ honest disk.
    let state = g.D.Device.state in
    let history = g.D.Device.history in
    let there = c.in_ok-write_blocks_through.ensures.durable honest in
    let honest' = c.write_blocks_through.ensures.only.honest.0 honest in
    two_phase_moments (history c.args.device.now) (history c.write_blocks_through.new.device)
    (history c.write_through.new.device) (state c.args.device.now) (state c.write_blocks_through.new.device)
    (state c.write_through.new.device) c.args.blocks.now c.args.root c.args.bytes.now
    (c.write_blocks_through.ensures.only.console honest).events (ap (λ (d : Disk). d.present) there)
    (c.write_blocks_through.ensures.moments honest disk)
    (c.write_through.ensures.moments honest' (there ∙ sym (ap (λ (d : Disk). idle_disk d.present) there)))

pub returns-clause-new : goal.returns-clause-new
returns-clause-new g c = λ honest.
    on_ok c.write_through.result (λ disk image crash.
    settled_image _ image (subst (λ (d : Disk). IsCrashImage d image) disk crash)) (returns-clause-durable g c honest)
