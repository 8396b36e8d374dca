use Rattle.std.proofs.Common.{inr, ap}
use Rattle.station.specs.State.{State}
use Rattle.station.specs.Blocks.{IsWriting}
use Rattle.station.proofs.Spans.{weakens}
use Rattle.station.proofs.Calls.{syncs, writes_then}
use Rattle.station.proofs.TwoPhase.{same_outside, synced_disk, on_ok}
use Rattle.station.proofs.Moments.{blocks_sync_moments}
use Rattle.station.proofs.two_phase.write_blocks_through.Goals as goal

pub returns-in_err-write_blocks-clause-moments : goal.returns-in_err-write_blocks-clause-moments
returns-in_err-write_blocks-clause-moments g c = λ honest disk.
    let old = g.D.Device.state c.args.device.now in
    weakens _ _ _ (IsWriting old.events old.disk.present c.args.blocks.now) _
    (same_outside old.events old.disk.present c.args.blocks.now) (c.write_blocks.ensures.moments honest disk)

pub returns-clause-durable : goal.returns-clause-durable
returns-clause-durable g c = λ honest.
    let state = g.D.Device.state in
    on_ok c.sync.result (λ is. synced_disk (state c.args.device.now) (state c.write_blocks.new.device)
    (state c.sync.new.self) c.args.blocks.now (c.in_ok-write_blocks.ensures.wrote honest)
    (ap (λ (s : State). s.disk) is)) (c.sync.ensures.synced (c.write_blocks.ensures.only.honest.0 honest))

pub returns-clause-only : goal.returns-clause-only
returns-clause-only g c =
    writes_then g.D.Device _ _ _ _ _ _ (λ failed. inr failed) c.write_blocks.ensures.only
    (syncs g.D.Device c.sync.result _ _ c.sync.ensures.honest c.sync.ensures.sectors c.sync.ensures.failures
    c.sync.ensures.synced c.sync.ensures.unsynced)

pub returns-clause-moments : goal.returns-clause-moments
returns-clause-moments g c = λ honest disk.
    let state = g.D.Device.state in
    let history = g.D.Device.history in
    let honest' = c.write_blocks.ensures.only.honest.0 honest in
    blocks_sync_moments c.sync.result (history c.args.device.now) (history c.write_blocks.new.device)
    (history c.sync.new.self) (state c.args.device.now) (state c.write_blocks.new.device) (state c.sync.new.self)
    c.args.blocks.now (c.sync.ensures.synced honest') (c.sync.ensures.unsynced honest') (c.sync.ensures.moves honest')
    (c.write_blocks.ensures.moments honest disk) (c.in_ok-write_blocks.ensures.wrote honest)
