use Rattle.std.proofs.Common.{refl, inr}
use Rattle.station.proofs.Calls.{blamed_where, writes, syncs, writes_then}
use Rattle.station.proofs.Moments.{write_moments, write_sync_moments}
use Rattle.station.proofs.two_phase.write_through.Goals as goal

pub returns-in_err-write-clause-only : goal.returns-in_err-write-clause-only
returns-in_err-write-clause-only g c =
    blamed_where g.D.Device _ _ _ _ (λ _. refl)
    (writes g.D.Device _ _ _ _ _ c.write.ensures.honest c.write.ensures.sectors c.in_err-write.ensures.failures
    c.write.ensures.perhaps)

pub returns-in_err-write-clause-moments : goal.returns-in_err-write-clause-moments
returns-in_err-write-clause-moments g c = λ honest disk.
    write_moments (g.D.Device.history c.args.device.now) (g.D.Device.history c.write.new.self) _ _ c.args.sector
    c.args.bytes.now disk (c.write.ensures.perhaps honest) (c.write.ensures.moves honest)

pub returns-clause-only : goal.returns-clause-only
returns-clause-only g c =
    writes_then g.D.Device _ _ _ _ _ _ (λ failed. inr failed)
    (writes g.D.Device _ _ _ _ _ c.write.ensures.honest c.write.ensures.sectors c.write.ensures.failures
    c.write.ensures.perhaps)
    (syncs g.D.Device c.sync.result _ _ c.sync.ensures.honest c.sync.ensures.sectors c.sync.ensures.failures
    c.sync.ensures.synced c.sync.ensures.unsynced)

pub returns-clause-moments : goal.returns-clause-moments
returns-clause-moments g c = λ honest disk.
    let state = g.D.Device.state in
    let history = g.D.Device.history in
    let honest' = c.write.ensures.honest.0 honest in
    write_sync_moments c.sync.result (history c.args.device.now) (history c.write.new.self) (history c.sync.new.self)
    (state c.args.device.now) (state c.write.new.self) (state c.sync.new.self) c.args.sector c.args.bytes.now
    (c.sync.ensures.synced honest') (c.sync.ensures.unsynced honest') (c.sync.ensures.moves honest') disk
    (c.write.ensures.perhaps honest) (c.write.ensures.moves honest) (c.in_ok-write.ensures.wrote honest)
