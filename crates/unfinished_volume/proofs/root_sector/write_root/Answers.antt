use Rattle.station.proofs.Opens.{opens}
use Rattle.unfinished_volume.proofs.RootMoments.{root_moments, settled_after}
use Rattle.unfinished_volume.proofs.root_sector.write_root.Goals as goal

pub returns-clause-moments : goal.returns-clause-moments
returns-clause-moments g c = λ honest.
    let state = g.D.Device.state in
    let old = state c.args.device.now in
    let mid = state c.sync.new.self in
    let possible = g.met.D.Device.possible c.args.device.now honest in
    let synced = c.in_ok-sync.ensures.synced honest in
    root_moments _ _ _ old mid (state c.write_through.new.device) c.args.bytes.now synced possible
    (opens _ _ old mid c.sync.result possible (c.sync.ensures.moves honest) (c.sync.ensures.synced honest)
    (c.sync.ensures.unsynced honest))
    (c.write_through.ensures.moments (c.sync.ensures.honest.0 honest) (settled_after old mid synced))
