use Rattle.unfinished_volume.proofs.Hiding.{hidden_now, hidden_moves, hidden_sync}
use Rattle.unfinished_volume.proofs.unfinished.UnfinishedVolumeDevice.sync.Goals as goal

pub invariant_of-self-clause-hidden : goal.invariant_of-self-clause-hidden
invariant_of-self-clause-hidden g c = λ honest.
    let d = g.D.Device in
    let old = c.args.self.now.device in
    let new = c.sync.new.self in
    let first = g.B.Beginning.history in
    let before = c.sync.ensures.honest.1 honest in
    let hidden = c.args.self.now.hidden before in
    hidden_moves first (d.history old) (d.state old) (d.history new) (d.state new) hidden (c.sync.ensures.moves before)
    (hidden_sync c.sync.result (d.state old) (d.state new)
    (hidden_now first (d.history old) (d.state old) hidden (g.met.D.Device.newest old before))
    (g.met.D.Device.possible old before) (c.sync.ensures.synced before) (c.sync.ensures.unsynced before))
