use Rattle.unfinished_volume.proofs.Hiding.{hidden_through, hidden_now}
use Rattle.unfinished_volume.proofs.unfinished.UnfinishedVolume.into_device.Goals as goal

pub returns-clause-moments : goal.returns-clause-moments
returns-clause-moments g c = λ honest.
    let d = g.D.Device in
    let device = c.args.self.device in
    hidden_through g.B.Beginning.history (d.history device) (d.state device) (c.args.self.hidden honest)
    (g.met.D.Device.newest device honest)

pub returns-clause-hidden : goal.returns-clause-hidden
returns-clause-hidden g c = λ honest.
    let d = g.D.Device in
    let device = c.args.self.device in
    hidden_now g.B.Beginning.history (d.history device) (d.state device) (c.args.self.hidden honest)
    (g.met.D.Device.newest device honest)
