use Rattle.unfinished_volume.proofs.Hiding.{hidden_from}
use Rattle.unfinished_volume.proofs.unfinished.UnfinishedVolume.new.Goals as goal

pub invariant_of-result-clause-hidden : goal.invariant_of-result-clause-hidden
invariant_of-result-clause-hidden g c = λ honest.
    let d = g.D.Device in
    hidden_from g.B.Beginning.history (d.history c.args.device) (d.state c.args.device) c.requires.history
    (g.met.D.Device.newest c.args.device honest) (c.requires.hidden honest)
