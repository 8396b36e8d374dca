use Rattle.station.proofs.Spans.{tells}
use Rattle.machine.proofs.show.show.Goals as goal

pub returns-in_err-show-clause-moments : goal.returns-in_err-show-clause-moments
returns-in_err-show-clause-moments g c =
    λ honest. tells _ (g.S.Device.state c.args.station.now) c.args.bytes.now _ _ (c.show.ensures.cut honest)

pub returns-clause-moments : goal.returns-clause-moments
returns-clause-moments g c =
    λ honest. tells _ (g.S.Device.state c.args.station.now) c.args.bytes.now _ _ (c.show.ensures.cut honest)
