use Rattle.std.specs.Prelude.{IsTrue}
use Rattle.station.specs.State.{State}
use Rattle.station.proofs.Spans.{then, weaker, arrives}
use Rattle.station.proofs.laws.moment_laws.Goals as goal

pub returns-clause-composes : goal.returns-clause-composes
returns-clause-composes r = λ a b c p. then a b c (λ (s : State). IsTrue (p s))

pub returns-clause-weakens : goal.returns-clause-weakens
returns-clause-weakens r = λ a b p q. weaker a b (λ (s : State). IsTrue (p s)) (λ (s : State). IsTrue (q s))

pub returns-clause-arrives : goal.returns-clause-arrives
returns-clause-arrives r = λ a b old new p. arrives a b old new (λ (s : State). IsTrue (p s))
