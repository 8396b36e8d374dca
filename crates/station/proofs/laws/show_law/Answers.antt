use Rattle.station.proofs.Spans.{told_begins}
use Rattle.station.proofs.laws.show_law.Goals as goal

pub returns : goal.returns
returns r = record { shown = told_begins }
