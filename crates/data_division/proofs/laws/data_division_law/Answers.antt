use Rattle.expressions.proofs.Exact.Laws.{Never, only}
use Rattle.data_division.specs.Division.{data_division, data_division_reader}
use Rattle.data_division.proofs.Exact.Division.{data_division_sound, data_division_complete}
use Rattle.data_division.proofs.laws.data_division_law.Goals as goal

pub returns-clause-spelled : goal.returns-clause-spelled
returns-clause-spelled c = data_division_sound

pub returns-clause-only : goal.returns-clause-only
returns-clause-only c = only data_division data_division_reader (data_division_complete {Allowed = Never})
