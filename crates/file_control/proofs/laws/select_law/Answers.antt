use Rattle.expressions.proofs.Exact.Laws.{Never, only}
use Rattle.file_control.specs.Selects.{select, select_reader}
use Rattle.file_control.proofs.Exact.Selects.{select_sound, select_complete}
use Rattle.file_control.proofs.laws.select_law.Goals as goal

pub returns-clause-spelled : goal.returns-clause-spelled
returns-clause-spelled c = select_sound

pub returns-clause-only : goal.returns-clause-only
returns-clause-only c = only select select_reader (select_complete {Allowed = Never})
