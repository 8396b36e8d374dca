use Rattle.expressions.proofs.Exact.Laws.{Never, only}
use Rattle.data_division.specs.Stated.{stated_clauses, stated_reader}
use Rattle.data_division.proofs.Exact.Stated.{stated_sound, stated_complete}
use Rattle.data_division.proofs.laws.clauses_law.Goals as goal

pub returns-clause-spelled : goal.returns-clause-spelled
returns-clause-spelled c = stated_sound

pub returns-clause-only : goal.returns-clause-only
returns-clause-only c = only stated_clauses stated_reader (stated_complete {Allowed = Never})
