use Rattle.expressions.specs.Literals.{literal, literal_reader}
use Rattle.expressions.proofs.Exact.Literals.{literal_sound, literal_complete}
use Rattle.expressions.proofs.Exact.Laws.{Never, only}
use Rattle.expressions.proofs.laws.literal_law.Goals as goal

pub returns-clause-spelled : goal.returns-clause-spelled
returns-clause-spelled c = literal_sound

pub returns-clause-only : goal.returns-clause-only
returns-clause-only c = only literal literal_reader (literal_complete {Allowed = Never})
