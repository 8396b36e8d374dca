use Rattle.expressions.specs.References.{reference, reference_reader}
use Rattle.expressions.proofs.Exact.References.{reference_sound, reference_complete}
use Rattle.expressions.proofs.Exact.Laws.{Never, only}
use Rattle.expressions.proofs.laws.reference_law.Goals as goal

pub returns-clause-spelled : goal.returns-clause-spelled
returns-clause-spelled c = reference_sound

pub returns-clause-only : goal.returns-clause-only
returns-clause-only c = only reference reference_reader (reference_complete {Allowed = Never})
