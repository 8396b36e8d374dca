use Rattle.conditions.specs.Evaluate.{object, object_reader}
use Rattle.conditions.proofs.Exact.Conditions.{to_depth}
use Rattle.conditions.proofs.Exact.Evaluate.{object_sound, object_complete}
use Rattle.conditions.proofs.Exact.Named.{no_names}
use Rattle.conditions.proofs.laws.object_law.Goals as goal

pub returns-clause-spelled : goal.returns-clause-spelled
returns-clause-spelled c = object_sound

pub returns-clause-only : goal.returns-clause-only
returns-clause-only c = to_depth object object_reader object_complete

pub returns-clause-names : goal.returns-clause-names
returns-clause-names c = no_names
