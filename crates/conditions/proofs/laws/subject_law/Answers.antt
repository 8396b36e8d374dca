use Rattle.conditions.specs.Evaluate.{subject, subject_reader}
use Rattle.conditions.proofs.Exact.Conditions.{to_depth}
use Rattle.conditions.proofs.Exact.Evaluate.{subject_sound, subject_complete}
use Rattle.conditions.proofs.Exact.Named.{names_are_values}
use Rattle.conditions.proofs.laws.subject_law.Goals as goal

pub returns-clause-spelled : goal.returns-clause-spelled
returns-clause-spelled c = subject_sound

pub returns-clause-only : goal.returns-clause-only
returns-clause-only c = to_depth subject subject_reader subject_complete

pub returns-clause-names : goal.returns-clause-names
returns-clause-names c = names_are_values
