use Rattle.expressions.proofs.Exact.Laws.{Never, only}
use Rattle.file_control.specs.Selects.{input_output, input_output_reader}
use Rattle.file_control.proofs.Exact.Selects.{input_output_sound, input_output_complete}
use Rattle.file_control.proofs.laws.input_output_law.Goals as goal

pub returns-clause-spelled : goal.returns-clause-spelled
returns-clause-spelled c = input_output_sound

pub returns-clause-only : goal.returns-clause-only
returns-clause-only c = only input_output input_output_reader (input_output_complete {Allowed = Never})
