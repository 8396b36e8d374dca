use Rattle.expressions.proofs.Exact.Laws.{Never, only}
use Rattle.data_division.specs.Entries.{entry}
use Rattle.data_division.specs.EntryReading.{entry_reader}
use Rattle.data_division.proofs.Exact.Entries.{entry_sound, entry_complete}
use Rattle.data_division.proofs.laws.entry_law.Goals as goal

pub returns-clause-spelled : goal.returns-clause-spelled
returns-clause-spelled c = entry_sound

pub returns-clause-only : goal.returns-clause-only
returns-clause-only c = only entry entry_reader (entry_complete {Allowed = Never})
