use Rattle.source_tree.proofs.Measures.{entry_is, no_entry}
use Rattle.source_tree.proofs.laws.measured_entry_law.Goals as goal

pub returns : goal.returns
returns c = record { within = entry_is; without = no_entry }
