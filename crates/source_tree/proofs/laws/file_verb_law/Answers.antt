use Rattle.source_tree.proofs.FileVerbs.{read_suits, start_suits}
use Rattle.source_tree.proofs.laws.file_verb_law.Goals as goal

pub returns-clause-read : goal.returns-clause-read
returns-clause-read c = read_suits

pub returns-clause-start : goal.returns-clause-start
returns-clause-start c = start_suits
