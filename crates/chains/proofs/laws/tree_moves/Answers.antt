use Rattle.chains.proofs.Rows as lemmas
use Rattle.chains.proofs.laws.tree_moves.Goals as goal

pub returns : goal.returns
returns c = lemmas.tree_moves
