use Rattle.btree.proofs.Keyed.{value_with, key_with}
use Rattle.btree.proofs.laws.entry_of_key.Goals as goal

pub returns : goal.returns
returns c = λ entries key. (value_with entries key, key_with entries key)
