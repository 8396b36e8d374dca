use Rattle.btree.proofs.Levels.{all_ascend}
use Rattle.btree.proofs.laws.levels_ascend.Goals as goal

pub returns : goal.returns
returns c = λ layout pages root levels tree. all_ascend layout pages levels tree.joined tree.ascend
