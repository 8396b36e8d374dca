use Rattle.std.proofs.Common.{pos, ◌*ℤ◌, ◌^◌}
use Rattle.std.specs.Cmp.{int_ranks}
use Rattle.std.proofs.lemmas.Bool.Decides.{Decides-int_eq}
use Rattle.decimal18.specs.Order.{order}
use Rattle.decimal18.proofs.laws.values.Goals as goal

pub returns : goal.returns
unfolding order
returns c = record {
  order = λ x y. int_ranks (x.coefficient *ℤ pos (10 ^ y.scale)) (y.coefficient *ℤ pos (10 ^ x.scale));
  equal = λ x y. Decides-int_eq (x.coefficient *ℤ pos (10 ^ y.scale)) (y.coefficient *ℤ pos (10 ^ x.scale));
}
