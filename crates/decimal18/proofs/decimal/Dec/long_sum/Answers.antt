use Rattle.std.proofs.Common.{rules, arith, ◌≡◌, ◌+ℤ◌, FitsSigned}
use Rattle.std.specs.Int.{w128}
use Rattle.std.proofs.lemmas.Int.{to_z-of_z}
use Rattle.decimal18.specs.Arithmetic.{intermediate, sum}
use Rattle.decimal18.proofs.SumLaws.{sum_of_aligned}
use Rattle.std.proofs.lemmas.Grind.{common_steps}
use Rattle.decimal18.proofs.decimal.Dec.long_sum.Goals as goal

pub returns : goal.returns
returns c =
    let one = c.in-Some.left in
    let two = c.in-Some-aligned.right in
    let left : FitsSigned w128 one = search rules in
    let right : FitsSigned w128 two = search rules in
    let total : c.total.result ≡ intermediate (one +ℤ two) c.max-scale.result = simp to_z-of_z at c.total.ensures in
    sum_of_aligned c.args.self c.args.other one two c.max-scale.result c.total.result (omega arith) c.in-Some.ensures
    c.in-Some-aligned.ensures total

pub returns-in_default-aligned : goal.returns-in_default-aligned
unfolding sum
returns-in_default-aligned c = grind (arith, common_steps)

pub returns-in_default : goal.returns-in_default
unfolding sum
returns-in_default c = grind (arith, common_steps)
