use Rattle.std.proofs.Common.{rules, arith, ◌≡◌, ◌+ℤ◌, ap, FitsSigned}
use Rattle.std.specs.Int.{w64}
use Rattle.std.proofs.lemmas.Int.{ints}
use Rattle.decimal18.specs.Fraction.{Fraction}
use Rattle.decimal18.proofs.ShortArithmetic.{sum_short}
use Rattle.data_machine.proofs.short_arithmetic.short_sum.Goals as goal

pub returns-in-Some-checked_add : goal.returns-in-Some-checked_add
returns-in-Some-checked_add c =
    let one = c.in-Some.one in
    let two = c.in-Some-aligned.other in
    let total = c.in-Some-checked_add.total in
    let left : FitsSigned w64 one = search rules in
    let right : FitsSigned w64 two = search rules in
    let fits : FitsSigned w64 total = search rules in
    let value : total ≡ one +ℤ two = omega (arith, ints, c.in-Some-checked_add.ensures.1) in
    let coefficient : c.new.result.coefficient ≡ total =
    omega (arith, ints, ap (λ (x : Fraction). x.coefficient) c.new.ensures) in
    let scale : c.new.result.scale ≡ c.max-scale.result = ap (λ (x : Fraction). x.scale) c.new.ensures in
    sum_short c.args.left c.args.right c.new.result one two total c.max-scale.result (omega arith) (omega arith)
    c.in-Some.ensures c.in-Some-aligned.ensures left right value fits coefficient scale
