use Rattle.std.proofs.Common.{rules, arith, ◌≡◌, ◌+◌, ◌*ℤ◌, ap, FitsSigned}
use Rattle.std.specs.Int.{w64}
use Rattle.std.proofs.lemmas.Int.{ints, to_z-of_z}
use Rattle.decimal18.specs.Fraction.{Fraction}
use Rattle.decimal18.proofs.ShortArithmetic.{product_short}
use Rattle.decimal18.proofs.decimal.Dec.short_product.Goals as goal

pub returns-in-Some-checked_mul : goal.returns-in-Some-checked_mul
returns-in-Some-checked_mul c =
    let one = c.in-Some.left in
    let two = c.in-Some-short_coefficient.right in
    let times = c.in-Some-checked_mul.times in
    let left : FitsSigned w64 one = search rules in
    let right : FitsSigned w64 two = search rules in
    let fits : FitsSigned w64 times = search rules in
    let value : times ≡ one *ℤ two = simp to_z-of_z at c.in-Some-checked_mul.ensures.1 in
    let coefficient : c.short.result.coefficient ≡ times =
    omega (arith, ints, ap (λ (x : Fraction). x.coefficient) c.short.ensures) in
    let scale : c.short.result.scale ≡ c.scale.result + c.scale-2.result =
    ap (λ (x : Fraction). x.scale) c.short.ensures in
    product_short c.args.self c.args.other c.short.result one two times (c.scale.result + c.scale-2.result)
    (omega arith) (omega arith) c.in-Some.ensures c.in-Some-short_coefficient.ensures value fits coefficient scale
