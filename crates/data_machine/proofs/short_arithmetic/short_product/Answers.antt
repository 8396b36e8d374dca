use Rattle.std.proofs.Common.{rules, arith, ◌≡◌, ◌+◌, ◌*ℤ◌, ap, FitsSigned}
use Rattle.std.specs.Int.{w64}
use Rattle.std.proofs.lemmas.Int.{ints, to_z-of_z}
use Rattle.decimal18.specs.Fraction.{Fraction}
use Rattle.decimal18.proofs.ShortArithmetic.{product_short}
use Rattle.data_machine.proofs.short_arithmetic.short_product.Goals as goal

pub returns-in-Some : goal.returns-in-Some
returns-in-Some c =
    let one = c.coefficient.result in
    let two = c.coefficient-2.result in
    let times = c.in-Some.times in
    let left : FitsSigned w64 one = search rules in
    let right : FitsSigned w64 two = search rules in
    let fits : FitsSigned w64 times = search rules in
    let value : times ≡ one *ℤ two = simp to_z-of_z at c.in-Some.ensures.1 in
    let coefficient : c.new.result.coefficient ≡ times =
    omega (arith, ints, ap (λ (x : Fraction). x.coefficient) c.new.ensures) in
    let scale : c.new.result.scale ≡ c.scale.result + c.scale-2.result = ap (λ (x : Fraction). x.scale) c.new.ensures in
    product_short c.args.left c.args.right c.new.result one two times (c.scale.result + c.scale-2.result) (omega arith)
    (omega arith) c.coefficient.ensures c.coefficient-2.ensures value fits coefficient scale
