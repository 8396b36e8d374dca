use Rattle.std.proofs.Common.{rules, arith, ◌≡◌, ◌-ℤ◌, ap, FitsSigned}
use Rattle.std.specs.Int.{w64}
use Rattle.std.proofs.lemmas.Int.{ints}
use Rattle.decimal18.specs.Fraction.{Fraction}
use Rattle.decimal18.proofs.ShortArithmetic.{difference_short}
use Rattle.data_machine.proofs.short_arithmetic.short_difference.Goals as goal

pub returns-in-Some-checked_sub : goal.returns-in-Some-checked_sub
returns-in-Some-checked_sub c =
    let one = c.in-Some.one in
    let two = c.in-Some-aligned.other in
    let rest = c.in-Some-checked_sub.rest in
    let left : FitsSigned w64 one = search rules in
    let right : FitsSigned w64 two = search rules in
    let fits : FitsSigned w64 rest = search rules in
    let value : rest ≡ one -ℤ two = omega (arith, ints, c.in-Some-checked_sub.ensures.1) in
    let coefficient : c.new.result.coefficient ≡ rest =
    omega (arith, ints, ap (λ (x : Fraction). x.coefficient) c.new.ensures) in
    let scale : c.new.result.scale ≡ c.max-scale.result = ap (λ (x : Fraction). x.scale) c.new.ensures in
    difference_short c.args.left c.args.right c.new.result one two rest c.max-scale.result (omega arith) (omega arith)
    c.in-Some.ensures c.in-Some-aligned.ensures left right value fits coefficient scale
