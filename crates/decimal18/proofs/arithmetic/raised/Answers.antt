use Rattle.std.proofs.Common.{rules, arith, ◌≡◌, ◌<◌, ◌^◌, ◌*◌, unsigned_abs, ap, ◌∙◌, Some, FitsSigned}
use Rattle.std.specs.Int.{w128}
use Rattle.std.proofs.lemmas.Int.{to_z-of_z}
use Rattle.decimal18.specs.Fraction.{is_negative}
use Rattle.decimal18.proofs.Signs.{below_zero}
use Rattle.decimal18.proofs.Alignment.{product_below, raised_none, raised_some}
use Rattle.decimal18.proofs.arithmetic.raised.Goals as goal

pub returns-then-magnitude-power_of_ten : goal.returns-then-magnitude-power_of_ten
returns-then-magnitude-power_of_ten c =
    let size : c.unsigned_abs-magnitude.result ≡ unsigned_abs c.args.coefficient =
    c.unsigned_abs-magnitude.ensures.value ∙ ap unsigned_abs (to_z-of_z w128 c.args.coefficient c.ranges.coefficient) in
    raised_none c.args.coefficient c.unsigned_abs-magnitude.result c.args.shift c.power_of_ten.result (omega arith) size
    c.power_of_ten.ensures.value c.if-magnitude-power_of_ten.true

pub with_sign-requires : goal.with_sign-requires
with_sign-requires c =
    product_below c.unsigned_abs-magnitude.result c.args.shift c.power_of_ten.result c.power_of_ten-2.result
    (omega arith) c.power_of_ten.ensures.value c.power_of_ten-2.ensures.value c.if-magnitude-power_of_ten.false

pub overflow_mul-magnitude : goal.overflow_mul-magnitude
overflow_mul-magnitude c =
    let below : c.unsigned_abs-magnitude.result * c.power_of_ten-2.result < 10 ^ 38 =
    product_below c.unsigned_abs-magnitude.result c.args.shift c.power_of_ten.result c.power_of_ten-2.result
    (omega arith) c.power_of_ten.ensures.value c.power_of_ten-2.ensures.value c.if-magnitude-power_of_ten.false in
    search rules

pub returns : goal.returns
returns c =
    let plain = to_z-of_z w128 c.args.coefficient c.ranges.coefficient in
    let size : c.unsigned_abs-magnitude.result ≡ unsigned_abs c.args.coefficient =
    c.unsigned_abs-magnitude.ensures.value ∙ ap unsigned_abs plain in
    let fits : FitsSigned w128 c.with_sign.result = search rules in
    ap Some (to_z-of_z w128 c.with_sign.result fits)
    ∙ raised_some c.args.coefficient c.with_sign.result _ c.unsigned_abs-magnitude.result
    c.args.shift c.power_of_ten.result c.power_of_ten-2.result (omega arith) size c.power_of_ten.ensures.value
    c.power_of_ten-2.ensures.value c.if-magnitude-power_of_ten.false (below_zero _ ∙ ap is_negative plain)
    c.with_sign.ensures
