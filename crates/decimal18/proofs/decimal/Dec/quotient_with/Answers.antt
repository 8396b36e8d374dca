use Rattle.std.proofs.Common.{arith, rules, ◌∙◌, ap, FitsSigned}
use Rattle.std.specs.Int.{w128}
use Rattle.std.proofs.lemmas.Int.{to_z-of_z}
use Rattle.std.proofs.lemmas.Grind.{common_steps}
use Rattle.decimal18.proofs.Quotients.{zeros_taken, number, quotient_made}
use Rattle.decimal18.proofs.decimal.Dec.quotient_with.Goals as goal

pub overflow_sub-zeros : goal.overflow_sub-zeros
overflow_sub-zeros c = omega (arith, zeros_taken c.args.self c.args.divisor c.args.scale c.requires.admitted)

pub new-requires-clause-coefficient : goal.new-requires-clause-coefficient
new-requires-clause-coefficient c = grind (arith, common_steps)

pub overflow_mul-dividend : goal.overflow_mul-dividend
overflow_mul-dividend c = grind (arith, common_steps)

pub with_sign-requires : goal.with_sign-requires
with_sign-requires c = grind (arith, common_steps)

pub returns : goal.returns
returns c =
    let value = c.with_sign.result in
    let fits : FitsSigned w128 value = search rules in
    c.new.ensures ∙ ap (number c.args.scale) (to_z-of_z w128 value fits)
    ∙ quotient_made c.args.self c.args.divisor c.args.scale c.magnitude.result _ c.power_of_ten.result
    c.magnitude-2.result _ c.is_negative.result c.is_negative-2.result value c.magnitude.ensures.value (omega arith)
    c.power_of_ten.ensures.value c.magnitude-2.ensures.value c.is_negative.ensures c.is_negative-2.ensures
    c.with_sign.ensures (search rules)
