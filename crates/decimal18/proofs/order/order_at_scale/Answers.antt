use Rattle.std.proofs.Common.{rules, arith, ◌∙◌, FitsSigned}
use Rattle.std.specs.Int.{w64, w128}
use Rattle.std.proofs.lemmas.Int.{to_z-of_z}
use Rattle.decimal18.proofs.Raised.{at_scale, compared}
use Rattle.decimal18.proofs.order.order_at_scale.Goals as goal

pub returns-in-Some-short_coefficient : goal.returns-in-Some-short_coefficient
returns-in-Some-short_coefficient c =
    let one : FitsSigned w64 c.in-Some.one = search rules in
    let two : FitsSigned w64 c.in-Some-short_coefficient.two = search rules in
    at_scale c.args.left c.args.right _ _ _ c.requires (to_z-of_z w64 _ one ∙ c.in-Some.ensures)
    (to_z-of_z w64 _ two ∙ c.in-Some-short_coefficient.ensures) c.cmp.ensures

pub returns : goal.returns
returns c =
    let left : FitsSigned w128 c.coefficient.result = search rules in
    let right : FitsSigned w128 c.coefficient-2.result = search rules in
    compared c.args.left c.args.right _ _ 0 _ (omega (arith, c.requires))
    (to_z-of_z w128 _ left ∙ c.coefficient.ensures.value) (to_z-of_z w128 _ right ∙ c.coefficient-2.ensures.value)
    (omega (arith, c.requires)) c.raised_order.ensures
