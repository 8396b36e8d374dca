use Rattle.std.proofs.Common.{rules, arith, ◌∙◌, FitsSigned}
use Rattle.std.specs.Int.{w64, w128}
use Rattle.std.proofs.lemmas.Int.{to_z-of_z}
use Rattle.decimal18.proofs.Raised.{compared}
use Rattle.decimal18.proofs.order.order_of.Goals as goal

pub returns : goal.returns
returns c =
    let left : FitsSigned w128 c.coefficient.result = search rules in
    let right : FitsSigned w128 c.coefficient-2.result = search rules in
    compared c.args.left c.args.right _ _ _ _ (omega arith) (to_z-of_z w128 _ left ∙ c.coefficient.ensures.value)
    (to_z-of_z w128 _ right ∙ c.coefficient-2.ensures.value) (omega arith) c.raised_order.ensures

pub returns-in-Some-short_coefficient : goal.returns-in-Some-short_coefficient
returns-in-Some-short_coefficient c =
    let one : FitsSigned w64 c.in-Some.one = search rules in
    let two : FitsSigned w64 c.in-Some-short_coefficient.two = search rules in
    compared c.args.left c.args.right _ _ _ _ (omega arith) (to_z-of_z w64 _ one ∙ c.in-Some.ensures)
    (to_z-of_z w64 _ two ∙ c.in-Some-short_coefficient.ensures) (omega arith) c.short_raised_order.ensures
