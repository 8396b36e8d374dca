use Rattle.std.proofs.Common.{arith, ◌≡◌, ◌+◌, ◌-◌, ◌≤◌, true}
use Rattle.decimal18.specs.Quotient.{admits}
use Rattle.decimal18.proofs.QuotientScales.{scale_found, scale_admitted, no_scale, most_admitted, most_found}
use Rattle.decimal18.proofs.decimal.Dec.quotient_scale.Goals as goal

pub returns-then-most-scale-clause-value : goal.returns-then-most-scale-clause-value
returns-then-most-scale-clause-value c =
    let dividend : c.args.self.scale ≤ 18 = omega arith in
    let divisor : c.args.divisor.scale ≤ 18 = omega arith in
    no_scale c.args.self c.args.divisor c.magnitude-magnitude.result c.digit_count.result
    (38 - c.digit_count.result + c.scale.result) dividend divisor c.magnitude-magnitude.ensures.value
    c.digit_count.ensures.below c.digit_count.ensures.least c.digit_count.ensures.most (omega arith) (omega arith)

pub returns-clause-value : goal.returns-clause-value
returns-clause-value c =
    let dividend : c.args.self.scale ≤ 18 = omega arith in
    let divisor : c.args.divisor.scale ≤ 18 = omega arith in
    scale_found c.args.self c.args.divisor c.magnitude-magnitude.result c.digit_count.result (38 - c.digit_count.result
    + c.scale.result) c.min.result dividend divisor c.magnitude-magnitude.ensures.value c.digit_count.ensures.below
    c.digit_count.ensures.least c.digit_count.ensures.most (omega arith) (omega arith) (omega arith)

pub returns-clause-admitted : goal.returns-clause-admitted
returns-clause-admitted c =
    let dividend : c.args.self.scale ≤ 18 = omega arith in
    let divisor : c.args.divisor.scale ≤ 18 = omega arith in (
      omega arith,
      scale_admitted c.args.self c.args.divisor c.magnitude-magnitude.result c.digit_count.result
          (38 - c.digit_count.result + c.scale.result) c.min.result dividend divisor c.magnitude-magnitude.ensures.value
          c.digit_count.ensures.below c.digit_count.ensures.most (omega arith) (omega arith) (omega arith),
    )

pub returns-then-magnitude-power_of_ten-clause-admitted : goal.returns-then-magnitude-power_of_ten-clause-admitted
returns-then-magnitude-power_of_ten-clause-admitted c =
    let dividend : c.args.self.scale ≤ 18 = omega arith in
    let divisor : c.args.divisor.scale ≤ 18 = omega arith in (
      omega arith,
      most_admitted c.args.self c.args.divisor c.magnitude-magnitude.result c.power_of_ten.result
          (38 + c.scale.result - 18 - c.scale-2.result) dividend divisor c.magnitude-magnitude.ensures.value
          c.power_of_ten.ensures.value (omega arith) c.if-magnitude-power_of_ten.true,
    )

pub returns-then-magnitude-power_of_ten-clause-value : goal.returns-then-magnitude-power_of_ten-clause-value
returns-then-magnitude-power_of_ten-clause-value c =
    let dividend : c.args.self.scale ≤ 18 = omega arith in
    let divisor : c.args.divisor.scale ≤ 18 = omega arith in
    let all : admits c.args.self c.args.divisor 18 ≡ true = most_admitted c.args.self c.args.divisor
    c.magnitude-magnitude.result c.power_of_ten.result (38 + c.scale.result - 18 - c.scale-2.result) dividend divisor
    c.magnitude-magnitude.ensures.value c.power_of_ten.ensures.value (omega arith) c.if-magnitude-power_of_ten.true in
    most_found c.args.self c.args.divisor all
