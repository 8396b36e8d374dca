use Rattle.std.proofs.Common.{length, arith}
use Rattle.entry_rules.proofs.Numerals.{power_most, digits_fit, number_of_both, bound_of}
use Rattle.entry_rules.proofs.literal.digits_number.Goals as goal

pub number_after-requires : goal.number_after-requires
number_after-requires c = let h = power_most (length c.args.whole.now) (omega arith) in omega (arith, h)

pub number_after-requires-2 : goal.number_after-requires-2
number_after-requires-2 c = digits_fit c.in_ok-front.front (length c.args.whole.now) (length c.args.decimals.now)
    c.in_ok-front.ensures.bound c.requires

pub returns-clause-value : goal.returns-clause-value
returns-clause-value c = number_of_both c.in_ok-front.front c.args.whole.now c.args.decimals.now c.number_after-2.result
    c.in_ok-front.ensures.value c.number_after-2.ensures.value

pub returns-clause-bound : goal.returns-clause-bound
returns-clause-bound c =
    bound_of c.number_after-2.result _ (digits_fit c.in_ok-front.front (length c.args.whole.now)
    (length c.args.decimals.now) c.in_ok-front.ensures.bound c.requires) c.number_after-2.ensures.bound
