use Rattle.std.proofs.Common.{arith}
use Rattle.std.proofs.lemmas.Grind.{common_steps}
use Rattle.code_image.proofs.verified.meets_demands.Goals as goal

pub returns : goal.returns
returns c = record {
  verified = record {
    tables = c.are_in_order.ensures.0 c.if-not-are_in_order.false;
    within = c.is_within.ensures.0 c.if-not-is_within.false;
    shape = c.in_ok-has_shape.ensures.0 c.if-not-branch.false;
  };
  refused = tt;
}

pub returns-then-not-is_within-clause-refused : goal.returns-then-not-is_within-clause-refused
returns-then-not-is_within-clause-refused c = grind (arith, common_steps)

pub has_shape-requires : goal.has_shape-requires
has_shape-requires c = grind (arith, common_steps)
