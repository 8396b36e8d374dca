use Rattle.std.proofs.Common.{ap, sym, ◌∙◌, arith, length}
use Rattle.text_ops.proofs.Orders.{front_decides, front_agrees, last_repeated, order}
use Rattle.text_ops.proofs.text_order.order_beside_repeated.Goals as goal

pub returns-in_default : goal.returns-in_default
returns-in_default c =
    front_decides c.loop-rest.rest.now c.args.literal.now c.split_at.result.0.now c.split_at.result.1.now c.cmp.result
    c.requires (omega arith) c.split_at.ensures.front c.cmp.ensures c.in_default.not-Equal ∙ sym c.loop-rest.invariant

pub loop-rest-preserved : goal.loop-rest-preserved
loop-rest-preserved c =
    c.loop-rest.invariant
    ∙ front_agrees c.loop-rest.rest.now c.args.literal.now c.split_at.result.0.now c.split_at.result.1.now c.cmp.result
    c.requires (omega arith) c.split_at.ensures.front c.split_at.ensures.back c.cmp.ensures c.in-Equal.is

pub returns : goal.returns
returns c =
    c.cmp-2.ensures ∙ ap (order c.loop-rest.rest.now)
    (last_repeated (length c.loop-rest.rest.now) c.args.literal.now c.loop-rest-test.false) ∙ sym c.loop-rest.invariant
