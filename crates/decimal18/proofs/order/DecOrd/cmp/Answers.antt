use Rattle.std.proofs.Common.{ap, sym, ◌∙◌}
use Rattle.std.specs.Ordering.{ordering_reverse}
use Rattle.decimal18.specs.TotalOrder.{order_reversed}
use Rattle.decimal18.proofs.order.DecOrd.cmp.Goals as goal

pub returns-else-left_scale-right_scale-2 : goal.returns-else-left_scale-right_scale-2
returns-else-left_scale-right_scale-2 c =
    c.reverse.ensures ∙ ap ordering_reverse c.order_of-else-left_scale-right_scale-2.ensures
    ∙ sym (order_reversed c.args.self.now c.args.other.now)
