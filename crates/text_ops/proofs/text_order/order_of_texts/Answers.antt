use Rattle.std.proofs.Common.{ap, sym, ◌∙◌}
use Rattle.std.specs.Ordering.{ordering_reverse}
use Rattle.text_ops.proofs.Orders.{texts_reversed}
use Rattle.text_ops.proofs.text_order.order_of_texts.Goals as goal

pub returns-else-one-other : goal.returns-else-one-other
returns-else-one-other c = c.reverse.ensures ∙ ap ordering_reverse c.order_padded-else-one-other.ensures
    ∙ sym (texts_reversed c.args.one.now c.args.other.now)
