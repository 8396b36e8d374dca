use Rattle.std.proofs.Common.{◌≡◌, length}
use Rattle.items.specs.Texts.{repeated_text}
use Rattle.text_ops.proofs.Orders.{order}
use Rattle.text_ops.proofs.text_order.order_beside_repeated.Given as goal

abbrev pub invariant-loop-rest : goal.invariant-loop-rest
invariant-loop-rest l =
    order l.fn.text (repeated_text (length l.fn.text) l.fn.literal)
    ≡ order l.rest (repeated_text (length l.rest) l.fn.literal)

abbrev pub decreases-loop-rest : goal.decreases-loop-rest
decreases-loop-rest l = length l.rest
