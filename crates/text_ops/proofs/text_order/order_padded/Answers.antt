use Rattle.std.proofs.Common.{ap, sym, ◌∙◌, replicate, length}
use Rattle.std.specs.Ordering.{ordering_then, ordering_reverse}
use Rattle.text_ops.proofs.Orders.{order, split_order, then_decided}
use Rattle.text_ops.proofs.text_order.order_padded.Goals as goal

pub returns-in-Equal : goal.returns-in-Equal
returns-in-Equal c =
    let back = c.split_at.result.1.now in
    let rest = order back (replicate (length back) 32) in
    c.reverse.ensures ∙ ap ordering_reverse c.order_beside_character.ensures
    ∙ ap (λ o. ordering_then o (ordering_reverse rest)) (sym c.in-Equal.is ∙ c.cmp.ensures)
    ∙ sym (split_order c.args.shorter.now c.args.longer.now c.split_at.result.0.now back c.requires
    c.split_at.ensures.front c.split_at.ensures.back)

pub returns-in_default : goal.returns-in_default
returns-in_default c =
    let back = c.split_at.result.1.now in
    let rest = ordering_reverse (order back (replicate (length back) 32)) in
    sym (then_decided c.cmp.result rest c.in_default.not-Equal) ∙ ap (λ o. ordering_then o rest) c.cmp.ensures
    ∙ sym (split_order c.args.shorter.now c.args.longer.now c.split_at.result.0.now back c.requires
    c.split_at.ensures.front c.split_at.ensures.back)
