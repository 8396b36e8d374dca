use Rattle.std.proofs.Common.{sym, ap, ◌∙◌, Some}
use Rattle.std.specs.Option.{option_map}
use Rattle.std.specs.Ordering.{ordering_reverse}
use Rattle.text_ops.proofs.Sides.{turned}
use Rattle.text_ops.proofs.comparison.order_of_characters.Goals as goal

pub returns-in_err-order : goal.returns-in_err-order
returns-in_err-order c =
    c.from_residual.ensures ∙ ap (option_map ordering_reverse) (sym c.in_err-order.was) ∙ turned c.args.one
    c.args.ones.now c.args.other c.args.others.now c.order_of_plain-2.result c.order_of_plain-2.ensures

pub returns : goal.returns
returns c =
    ap Some c.reverse.ensures ∙ ap (option_map ordering_reverse) (sym c.in_ok-order.was) ∙ turned c.args.one
    c.args.ones.now c.args.other c.args.others.now c.order_of_plain-2.result c.order_of_plain-2.ensures
