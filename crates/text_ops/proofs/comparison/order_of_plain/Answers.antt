use Rattle.std.proofs.Common.{sym}
use Rattle.text_ops.proofs.Sides.{behind, before, no_items}
use Rattle.text_ops.proofs.comparison.order_of_plain.Goals as goal

pub returns-in-Item : goal.returns-in-Item
returns-in-Item c =
    behind c.args.plain c.args.bytes.now c.args.other c.args.others.now c.in-Item.item c.order_behind.result
    c.requires.kind c.in-Item.is c.order_behind.ensures

pub returns-in-Item-plain : goal.returns-in-Item-plain
returns-in-Item-plain c =
    before c.args.plain c.args.bytes.now c.args.other c.args.others.now c.in-Item-plain.item c.order_of_item.result
    c.in_default.not-Item c.in-Item-plain.is c.order_of_item.ensures

pub returns-in_default-plain : goal.returns-in_default-plain
returns-in_default-plain c =
    sym (no_items c.args.plain c.args.bytes.now c.args.other c.args.others.now c.in_default-plain.not-Item
    c.in_default.not-Item)
