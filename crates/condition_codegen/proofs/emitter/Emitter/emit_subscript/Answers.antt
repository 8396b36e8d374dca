use Rattle.declarations.specs.Named.{items_in}
use Rattle.condition_codegen.proofs.PushedItems.{item_pushed}
use Rattle.condition_codegen.proofs.emitter.Emitter.emit_subscript.Goals as goal

pub returns-in_ok-emit_works-in-Item : goal.returns-in_ok-emit_works-in-Item
returns-in_ok-emit_works-in-Item c =
    item_pushed c.emit_adjustment.result (items_in c.args.self.now.declarations.now) c.args.one.now c.in-Item.item
    c.in-Item.adjustment c.in_ok-item-in-Item.item c.args.code.now c.emit_works.new.code c.emit_adjustment.new.code
    c.in-Item.is c.in_ok-item-in-Item.ensures c.in_ok-emit_works-in-Item.ensures c.emit_adjustment.ensures
