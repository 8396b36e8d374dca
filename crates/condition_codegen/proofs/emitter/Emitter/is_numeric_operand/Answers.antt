use Rattle.std.proofs.Common.{sym, ap, ◌∙◌}
use Rattle.declarations.specs.Named.{items_in}
use Rattle.condition_codegen.specs.ConditionCode.{is_numeric_operand}
use Rattle.condition_codegen.specs.Sides.{operand_of}
use Rattle.condition_codegen.proofs.PlacedItems.{placed_named, numeric_there, not_numeric}
use Rattle.condition_codegen.proofs.emitter.Emitter.is_numeric_operand.Goals as goal

pub returns-in-Some : goal.returns-in-Some
returns-in-Some c =
    let declarations = c.args.self.now.declarations.now in
    let items = items_in declarations in
    let one = c.in-Item.reference.now in
    c.is_number.ensures
    ∙ numeric_there items one c.in-Some.found.now
    (c.in-Some.ensures.value
    ∙ placed_named items declarations.layout.items one.item c.item_number.result declarations.declared.items
    c.item_number.ensures)
    ∙ ap (λ a. is_numeric_operand items (operand_of a)) (sym c.in-Item.is)

pub returns-in-None : goal.returns-in-None
returns-in-None c =
    let declarations = c.args.self.now.declarations.now in
    let items = items_in declarations in
    let one = c.in-Item.reference.now in
    not_numeric items one
    (c.in-None.ensures.value
    ∙ placed_named items declarations.layout.items one.item c.item_number.result declarations.declared.items
    c.item_number.ensures)
    ∙ ap (λ a. is_numeric_operand items (operand_of a)) (sym c.in-Item.is)
