use Rattle.std.proofs.Common.{not, ◌&&◌, ◌==◌, List, length, sym, ap, ◌∙◌}
use Rattle.std.specs.Prelude.{is_some}
use Rattle.source_tree.specs.declared.table.Dimension.{Dimension}
use Rattle.declarations.specs.Named.{items_in}
use Rattle.condition_codegen.specs.ConditionCode.{is_operand_at_hand}
use Rattle.condition_codegen.specs.Sides.{operand_of}
use Rattle.condition_codegen.proofs.PlacedItems.{placed_named, hand_there, not_at_hand}
use Rattle.condition_codegen.proofs.emitter.Emitter.is_operand_at_hand.Goals as goal

pub returns-in-Some : goal.returns-in-Some
returns-in-Some c =
    let declarations = c.args.self.now.declarations.now in
    let items = items_in declarations in
    let one = c.in-Item.reference.now in
    c.is_single.ensures
    ∙ ap (λ (l : List Dimension). not (is_some one.part) && length l == 0) c.as_slice.ensures
    ∙ hand_there items one c.in-Some.found.now
    (c.in-Some.ensures.value
    ∙ placed_named items declarations.layout.items one.item c.item_number.result declarations.declared.items
    c.item_number.ensures)
    ∙ ap (λ a. is_operand_at_hand items (operand_of a)) (sym c.in-Item.is)

pub returns-in-None : goal.returns-in-None
returns-in-None c =
    let declarations = c.args.self.now.declarations.now in
    let items = items_in declarations in
    let one = c.in-Item.reference.now in
    not_at_hand items one
    (c.in-None.ensures.value
    ∙ placed_named items declarations.layout.items one.item c.item_number.result declarations.declared.items
    c.item_number.ensures)
    ∙ ap (λ a. is_operand_at_hand items (operand_of a)) (sym c.in-Item.is)
