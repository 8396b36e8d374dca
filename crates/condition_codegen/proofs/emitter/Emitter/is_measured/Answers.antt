use Rattle.std.proofs.Common.{ap, ◌∙◌}
use Rattle.std.specs.Prelude.{slice_get}
use Rattle.std.specs.Option.{option_map}
use Rattle.layout.specs.Placing.{placed_item}
use Rattle.declarations.specs.Named.{items_in}
use Rattle.condition_codegen.specs.DataCode.{item_number}
use Rattle.condition_codegen.proofs.ItemParts.{placed_at, measured_there, not_measured}
use Rattle.condition_codegen.proofs.emitter.Emitter.is_measured.Goals as goal

pub returns-in-Some : goal.returns-in-Some
returns-in-Some c =
    let declarations = c.args.self.now.declarations.now in
    let items = items_in declarations in
    c.has_room.ensures
    ∙ measured_there c.args.one.now (slice_get items (item_number items c.args.one.now.item)) c.in-Some.found.now
    (c.in-Some.ensures.value
    ∙ placed_at items declarations.layout.items c.item_number.result declarations.declared.items
    ∙ ap (λ n. option_map placed_item (slice_get items n)) c.item_number.ensures)

pub returns-in-None : goal.returns-in-None
returns-in-None c =
    let declarations = c.args.self.now.declarations.now in
    let items = items_in declarations in
    not_measured c.args.one.now (slice_get items (item_number items c.args.one.now.item))
    (c.in-None.ensures.value
    ∙ placed_at items declarations.layout.items c.item_number.result declarations.declared.items
    ∙ ap (λ n. option_map placed_item (slice_get items n)) c.item_number.ensures)
