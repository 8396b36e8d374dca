use Rattle.std.proofs.Common.{ap, ◌∙◌}
use Rattle.std.specs.Prelude.{slice_get}
use Rattle.std.specs.Option.{option_map}
use Rattle.layout.specs.Placing.{placed_item}
use Rattle.declarations.specs.Named.{items_in}
use Rattle.condition_codegen.specs.DataCode.{item_number}
use Rattle.condition_codegen.proofs.ItemParts.{placed_at}
use Rattle.condition_codegen.proofs.PlacedItems.{scale_there, no_scale}
use Rattle.condition_codegen.proofs.emitter.Emitter.scale_kept.Goals as goal

pub returns-in-Some : goal.returns-in-Some
returns-in-Some c =
    let declarations = c.args.self.now.declarations.now in
    let items = items_in declarations in
    c.scale_kept.ensures
    ∙ scale_there (slice_get items (item_number items c.args.name.now)) c.in-Some.found.now
    (c.in-Some.ensures.value
    ∙ placed_at items declarations.layout.items c.item_number.result declarations.declared.items
    ∙ ap (λ n. option_map placed_item (slice_get items n)) c.item_number.ensures)

pub returns-in-None : goal.returns-in-None
returns-in-None c =
    let declarations = c.args.self.now.declarations.now in
    let items = items_in declarations in
    no_scale (slice_get items (item_number items c.args.name.now))
    (c.in-None.ensures.value
    ∙ placed_at items declarations.layout.items c.item_number.result declarations.declared.items
    ∙ ap (λ n. option_map placed_item (slice_get items n)) c.item_number.ensures)
