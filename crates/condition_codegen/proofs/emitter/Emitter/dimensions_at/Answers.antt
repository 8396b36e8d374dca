use Rattle.std.proofs.Common.{◌∙◌}
use Rattle.std.specs.Prelude.{slice_get}
use Rattle.declarations.specs.Named.{items_in}
use Rattle.condition_codegen.proofs.ItemParts.{placed_at}
use Rattle.condition_codegen.proofs.PlacedItems.{dimensions_there, no_dimensions}
use Rattle.condition_codegen.proofs.emitter.Emitter.dimensions_at.Goals as goal

pub returns-in-Some : goal.returns-in-Some
returns-in-Some c =
    let declarations = c.args.self.now.declarations.now in
    let items = items_in declarations in
    c.as_slice.ensures
    ∙ dimensions_there (slice_get items c.args.number) c.in-Some.found.now
    (c.in-Some.ensures.value ∙ placed_at items declarations.layout.items c.args.number declarations.declared.items)

pub returns-in-None : goal.returns-in-None
returns-in-None c =
    let declarations = c.args.self.now.declarations.now in
    let items = items_in declarations in
    no_dimensions (slice_get items c.args.number)
    (c.in-None.ensures.value ∙ placed_at items declarations.layout.items c.args.number declarations.declared.items)
