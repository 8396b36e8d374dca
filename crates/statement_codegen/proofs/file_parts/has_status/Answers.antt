use Rattle.std.proofs.Common.{ap, sym, ◌∙◌}
use Rattle.std.specs.Prelude.{slice_get}
use Rattle.std.specs.Option.{is_some}
use Rattle.file_descriptions.specs.Files.{place_at}
use Rattle.declarations.specs.Named.{items_in}
use Rattle.condition_codegen.proofs.ItemParts.{placed_at}
use Rattle.condition_codegen.proofs.PlacedItems.{same_there, place_there}
use Rattle.statement_codegen.proofs.file_parts.has_status.Goals as goal

pub returns-in-Some : goal.returns-in-Some
returns-in-Some c =
    let declarations = c.args.emitter.now.declarations.now in
    let items = items_in declarations in
    c.is_some.ensures
    ∙ same_there c.get.result (slice_get items c.in-Some.number)
    (c.get.ensures.value ∙ placed_at items declarations.layout.items c.in-Some.number declarations.declared.items)
    ∙ place_there (slice_get items c.in-Some.number) ∙ ap (λ o. is_some (place_at items o)) (sym c.in-Some.is)

pub returns-in-None : goal.returns-in-None
returns-in-None c = let items = items_in c.args.emitter.now.declarations.now in
    ap (λ o. is_some (place_at items o)) (sym c.in-None.is)
