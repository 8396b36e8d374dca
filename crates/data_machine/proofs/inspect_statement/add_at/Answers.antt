use Rattle.std.proofs.Common.{refl, sym, ap, subst, ◌∙◌}
use Rattle.std.proofs.lemmas.Option.{slice_get_within}
use Rattle.source_tree.specs.Inspecting as meaning
use Rattle.source_tree.specs.InspectLayout as layout
use Rattle.source_tree.specs.References.{ItemPlace}
use Rattle.std.specs.Prelude.{slice_index}
use Rattle.data_instructions.specs.declared.tables.DataItem.{DataItem}
use Rattle.data_instructions.specs.Tables.{shortened_item, item_place, IsEditing}
use Rattle.data_machine.specs.Finds.{IsAtOffset}
use Rattle.data_machine.specs.Inspecting.{there_or_none, IsAddedStorage}
use Rattle.data_machine.proofs.Inspects.{stands_one, whole_one}
use Rattle.data_machine.proofs.inspect_statement.add_at.Goals as goal

pub item_of-one-requires : goal.item_of-one-requires
item_of-one-requires c =
    slice_get_within c.args.tables.now.items c.args.place.item.number c.requires.stands.one c.requires.stands.here

pub seen-requires-clause-whole : goal.seen-requires-clause-whole
seen-requires-clause-whole c =
    whole_one c.args.tables.now c.args.areas.now c.args.place c.args.tables.now.items c.item_of-one.result.now refl
    c.item_of-one.ensures c.requires.stands

pub seen-requires-clause-shortened : goal.seen-requires-clause-shortened
seen-requires-clause-shortened c =
    let one = c.item_of-one.result.now in
    subst (λ n. IsEditing (shortened_item one n).item one.editing)
    (sym (ap (λ (d : DataItem). d.item.length) c.part_of-part.ensures))
    (stands_one c.args.tables.now c.args.areas.now c.args.place c.args.tables.now.items one refl c.item_of-one.ensures
    c.requires.stands).editing

pub add_fits-requires-clause-stands : goal.add_fits-requires-clause-stands
add_fits-requires-clause-stands c =
    let one = c.item_of-one.result.now in
    let seen_is = c.seen.ensures ∙ ap (λ (d : DataItem). shortened_item one d.item.length) c.part_of-part.ensures in
    subst (λ (o : DataItem). IsAtOffset o c.args.areas.now c.args.place.offset) (sym seen_is)
    (stands_one c.args.tables.now c.args.areas.now c.args.place c.args.tables.now.items one refl c.item_of-one.ensures
    c.requires.stands)

pub returns-clause-adds : goal.returns-clause-adds
returns-clause-adds c =
    let one = c.item_of-one.result.now in
    let seen_is = c.seen.ensures ∙ ap (λ (d : DataItem). shortened_item one d.item.length) c.part_of-part.ensures in
    let there_is = ap (λ (o : DataItem). item_place o c.args.place.offset) seen_is
    ∙ sym (ap (there_or_none c.args.place) c.item_of-one.ensures) in
    subst (λ (to : ItemPlace). IsAddedStorage c.add_fits.result c.add_fits.new.areas (meaning.add_fits to
    (layout.fits_together (slice_index c.args.counts.now) c.args.from c.args.entries) c.args.areas.now))
    there_is c.add_fits.ensures.adds
