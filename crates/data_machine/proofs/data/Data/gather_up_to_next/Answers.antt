use Rattle.std.proofs.Common.{[], ◌∷◌, refl, ap, ◌∙◌}
use Rattle.text_ops.specs.Strings.{delimited_characters}
use Rattle.source_tree.specs.References.{ItemPlace, part_of}
use Rattle.data_instructions.specs.declared.tables.DataItem.{DataItem}
use Rattle.data_instructions.specs.Table as spec
use Rattle.data_instructions.specs.Tables.{shortened_item, item_place}
use Rattle.data_machine.specs.Data.{scratch_of}
use Rattle.data_machine.proofs.Newest.{some_place, item_within, item_whole, part_editing, seen_stands}
use Rattle.data_machine.proofs.Newest.{newest_found, newest_stays, step_found}
use Rattle.data_machine.proofs.data.Data.gather_up_to_next.Goals as goal

pub below-next-requires : goal.below-next-requires
below-next-requires c =
    some_place c.args.tables.now c.args.self.now.areas c.args.self.now.places.newest_first c.requires.delimiter

pub item_of-other-requires : goal.item_of-other-requires
item_of-other-requires c =
    item_within c.args.tables.now c.args.self.now.areas (c.below-next.result ∷ [])
    (newest_found c.args.tables.now c.args.self.now.areas c.args.self.now.places.newest_first c.below-next.result
    c.requires.delimiter c.below-next.ensures) c.below-next.result [] refl

pub seen-requires-clause-whole : goal.seen-requires-clause-whole
seen-requires-clause-whole c =
    item_whole c.args.tables.now c.args.self.now.areas (c.below-next.result ∷ [])
    (newest_found c.args.tables.now c.args.self.now.areas c.args.self.now.places.newest_first c.below-next.result
    c.requires.delimiter c.below-next.ensures) c.below-next.result [] refl
    c.item_of-other.result.now c.item_of-other.ensures

pub seen-requires-clause-shortened : goal.seen-requires-clause-shortened
seen-requires-clause-shortened c =
    part_editing c.args.tables.now c.args.self.now.areas (c.below-next.result ∷ [])
    (newest_found c.args.tables.now c.args.self.now.areas c.args.self.now.places.newest_first c.below-next.result
    c.requires.delimiter c.below-next.ensures) c.below-next.result [] refl
    c.item_of-other.result.now c.item_of-other.ensures c.part_of-part.result
    (ap (λ (d : DataItem). d.item.length) c.part_of-part.ensures)

pub gather_between-requires-clause-delimiter : goal.gather_between-requires-clause-delimiter
gather_between-requires-clause-delimiter c =
    seen_stands c.args.tables.now c.args.self.now.areas (c.below-next.result ∷ [])
    (newest_found c.args.tables.now c.args.self.now.areas c.args.self.now.places.newest_first c.below-next.result
    c.requires.delimiter c.below-next.ensures) c.below-next.result [] refl
    c.item_of-other.result.now c.item_of-other.ensures c.part_of-part.result
    (ap (λ (d : DataItem). d.item.length) c.part_of-part.ensures) c.seen.result.now c.seen.ensures

pub returns-clause-does : goal.returns-clause-does
returns-clause-does c =
    let s = scratch_of c.args.self.now in
    let bytes = part_of s.storage (item_place c.args.one.now c.args.offset) in
    step_found c.gather_between.result (scratch_of c.gather_between.new.self)
    (spec.newest_place c.args.tables.now s.places)
    (λ (next : ItemPlace). spec.append_step (delimited_characters (part_of s.storage next) bytes) s)
    (item_place c.seen.result.now c.below-next.result.offset)
    (newest_stays c.args.tables.now s.places c.below-next.result c.item_of-other.result.now c.seen.result.now
    c.below-next.ensures c.item_of-other.ensures
    (c.seen.ensures
    ∙ ap (λ (d : DataItem). shortened_item c.item_of-other.result.now d.item.length) c.part_of-part.ensures))
    c.gather_between.ensures.does
