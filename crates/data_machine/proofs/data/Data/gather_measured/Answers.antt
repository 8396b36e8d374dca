use Rattle.std.proofs.Common.{ap, ◌∙◌}
use Rattle.data_instructions.specs.declared.tables.DataItem.{DataItem}
use Rattle.data_instructions.specs.Tables.{shortened_item}
use Rattle.data_machine.specs.Data.{scratch_of}
use Rattle.data_machine.proofs.Newest.{some_place, item_within, item_whole, part_editing, seen_stands, seen_short}
use Rattle.data_machine.proofs.MeasuredTexts.{measured_does}
use Rattle.data_machine.proofs.data.Data.gather_measured.Goals as goal

pub pop-place-requires : goal.pop-place-requires
pop-place-requires c =
    some_place c.args.tables.now c.args.self.now.areas c.args.self.now.places.newest_first c.requires.operand

pub item_of-one-requires : goal.item_of-one-requires
item_of-one-requires c =
    item_within c.args.tables.now c.args.self.now.areas c.args.self.now.places.newest_first
    c.requires.operand c.pop-place.result c.pop-place.new.self.newest_first c.pop-place.ensures.newest

pub seen-requires-clause-whole : goal.seen-requires-clause-whole
seen-requires-clause-whole c =
    item_whole c.args.tables.now c.args.self.now.areas c.args.self.now.places.newest_first
    c.requires.operand c.pop-place.result c.pop-place.new.self.newest_first c.pop-place.ensures.newest
    c.item_of-one.result.now c.item_of-one.ensures

pub seen-requires-clause-shortened : goal.seen-requires-clause-shortened
seen-requires-clause-shortened c =
    part_editing c.args.tables.now c.args.self.now.areas c.args.self.now.places.newest_first
    c.requires.operand c.pop-place.result c.pop-place.new.self.newest_first c.pop-place.ensures.newest
    c.item_of-one.result.now c.item_of-one.ensures c.part_of-part.result
    (ap (λ (d : DataItem). d.item.length) c.part_of-part.ensures)

pub gather_measured_at-requires-clause-item : goal.gather_measured_at-requires-clause-item
gather_measured_at-requires-clause-item c =
    seen_stands c.args.tables.now c.args.self.now.areas c.args.self.now.places.newest_first
    c.requires.operand c.pop-place.result c.pop-place.new.self.newest_first c.pop-place.ensures.newest
    c.item_of-one.result.now c.item_of-one.ensures c.part_of-part.result
    (ap (λ (d : DataItem). d.item.length) c.part_of-part.ensures)
    c.seen.result.now c.seen.ensures

pub gather_measured_at-requires-clause-short : goal.gather_measured_at-requires-clause-short
gather_measured_at-requires-clause-short c =
    seen_short c.args.tables.now c.args.self.now.areas c.args.self.now.places.newest_first
    c.requires.operand c.pop-place.result c.pop-place.new.self.newest_first c.pop-place.ensures.newest
    c.item_of-one.result.now c.item_of-one.ensures c.part_of-part.result
    (ap (λ (d : DataItem). d.item.length) c.part_of-part.ensures)
    c.seen.result.now c.seen.ensures

pub returns-clause-does : goal.returns-clause-does
returns-clause-does c =
    measured_does c.gather_measured_at.result c.args.tables.now (scratch_of c.args.self.now)
    (scratch_of c.gather_measured_at.new.self) c.pop-place.result c.pop-place.new.self.newest_first
    c.item_of-one.result.now c.seen.result.now c.pop-place.ensures.newest c.item_of-one.ensures
    (c.seen.ensures
    ∙ ap (λ (d : DataItem). shortened_item c.item_of-one.result.now d.item.length) c.part_of-part.ensures)
    c.gather_measured_at.ensures.does
