use Rattle.std.proofs.Common.{ap}
use Rattle.data_instructions.specs.declared.tables.DataItem.{DataItem}
use Rattle.data_instructions.specs.Table as spec
use Rattle.data_machine.specs.Data.{scratch_of}
use Rattle.data_machine.proofs.Newest.{some_place, item_within, item_whole, part_editing, seen_stands, newest_does}
use Rattle.data_machine.proofs.data.Data.compare.Goals as goal

pub pop-place-requires : goal.pop-place-requires
pop-place-requires c =
    some_place c.args.tables.now c.args.self.now.areas c.args.self.now.places.newest_first c.requires.operand

pub item_of-one-requires : goal.item_of-one-requires
item_of-one-requires c =
    item_within c.args.tables.now c.args.self.now.areas c.args.self.now.places.newest_first
    c.requires.operand c.pop-place.result c.pop-place.new.self.newest_first c.pop-place.ensures.newest

pub seen-requires-clause-whole : goal.seen-requires-clause-whole
seen-requires-clause-whole c =
    item_whole c.args.tables.now c.args.self.now.areas c.args.self.now.places.newest_first
    c.requires.operand c.pop-place.result c.pop-place.new.self.newest_first c.pop-place.ensures.newest
    c.item_of-one.result.now c.item_of-one.ensures

pub seen-requires-clause-shortened : goal.seen-requires-clause-shortened
seen-requires-clause-shortened c =
    part_editing c.args.tables.now c.args.self.now.areas c.args.self.now.places.newest_first
    c.requires.operand c.pop-place.result c.pop-place.new.self.newest_first c.pop-place.ensures.newest
    c.item_of-one.result.now c.item_of-one.ensures c.part_of-part.result
    (ap (λ (d : DataItem). d.item.length) c.part_of-part.ensures)

pub compare_at-requires-clause-item : goal.compare_at-requires-clause-item
compare_at-requires-clause-item c =
    seen_stands c.args.tables.now c.args.self.now.areas c.args.self.now.places.newest_first
    c.requires.operand c.pop-place.result c.pop-place.new.self.newest_first c.pop-place.ensures.newest
    c.item_of-one.result.now c.item_of-one.ensures c.part_of-part.result
    (ap (λ (d : DataItem). d.item.length) c.part_of-part.ensures)
    c.seen.result.now c.seen.ensures

pub returns-clause-does : goal.returns-clause-does
returns-clause-does c =
    newest_does c.args.tables.now c.args.self.now.areas c.args.self.now.places.newest_first
    c.requires.operand c.pop-place.result c.pop-place.new.self.newest_first c.pop-place.ensures.newest
    c.item_of-one.result.now c.item_of-one.ensures c.part_of-part.result
    (ap (λ (d : DataItem). d.item.length) c.part_of-part.ensures)
    c.seen.result.now c.seen.ensures c.compare_at.result (scratch_of c.compare_at.new.self) (scratch_of c.args.self.now)
    (spec.compared_at c.args.relation) c.pop-place.ensures.newest c.compare_at.ensures.does
