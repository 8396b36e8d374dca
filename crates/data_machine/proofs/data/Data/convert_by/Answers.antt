use Rattle.std.proofs.Common.{ap, subst}
use Rattle.data_instructions.specs.declared.tables.DataItem.{DataItem}
use Rattle.data_instructions.specs.Scratch.{Step}
use Rattle.data_instructions.specs.Table as spec
use Rattle.data_machine.specs.Comes.{IsStepOf}
use Rattle.data_machine.specs.Data.{scratch_of}
use Rattle.data_machine.proofs.Conversions.{numbers_first}
use Rattle.data_machine.proofs.Newest.{some_place, item_within, item_whole, part_editing, seen_stands, newest_does}
use Rattle.data_machine.proofs.data.Data.convert_by.Goals as goal

pub pop-place-requires : goal.pop-place-requires
pop-place-requires c =
    some_place c.args.tables.now c.args.self.now.areas c.args.self.now.places.newest_first c.requires.operand

pub item_of-to-requires : goal.item_of-to-requires
item_of-to-requires c =
    item_within c.args.tables.now c.args.self.now.areas c.args.self.now.places.newest_first
    c.requires.operand c.pop-place.result c.pop-place.new.self.newest_first c.pop-place.ensures.newest

pub seen-requires-clause-whole : goal.seen-requires-clause-whole
seen-requires-clause-whole c =
    item_whole c.args.tables.now c.args.self.now.areas c.args.self.now.places.newest_first
    c.requires.operand c.pop-place.result c.pop-place.new.self.newest_first c.pop-place.ensures.newest
    c.item_of-to.result.now c.item_of-to.ensures

pub seen-requires-clause-shortened : goal.seen-requires-clause-shortened
seen-requires-clause-shortened c =
    part_editing c.args.tables.now c.args.self.now.areas c.args.self.now.places.newest_first
    c.requires.operand c.pop-place.result c.pop-place.new.self.newest_first c.pop-place.ensures.newest
    c.item_of-to.result.now c.item_of-to.ensures c.part_of-part.result
    (ap (λ (d : DataItem). d.item.length) c.part_of-part.ensures)

pub convert_at-requires-clause-item : goal.convert_at-requires-clause-item
convert_at-requires-clause-item c =
    seen_stands c.args.tables.now c.args.self.now.areas c.args.self.now.places.newest_first
    c.requires.operand c.pop-place.result c.pop-place.new.self.newest_first c.pop-place.ensures.newest
    c.item_of-to.result.now c.item_of-to.ensures c.part_of-part.result
    (ap (λ (d : DataItem). d.item.length) c.part_of-part.ensures)
    c.seen.result.now c.seen.ensures

pub returns-clause-does : goal.returns-clause-does
returns-clause-does c =
    let s = scratch_of c.args.self.now in
    let one = c.args.one.now in
    subst (λ (step : Step). IsStepOf c.convert_at.result (scratch_of c.convert_at.new.self) step)
    (numbers_first c.args.tables.now c.args.numbers (λ ns. spec.converted_at (spec.measured_inspection ns one)) s
    c.pop-place.result c.pop-place.new.self.newest_first c.item_of-to.result.now c.pop-place.ensures.newest
    c.item_of-to.ensures)
    (newest_does c.args.tables.now c.args.self.now.areas c.args.self.now.places.newest_first
    c.requires.operand c.pop-place.result c.pop-place.new.self.newest_first c.pop-place.ensures.newest
    c.item_of-to.result.now c.item_of-to.ensures c.part_of-part.result
    (ap (λ (d : DataItem). d.item.length) c.part_of-part.ensures)
    c.seen.result.now c.seen.ensures c.convert_at.result (scratch_of c.convert_at.new.self) s
    (λ place. spec.at_numbers c.args.numbers (λ ns. spec.converted_at (spec.measured_inspection ns one) place))
    c.pop-place.ensures.newest c.convert_at.ensures.does)
