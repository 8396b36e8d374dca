use Rattle.std.proofs.Common.{ap, sym}
use Rattle.std.specs.Prelude.{Result, Ok}
use Rattle.source_tree.specs.Storage.{Storage}
use Rattle.data_instructions.specs.declared.fault.ProgramFault.{ProgramFault}
use Rattle.data_instructions.specs.declared.place.Place.{Place}
use Rattle.data_instructions.specs.declared.tables.DataItem.{DataItem}
use Rattle.data_instructions.specs.Scratch.{Continues}
use Rattle.data_instructions.specs.Table as spec
use Rattle.data_machine.specs.Data.{scratch_of}
use Rattle.data_machine.proofs.Newest.{some_place, item_within, item_whole, part_editing, seen_stands, newest_does}
use Rattle.data_machine.proofs.Newest.{step_found}
use Rattle.data_machine.proofs.data.Data.overlay.Goals as goal

pub pop-place-requires : goal.pop-place-requires
pop-place-requires c =
    some_place c.args.tables.now c.args.self.now.areas c.args.self.now.places.newest_first c.requires.operand

pub item_of-one-requires : goal.item_of-one-requires
item_of-one-requires c =
    item_within c.args.tables.now c.args.self.now.areas c.args.self.now.places.newest_first
    c.requires.operand c.pop-place.result c.pop-place.new.self.newest_first c.pop-place.ensures.newest

pub seen-requires-clause-whole : goal.seen-requires-clause-whole
seen-requires-clause-whole c =
    item_whole c.args.tables.now c.args.self.now.areas c.args.self.now.places.newest_first
    c.requires.operand c.pop-place.result c.pop-place.new.self.newest_first c.pop-place.ensures.newest
    c.item_of-one.result.now c.item_of-one.ensures

pub seen-requires-clause-shortened : goal.seen-requires-clause-shortened
seen-requires-clause-shortened c =
    part_editing c.args.tables.now c.args.self.now.areas c.args.self.now.places.newest_first
    c.requires.operand c.pop-place.result c.pop-place.new.self.newest_first c.pop-place.ensures.newest
    c.item_of-one.result.now c.item_of-one.ensures c.part_of-part.result
    (ap (λ (d : DataItem). d.item.length) c.part_of-part.ensures)

pub overlay-requires : goal.overlay-requires
overlay-requires c =
    seen_stands c.args.tables.now c.args.self.now.areas c.args.self.now.places.newest_first
    c.requires.operand c.pop-place.result c.pop-place.new.self.newest_first c.pop-place.ensures.newest
    c.item_of-one.result.now c.item_of-one.ensures c.part_of-part.result
    (ap (λ (d : DataItem). d.item.length) c.part_of-part.ensures)
    c.seen.result.now c.seen.ensures

pub returns-clause-does : goal.returns-clause-does
returns-clause-does c =
    let now = scratch_of c.args.self.now in
    let laid = λ (m : Storage). record now { storage = m; places = c.pop-place.new.self.newest_first } in
    let after = laid c.overlay.new.self in
    let done : Result Place ProgramFault = Ok c.pop-place.result in
    step_found done after _ _ c.text_of-bytes.result.now c.text_of-bytes.ensures
    (step_found done after _ _ c.text_of-marks.result.now c.text_of-marks.ensures
    (newest_does c.args.tables.now c.args.self.now.areas _ c.requires.operand _ _ c.pop-place.ensures.newest _
    c.item_of-one.ensures c.part_of-part.result (ap (λ (d : DataItem). d.item.length) c.part_of-part.ensures) _
    c.seen.ensures done after now
    (spec.laid_over (spec.pattern_of c.text_of-bytes.result.now c.text_of-marks.result.now))
    c.pop-place.ensures.newest (ap (λ (m : Storage). Continues (laid m)) (sym c.overlay.ensures.stores))))
