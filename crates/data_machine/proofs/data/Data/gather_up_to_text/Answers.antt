use Rattle.std.proofs.Common.{ap, sym, subst, List, ℕ}
use Rattle.text_ops.specs.Strings.{delimited_characters}
use Rattle.source_tree.specs.References.{part_of}
use Rattle.data_instructions.specs.declared.tables.DataItem.{DataItem}
use Rattle.data_instructions.specs.Scratch.{step_at}
use Rattle.data_instructions.specs.Table as spec
use Rattle.data_machine.specs.Data.{scratch_of}
use Rattle.data_machine.specs.Comes.{IsStepOf}
use Rattle.data_machine.proofs.Newest.{some_place, item_within, item_whole, part_editing, seen_stands, newest_does}
use Rattle.data_machine.proofs.data.Data.gather_up_to_text.Goals as goal

pub pop-place-requires : goal.pop-place-requires
pop-place-requires c =
    some_place c.args.tables.now c.args.self.now.areas c.args.self.now.places.newest_first c.requires.operand

pub item_of-one-requires : goal.item_of-one-requires
item_of-one-requires c =
    item_within c.args.tables.now c.args.self.now.areas c.args.self.now.places.newest_first
    c.requires.operand c.pop-place.result c.pop-place.new.self.newest_first c.pop-place.ensures.newest

pub seen-requires-clause-whole : goal.seen-requires-clause-whole
seen-requires-clause-whole c =
    item_whole c.args.tables.now c.args.self.now.areas c.args.self.now.places.newest_first
    c.requires.operand c.pop-place.result c.pop-place.new.self.newest_first c.pop-place.ensures.newest
    c.item_of-one.result.now c.item_of-one.ensures

pub seen-requires-clause-shortened : goal.seen-requires-clause-shortened
seen-requires-clause-shortened c =
    part_editing c.args.tables.now c.args.self.now.areas c.args.self.now.places.newest_first
    c.requires.operand c.pop-place.result c.pop-place.new.self.newest_first c.pop-place.ensures.newest
    c.item_of-one.result.now c.item_of-one.ensures c.part_of-part.result
    (ap (λ (d : DataItem). d.item.length) c.part_of-part.ensures)

pub gather_up_to_at-requires-clause-item : goal.gather_up_to_at-requires-clause-item
gather_up_to_at-requires-clause-item c =
    seen_stands c.args.tables.now c.args.self.now.areas c.args.self.now.places.newest_first
    c.requires.operand c.pop-place.result c.pop-place.new.self.newest_first c.pop-place.ensures.newest
    c.item_of-one.result.now c.item_of-one.ensures c.part_of-part.result
    (ap (λ (d : DataItem). d.item.length) c.part_of-part.ensures)
    c.seen.result.now c.seen.ensures

pub returns-clause-does : goal.returns-clause-does
returns-clause-does c =
    subst (λ o. IsStepOf c.gather_up_to_at.result (scratch_of c.gather_up_to_at.new.self)
    (step_at o (λ (bytes : List ℕ). spec.at_place c.args.tables.now (λ place t.
    spec.append_step (delimited_characters bytes (part_of t.storage place)) t) (scratch_of c.args.self.now))))
    (sym c.text_of-delimiter.ensures) (
    newest_does c.args.tables.now c.args.self.now.areas c.args.self.now.places.newest_first
    c.requires.operand c.pop-place.result c.pop-place.new.self.newest_first c.pop-place.ensures.newest
    c.item_of-one.result.now c.item_of-one.ensures c.part_of-part.result
    (ap (λ (d : DataItem). d.item.length) c.part_of-part.ensures)
    c.seen.result.now c.seen.ensures c.gather_up_to_at.result (scratch_of c.gather_up_to_at.new.self)
    (scratch_of c.args.self.now) (λ place t. spec.append_step
    (delimited_characters c.text_of-delimiter.result.now (part_of t.storage place)) t)
    c.pop-place.ensures.newest c.gather_up_to_at.ensures.does)
