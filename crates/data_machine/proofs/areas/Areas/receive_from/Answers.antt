use Rattle.std.proofs.Common.{arith, length, ◌∙◌, ap, subst}
use Rattle.items.specs.declared.taken.Taken.TheVariants as senders
use Rattle.source_tree.specs.Literals.{Sender}
use Rattle.source_tree.specs.Moving.{moved_by}
use Rattle.data_machine.specs.Writing.{WritesPart}
use Rattle.data_machine.proofs.AreaBytes.{move_stores, area_lengths, as_many, seam}
use Rattle.data_machine.proofs.areas.Areas.receive_from.Goals as goal

pub returns-clause-stores : goal.returns-clause-stores
returns-clause-stores c =
    let one = c.args.one.now in
    let area = c.index_mut-area.result.now in
    let sender : Sender = record { taken = senders.Item c.args.sender.now; bytes = c.args.from.now } in
    move_stores c.move_item_part.result c.self.inside.areas.items c.args.self.now one c.args.offset sender area _
    c.move_item_part.new.area c.self.view_is
    (omega (arith, as_many c.self.inside.areas.items c.args.self.now c.self.view_is, c.requires.stands.area))
    c.index_mut-area.ensures.value
    (seam area.len c.move_item_part.new.area _
    (omega (arith, c.as_mut_slice.ensures.len, c.move_item_part.auto.area)))
    (subst (λ v. WritesPart c.move_item_part.result v c.move_item_part.new.area c.args.offset one.item.length
    (moved_by one.editing one.item sender)) c.as_mut_slice.ensures.value c.move_item_part.ensures)

pub returns-clause-lengths : goal.returns-clause-lengths
returns-clause-lengths c =
    area_lengths c.self.inside.areas.items c.args.self.now c.args.one.now.area c.index_mut-area.result.now _
    c.self.view_is
    (omega (arith, as_many c.self.inside.areas.items c.args.self.now c.self.view_is, c.requires.stands.area))
    c.index_mut-area.ensures.value
    (ap length (seam c.index_mut-area.result.now.len c.move_item_part.new.area
    _ (omega (arith, c.as_mut_slice.ensures.len, c.move_item_part.auto.area))) ∙ c.move_item_part.auto.area
    ∙ ap length c.as_mut_slice.ensures.value)
