use Rattle.std.proofs.Common.{◌∷◌, ◌∙◌, ap, List, arith}
use Rattle.std.proofs.lemmas.Grind.{common_steps}
use Rattle.data_instructions.specs.declared.place.Place.{Place}
use Rattle.data_instructions.specs.declared.tables.DataItem.{DataItem}
use Rattle.data_instructions.specs.Tables.{shortened_item}
use Rattle.data_machine.specs.Data.{scratch_of}
use Rattle.data_machine.proofs.Strings.{strung_as}
use Rattle.data_machine.proofs.Newest.{item_within, next_finds}
use Rattle.data_machine.proofs.data.Data.string_from_pointer.Goals as goal

pub item_of-to-requires : goal.item_of-to-requires
item_of-to-requires c =
    item_within c.args.tables.now c.args.self.now.areas c.args.self.now.places.newest_first c.requires.pointer
    c.pop-pointer.result c.pop-pointer.new.self.newest_first c.pop-pointer.ensures.newest

pub item_of-one-requires : goal.item_of-one-requires
item_of-one-requires c =
    let tables = c.args.tables.now in
    let areas = c.args.self.now.areas in
    let rest = c.pop-pointer.new.self.newest_first in
    item_within tables areas rest
    (next_finds tables areas c.args.self.now.places.newest_first c.pop-pointer.result rest c.pop-pointer.ensures.newest
    c.requires.receiver)
    c.pop-place.result c.pop-place.new.self.newest_first c.pop-place.ensures.newest

pub returns-clause-does : goal.returns-clause-does
returns-clause-does c =
    let p = c.pop-pointer.result in
    let q = c.pop-place.result in
    let to = c.item_of-to.result.now in
    let one = c.item_of-one.result.now in
    strung_as c.args.tables.now (scratch_of c.args.self.now) p q c.pop-place.new.self.newest_first to one
    c.string_at.result (scratch_of c.string_at.new.self) c.seen-2.result.now c.seen.result.now
    (c.seen-2.ensures ∙ ap (λ (d : DataItem). shortened_item to d.item.length) c.part_of-to_part.ensures)
    (c.seen.ensures ∙ ap (λ (d : DataItem). shortened_item one d.item.length) c.part_of-part.ensures)
    (c.pop-pointer.ensures.newest ∙ ap (λ (ps : List Place). p ∷ ps) c.pop-place.ensures.newest)
    c.item_of-to.ensures c.item_of-one.ensures c.string_at.ensures.does

pub string_at-requires-clause-stands : goal.string_at-requires-clause-stands
string_at-requires-clause-stands c = grind (arith, common_steps)

pub string_at-requires-clause-pointer : goal.string_at-requires-clause-pointer
string_at-requires-clause-pointer c = grind (arith, common_steps)

pub returns-clause-keeps : goal.returns-clause-keeps
returns-clause-keeps c = grind (arith, common_steps)
