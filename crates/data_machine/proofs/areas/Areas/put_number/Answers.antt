use Rattle.std.proofs.Common.{◌≡◌, ◌%◌, ◌^◌, arith, length, pos, sym, ◌∙◌, ap, subst}
use Rattle.items.specs.declared.item.Kind.{Kind}
use Rattle.items.specs.Items.{IsOfLength}
use Rattle.items.specs.Numbers.{length_of}
use Rattle.items.specs.Values.{bytes_of}
use Rattle.source_tree.specs.ProgramFiles.{digits_in}
use Rattle.source_tree.specs.FileStatements.{number_stored}
use Rattle.data_instructions.specs.Tables.{item_place}
use Rattle.data_machine.proofs.AreaBytes.{area_set, area_lengths, as_many, seam, part_as}
use Rattle.data_machine.proofs.areas.Areas.put_number.Goals as goal
use Rattle.data_machine.proofs.areas.Areas.put_number.Goals.{In-Numeric}

-- the item has the length of its number
long : (c : In-Numeric) → c.args.one.now.item.length ≡ length_of c.in-Numeric.item
long c =
    (subst (λ (k : Kind). IsOfLength k c.args.one.now.item.length) c.in-Numeric.is c.requires.stands.form).1

pub put_number_part-requires-clause-item : goal.put_number_part-requires-clause-item
put_number_part-requires-clause-item c =
    (subst (λ (k : Kind). IsOfLength k c.args.one.now.item.length) c.in-Numeric.is c.requires.stands.form).0

pub returns-in-Numeric-clause-stores : goal.returns-in-Numeric-clause-stores
returns-in-Numeric-clause-stores c =
    let one = c.args.one.now in
    let item = c.in-Numeric.item in
    let bytes = bytes_of item (record { coefficient = pos (c.args.number % 10 ^ item.digits); scale = 0 }) in
    area_set c.self.inside.areas.items c.args.self.now one.area c.args.offset one.item.length
    c.index_mut-area.result.now _ bytes c.self.view_is
    (omega (arith, as_many c.self.inside.areas.items c.args.self.now c.self.view_is, c.requires.stands.area))
    c.index_mut-area.ensures.value
    (part_as _ _ _ c.args.offset (length_of item) _ bytes
    (seam c.index_mut-area.result.now.len c.put_number_part.new.area _
    (omega (arith, c.as_mut_slice.ensures.len, c.put_number_part.auto.area)) ∙ c.put_number_part.ensures)
    c.as_mut_slice.ensures.value (long (goal.at.returns-in-Numeric-clause-stores c).In-Numeric))
    ∙ ap (λ (k : Kind). number_stored k (item_place one c.args.offset) (c.args.number % 10 ^ digits_in k)
    c.args.self.now) (sym c.in-Numeric.is)

pub returns-in-Numeric-clause-lengths : goal.returns-in-Numeric-clause-lengths
returns-in-Numeric-clause-lengths c =
    area_lengths c.self.inside.areas.items c.args.self.now c.args.one.now.area c.index_mut-area.result.now _
    c.self.view_is
    (omega (arith, as_many c.self.inside.areas.items c.args.self.now c.self.view_is, c.requires.stands.area))
    c.index_mut-area.ensures.value
    (ap length (seam c.index_mut-area.result.now.len c.put_number_part.new.area _
    (omega (arith, c.as_mut_slice.ensures.len, c.put_number_part.auto.area))) ∙ c.put_number_part.auto.area
    ∙ ap length c.as_mut_slice.ensures.value)
