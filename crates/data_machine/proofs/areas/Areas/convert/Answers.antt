use Rattle.std.proofs.Common.{arith, length, ◌+◌, ◌∙◌, ap, List, ℕ}
use Rattle.std.specs.Prelude.{slice_range}
use Rattle.text_ops.specs.Convert.{converted_subject}
use Rattle.data_machine.specs.Writing.{with_part}
use Rattle.data_machine.proofs.AreaBytes.{part_set, area_lengths, as_many, seam}
use Rattle.data_machine.proofs.areas.Areas.convert.Goals as goal

pub returns-clause-stores : goal.returns-clause-stores
returns-clause-stores c =
    let one = c.args.one.now in
    let end : ℕ = c.args.offset + one.item.length in
    part_set c.self.inside.areas.items c.args.self.now one c.args.offset c.index_mut-area.result.now _
    (converted_subject c.args.texts.now c.args.entries.now) c.self.view_is
    (omega (arith, as_many c.self.inside.areas.items c.args.self.now c.self.view_is, c.requires.stands.area))
    c.index_mut-area.ensures.value
    (seam c.index_mut-area.result.now.len c.convert_part.new.area _
    (omega (arith, c.as_mut_slice.ensures.len, c.convert_part.auto.area))
    ∙ c.convert_part.ensures
    ∙ ap (λ (v : List ℕ). with_part v c.args.offset one.item.length (converted_subject
    c.args.texts.now c.args.entries.now (slice_range v c.args.offset end))) c.as_mut_slice.ensures.value)

pub returns-clause-lengths : goal.returns-clause-lengths
returns-clause-lengths c =
    area_lengths c.self.inside.areas.items c.args.self.now c.args.one.now.area c.index_mut-area.result.now _
    c.self.view_is
    (omega (arith, as_many c.self.inside.areas.items c.args.self.now c.self.view_is, c.requires.stands.area))
    c.index_mut-area.ensures.value
    (ap length (seam c.index_mut-area.result.now.len c.convert_part.new.area
    _ (omega (arith, c.as_mut_slice.ensures.len, c.convert_part.auto.area))) ∙ c.convert_part.auto.area
    ∙ ap length c.as_mut_slice.ensures.value)
