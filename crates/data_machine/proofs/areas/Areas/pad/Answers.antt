use Rattle.std.proofs.Common.{arith, length, ◌∙◌, ap}
use Rattle.items.specs.Texts.{padded_text}
use Rattle.data_machine.specs.Writing.{with_part}
use Rattle.data_machine.proofs.AreaBytes.{area_set, area_lengths, as_many, seam}
use Rattle.data_machine.proofs.areas.Areas.pad.Goals as goal

pub returns-clause-stores : goal.returns-clause-stores
returns-clause-stores c =
    area_set c.self.inside.areas.items c.args.self.now c.args.one.now.area c.args.offset c.args.one.now.item.length
    c.index_mut-area.result.now _ (padded_text c.args.one.now.item.length c.args.text.now) c.self.view_is
    (omega (arith, as_many c.self.inside.areas.items c.args.self.now c.self.view_is, c.requires.area))
    c.index_mut-area.ensures.value
    (seam c.index_mut-area.result.now.len
    c.pad_part.new.area _ (omega (arith, c.as_mut_slice.ensures.len, c.pad_part.auto.area)) ∙ c.pad_part.ensures
    ∙ ap (λ v. with_part v c.args.offset c.args.one.now.item.length
    (padded_text c.args.one.now.item.length c.args.text.now)) c.as_mut_slice.ensures.value)

pub returns-clause-lengths : goal.returns-clause-lengths
returns-clause-lengths c =
    area_lengths c.self.inside.areas.items c.args.self.now c.args.one.now.area c.index_mut-area.result.now _
    c.self.view_is
    (omega (arith, as_many c.self.inside.areas.items c.args.self.now c.self.view_is, c.requires.area))
    c.index_mut-area.ensures.value
    (ap length (seam c.index_mut-area.result.now.len
    c.pad_part.new.area _ (omega (arith, c.as_mut_slice.ensures.len, c.pad_part.auto.area))) ∙ c.pad_part.auto.area
    ∙ ap length c.as_mut_slice.ensures.value)
