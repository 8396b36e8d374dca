use Rattle.std.specs.Int.{w64}
use Rattle.std.proofs.lemmas.Int.{to_z-of_z}
use Rattle.std.proofs.Common.{rules, FitsSigned, arith, length, ◌∙◌, ap}
use Rattle.data_machine.specs.KeptAtScale.{bytes_at_scale}
use Rattle.data_machine.specs.Writing.{with_part}
use Rattle.data_machine.proofs.AreaBytes.{area_set, area_lengths, as_many, seam}
use Rattle.data_machine.proofs.areas.Areas.store_short.Goals as goal

pub returns-clause-stores : goal.returns-clause-stores
returns-clause-stores c =
    let fits : FitsSigned w64 c.args.coefficient = search rules in
    area_set c.self.inside.areas.items c.args.self.now c.args.one.now.area c.args.offset c.args.one.now.item.length
    c.index_mut-area.result.now _ (bytes_at_scale c.args.one.now.item.kind c.args.coefficient) c.self.view_is
    (omega (arith, as_many c.self.inside.areas.items c.args.self.now c.self.view_is, c.requires.stands.area))
    c.index_mut-area.ensures.value
    (seam c.index_mut-area.result.now.len
    c.put_short_part.new.area _ (omega (arith, c.as_mut_slice.ensures.len, c.put_short_part.auto.area))
    ∙ simp to_z-of_z at c.put_short_part.ensures ∙ ap (λ v. with_part v c.args.offset c.args.one.now.item.length
    (bytes_at_scale c.args.one.now.item.kind c.args.coefficient)) c.as_mut_slice.ensures.value)

pub returns-clause-lengths : goal.returns-clause-lengths
returns-clause-lengths c =
    area_lengths c.self.inside.areas.items c.args.self.now c.args.one.now.area c.index_mut-area.result.now _
    c.self.view_is
    (omega (arith, as_many c.self.inside.areas.items c.args.self.now c.self.view_is, c.requires.stands.area))
    c.index_mut-area.ensures.value
    (ap length (seam c.index_mut-area.result.now.len c.put_short_part.new.area
    _ (omega (arith, c.as_mut_slice.ensures.len, c.put_short_part.auto.area))) ∙ c.put_short_part.auto.area
    ∙ ap length c.as_mut_slice.ensures.value)
