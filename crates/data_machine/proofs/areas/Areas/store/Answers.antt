use Rattle.std.proofs.Common.{arith, length, ◌∙◌, ap, subst, List, ℕ}
use Rattle.source_tree.specs.Arithmetic.{receiver_of, rounding_of}
use Rattle.data_machine.specs.KeptNumbers.{StoresIn}
use Rattle.data_machine.specs.Writing.{with_part}
use Rattle.data_machine.proofs.AreaBytes.{area_lengths, as_many, seam}
use Rattle.data_machine.proofs.KeptNumbers.{number_stores}
use Rattle.data_machine.proofs.areas.Areas.store.Goals as goal

pub returns-clause-stores : goal.returns-clause-stores
returns-clause-stores c =
    let one = c.args.one.now in
    number_stores c.store_part.result c.self.inside.areas.items c.args.self.now one c.args.offset c.args.keep
    c.args.rounded c.args.number c.index_mut-area.result.now _ c.store_part.new.area c.self.view_is
    (omega (arith, as_many c.self.inside.areas.items c.args.self.now c.self.view_is, c.requires.area))
    c.index_mut-area.ensures.value
    (seam c.index_mut-area.result.now.len c.store_part.new.area _
    (omega (arith, c.as_mut_slice.ensures.len, c.store_part.auto.area)))
    (subst (λ (v : List ℕ).
    StoresIn c.args.keep (rounding_of c.args.rounded) c.args.number (receiver_of one.item.kind one.editing)
    (λ to y. with_part v c.args.offset one.item.length (to.bytes y)) c.store_part.result v c.store_part.new.area)
    c.as_mut_slice.ensures.value c.store_part.ensures)

pub returns-clause-lengths : goal.returns-clause-lengths
returns-clause-lengths c =
    area_lengths c.self.inside.areas.items c.args.self.now c.args.one.now.area c.index_mut-area.result.now _
    c.self.view_is
    (omega (arith, as_many c.self.inside.areas.items c.args.self.now c.self.view_is, c.requires.area))
    c.index_mut-area.ensures.value
    (ap length (seam c.index_mut-area.result.now.len c.store_part.new.area _
    (omega (arith, c.as_mut_slice.ensures.len, c.store_part.auto.area))) ∙ c.store_part.auto.area
    ∙ ap length c.as_mut_slice.ensures.value)
