use Rattle.std.proofs.Common.{arith, length, ◌+◌, ◌∙◌, ap, List, ℕ}
use Rattle.std.specs.Prelude.{slice_range}
use Rattle.source_tree.specs.Initializing.{overlaid}
use Rattle.data_instructions.specs.Table.{pattern_of}
use Rattle.data_machine.specs.Writing.{with_part}
use Rattle.data_machine.proofs.AreaBytes.{part_set, area_lengths, as_many, seam}
use Rattle.data_machine.proofs.areas.Areas.overlay.Goals as goal

pub returns-clause-stores : goal.returns-clause-stores
returns-clause-stores c =
    let one = c.args.one.now in
    let end : ℕ = c.args.offset + one.item.length in
    part_set c.self.inside.areas.items c.args.self.now one c.args.offset c.index_mut-area.result.now _
    (overlaid (pattern_of c.args.bytes.now c.args.marks.now)) c.self.view_is
    (omega (arith, as_many c.self.inside.areas.items c.args.self.now c.self.view_is, c.requires.area))
    c.index_mut-area.ensures.value
    (seam c.index_mut-area.result.now.len c.overlay_part.new.area _
    (omega (arith, c.as_mut_slice.ensures.len, c.overlay_part.auto.area))
    ∙ c.overlay_part.ensures
    ∙ ap (λ (v : List ℕ). with_part v c.args.offset one.item.length (overlaid
    (pattern_of c.args.bytes.now c.args.marks.now) (slice_range v c.args.offset end))) c.as_mut_slice.ensures.value)

pub returns-clause-lengths : goal.returns-clause-lengths
returns-clause-lengths c =
    area_lengths c.self.inside.areas.items c.args.self.now c.args.one.now.area c.index_mut-area.result.now _
    c.self.view_is
    (omega (arith, as_many c.self.inside.areas.items c.args.self.now c.self.view_is, c.requires.area))
    c.index_mut-area.ensures.value
    (ap length (seam c.index_mut-area.result.now.len c.overlay_part.new.area
    _ (omega (arith, c.as_mut_slice.ensures.len, c.overlay_part.auto.area))) ∙ c.overlay_part.auto.area
    ∙ ap length c.as_mut_slice.ensures.value)
