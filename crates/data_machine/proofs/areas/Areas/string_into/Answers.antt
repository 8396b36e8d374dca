use Rattle.std.proofs.Common.{arith, length, ◌+◌, ◌∙◌, ap, List, ℕ}
use Rattle.std.specs.Prelude.{slice_range}
use Rattle.text_ops.specs.Strings.{string_of_senders}
use Rattle.data_machine.specs.Writing.{with_part}
use Rattle.data_machine.proofs.AreaBytes.{part_set, area_lengths, as_many, seam}
use Rattle.data_machine.proofs.areas.Areas.string_into.Goals as goal

pub returns-clause-stores : goal.returns-clause-stores
returns-clause-stores c =
    let one = c.args.one.now in
    let end : ℕ = c.args.offset + one.item.length in
    part_set c.self.inside.areas.items c.args.self.now one c.args.offset c.index_mut-area.result.now _
    (λ (bytes : List ℕ). (string_of_senders c.args.at c.args.text.now bytes).receiver) c.self.view_is
    (omega (arith, as_many c.self.inside.areas.items c.args.self.now c.self.view_is, c.requires.area))
    c.index_mut-area.ensures.value
    (seam c.index_mut-area.result.now.len c.string_part.new.area _
    (omega (arith, c.as_mut_slice.ensures.len, c.string_part.auto.area))
    ∙ c.string_part.ensures.bytes
    ∙ ap (λ (v : List ℕ). with_part v c.args.offset one.item.length (string_of_senders c.args.at c.args.text.now
    (slice_range v c.args.offset end)).receiver) c.as_mut_slice.ensures.value)

pub returns-clause-lengths : goal.returns-clause-lengths
returns-clause-lengths c =
    area_lengths c.self.inside.areas.items c.args.self.now c.args.one.now.area c.index_mut-area.result.now _
    c.self.view_is
    (omega (arith, as_many c.self.inside.areas.items c.args.self.now c.self.view_is, c.requires.area))
    c.index_mut-area.ensures.value
    (ap length (seam c.index_mut-area.result.now.len c.string_part.new.area
    _ (omega (arith, c.as_mut_slice.ensures.len, c.string_part.auto.area))) ∙ c.string_part.auto.area
    ∙ ap length c.as_mut_slice.ensures.value)
