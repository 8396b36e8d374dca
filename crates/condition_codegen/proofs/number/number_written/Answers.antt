use Rattle.std.proofs.Common.{◌∙◌}
use Rattle.data_entries.proofs.Digits.{room, first_room, magnitude_of, number_of}
use Rattle.condition_codegen.proofs.number.number_written.Goals as goal

pub number_after-requires : goal.number_after-requires
number_after-requires c = first_room c.args.one.now c.as_slice.result.now c.requires c.as_slice.ensures

pub number_after-requires-2 : goal.number_after-requires-2
number_after-requires-2 c =
    room c.args.one.now c.as_slice.result.now c.as_slice-2.result.now c.in-Some.whole c.requires c.as_slice.ensures
    c.as_slice-2.ensures c.in-Some.ensures.bound

pub returns : goal.returns
returns c =
    let magnitude = magnitude_of c.args.one.now c.as_slice.result.now c.as_slice-2.result.now
    c.in-Some.whole c.in-Some-number_after.magnitude c.as_slice.ensures c.as_slice-2.ensures c.in-Some.ensures.value
    c.in-Some-number_after.ensures.value in
    c.from_parts.ensures ∙ number_of c.args.one.now c.is_minus.result c.from.result c.len-scale.result
    c.is_minus.ensures (c.from.ensures ∙ magnitude) c.len-scale.ensures
