use Rattle.std.proofs.Common.{◌∙◌, ap, unsigned_abs}
use Rattle.std.specs.Int.{w64}
use Rattle.std.proofs.lemmas.Int.{to_z-of_z}
use Rattle.decimal18.specs.Fraction.{is_negative}
use Rattle.decimal18.proofs.Receivers.{low_made}
use Rattle.decimal18.proofs.Signs.{below_zero}
use Rattle.decimal18.proofs.decimal.Dec.short_cut.Goals as goal

pub returns : goal.returns
returns c =
    let same = to_z-of_z w64 c.args.coefficient c.ranges.coefficient ∙ c.requires.same in
    low_made c.args.self c.args.digits c.args.scale c.args.rounding _ c.unsigned_abs-magnitude.result c.scale.result
    c.low_part-kept.result c.short_parts.result (below_zero _ ∙ ap is_negative same)
    (c.unsigned_abs-magnitude.ensures.value ∙ ap unsigned_abs same) c.scale.ensures.value
    c.low_part-kept.ensures.value c.short_parts.ensures
