use Rattle.std.proofs.Common.{arith}
use Rattle.decimal18.proofs.Powers.{power_le}
use Rattle.decimal18.proofs.Receivers.{low_made}
use Rattle.decimal18.proofs.decimal.Dec.long_cut.Goals as goal

pub from_parts-requires-clause-magnitude : goal.from_parts-requires-clause-magnitude
from_parts-requires-clause-magnitude c =
    omega (arith, c.low_part-kept.ensures.bound, power_le c.args.digits 38 c.requires.digits)

pub returns : goal.returns
returns c =
    low_made c.args.self c.args.digits c.args.scale c.args.rounding c.is_negative.result c.magnitude.result
    c.scale.result c.low_part-kept.result c.from_parts.result c.is_negative.ensures c.magnitude.ensures.value
    c.scale.ensures.value c.low_part-kept.ensures.value c.from_parts.ensures
