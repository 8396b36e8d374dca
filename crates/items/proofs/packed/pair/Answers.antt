use Rattle.std.proofs.Common.{◌<◌, arith}
use Rattle.items.proofs.Pairs.{pair_found, no_pair_found}
use Rattle.items.proofs.packed.pair.Goals as goal

pub returns-clause-digits : goal.returns-clause-digits
returns-clause-digits c =
    let within : c.args.byte < 256 = omega arith in
    pair_found c.args.byte 0 within

pub returns-clause-none : goal.returns-clause-none
returns-clause-none c =
    let within : c.args.byte < 256 = omega arith in
    no_pair_found c.args.byte 0 within
