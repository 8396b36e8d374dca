use Rattle.std.proofs.Common.{ap, arith}
use Rattle.records.specs.declared.file_spec.KeyPlace.{KeyPlace}
use Rattle.records.specs.Stores.{spec_of}
use Rattle.volume_format.proofs.Small.{place_short}
use Rattle.alternate_keys.proofs.search_keys.put_key.Goals as goal

pub set_filled-requires-then-value-count-clause-count : goal.set_filled-requires-then-value-count-clause-count
set_filled-requires-then-value-count-clause-count c =
    let is = ap (λ (p : KeyPlace). p.length) c.key_place-count.ensures.place in
    let short = place_short (spec_of c.args.file.now) c.args.key c.args.file.now.sound c.requires.key in
    omega (arith, is, short)

pub put_whole_key-requires-clause-count : goal.put_whole_key-requires-clause-count
put_whole_key-requires-clause-count c =
    let is = ap (λ (p : KeyPlace). p.length) c.key_place-count.ensures.place in
    let short = place_short (spec_of c.args.file.now) c.args.key c.args.file.now.sound c.requires.key in
    omega (arith, is, short)
