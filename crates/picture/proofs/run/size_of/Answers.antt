use Rattle.std.proofs.Common.{◌*◌, slice_index_or, ap, arith}
use Rattle.picture.specs.declared.symbol.Symbol.TheVariants.{A}
use Rattle.picture.proofs.Counts.{sized_within}
use Rattle.picture.proofs.run.size_of.Goals as goal

pub overflow_mul-places : goal.overflow_mul-places
overflow_mul-places c =
    let h = sized_within c.args.runs.now c.loop-run.run-index (record { symbol = A; count = 0 }) c.loop-run.places
    c.loop-run-test.true c.loop-run.invariant in
    let w = ap (λ n. n * (slice_index_or c.args.runs.now c.loop-run.run-index (record { symbol = A; count = 0 })).count)
    c.width.ensures in
    omega arith

pub overflow_add-places : goal.overflow_add-places
overflow_add-places c =
    let h = sized_within c.args.runs.now c.loop-run.run-index (record { symbol = A; count = 0 }) c.loop-run.places
    c.loop-run-test.true c.loop-run.invariant in
    let w = ap (λ n. n * (slice_index_or c.args.runs.now c.loop-run.run-index (record { symbol = A; count = 0 })).count)
    c.width.ensures in
    omega arith
