use Rattle.std.proofs.Common.{sym, ◌∙◌, arith}
use Rattle.picture.specs.declared.symbol.Symbol.TheVariants.{A}
use Rattle.picture.proofs.Counts.{counted_within}
use Rattle.picture.proofs.run.occurrences.Goals as goal

pub overflow_add-found : goal.overflow_add-found
overflow_add-found c =
    let h =
    counted_within c.args.class c.args.runs.now c.loop-run.run-index (record { symbol = A; count = 0 }) c.loop-run.found
    c.loop-run-test.true c.loop-run.invariant (sym c.has.ensures ∙ c.if-has.true) in
    omega arith
