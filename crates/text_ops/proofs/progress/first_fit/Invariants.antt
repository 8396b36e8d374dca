use Rattle.std.proofs.Common.{◌≡◌, drop}
use Rattle.text_ops.specs.Walk.{first_fit}
use Rattle.text_ops.proofs.Walks.{counted_from}
use Rattle.text_ops.proofs.progress.first_fit.Given as goal

abbrev pub invariant-loop-number : goal.invariant-loop-number
invariant-loop-number l =
    first_fit l.fn.texts l.fn.active l.fn.at l.fn.rest
    ≡ counted_from l.number (first_fit l.fn.texts (drop l.number l.fn.active) l.fn.at l.fn.rest)
