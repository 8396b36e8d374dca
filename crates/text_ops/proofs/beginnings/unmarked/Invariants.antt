use Rattle.std.proofs.Common.{◌≡◌, ◌<◌, ℕ, true, false, get_or}
use Rattle.text_ops.proofs.beginnings.unmarked.Given as goal

abbrev pub invariant-loop-count : goal.invariant-loop-count
invariant-loop-count l = (k : ℕ) → k < l.count → get_or l.fn.marks (get_or l.fn.text k 0) true ≡ false
