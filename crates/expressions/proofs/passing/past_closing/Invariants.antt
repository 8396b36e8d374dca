use Rattle.std.proofs.Common.{◌≡◌, ◌≤◌, ◌+◌, suc, length}
use Rattle.expressions.specs.Looking.{past_closing}
use Rattle.expressions.proofs.passing.past_closing.Given as goal

-- what is still to be closed, and that no more are open inside than tokens were passed
abbrev pub invariant-loop-rest : goal.invariant-loop-rest
invariant-loop-rest l = record {
  same : past_closing l.fn.tokens (suc 0) ≡ past_closing l.rest (suc l.inner);
  fewer : l.inner + length l.rest ≤ length l.fn.tokens;
}

abbrev pub decreases-loop-rest : goal.decreases-loop-rest
decreases-loop-rest l = length l.rest
