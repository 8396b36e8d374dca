use Rattle.std.proofs.Common.{◌≡◌, length}
use Rattle.divisions.specs.Environment.{past_description}
use Rattle.divisions.proofs.environment.past_description.Given as goal

-- what is still to be passed
abbrev pub invariant-loop-rest : goal.invariant-loop-rest
invariant-loop-rest l = past_description l.fn.tokens ≡ past_description l.rest

abbrev pub decreases-loop-rest : goal.decreases-loop-rest
decreases-loop-rest l = length l.rest
