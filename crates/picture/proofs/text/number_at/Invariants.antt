use Rattle.std.proofs.Common.{◌≡◌, ◌≤◌, length}
use Rattle.picture.specs.Text.{number_at}
use Rattle.picture.proofs.text.number_at.Given as goal

abbrev pub invariant-loop-rest : goal.invariant-loop-rest
invariant-loop-rest l = (number_at l.number l.rest ≡ number_at 0 l.text) × (length l.rest ≤ length l.text)

abbrev pub decreases-loop-rest : goal.decreases-loop-rest
decreases-loop-rest l = length l.rest
