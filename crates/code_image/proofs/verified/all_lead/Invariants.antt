use Rattle.std.proofs.Common.{ℕ, ◌<◌}
use Rattle.std.specs.Prelude.{slice_get}
use Rattle.code_image.specs.Demands.{HasValidTargets}
use Rattle.code_image.proofs.verified.all_lead.Given as goal

abbrev pub invariant-loop-address : goal.invariant-loop-address
invariant-loop-address l = (k : ℕ) → k < l.address → HasValidTargets l.instructions k (slice_get l.instructions k)
