use Rattle.std.proofs.Common.{ℕ, ◌<◌}
use Rattle.std.specs.Prelude.{slice_index}
use Rattle.code_image.specs.Demands.{StartsAt}
use Rattle.code_image.proofs.paragraph.all_start.Given as goal

abbrev pub invariant-loop-number : goal.invariant-loop-number
invariant-loop-number l = (k : ℕ) → k < l.number → StartsAt l.code.instructions k (slice_index l.code.starts k)
