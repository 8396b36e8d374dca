use Rattle.std.proofs.Common.{◌≡◌}
use Rattle.data_instructions.specs.Shapes as spec
use Rattle.data_instructions.proofs.effects.without_places.Given as goal

abbrev pub invariant-loop-left : goal.invariant-loop-left
invariant-loop-left l = spec.without_places l.left l.rest ≡ spec.without_places l.fn.count l.fn.stacks

abbrev pub decreases-loop-left : goal.decreases-loop-left
decreases-loop-left l = l.left
