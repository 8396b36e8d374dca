use Rattle.std.proofs.Common.{◌≡◌, ◌++◌, drop}
use Rattle.code_image.specs.Demands.{paragraph_at, performed_from, performed_by_code}
use Rattle.code_image.proofs.paragraph.performed_by.Given as goal

-- What was found, and what the rest performs, is what all perform.
abbrev pub invariant-loop-address : goal.invariant-loop-address
invariant-loop-address l =
    l.ranges.items ++ performed_from (paragraph_at l.instructions l.address) (drop l.address l.instructions)
    ≡ performed_by_code l.instructions
