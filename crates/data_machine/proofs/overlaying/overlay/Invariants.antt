use Rattle.std.proofs.Common.{◌≡◌, ◌++◌, take, drop, length}
use Rattle.source_tree.specs.Initializing.{overlaid}
use Rattle.data_instructions.specs.Table.{pattern_of}
use Rattle.data_machine.proofs.overlaying.overlay.Given as goal

abbrev pub invariant-loop-at : goal.invariant-loop-at
invariant-loop-at l =
    (length l.to ≡ length l.initial.to)
    × (take l.at l.to ++ overlaid (drop l.at (pattern_of l.bytes l.marks)) (drop l.at l.to)
    ≡ overlaid (pattern_of l.bytes l.marks) l.initial.to)
