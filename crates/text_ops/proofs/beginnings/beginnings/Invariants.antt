use Rattle.std.proofs.Common.{take}
use Rattle.text_ops.specs.Beginnings.{AreMarked}
use Rattle.text_ops.proofs.beginnings.beginnings.Given as goal

abbrev pub invariant-loop-progress : goal.invariant-loop-progress
invariant-loop-progress l = AreMarked l.fn.texts l.marks (take l.progress-index l.fn.active)
