use Rattle.std.proofs.Common.{◌≡◌, length, map, take}
use Rattle.text_ops.specs.Walk.{initial_progress}
use Rattle.text_ops.proofs.progress.begin.Given as goal

abbrev pub invariant-loop-number : goal.invariant-loop-number
invariant-loop-number l = record {
  size : length l.active ≡ length l.fn.entries;
  begun : take l.number l.active ≡ map (initial_progress l.fn.texts l.fn.subject) (take l.number l.fn.entries);
}
