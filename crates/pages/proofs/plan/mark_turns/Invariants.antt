use Rattle.std.proofs.Common.{◌≡◌, length, take}
use Rattle.pages.specs.Use.{use_after}
use Rattle.pages.specs.Volumes.{unused_count}
use Rattle.pages.proofs.plan.mark_turns.Given as goal

abbrev pub invariant-loop-turn : goal.invariant-loop-turn
invariant-loop-turn l = record {
  count : length l.used ≡ length l.initial.used;
  marked : l.used ≡ use_after l.initial.used (take l.turn-index l.turns);
  free : l.free ≡ unused_count l.used;
}
