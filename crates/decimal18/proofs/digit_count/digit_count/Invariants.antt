use Rattle.std.proofs.Common.{◌≤◌, ◌<◌, ◌-◌, ◌^◌}
use Rattle.decimal18.proofs.digit_count.digit_count.Given as goal

abbrev pub invariant-loop-least : goal.invariant-loop-least
invariant-loop-least l = record {
  inside : l.least ≤ l.most;
  limit : l.most ≤ 38;
  below : l.magnitude < 10 ^ l.most;
  above : 0 < l.least → 10 ^ (l.least - 1) ≤ l.magnitude;
}

abbrev pub decreases-loop-least : goal.decreases-loop-least
decreases-loop-least l = l.most - l.least
