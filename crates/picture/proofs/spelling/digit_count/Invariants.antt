use Rattle.std.proofs.Common.{◌≡◌, ◌<◌, ◌≤◌, ◌+◌, ◌-◌, ◌^◌, length}
use Rattle.picture.specs.Spelling.{decimal}
use Rattle.picture.proofs.spelling.digit_count.Given as goal

abbrev pub invariant-loop-rest : goal.invariant-loop-rest
invariant-loop-rest l = record {
  some : 1 ≤ l.digits;
  most : l.digits ≤ 27;
  below : l.rest < 10 ^ (27 - (l.digits - 1));
  counted : length (decimal 27 l.number) + 1 ≡ l.digits + length (decimal (27 - (l.digits - 1)) l.rest);
}

abbrev pub decreases-loop-rest : goal.decreases-loop-rest
decreases-loop-rest l = l.rest
