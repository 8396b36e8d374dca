use Rattle.std.proofs.Common.{◌≡◌, ◌≤◌, drop}
use Rattle.decimal18.specs.Digits.{digits_after}
use Rattle.data_entries.proofs.integers.within.Given as goal

abbrev pub invariant-loop-digit : goal.invariant-loop-digit
invariant-loop-digit l = record {
  bounded : l.number ≤ l.fn.most;
  same : digits_after l.number (drop l.digit-index l.digits) ≡ digits_after 0 l.digits;
}
