use Rattle.std.proofs.Common.{◌≡◌, ◌<◌, ◌^◌, drop}
use Rattle.decimal18.specs.Digits.{digits_after}
use Rattle.decimal18.proofs.digits.long_number_after.Given as goal

abbrev pub invariant-loop-digit : goal.invariant-loop-digit
invariant-loop-digit l = record {
  below : l.number < 10 ^ 38;
  rest : digits_after l.number (drop l.digit-index l.digits) ≡ digits_after l.fn.front l.digits;
}
