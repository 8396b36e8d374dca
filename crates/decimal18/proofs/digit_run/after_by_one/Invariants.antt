use Rattle.std.proofs.Common.{◌≡◌, ◌+◌, ◌-◌, ◌*◌, ◌≤◌, ◌^◌, drop, length}
use Rattle.std.specs.Char.{is_ascii_digit}
use Rattle.std.specs.List.{list_all}
use Rattle.decimal18.specs.Digits.{digits_after}
use Rattle.decimal18.proofs.digit_run.after_by_one.Given as goal

abbrev pub invariant-loop-digit : goal.invariant-loop-digit
invariant-loop-digit l = record {
  room : (l.number + 1) * 10 ^ (length l.digits - l.digit-index) ≤ (l.fn.front + 1) * 10 ^ length l.digits;
  number : digits_after l.number (drop l.digit-index l.digits) ≡ digits_after l.fn.front l.digits;
  digits : list_all is_ascii_digit (drop l.digit-index l.digits) ≡ list_all is_ascii_digit l.digits;
}
