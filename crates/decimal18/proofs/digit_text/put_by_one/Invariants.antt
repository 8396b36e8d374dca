use Rattle.std.proofs.Common.{◌≡◌, ◌-◌, ◌/◌, ◌^◌, drop, length}
use Rattle.decimal18.specs.Digits.{digit_text}
use Rattle.decimal18.proofs.digit_text.put_by_one.Given as goal

abbrev pub invariant-loop-place : goal.invariant-loop-place
invariant-loop-place l = record {
  rest : l.rest ≡ l.number / 10 ^ l.place;
  written : drop (length l.bytes - l.place) l.bytes ≡ digit_text l.place l.number;
}
