use Rattle.std.proofs.Common.{◌≡◌, ◌<◌, ◌^◌, drop}
use Rattle.decimal18.specs.Digits.{digits_after}
use Rattle.items.specs.Display.{are_digits}
use Rattle.items.proofs.Halves.{shown}
use Rattle.items.proofs.packed.pairs.Given as goal

abbrev pub invariant-loop-byte : goal.invariant-loop-byte
invariant-loop-byte l = record {
  bound : l.number < 100 ^ l.byte-index;
  number : digits_after l.number (shown (drop l.byte-index l.bytes)) ≡ digits_after 0 (shown l.bytes);
  digits : are_digits (shown (drop l.byte-index l.bytes)) ≡ are_digits (shown l.bytes);
}
