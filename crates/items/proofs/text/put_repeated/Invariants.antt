use Rattle.std.proofs.Common.{◌≡◌, ◌-◌, ◌<◌, ◌++◌, take, length}
use Rattle.items.specs.Texts.{repeated_text}
use Rattle.items.proofs.Repeats.{to_come}
use Rattle.items.proofs.text.put_repeated.Given as goal

abbrev pub invariant-loop-byte : goal.invariant-loop-byte
invariant-loop-byte l = record {
  within : l.at < length l.text;
  written : take l.byte-index l.bytes ++ to_come (length l.bytes - l.byte-index) (length l.bytes) l.text l.at
      ≡ repeated_text (length l.bytes) l.text;
}
