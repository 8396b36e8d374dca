use Rattle.std.proofs.Common.{◌≡◌, length}
use Rattle.file_recovery.specs.Read.{roots_in}
use Rattle.file_recovery.proofs.listing.read_roots.Given as goal

abbrev pub invariant-loop-key : goal.invariant-loop-key
invariant-loop-key l = record {
  roots : l.roots.items ≡ roots_in l.key l.value;
  long : length l.roots.items ≡ l.key;
}
