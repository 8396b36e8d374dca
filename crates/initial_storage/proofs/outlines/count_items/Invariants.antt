use Rattle.std.proofs.Common.{◌≡◌, ◌≤◌, ◌+◌, drop}
use Rattle.initial_storage.proofs.Counted.{entry_count}
use Rattle.initial_storage.proofs.outlines.count_items.Given as goal

abbrev pub invariant-loop-entry : goal.invariant-loop-entry
invariant-loop-entry l = record {
  so_far : l.count + entry_count (drop l.entry-index l.entries) ≡ entry_count l.entries;
  within : l.count ≤ l.entry-index;
}
