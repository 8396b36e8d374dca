use Rattle.std.proofs.Common.{◌≡◌, ◌≤◌, length, take}
use Rattle.std.specs.List.{AllByRecursion}
use Rattle.btree.specs.Calls.{OnTree}
use Rattle.btree.specs.Entries.{entries_of}
use Rattle.records.specs.Stores.{spec_of}
use Rattle.volume_format.specs.Calls.{LooksAt}
use Rattle.file_recovery.specs.Rows.{IsPairOf}
use Rattle.file_bytes.specs.Stored.{rows_of}
use Rattle.btree.proofs.Ascending.{entry_at}
use Rattle.file_recovery.proofs.pairs.check_index.Given as goal

abbrev pub invariant-loop-turn : goal.invariant-loop-turn
invariant-loop-turn g l = record {
  looks : LooksAt g.D.Device ⊥ l.fn.pages l.fn.device l.pages l.device;
  next_is : OnTree g.D.Device l.tree.layout l.tree.root l.fn.pages l.fn.device
      (λ levels. l.next ≡ entry_at l.turn (entries_of l.tree.layout levels));
  some : OnTree g.D.Device l.tree.layout l.tree.root l.fn.pages l.fn.device
      (λ levels. l.turn ≤ length (entries_of l.tree.layout levels));
  pairs : OnTree g.D.Device l.tree.layout l.tree.root l.fn.pages l.fn.device
      (λ levels. AllByRecursion (IsPairOf (spec_of l.file) l.key (rows_of l.rows))
      (take l.turn (entries_of l.tree.layout levels)));
}
