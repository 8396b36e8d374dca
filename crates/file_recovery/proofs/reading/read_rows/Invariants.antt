use Rattle.std.proofs.Common.{◌≡◌, take}
use Rattle.std.specs.Prelude.{IfSome}
use Rattle.std.specs.List.{AllByRecursion}
use Rattle.btree.specs.Calls.{pages_on, OnTree}
use Rattle.btree.specs.Entries.{HasLengths, entries_of}
use Rattle.records.specs.Files.{IsRow}
use Rattle.records.specs.Stores.{spec_of}
use Rattle.volume_format.specs.Calls.{LooksAt}
use Rattle.file_bytes.specs.Stored.{rows_of}
use Rattle.btree.proofs.Ascending.{entry_at}
use Rattle.file_recovery.specs.Rows.{FindsRows}
use Rattle.file_recovery.proofs.reading.read_rows.Given as goal

abbrev pub invariant-loop-turn : goal.invariant-loop-turn
invariant-loop-turn g l = record {
  looks : LooksAt g.D.Device ⊥ l.fn.pages l.fn.device l.pages l.device;
  are : AllByRecursion (IsRow (spec_of l.file) l.next_arrival) (rows_of l.rows.items);
  lengths : IfSome l.next (HasLengths l.tree.layout);
  next_is : OnTree g.D.Device l.tree.layout l.tree.root l.fn.pages l.fn.device
      (λ levels. l.next ≡ entry_at l._turn (entries_of l.tree.layout levels));
  found : OnTree g.D.Device l.tree.layout l.tree.root l.fn.pages l.fn.device (λ levels.
      FindsRows (spec_of l.file) (pages_on g.D.Device l.fn.pages l.fn.device)
      (take l._turn (entries_of l.tree.layout levels)) (rows_of l.rows.items) l.fn.seen l.seen);
}
