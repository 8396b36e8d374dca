use Rattle.std.proofs.Common.{◌≡◌, length, take}
use Rattle.std.specs.Prelude.{IfSome}
use Rattle.pages.specs.Pages.{mark_of}
use Rattle.btree.specs.Calls.{OnTree, pages_on}
use Rattle.btree.specs.Entries.{HasLengths, entries_of}
use Rattle.volume_format.specs.Calls.{LooksAt}
use Rattle.file_recovery.specs.Listed.{FindsFiles}
use Rattle.file_bytes.specs.Stored.{files_of}
use Rattle.file_recovery.proofs.Listed.{CanGoOn}
use Rattle.btree.proofs.Ascending.{entry_at}
use Rattle.file_recovery.proofs.catalog.read_files.Given as goal

abbrev pub invariant-loop-turn : goal.invariant-loop-turn
invariant-loop-turn g l = record {
  looks : LooksAt g.D.Device ⊥ l.fn.pages l.fn.device l.pages l.device;
  many : length l.files.items ≡ l._turn;
  lengths : IfSome l.next (HasLengths l.catalog.layout);
  next_is : OnTree g.D.Device l.catalog.layout l.catalog.root l.fn.pages l.fn.device
      (λ levels. l.next ≡ entry_at l._turn (entries_of l.catalog.layout levels));
  found : OnTree g.D.Device l.catalog.layout l.catalog.root
      l.fn.pages l.fn.device
      (λ levels. FindsFiles (mark_of l.fn.pages) (pages_on g.D.Device l.fn.pages l.fn.device) l.generation
      (take l._turn (entries_of l.catalog.layout levels)) (files_of l.files.items) l.fn.seen l.seen);
  rest : OnTree g.D.Device l.catalog.layout l.catalog.root l.fn.pages l.fn.device
      (λ levels. CanGoOn (mark_of l.fn.pages) (pages_on
      g.D.Device l.fn.pages l.fn.device) l.generation (entries_of l.catalog.layout levels) l.fn.seen l._turn l.seen);
}
