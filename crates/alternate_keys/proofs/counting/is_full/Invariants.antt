use Rattle.std.proofs.Common.{◌≡◌, ◌≤◌, length}
use Rattle.std.specs.Prelude.{map}
use Rattle.pages.specs.Pages.{mark_of}
use Rattle.volume_format.specs.Volume.{catalog_entry}
use Rattle.volume_format.specs.Calls.{LooksAt}
use Rattle.alternate_keys.specs.Created.{OnFiles}
use Rattle.btree.proofs.Ascending.{entry_at}
use Rattle.alternate_keys.proofs.counting.is_full.Given as goal

abbrev pub invariant-loop-turn : goal.invariant-loop-turn
invariant-loop-turn g l = record {
  looks : LooksAt g.D.Device ⊥ l.fn.pages l.fn.device l.pages l.device;
  next_is : OnFiles g.D.Device l.fn.pages l.fn.device
      (λ files holds. l.next ≡ entry_at l.turn (map (catalog_entry (mark_of l.fn.pages)) holds.kept));
  some : OnFiles g.D.Device l.fn.pages l.fn.device (λ files holds. l.turn ≤ length holds.kept);
}
