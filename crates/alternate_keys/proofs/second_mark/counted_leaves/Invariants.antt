use Rattle.std.proofs.Common.{◌≡◌, ◌++◌}
use Rattle.std.specs.Prelude.{map, IfSome}
use Rattle.btree.specs.Builds.{rows_of_nodes}
use Rattle.btree.specs.Entries.{HasLengths}
use Rattle.btree.proofs.Ascending.{entry_at}
use Rattle.volume_format.specs.Calls.{LooksAt}
use Rattle.volume_format.specs.Catalog.{catalog_layout}
use Rattle.volume_format.specs.Volume.{catalog_entry}
use Rattle.alternate_keys.specs.Created.{OnFiles}
use Rattle.alternate_keys.specs.Migrated.{AreFilled}
use Rattle.alternate_keys.proofs.CatalogLeaves.{AreListed}
use Rattle.alternate_keys.proofs.second_mark.counted_leaves.Given as goal

abbrev pub invariant-loop-turn : goal.invariant-loop-turn
invariant-loop-turn g l = record {
  looks : LooksAt g.D.Device ⊥ l.fn.pages l.fn.device l.pages l.device;
  next_is : OnFiles g.D.Device l.fn.pages l.fn.device
      (λ files holds. l.next ≡ entry_at l.turn (map (catalog_entry 0) holds.kept));
  lengths : IfSome l.next (HasLengths (catalog_layout 0));
  fills : AreFilled l.turn l.leaves.items l.leaf;
  lists : OnFiles g.D.Device l.fn.pages l.fn.device
      (λ files holds. AreListed l.turn holds.kept (rows_of_nodes l.leaves.items ++ l.leaf.rows));
}
