use Rattle.std.proofs.Common.{◌≤◌}
use Rattle.std.specs.Prelude.{IfSome}
use Rattle.pages.specs.Pages.{filled_of, Agrees}
use Rattle.btree.specs.Changes.{pages_of_map}
use Rattle.btree.specs.Entries.{HasLengths}
use Rattle.volume_format.specs.Forest.{TreeLevels}
use Rattle.row_trees.specs.Calls.{EditsPages}
use Rattle.row_trees.specs.RowTree.{IsRowTree}
use Rattle.row_trees.proofs.Releasing.{Releasing}
use Rattle.row_trees.proofs.clearing.release_chains.Given as goal

abbrev pub invariant-loop-place : goal.invariant-loop-place
invariant-loop-place g l = record {
  edits : EditsPages g.D.Device ⊥ l.fn.pages l.fn.device l.pages l.device;
  filled : filled_of l.pages ≤ filled_of l.fn.pages;
  lengths : IfSome l.next (HasLengths l.fn.tree.layout);
  rest : g.D.Device.is_honest l.fn.device → Agrees l.fn.pages (g.D.Device.state l.fn.device).disk
      → (planted : TreeLevels)
      → IsRowTree (pages_of_map l.fn.pages (g.D.Device.state l.fn.device).disk.present)
      (record { tree = l.fn.tree; record_bytes = l.fn.record_bytes }) planted
      → Releasing (pages_of_map l.fn.pages (g.D.Device.state l.fn.device).disk.present)
      (record { tree = l.fn.tree; record_bytes = l.fn.record_bytes }) planted.levels
      (pages_of_map l.pages (g.D.Device.state l.fn.device).disk.present) l.place l.next;
}
