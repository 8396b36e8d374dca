use Rattle.std.proofs.Common.{◌≡◌, ◌≤◌, List, length, map, take}
use Rattle.std.specs.List.{All}
use Rattle.station.specs.Calls.{OnlyReads}
use Rattle.pages.specs.Pages.{Agrees, IsUnchanged}
use Rattle.btree_pages.specs.declared.row_layout.Kind.TheVariants.{Inner}
use Rattle.btree_pages.specs.Keys.{child_of}
use Rattle.btree.specs.Tree.{TreeNode, IsOnPage, rows_of}
use Rattle.btree.specs.Moves.{numbers_of}
use Rattle.btree.specs.Changes.{pages_of_map}
use Rattle.btree.proofs.clear.children_of.Given as goal

abbrev pub invariant-loop-place : goal.invariant-loop-place
invariant-loop-place g l = record {
  only : OnlyReads g.D.Device ⊥ l.fn.device l.device;
  unchanged : IsUnchanged l.fn.pages l.pages;
  agrees : g.D.Device.is_honest l.fn.device → Agrees l.fn.pages (g.D.Device.state l.fn.device).disk
      → Agrees l.pages (g.D.Device.state l.device).disk;
  children : g.D.Device.is_honest l.fn.device → Agrees l.fn.pages (g.D.Device.state l.fn.device).disk
      → (level : List TreeNode) →
      All (IsOnPage l.fn.layout (pages_of_map l.fn.pages (g.D.Device.state l.fn.device).disk.present) Inner) level
      → numbers_of level ≡ l.numbers →
      l.children.items ≡ map (child_of l.fn.layout) (rows_of (take l.place level));
  few : length l.children.items ≤ l.room;
}
