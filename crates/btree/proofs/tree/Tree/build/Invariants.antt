use Rattle.std.proofs.Common.{◌≤◌, ◌+◌, length}
use Rattle.pages.specs.Pages.{KeepsCommitted, changed_pages_of, filled_of}
use Rattle.btree.specs.Changes.{pages_of_map}
use Rattle.btree.proofs.PlacedLeaves.{PlacedTop}
use Rattle.btree.proofs.tree.Tree.build.Given as goal

abbrev pub invariant-loop-turn : goal.invariant-loop-turn
invariant-loop-turn l = record {
  top : PlacedTop l.layout (pages_of_map l.fn.pages) (pages_of_map l.pages) l.leaves l.turn l.root l.top;
  changes : length (changed_pages_of l.pages) ≤ length (changed_pages_of l.fn.pages) + l.turn;
  fills : filled_of l.pages ≤ filled_of l.fn.pages + l.turn;
  keeps : KeepsCommitted l.fn.pages l.pages;
}
