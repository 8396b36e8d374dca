use Rattle.std.proofs.Common.{◌≤◌, List, [], take}
use Rattle.station.specs.Disk.{Sector}
use Rattle.pages.specs.Pages.{filled_of, KeepsCommitted}
use Rattle.btree.specs.Moves.{Moves}
use Rattle.btree.specs.Changes.{pages_of_map}
use Rattle.btree.proofs.clear.release_pages.Given as goal

abbrev pub invariant-loop-place : goal.invariant-loop-place
invariant-loop-place l = record {
  moves : (image : List Sector)
      → Moves (pages_of_map l.fn.pages image) (take l.place l.numbers) (pages_of_map l.pages image) [];
  filled : filled_of l.pages ≤ filled_of l.fn.pages;
  keeps : KeepsCommitted l.fn.pages l.pages;
}
