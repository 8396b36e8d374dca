use Rattle.std.proofs.Common.{◌≡◌, ◌<◌, ◌≤◌, ◌+◌, ◌*◌, List, length, drop, false}
use Rattle.station.specs.Disk.{Sector}
use Rattle.pages.specs.Pages.{changed_pages_of, filled_of, is_spent, KeepsCommitted}
use Rattle.btree.specs.Changes.{pages_of_map}
use Rattle.chains.specs.Chain.{pages_for}
use Rattle.chains.specs.Changes.{Lays}
use Rattle.chains.proofs.laying.lay.Given as goal

abbrev pub invariant-parts : goal.invariant-parts
invariant-parts l = record {
  within : l.place ≤ pages_for (length l.bytes);
  laid : (image : List Sector) → Lays (pages_of_map l.fn.pages image) (drop (l.place * 4080) l.bytes)
      (pages_of_map l.pages image) l.next;
  changed_pages : length (changed_pages_of l.pages) + l.place
      ≤ length (changed_pages_of l.fn.pages) + pages_for (length l.bytes);
  filled : filled_of l.pages + l.place ≤ filled_of l.fn.pages + pages_for (length l.bytes);
  keeps : KeepsCommitted l.fn.pages l.pages;
  unspent : l.place < pages_for (length l.bytes) → is_spent l.fn.pages ≡ false;
}

abbrev pub decreases-parts : goal.decreases-parts
decreases-parts l = l.place
