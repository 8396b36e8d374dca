-- A map of pages that isn't spent has few page numbers.
use Rattle.std.proofs.Common.{◌≡◌, ◌≤◌, false, true, ℕ, List, length}
use Rattle.station.specs.Disk.{Sector}
use Rattle.pages.specs.Pages.{is_spent, page_count}
use Rattle.pages.specs.declared.page_map.PageMap.{PageMap}
use Rattle.btree.specs.Changes.{pages_of_map}
use Rattle.btree.specs.Laws.{IsSmall}
use Rattle.btree.proofs.Frames.{false_unless}
use Rattle.btree.proofs.TreeNodes.{few_pages}

pub small_map : (pages : PageMap) (image : List Sector) (number : ℕ)
    → length (pages_of_map pages image) ≡ page_count pages → number ≡ page_count pages
    → (is_spent pages ≡ false → number ≤ 921600) → (is_spent pages ≡ true → ⊥) → IsSmall (pages_of_map pages image)
small_map pages image number count is few unspent =
    few_pages (pages_of_map pages image) (page_count pages) number count is
    (few (false_unless (is_spent pages) unspent))
