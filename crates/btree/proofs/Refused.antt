-- What a refusal tells of the page numbers.
use Rattle.std.proofs.Common.{◌≡◌, ◌<◌, ◌≤◌, ◌+◌, false, true, ℕ, length, Err, sym, ◌∙◌, ap, subst, arith}
use Rattle.std.specs.Prelude.{◌↔◌, Result}
use Rattle.pages.specs.Use.{free_count}
use Rattle.pages.specs.Volumes.{volume_of}
use Rattle.pages.specs.Pages.{is_spent, committed_of, changed_pages_of, HasEachPage, SameCommitted, FewFree}
use Rattle.pages.specs.declared.volume.VolumeMap.{VolumeMap}
use Rattle.pages.specs.declared.page_map.PageMap.{PageMap}
use Rattle.pages.specs.declared.error.PagesError.{PagesError}
use Rattle.pages.specs.declared.error.PagesError.TheVariants.{Full, Spent}
use Rattle.btree.proofs.Frames.{false_unless}

-- an allocation that answers `Full` leaves the map as it was, and each page number is used there
pub each_used : (old new : PageMap) (result : Result ℕ PagesError) → result ≡ Err Full
    → (is_spent old ≡ false → (result ≡ Err Full) ↔ HasEachPage old) → (result ≡ Err Full → new ≡ old)
    → ((result ≡ Err Spent) ↔ (is_spent old ≡ true))
    → HasEachPage new
each_used old new result is full same spent =
    let unspent : is_spent old ≡ false =
    false_unless (is_spent old) (λ was. let other : result ≡ Err Spent = spent.1 was in cc) in
    subst HasEachPage (sym (same is)) ((full unspent).0 is)

-- where each page number is used after a call, few sectors are free
pub few_left : (old new : PageMap) (n : ℕ) → FewFree → SameCommitted old new
    → is_spent old ≡ false → HasEachPage new → length (changed_pages_of new) ≤ length (changed_pages_of old) + n
    → free_count (committed_of old) < length (changed_pages_of old) + n
few_left old new n law same unspent each few =
    let free : free_count (committed_of new) < length (changed_pages_of new) =
    law new (same.spent ∙ unspent) each in
    let still : free_count (committed_of new) ≡ free_count (committed_of old) =
    ap (λ (v : VolumeMap). free_count (volume_of v)) same.volume in
    omega (arith, free, still, few)
