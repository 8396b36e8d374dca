-- What a call that changes a page leaves of the map of pages, and which refusals it reports.
use Rattle.std.specs.Prelude.{◌≡◌, ◌≤◌, ◌+◌, ◌↔◌, ℕ, List, Option, None, Some, Result, Err, OnOk, OnErr, IfOk, true}
use Rattle.std.specs.Prelude.{false}
use Rattle.std.specs.Prelude.{slice_set}
use Rattle.station.specs.Disk.{Sector}
use Rattle.pages.specs.Changes.{ChangesPage}
use Rattle.pages.specs.Cache.{cache_without}
use Rattle.pages.specs.Pages.{map_now, page_of, changed_pages_of, filled_of, is_spent, sectors_of, mark_of, cache_of}
use Rattle.pages.specs.Pages.{HasEachPage}
use Rattle.pages.specs.declared.error.PagesError.{PagesError}
use Rattle.pages.specs.declared.error.PagesError.TheVariants.{Full, Spent}
use Rattle.pages.specs.declared.page_map.PageMap.{PageMap}

-- the same map, over any image
abbrev pub SameMap : PageMap → PageMap → Type 0
SameMap old new = (image : List Sector) → map_now new image ≡ map_now old image

-- the same pages were changed since the last commit, and as many of them have bytes
abbrev pub SameChanges : PageMap → PageMap → Type 0
SameChanges old new = changed_pages_of new ≡ changed_pages_of old

abbrev pub SameFilled : PageMap → PageMap → Type 0
SameFilled old new = filled_of new ≡ filled_of old

-- the same mark of the next commit, and the same size of the volume
abbrev pub SameMark : PageMap → PageMap → Type 0
SameMark old new = mark_of new ≡ mark_of old

abbrev pub SameSectors : PageMap → PageMap → Type 0
SameSectors old new = sectors_of new ≡ sectors_of old

-- the same pages in the cache, in the same order of use; and room for as many
abbrev pub SameCache : PageMap → PageMap → Type 0
SameCache old new = cache_of new ≡ cache_of old

abbrev pub SameCapacity : PageMap → PageMap → Type 0
SameCapacity old new = (cache_of new).cap ≡ (cache_of old).cap

-- over any image, a page has these bytes, or none, and the other pages of the map are as before
abbrev pub ReplacesPage : Option Sector → PageMap → PageMap → ℕ → Type 0
ReplacesPage bytes old new page = (image : List Sector)
    → (map_now new image).pages ≡ slice_set (map_now old image).pages page bytes

-- a page joins those that were changed since the last commit, or was among them
abbrev pub AddsChange : PageMap → PageMap → ℕ → Type 0
AddsChange old new page = ChangesPage (changed_pages_of old) page (changed_pages_of new)

-- the cache is as before, without a page
abbrev pub ForgetsPage : PageMap → PageMap → ℕ → Type 0
ForgetsPage old new page = cache_of new ≡ cache_without page (cache_of old)

-- of the pages that were changed, at most so many more have bytes
abbrev pub FillsAtMost : ℕ → PageMap → PageMap → Type 0
FillsAtMost most old new = filled_of new ≤ filled_of old + most

-- After `Ok`, a page has these bytes. A call that adds a page returns its number.
abbrev pub PutsPage : {T : Type 0} → Result T PagesError → PageMap → PageMap → ℕ → Sector → Type 0
PutsPage result old new page bytes = OnOk result (ReplacesPage (Some bytes) old new page)

abbrev pub AddsPage : Result ℕ PagesError → PageMap → PageMap → Sector → Type 0
AddsPage result old new bytes = IfOk result (ReplacesPage (Some bytes) old new)

-- after a refusal, the map and its changes are the same
abbrev pub SameMapOnErr : {T : Type 0} → Result T PagesError → PageMap → PageMap → Type 0
SameMapOnErr result old new = OnErr result (SameMap old new)

abbrev pub SameChangesOnErr : {T : Type 0} → Result T PagesError → PageMap → PageMap → Type 0
SameChangesOnErr result old new = OnErr result (SameChanges old new)

abbrev pub SameFilledOnErr : {T : Type 0} → Result T PagesError → PageMap → PageMap → Type 0
SameFilledOnErr result old new = OnErr result (SameFilled old new)

-- after a refusal, the cache is the same
abbrev pub SameCacheOnErr : {T : Type 0} → Result T PagesError → PageMap → PageMap → Type 0
SameCacheOnErr result old new = OnErr result (SameCache old new)

-- a page is not in the map
abbrev pub LacksPage : PageMap → ℕ → Type 0
LacksPage p page = (image : List Sector) → page_of (map_now p image) page ≡ None

-- `Spent` is returned exactly if the value is spent
abbrev pub ReportsSpent : {T : Type 0} → PageMap → Result T PagesError → Type 0
ReportsSpent p result = (result ≡ Err Spent) ↔ (is_spent p ≡ true)

-- `Full` is returned exactly if each page number is used, unless the value is spent
abbrev pub ReportsFull : {T : Type 0} → PageMap → Result T PagesError → Type 0
ReportsFull p result = is_spent p ≡ false → (result ≡ Err Full) ↔ HasEachPage p

-- if `Full` is returned
abbrev pub IfFull : {T : Type 0} → Result T PagesError → Type 0 → Type 0
IfFull result claim = result ≡ Err Full → claim
