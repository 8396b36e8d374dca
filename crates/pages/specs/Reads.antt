-- What a call that reads a page does with the cache, and when it needs no device.
use Rattle.std.specs.Prelude.{◌≡◌, ◌⊎◌, ℕ, nat_eq, List, Option, None, Result, Ok, Err, OnErr, IfOk, IsSome, Contains}
use Rattle.std.specs.Map.{lookup}
use Rattle.station.specs.Disk.{Sector}
use Rattle.station.specs.declared.device.Device.{Ghosts as Devices}
use Rattle.pages.specs.Cache.{Recalls}
use Rattle.pages.specs.Pages.{map_now, page_of, changed_pages_of, cache_of}
use Rattle.pages.specs.Commits.{map_on, IfDiskAgrees}
use Rattle.pages.specs.Edits.{SameCache}
use Rattle.pages.specs.declared.error.PagesError.{PagesError}
use Rattle.pages.specs.declared.error.PagesError.TheVariants.{Device, Spent}
use Rattle.pages.specs.declared.page_map.PageMap.{PageMap}

-- if the page was changed since the last commit
abbrev pub IfChanged : PageMap → ℕ → Type 0 → Type 0
IfChanged p page claim = Contains (changed_pages_of p) page → claim

-- if the page is in the cache
abbrev pub IfCached : PageMap → ℕ → Type 0 → Type 0
IfCached p page claim = IsSome (lookup (nat_eq page) (cache_of p).entries) → claim

-- if the page was changed since the last commit, or is in the cache, neither the device nor the value changes
abbrev pub StaysIfChanged : {D : Type 0} → ℕ → PageMap → PageMap → D → D → Type 0
StaysIfChanged page old new before after = IfChanged old page ((after ≡ before) × (new ≡ old))

abbrev pub StaysIfCached : {D : Type 0} → ℕ → PageMap → PageMap → D → D → Type 0
StaysIfCached page old new before after = IfCached old page ((after ≡ before) × (new ≡ old))

-- if the page is in the cache, or none is returned, the device does not change
abbrev pub LeavesDeviceIfCached : {D : Type 0} → ℕ → PageMap → D → D → Type 0
LeavesDeviceIfCached page p before after = IfCached p page (after ≡ before)

abbrev pub LeavesDeviceIfNone : {D : Type 0} → Result (Option Sector) PagesError → D → D → Type 0
LeavesDeviceIfNone result before after = result ≡ Ok None → after ≡ before

-- if the page is not in the map, neither the device nor the cache changes
abbrev pub LoadsNothingIfAbsent : {D : Type 0} → ℕ → PageMap → PageMap → D → D → Type 0
LoadsNothingIfAbsent page old new before after = (image : List Sector) → page_of (map_now old image) page ≡ None
    → (after ≡ before) × SameCache old new

-- after a refusal, the value is the same
abbrev pub SameOnErr : {T : Type 0} → Result T PagesError → PageMap → PageMap → Type 0
SameOnErr result old new = OnErr result (new ≡ old)

-- What becomes of the cache after this answer, unless the page was changed: another page is its most recently used one.
abbrev pub RecallsPage : PageMap → PageMap → ℕ → Result (Option Sector) PagesError → Type 0
RecallsPage old new page result = (Contains (changed_pages_of old) page → ⊥)
    → IfOk result (λ bytes. Recalls page bytes (cache_of old) (cache_of new))

-- the device refuses a read, or the value is spent
abbrev pub IsPageReadRefusal : {T : Type 0} → Result T PagesError → Type 0
IsPageReadRefusal result = OnErr result ((result ≡ Err Device) ⊎ (result ≡ Err Spent))

-- after `Ok`, the answer is the page of the map, if the device is honest, and its disk holds what was committed
abbrev pub ReadsPage : {D : Type 0} → Devices D → Result (Option Sector) PagesError → PageMap → D → ℕ → Type 0
ReadsPage device result p now page =
    IfDiskAgrees device p now (IfOk result (λ bytes. bytes ≡ page_of (map_on device p now) page))
