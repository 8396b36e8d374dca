-- What opening a volume does to the device, and what it finds there.
use Rattle.std.specs.Prelude.{◌≡◌, ◌⊎◌, ◌≤◌, ℕ, false, [], Result, OnOk, OnErr, IfOk, IfErr}
use Rattle.station.specs.State.{state_after_sync}
use Rattle.station.specs.History.{Through}
use Rattle.station.specs.Opening.{IsOpening}
use Rattle.station.specs.declared.device.Device.{Ghosts as Devices}
use Rattle.lru.specs.LruCache.{lru_cache}
use Rattle.pages.specs.Layout.{IsForeign, version_of}
use Rattle.pages.specs.Image.{Map, IsImageOf, IsDamaged}
use Rattle.pages.specs.Errors.{RefusesImage}
use Rattle.pages.specs.Pages.{changed_pages_of, filled_of, is_spent, sectors_of, cache_of, mark_of}
use Rattle.pages.specs.Pages.{Agrees}
use Rattle.pages.specs.declared.error.PagesError.{PagesError}
use Rattle.pages.specs.declared.page_map.PageMap.{PageMap}
use Rattle.pages.specs.declared.volume.VolumeMap.{VolumeMap}

-- not spent, with nothing changed, on a device of so many sectors
abbrev pub IsJustOpened : ℕ → PageMap → Type 0
IsJustOpened sectors p = (is_spent p ≡ false) × (sectors_of p ≤ sectors) × (changed_pages_of p ≡ [])

-- the map of a volume in memory, with nothing changed, and with an empty cache for so many pages
pub record IsMapOf (v : VolumeMap) (capacity : ℕ) (p : PageMap) : Type 0 where
  pub volume : p.volume ≡ v
  pub changes : p.changes.items ≡ []
  pub catalog : p.catalog ≡ p.volume.catalog
  pub mark : mark_of p ≡ version_of p.volume.mark
  pub cache : p.cache ≡ lru_cache [] capacity
  pub unspent : p.spent ≡ false

-- so many of the pages that were changed have bytes
abbrev pub HasFilled : ℕ → PageMap → Type 0
HasFilled count p = filled_of p ≡ count

-- the cache has room for so many pages
abbrev pub HasCapacity : ℕ → PageMap → Type 0
HasCapacity capacity p = (cache_of p).cap ≡ capacity

module _ {D : Type 0} (device : Devices D) where
  -- whatever a crash leaves was possible before the call, on an honest device
  abbrev pub LeavesPossible : D → D → Type 0
  LeavesPossible old new = device.is_honest old
      → Through (device.history old) (device.history new) (device.state new) (IsOpening (device.state old))

  -- after `Ok`, an honest device was synced
  abbrev pub Syncs : {T : Type 0} → Result T PagesError → D → D → Type 0
  Syncs result old new = device.is_honest old → OnOk result (device.state new ≡ state_after_sync (device.state old))

  -- after a refusal, an honest device is as before, or was synced
  abbrev pub SyncsAtMost : {T : Type 0} → Result T PagesError → D → D → Type 0
  SyncsAtMost result old new = device.is_honest old → OnErr result
      ((device.state new ≡ device.state old) ⊎ (device.state new ≡ state_after_sync (device.state old)))

  -- after `Ok`, an honest device's disk holds what is committed of the map
  abbrev pub HoldsCommitted : Result PageMap PagesError → D → D → Type 0
  HoldsCommitted result old new = device.is_honest old → IfOk result (λ pages. Agrees pages (device.state new).disk)

  -- what an error says of the image that an honest device holds
  abbrev pub RefusesDisk : {T : Type 0} → Result T PagesError → D → Type 0
  RefusesDisk result now = device.is_honest now
      → IfErr result (λ error. RefusesImage (device.state now).disk.present error)

  -- if an honest device holds a map; another format; and neither
  abbrev pub IfHoldsMap : D → Type 0 → Type 0
  IfHoldsMap now claim = device.is_honest now → (m : Map) → IsImageOf (device.state now).disk.present m → claim

  abbrev pub IfHoldsForeign : D → Type 0 → Type 0
  IfHoldsForeign now claim = device.is_honest now → IsForeign (device.state now).disk.present → claim

  abbrev pub IfDamaged : D → Type 0 → Type 0
  IfDamaged now claim = device.is_honest now → IsDamaged (device.state now).disk.present → claim
