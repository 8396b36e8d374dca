-- What a commit does, in words of the map of pages and of the device.
use Rattle.std.specs.Prelude.{◌≡◌, ◌⊎◌, List, [], true, false, Result, Err, OnOk, OnErr, IsOk}
use Rattle.station.specs.Disk.{Sector}
use Rattle.station.specs.State.{SameConsole}
use Rattle.station.specs.History.{Through}
use Rattle.station.specs.Blocks.{CrashLeaves}
use Rattle.station.specs.declared.device.Device.{Ghosts as Devices}
use Rattle.pages.specs.Image.{Map, IsCommitted, map_of}
use Rattle.pages.specs.Changes.{BeforeOrAfter}
use Rattle.pages.specs.Cache.{Gathers}
use Rattle.pages.specs.Volumes.{volume_of}
use Rattle.pages.specs.Pages.{committed_of, map_now, changed_pages_of, filled_of, catalog_of, mark_of, cache_of}
use Rattle.pages.specs.Pages.{is_spent}
use Rattle.pages.specs.Pages.{Agrees, HasChanges, IsFull, SamePages, next_generation}
use Rattle.pages.specs.Edits.{SameCache, SameCapacity, IfFull}
use Rattle.pages.specs.declared.error.PagesError.{PagesError}
use Rattle.pages.specs.declared.error.PagesError.TheVariants.{Full, Memory}
use Rattle.pages.specs.declared.page_map.PageMap.{PageMap}
use Rattle.pages.specs.declared.volume.VolumeMap.{VolumeMap}

-- nothing was changed since the last commit: no page, not the page of the catalog's root, and not the mark
abbrev pub IfUnchanged : PageMap → Type 0 → Type 0
IfUnchanged p claim = changed_pages_of p ≡ [] → catalog_of p ≡ (committed_of p).root.catalog
    → mark_of p ≡ (committed_of p).root.mark → claim

-- if the value is not spent; and if nothing was changed besides
abbrev pub IfUnspent : PageMap → Type 0 → Type 0
IfUnspent p claim = is_spent p ≡ false → claim

abbrev pub IfAtRest : PageMap → Type 0 → Type 0
IfAtRest p claim = (HasChanges p → ⊥) → is_spent p ≡ false → claim

-- the map is that of the last commit
abbrev pub IsAsCommitted : PageMap → Type 0
IsAsCommitted p = (image : List Sector) → map_now p image ≡ map_of image (committed_of p)

-- the changed pages come into the cache
abbrev pub GathersChanges : PageMap → PageMap → Type 0
GathersChanges old new = (image : List Sector)
    → Gathers (changed_pages_of old) (map_now old image).pages (cache_of old) (cache_of new)

-- After `Ok`, the changed pages come into the cache, so far as memory and its capacity allow. A refusal leaves the
-- cache.
pub record CachesChanges {T : Type 0} (result : Result T PagesError) (old new : PageMap) : Type 0 where
  pub gathers : OnOk result (GathersChanges old new)
  pub cache : OnErr result (SameCache old new)
  pub capacity : SameCapacity old new

-- after `Ok`, the map is that of the last commit, nothing is changed, and the value is not spent
pub record SettlesChanges {T : Type 0} (result : Result T PagesError) (new : PageMap) : Type 0 where
  pub committed : OnOk result (IsAsCommitted new)
  pub changed_pages : OnOk result (changed_pages_of new ≡ [])
  pub filled : OnOk result (filled_of new ≡ 0)
  pub unspent : OnOk result (is_spent new ≡ false)

-- after a refusal, the value is spent
abbrev pub IsSpentOnErr : {T : Type 0} → Result T PagesError → PageMap → Type 0
IsSpentOnErr result p = OnErr result (is_spent p ≡ true)

-- a refusal for lack of sectors or generations, or of memory
abbrev pub IsRefusalForRoom : {T : Type 0} → Result T PagesError → Type 0
IsRefusalForRoom result = (result ≡ Err Full) ⊎ (result ≡ Err Memory)

module _ {D : Type 0} (device : Devices D) where
  -- the map, over what the device's disk holds
  abbrev pub map_on : PageMap → D → Map
  map_on p now = map_now p (device.state now).disk.present

  -- the map that the disk holds of a volume
  abbrev pub volume_on : VolumeMap → D → Map
  volume_on m now = map_of (device.state now).disk.present (volume_of m)

  -- if the device is honest, and its disk holds what was committed of the map
  abbrev pub IfDiskAgrees : PageMap → D → Type 0 → Type 0
  IfDiskAgrees p now claim = device.is_honest now → Agrees p (device.state now).disk → claim

  -- what the disk and the cache agree on stays
  abbrev pub KeepsAgreement : PageMap → PageMap → D → D → Type 0
  KeepsAgreement old new before after = IfDiskAgrees old before (Agrees new (device.state after).disk)

  -- after `Ok`, the disk holds the map
  abbrev pub HoldsNew : {T : Type 0} → Result T PagesError → PageMap → PageMap → D → D → Type 0
  HoldsNew result old new before after = IfDiskAgrees old before (OnOk result (Agrees new (device.state after).disk))

  -- after `Ok`, the map has the same pages
  abbrev pub KeepsPages : {T : Type 0} → Result T PagesError → PageMap → PageMap → D → D → Type 0
  KeepsPages result old new before after =
      IfDiskAgrees old before (OnOk result (SamePages (map_on old before) (map_on new after)))

  -- after `Ok`, the map is the one of the next generation, if something was changed
  abbrev pub Advances : {T : Type 0} → Result T PagesError → PageMap → PageMap → D → D → Type 0
  Advances result old new before after = IfDiskAgrees old before
      (HasChanges old → OnOk result (map_on new after ≡ next_generation (map_on old before)))

  -- After `Ok`, the disk holds the map, with the same pages. It is of the next generation if something was changed.
  pub record HoldsNewMap {T : Type 0} (result : Result T PagesError) (old new : PageMap) (before after : D) :
      Type 0 where
    pub agrees : HoldsNew result old new before after
    pub map : KeepsPages result old new before after
    pub advances : Advances result old new before after

  -- if the device is honest, and its disk holds the volume
  abbrev pub IfDiskHolds : VolumeMap → D → Type 0 → Type 0
  IfDiskHolds m now claim = device.is_honest now → IsCommitted (volume_of m) (device.state now).disk → claim

  -- at each moment of a call a crash leaves one map or the other
  abbrev pub LeavesEither : Map → Map → D → D → Type 0
  LeavesEither before after old new = Through (device.history old) (device.history new) (device.state new)
      (CrashLeaves (device.state old).events (BeforeOrAfter before after))

  -- at each moment of a commit a crash leaves the map of the last commit, or this one
  abbrev pub LeavesOldOrNew : PageMap → D → D → Type 0
  LeavesOldOrNew p old new = IfDiskAgrees p old
      (LeavesEither (map_of (device.state old).disk.present (committed_of p)) (next_generation (map_on p old)) old new)

  -- on an honest device nothing was done
  abbrev pub DoesNothing : D → D → Type 0
  DoesNothing old new = device.is_honest old → (device.state new ≡ device.state old)
      × (device.history new ≡ device.history old)

  -- if nothing was changed, nothing is done; and `Ok` is returned, unless the value is spent
  pub record RestsIfUnchanged {T : Type 0} (result : Result T PagesError) (old new : PageMap) (before after : D) :
      Type 0 where
    pub rests : IfAtRest old (new ≡ old)
    pub nothing : IfUnchanged old (DoesNothing before after)
    pub idle : IfUnspent old (IfUnchanged old (IsOk result))

  -- `Full` is returned only if too few sectors are free or no generation is left, and then nothing was done. In that
  -- case `Full` is returned, or `Memory`, unless the value is spent.
  pub record RefusesForRoom {T : Type 0} (result : Result T PagesError) (p : PageMap) (before after : D) : Type 0 where
    pub full : IfFull result (IsFull p)
    pub told : IfUnspent p (IsFull p → IsRefusalForRoom result)
    pub unchanged : IfFull result (DoesNothing before after)

  -- on an honest device nothing was printed or read
  abbrev pub KeepsConsole : D → D → Type 0
  KeepsConsole old new = device.is_honest old → SameConsole (device.state old) (device.state new)
