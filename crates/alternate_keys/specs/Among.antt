-- A tree among others in one map of pages.
use Rattle.std.specs.Prelude.{List}
use Rattle.station.specs.declared.device.Device.{Ghosts as Devices}
use Rattle.pages.specs.declared.page_map.PageMap.{PageMap}
use Rattle.pages.specs.Pages.{Agrees}
use Rattle.btree.specs.Rooted.{RootedTree}
use Rattle.btree.specs.Entries.{Entry}
use Rattle.btree.specs.Calls.{pages_on}
use Rattle.volume_format.specs.Forest.{TreeLevels}
use Rattle.volume_format.specs.Grows.{IsTreeAmong}

module _ {D : Type 0} (device : Devices D) where
  -- where the device is honest and agrees with the map of pages, of each tree with these entries between these others
  abbrev pub OnAmong : RootedTree → PageMap → D → (List TreeLevels → List TreeLevels → List Entry → Type 0) → Type 0
  OnAmong tree pages now claim =
      device.is_honest now → Agrees pages (device.state now).disk → (left right : List TreeLevels) (entries : List Entry) → IsTreeAmong (pages_on device pages now) left right tree entries → claim left right entries
