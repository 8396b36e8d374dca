-- A call of the store that changed files.
use Rattle.std.proofs.Common.{Bool, ℕ, List, Ok}
use Rattle.station.specs.declared.device.Device.{Ghosts as Devices}
use Rattle.pages.specs.Pages.{map_now}
use Rattle.pages.specs.declared.page_map.PageMap.{PageMap}
use Rattle.records.specs.Files.{Files}
use Rattle.records.specs.Calls.{ChangesFiles}
use Rattle.alternate_keys.specs.Notes.{NotedSearch, AreNotesOf}
use Rattle.alternate_keys.specs.Opened.{OpenedVolume}
use Rattle.alternate_keys.specs.Turned.{HasChangedFiles}
use Rattle.alternate_keys.specs.contracts.store_calls.PagedStoreKeeps.TheImpl.{ghosts}
use Rattle.alternate_keys.proofs.ReadCalls.{opened}

-- its notes are true of the pages after it
pub store_turned : {D : Type 0} (d : Devices D) {T : Type 0} (answer : T) (is_new : Bool) (name : List ℕ)
    (before after : Files) (old : OpenedVolume) (pages pages' : PageMap) (spent : Bool) (notes : NotedSearch)
    (device device' : D) → HasChangedFiles d (Ok answer) is_new name before after pages device pages' device'
    → d.is_honest device' → AreNotesOf notes (map_now pages' (d.state device').disk.present)
    → ChangesFiles ghosts d (Ok answer) is_new name before after old device (opened pages' spent notes) device'
store_turned d answer is_new name before after old pages pages' spent notes device device' turned honest are = record {
  there = record { honest = honest; there = record { represents = turned.stands; notes = are } };
  moments = turned.moments;
  sound = turned.sound;
  room = turned.room;
  mark = turned.mark;
}
