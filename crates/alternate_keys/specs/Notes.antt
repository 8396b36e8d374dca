-- What is noted of the last search.
use Rattle.std.specs.Prelude.{◌≡◌, ◌≢◌, ℕ, List, [], Bool, true, false, Option, None, Result, Err, IfOk, IfErr}
use Rattle.station.specs.declared.device.Device.{Ghosts as Devices}
use Rattle.pages.specs.Image.{Map}
use Rattle.pages.specs.Pages.{map_now, is_spent, Agrees}
use Rattle.pages.specs.declared.page_map.PageMap.{PageMap}
use Rattle.btree.specs.Calls.{IfAgrees}
use Rattle.btree.specs.declared.place.LeafPlace.{LeafPlace}
use Rattle.btree.specs.Places.{IsLeafPlace}
use Rattle.records.specs.declared.fault.StoreFault.{StoreFault}
use Rattle.records.specs.declared.fault.StoreFault.TheVariants.{Device, Damaged, Spent}
use Rattle.records.specs.Files.{File, Files, file_at}
use Rattle.volume_format.specs.Calls.{LooksAt}
use Rattle.volume_format.specs.Catalog.{listing_bytes}
use Rattle.volume_format.specs.Volume.{FileTrees, MapHolds, listing_of}
use Rattle.alternate_keys.specs.declared.notes.SearchNotes.{SearchNotes}
use Rattle.alternate_keys.specs.Faults.{IsReadFault}
use Rattle.alternate_keys.specs.Listed.{IsFoundFile}

-- the name of a file, or none; its listing in the catalog; and the leaf of a tree where a search ended, or none
pub record NotedSearch : Type 0 where
  pub name : List ℕ
  pub listing : List ℕ
  pub place : LeafPlace

abbrev pub noted_search : SearchNotes → NotedSearch
noted_search notes = record { name = notes.name.items; listing = notes.listing; place = notes.place }

-- whether this file was found, and its listing if it was
abbrev pub IsListingOf : Map → Option File → Bool → List ℕ → Type 0
IsListingOf m found true listing =
    (kept : FileTrees) × IsFoundFile m found kept × (listing ≡ listing_bytes (listing_of kept))
IsListingOf m found false listing = found ≡ None

-- The notes are true of a map: of whichever files it holds, the one of that name has that listing, and the leaf is one
-- of its tree.
pub record AreNotesOf (notes : NotedSearch) (m : Map) : Type 0 where
  pub listing : notes.name ≢ [] → (files : Files) → MapHolds m files
      → IsListingOf m (file_at notes.name files) true notes.listing
  pub place : IsLeafPlace notes.place m.pages

module _ {D : Type 0} (d : Devices D) where
  -- where the device is honest and agrees with the map of pages, and the notes are true of that map
  abbrev pub OnNotes : NotedSearch → PageMap → D → (Map → Type 0) → Type 0
  OnNotes notes pages now claim =
      d.is_honest now → Agrees pages (d.state now).disk → AreNotesOf notes (map_now pages (d.state now).disk.present) →
      claim (map_now pages (d.state now).disk.present)

  -- What a call returns that notes the file of a name. If what was noted is true of the pages, so is the answer, and so
  -- is what is noted then.
  pub record NotesFile (noted : NotedSearch) (old : PageMap) (now : D) (name : List ℕ) (noted' : NotedSearch)
      (new : PageMap) (now' : D) (result : Result Bool StoreFault) : Type 0 where
    pub looks : LooksAt d (result ≡ Err Device) old now new now'
    pub listed : OnNotes noted old now (λ m. (files : Files) → MapHolds m files → IfOk result
        (λ is_there. IsListingOf m (file_at name files) is_there noted'.listing))
    pub notes : OnNotes noted old now (AreNotesOf noted')
    pub damaged : IfAgrees d old now ((files : Files) → MapHolds (map_now old (d.state now).disk.present) files
        → result ≡ Err Damaged → ⊥)
    pub spent : result ≡ Err Spent → is_spent old ≡ true
    pub cause : IfErr result IsReadFault
