-- What the searches of a row are asked for, said once.
use Rattle.std.specs.Prelude.{◌≡◌, ℕ, List, length, Option, Result, Err, IfOk, OnOk}
use Rattle.std.specs.Option.{option_map}
use Rattle.station.specs.declared.device.Device.{Ghosts as Devices}
use Rattle.pages.specs.Pages.{Agrees}
use Rattle.pages.specs.declared.error.PagesError.{PagesError}
use Rattle.pages.specs.declared.error.PagesError.TheVariants.{Damaged}
use Rattle.pages.specs.declared.page_map.PageMap.{PageMap}
use Rattle.btree.specs.Calls.{pages_on}
use Rattle.btree.specs.declared.place.LeafPlace.{LeafPlace}
use Rattle.btree.specs.Entries.{Entry}
use Rattle.btree.specs.Places.{IsLeafPlace}
use Rattle.btree.specs.Rooted.{RootedTree}
use Rattle.records.specs.declared.answer.Found.{Found}
use Rattle.records.specs.declared.file_spec.FileSpec.{FileSpec}
use Rattle.records.specs.declared.key.KeyOfReference.{KeyOfReference}
use Rattle.records.specs.Order.{RowBound, sought_row, found_row}
use Rattle.records.specs.Rows.{Row}
use Rattle.records.specs.Spec.{Spec}
use Rattle.records.specs.Stores.{spec_of, record_of}
use Rattle.row_trees.specs.RowTree.{ChainedTree}
use Rattle.alternate_keys.specs.declared.search_start.SearchStart.{SearchStart}
use Rattle.alternate_keys.specs.Seen.{IsPairEntry, IsSought}

module _ {D : Type 0} (d : Devices D) where
  -- where the device is honest and agrees with the map of pages, of the row that is sought and what a search says of it
  abbrev pub OnSought : FileSpec → KeyOfReference → PageMap → D → ChainedTree → RootedTree → SearchStart → List ℕ
      → (Option Row → Option Found → Type 0) → Type 0
  OnSought file key pages now prime under way at claim =
      d.is_honest now → Agrees pages (d.state now).disk → (bound : RowBound) (rows : List Row) →
      IsSought (spec_of file) key bound (pages_on d pages now) rows prime under way at →
      claim (sought_row (spec_of file) key bound rows)
      (option_map (found_row (spec_of file) key rows) (sought_row (spec_of file) key bound rows))

  -- there, if this is the place of a leaf of its tree: what is returned; which bytes are the record's, in a buffer of
  -- its length; and `Damaged` is not returned
  abbrev pub ReturnsSought : FileSpec → KeyOfReference → PageMap → D → ChainedTree → RootedTree → SearchStart → List ℕ
      → LeafPlace → Result (Option Found) PagesError → Type 0
  ReturnsSought file key pages now prime under way at place result = OnSought file key pages now prime under way at
      (λ row found. IsLeafPlace place (pages_on d pages now) → IfOk result (λ answer. answer ≡ found))

  abbrev pub ReadsSought : FileSpec → KeyOfReference → PageMap → D → ChainedTree → RootedTree → SearchStart → List ℕ
      → LeafPlace → List ℕ → List ℕ → Result (Option Found) PagesError → Type 0
  ReadsSought file key pages now prime under way at place old new result =
      OnSought file key pages now prime under way at
      (λ row found. IsLeafPlace place (pages_on d pages now) → length old ≡ file.record_length
      → OnOk result (new ≡ record_of old row))

  abbrev pub FindsNoDamage : FileSpec → KeyOfReference → PageMap → D → ChainedTree → RootedTree → SearchStart → List ℕ
      → LeafPlace → List ℕ → Result (Option Found) PagesError → Type 0
  FindsNoDamage file key pages now prime under way at place bytes result =
      OnSought file key pages now prime under way at
      (λ row found. IsLeafPlace place (pages_on d pages now) → length bytes ≡ file.record_length
      → result ≡ Err Damaged → ⊥)

  -- and of the row that the entry of a pair names
  abbrev pub OnPairEntry : PageMap → D → ChainedTree → RootedTree → ℕ → Entry
      → (Spec → ℕ → List Row → Row → Type 0) → Type 0
  OnPairEntry pages now prime under value_length entry claim =
      d.is_honest now → Agrees pages (d.state now).disk → (spec : Spec) (i : ℕ) (rows : List Row) (row : Row) →
      IsPairEntry spec i (pages_on d pages now) rows prime under value_length entry row → claim spec i rows row
