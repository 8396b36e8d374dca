-- What is so of the files of a program that keeps the rules of files. Name and keys are those of a file (`records`), and the items
-- of RELATIVE KEY and FILE STATUS are those that a file statement stores.
use Rattle.std.specs.Prelude.{◌≡◌, ◌≤◌, ◌<◌, ◌==◌, nat_lt, ℕ, true, not, IfSome, [], length, slice_index_or}
use Rattle.records.specs.Spec.{is_spec, is_name}
use Rattle.source_tree.specs.Storage.{Storage}
use Rattle.source_tree.specs.References.{ItemPlace}
use Rattle.source_tree.specs.ProgramFiles.{ProgramFile}
use Rattle.source_tree.specs.FileRules.{is_unsigned_integer, is_two_characters}

-- an unsigned integer outside of the record area
pub record IsRelativeKey (area : ℕ) (place : ItemPlace) : Type 0 where
  pub kind : is_unsigned_integer place.item.kind ≡ true
  pub outside : not (place.area == area) ≡ true

-- two characters in one of so many areas of working storage
pub record IsStatus (areas : ℕ) (place : ItemPlace) : Type 0 where
  pub kind : is_two_characters place.item.kind place.item.length ≡ true
  pub within : nat_lt place.area areas ≡ true

pub record IsSound (areas : ℕ) (file : ProgramFile) : Type 0 where
  pub name : is_name file.entry.name ≡ true
  pub spec : is_spec file.entry.spec ≡ true
  pub relative_key : IfSome file.places.relative_key (IsRelativeKey file.places.area)
  pub status : IfSome file.places.status (IsStatus areas)

-- Of these areas, so many of them working storage's, one after those is its record area.
pub record HasRecordArea (areas : ℕ) (storage : Storage) (file : ProgramFile) : Type 0 where
  pub behind : areas ≤ file.places.area
  pub there : file.places.area < length storage
  pub long : length (slice_index_or storage file.places.area []) ≡ file.entry.spec.record_length
