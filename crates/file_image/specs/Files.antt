-- The files that code names: what the meaning has of each, and when their table is in order (own choice).
use Rattle.std.specs.Prelude.{◌≡◌, ◌<◌, ◌≤◌, ◌+◌, ◌==◌, true, false, ℕ, List, map, length, Option, Some, None, IfSome, slice_get}
use Rattle.items.specs.declared.item.Kind.TheVariants as k
use Rattle.items.specs.declared.numeric.Numeric.{Numeric}
use Rattle.items.specs.Items.{IsItem}
use Rattle.items.specs.Numbers.{is_signed}
use Rattle.std.specs.Option.{option_map}
use Rattle.records.specs.Spec.{Spec, is_name, is_spec}
use Rattle.records.specs.Connector.{Entry}
use Rattle.source_tree.specs.References.{ItemPlace}
use Rattle.source_tree.specs.ProgramFiles.{FilePlaces, digits_at}
use Rattle.source_tree.specs.FileRules.{is_two_characters}
use Rattle.source_tree.specs.SoundFiles.{IsRelativeKey}
use Rattle.data_instructions.specs.declared.index.ItemIndex.{ItemIndex}
use Rattle.data_instructions.specs.declared.tables.DataItem.{DataItem}
use Rattle.data_instructions.specs.declared.tables.DataTables.{DataTables}
use Rattle.data_instructions.specs.Tables.{item_place}
use Rattle.file_image.specs.declared.file.CodeFile.{CodeFile}

-- ---- what the meaning has of a file

-- an item of the table where it stands
abbrev pub place_of_item : DataItem → ItemPlace
place_of_item one = item_place one one.offset

abbrev pub place_at : DataTables → Option ItemIndex → Option ItemPlace
place_at tables None = None
place_at tables (Some index) = option_map place_of_item (slice_get tables.items index.number)

abbrev pub spec_of : CodeFile → Spec
spec_of one = record { organization = one.organization; record_length = one.record_length; alternates = one.alternates }

-- what its connector goes by
abbrev pub entry_of : DataTables → CodeFile → Entry
entry_of tables one = record {
  name = one.name;
  spec = spec_of one;
  access = one.access;
  optional = one.optional;
  key_digits = digits_at (place_at tables one.relative_key);
}

-- what a statement on the file of this number works on
abbrev pub places_of : DataTables → ℕ → CodeFile → FilePlaces
places_of tables number one = record {
  number = number;
  area = one.area;
  relative_key = place_at tables one.relative_key;
  status = place_at tables one.status;
}

unfoldable pub entries_of : DataTables → List CodeFile → List Entry
entries_of tables files = map (entry_of tables) files

-- ---- what a machine demands

abbrev pub IsItemIndex : DataTables → ItemIndex → Type 0
IsItemIndex tables index = index.number < length tables.items

-- Its area and its items stand in their tables.
pub record NamesPlaces (tables : DataTables) (one : CodeFile) : Type 0 where
  pub area : one.area < length tables.areas
  pub relative_key : IfSome one.relative_key (IsItemIndex tables)
  pub status : IfSome one.status (IsItemIndex tables)

-- an area as long as a record
pub record HasRecord (tables : DataTables) (one : CodeFile) : Type 0 where
  pub area : List ℕ
  pub here : slice_get tables.areas one.area ≡ Some area
  pub long : length area ≡ one.record_length

abbrev pub IsTwoCharacters : ItemPlace → Type 0
IsTwoCharacters place = is_two_characters place.item.kind place.item.length ≡ true

-- Its name and keys are those of a file, its area is as long as a record, RELATIVE KEY is an unsigned integer in another area, and
-- FILE STATUS has two characters.
pub record IsCodeFile (tables : DataTables) (one : CodeFile) : Type 0 where
  pub name : is_name one.name ≡ true
  pub spec : is_spec (spec_of one) ≡ true
  pub record_area : HasRecord tables one
  pub relative_key : IfSome (place_at tables one.relative_key) (IsRelativeKey one.area)
  pub status : IfSome (place_at tables one.status) IsTwoCharacters

-- ---- where the tables are in order as well

-- The item has its form and lies in its area.
pub record LiesIn (areas : List (List ℕ)) (place : ItemPlace) : Type 0 where
  pub form : IsItem place.item
  pub area : List ℕ
  pub here : slice_get areas place.area ≡ Some area
  pub within : place.offset + place.item.length ≤ length area

-- an unsigned integer in another area
pub record IsNumberPlace (areas : List (List ℕ)) (record_area : ℕ) (place : ItemPlace) : Type 0 where
  pub numeric : Numeric
  pub kind : place.item.kind ≡ k.Numeric numeric
  pub unsigned : is_signed numeric ≡ false
  pub whole : numeric.scale ≡ 0
  pub lies : LiesIn areas place
  pub outside : (place.area == record_area) ≡ false

-- two characters
pub record IsStatusPlace (areas : List (List ℕ)) (place : ItemPlace) : Type 0 where
  pub size : place.item.length ≡ 2
  pub lies : LiesIn areas place
