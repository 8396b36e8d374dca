-- The files of a program, as their SELECTs and FDs say them (COBOL-85, Sequential, Relative and Indexed I-O, "File control entry").
use Rattle.std.specs.Prelude.{ℕ, ◌+◌, ◌==◌, nat_lt, filter, map, if◌then◌else◌, List, [], ◌∷◌, Option, Some, None}
use Rattle.items.specs.declared.item.Kind.{Kind}
use Rattle.items.specs.declared.item.Kind.TheVariants as kind
use Rattle.items.specs.declared.item.Item.{Item}
use Rattle.records.specs.declared.file_spec.KeyPlace.{KeyPlace}
use Rattle.records.specs.declared.file_spec.AlternateKey.{AlternateKey}
use Rattle.records.specs.declared.file_spec.Organization.{Organization}
use Rattle.records.specs.declared.file_spec.Organization.TheVariants as organization
use Rattle.records.specs.Spec.{Spec}
use Rattle.records.specs.Connector as connector
use Rattle.source_tree.specs.declared.name.Name.{Name}
use Rattle.source_tree.specs.declared.entry.Entry.{Entry}
use Rattle.source_tree.specs.declared.reference.Reference.{Reference}
use Rattle.source_tree.specs.declared.select.OrganizationClause.{OrganizationClause}
use Rattle.source_tree.specs.declared.select.OrganizationClause.TheVariants as clause
use Rattle.source_tree.specs.declared.select.AlternateKeyClause.{AlternateKeyClause}
use Rattle.source_tree.specs.declared.select.Select.{Select}
use Rattle.source_tree.specs.declared.select.FileDescription.{FileDescription}
use Rattle.source_tree.specs.declared.program.Program.{Program}
use Rattle.source_tree.specs.Names.{same}
use Rattle.source_tree.specs.Levels.{Forest, End, Tree, forest_of}
use Rattle.source_tree.specs.Clauses.{nothing_around, group}
use Rattle.source_tree.specs.Rooms.{item_with}
use Rattle.source_tree.specs.Places.{LocatedItem}
use Rattle.source_tree.specs.LookUp.{items_named, first}
use Rattle.source_tree.specs.References.{ItemPlace, place_after}
use Rattle.source_tree.specs.Records.{storage_areas, record_length}

-- What a file statement works on.
pub record FilePlaces : Type 0 where
  -- the file's place among the SELECTs, from 0
  pub number : ℕ
  -- the area of its records
  pub area : ℕ
  -- the items of RELATIVE KEY and FILE STATUS
  pub relative_key : Option ItemPlace
  pub status : Option ItemPlace

pub record ProgramFile : Type 0 where
  pub name : Name
  pub select : Select
  -- what its connector goes by
  pub entry : connector.Entry
  pub places : FilePlaces
  -- what READ INTO moves
  pub sent : Item

-- ---- the FD: a file's record area and records; a file without one has none

pub record DescribedFile : Type 0 where
  pub area : ℕ
  pub entries : List Entry

abbrev pub described_file : ℕ → Name → List FileDescription → DescribedFile
described_file area name [] = record { area = area; entries = [] }
described_file area name (one ∷ more) = if same name one.name then record { area = area; entries = one.entries } else described_file (area + 1) name more

-- The only record, or where there are several the record area as a group (own choice).
abbrev pub sent_of : ℕ → Forest → Item
sent_of size (Tree one conditions inner End) = item_with nothing_around one inner
sent_of size records = group size

-- ---- keys; where the rules are kept, each key names one item

abbrev pub place_in_record : Option LocatedItem → KeyPlace
place_in_record None = record { offset = 0; length = 0 }
place_in_record (Some one) = record { offset = one.offset; length = one.item.length }

-- Items without subscripts have one place.
abbrev pub plain_place : Option LocatedItem → Option ItemPlace
plain_place None = None
plain_place (Some one) = Some (place_after one 0)

abbrev pub digits_in : Kind → ℕ
digits_in (kind.Numeric numeric) = numeric.digits
digits_in _ = 0

abbrev pub digits_at : Option ItemPlace → Option ℕ
digits_at None = None
digits_at (Some place) = Some (digits_in place.item.kind)

-- among the others, in order of place
abbrev pub with_key : AlternateKey → List AlternateKey → List AlternateKey
with_key one [] = one ∷ []
with_key one (other ∷ more) = if nat_lt other.place.offset one.place.offset then other ∷ with_key one more else one ∷ other ∷ more

module _ (items : List LocatedItem) where
  abbrev pub key_place : Reference → KeyPlace
  key_place one = place_in_record (first (items_named items one.item))

  abbrev pub prime_key_place : Option Reference → KeyPlace
  prime_key_place None = place_in_record None
  prime_key_place (Some one) = key_place one

  abbrev pub item_place : Option Reference → Option ItemPlace
  item_place None = None
  item_place (Some one) = plain_place (first (items_named items one.item))

  abbrev pub alternates : List AlternateKeyClause → List AlternateKey
  alternates [] = []
  alternates (one ∷ more) = with_key (record { place = key_place one.key; duplicates = one.duplicates }) (alternates more)

  abbrev pub organization_by : OrganizationClause → Option Reference → Organization
  organization_by clause.Sequential key = organization.Sequential
  organization_by clause.Relative key = organization.Relative
  organization_by clause.Indexed key = organization.Indexed (prime_key_place key)

  abbrev pub spec_by : Select → ℕ → Spec
  spec_by one size = record {
    organization = organization_by one.organization one.record_key;
    record_length = size;
    alternates = alternates one.alternate_keys;
  }

  abbrev pub entry_by : Select → ℕ → connector.Entry
  entry_by one size = record {
    name = one.assigned.characters;
    spec = spec_by one size;
    access = one.access;
    optional = one.optional;
    key_digits = digits_at (item_place one.relative_key);
  }

  abbrev pub file_by : ℕ → Select → DescribedFile → ProgramFile
  file_by number one there = record {
    name = one.name;
    select = one;
    entry = entry_by one (record_length there.entries);
    places = record { number = number; area = there.area; relative_key = item_place one.relative_key; status = item_place one.status };
    sent = sent_of (record_length there.entries) (forest_of there.entries);
  }

  -- those of SELECTs of which the first has this number; the first FD has this area
  abbrev pub files_from : ℕ → List FileDescription → ℕ → List Select → List ProgramFile
  files_from area descriptions number [] = []
  files_from area descriptions number (one ∷ more) =
      file_by number one (described_file area one.name descriptions) ∷ files_from area descriptions (number + 1) more

-- the files of a program with these items
abbrev pub files_of : List LocatedItem → Program → List ProgramFile
files_of items program = files_from items (storage_areas program.storage) program.files 0 program.selects

-- those of this name
abbrev pub files_named : List ProgramFile → Name → List ProgramFile
files_named files name = filter (λ (one : ProgramFile). same name one.name) files

-- those whose record area this is
abbrev pub files_with : List ProgramFile → ℕ → List ProgramFile
files_with files area = filter (λ (one : ProgramFile). one.places.area == area) files

abbrev pub entries_of : List ProgramFile → List connector.Entry
entries_of files = map (λ (one : ProgramFile). one.entry) files
