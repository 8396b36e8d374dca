-- The files of a program, as the definitions have them.
use Rattle.std.specs.Prelude.{◌≡◌, ℕ, List, map, Option, Some, None, slice_get}
use Rattle.std.specs.Borrow.{Bor}
use Rattle.source_tree.specs.declared.select.Select.{Select}
use Rattle.source_tree.specs.declared.program.Program.{Program}
use Rattle.source_tree.specs.Places.{LocatedItem}
use Rattle.source_tree.specs.References.{ItemPlace}
use Rattle.source_tree.specs.Records.{program_items, storage_areas}
use Rattle.source_tree.specs.ProgramFiles as meaning
use Rattle.source_tree.specs.ProgramFiles.{plain_place, digits_at, files_from, files_of}
use Rattle.name_table.specs.Files.{AreFileNames}
use Rattle.file_descriptions.specs.declared.file.ProgramFile.{ProgramFile}
use Rattle.file_descriptions.specs.declared.files.ProgramFiles.{ProgramFiles}
use Rattle.file_descriptions.specs.Clauses.{clause_number}

-- the item of this number where it stands
abbrev pub place_at : List LocatedItem → Option ℕ → Option ItemPlace
place_at items None = None
place_at items (Some number) = plain_place (slice_get items number)

-- what the definitions have of a file, among items of these numbers
abbrev pub file_in : List LocatedItem → ProgramFile → meaning.ProgramFile
file_in items one = record {
  name = one.select.now.name;
  select = one.select.now;
  entry = record {
    name = one.select.now.assigned.characters;
    spec = record { organization = one.organization; record_length = one.record_length; alternates = one.alternates.items };
    access = one.select.now.access;
    optional = one.select.now.optional;
    key_digits = digits_at (place_at items one.relative_key);
  };
  places = record { number = one.number; area = one.area; relative_key = place_at items one.relative_key; status = place_at items one.status };
  sent = one.sent;
}

abbrev pub found_in : List LocatedItem → Option (Bor ProgramFile) → Option meaning.ProgramFile
found_in items None = None
found_in items (Some one) = Some (file_in items one.now)

-- the items of RELATIVE KEY and FILE STATUS
abbrev pub numbers_in : ProgramFile → Option ℕ × Option ℕ
numbers_in one = (one.relative_key, one.status)

abbrev pub clause_numbers : List LocatedItem → Select → Option ℕ × Option ℕ
clause_numbers items one = (clause_number items one.relative_key, clause_number items one.status)

-- those of SELECTs that so many stand before
abbrev pub files_after : Program → ℕ → List Select → List meaning.ProgramFile
files_after program number selects = files_from (program_items program) (storage_areas program.storage) program.files number selects

-- These are the files of a program with these items, in the order of their SELECTs, and their names.
pub record AreFiles (items : List LocatedItem) (program : Program) (all : ProgramFiles) : Type 0 where
  pub files : map (file_in items) all.files.items ≡ files_of items program
  pub numbers : map numbers_in all.files.items ≡ map (clause_numbers items) program.selects
  pub names : AreFileNames program.selects all.names
