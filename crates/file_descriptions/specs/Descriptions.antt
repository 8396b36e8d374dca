-- The records of a file, by its FD.
use Rattle.std.specs.Prelude.{◌≡◌, ◌≤◌, ℕ, List, [], length, Option, Some, None}
use Rattle.std.specs.Borrow.{Bor}
use Rattle.source_tree.specs.declared.name.Name.{Name}
use Rattle.source_tree.specs.declared.entry.Entry.{Entry}
use Rattle.source_tree.specs.declared.select.FileDescription.{FileDescription}
use Rattle.source_tree.specs.declared.program.Program.{Program}
use Rattle.source_tree.specs.Broken.{each}
use Rattle.source_tree.specs.EntryRules.{entry_rules, most_storage}
use Rattle.source_tree.specs.FileRules.{description_rules}
use Rattle.source_tree.specs.Levels.{forest_of}
use Rattle.source_tree.specs.ProgramFiles.{DescribedFile, described_file, sent_of}
pub use Rattle.source_tree.specs.Records.{record_length}
use Rattle.source_tree.specs.Records.{storage_areas}
use Rattle.file_descriptions.specs.declared.description.FileRecords.{FileRecords}

-- a program with these entries and descriptions alone
abbrev pub data_with : List Entry → List FileDescription → Program
data_with storage files = record {
  name = record { characters = []; place = record { line = 0; column = 0 } };
  selects = [];
  files = files;
  storage = storage;
  sections = [];
}

abbrev pub described_in : Program → Name → DescribedFile
described_in program name = described_file (storage_areas program.storage) name program.files

-- What was found is the area and the FD, or there is none.
abbrev pub IsDescribed : DescribedFile → ℕ → Option (Bor FileDescription) → Type 0
IsDescribed there area None = there ≡ record { area = area; entries = [] }
IsDescribed there area (Some one) = (there ≡ record { area = area; entries = one.now.entries }) × (description_rules one.now ≡ [])

pub record AreRecords (there : DescribedFile) (all : FileRecords) : Type 0 where
  pub area : all.area ≡ there.area
  pub bytes : all.record_length ≡ record_length there.entries
  pub sent : all.sent ≡ sent_of (record_length there.entries) (forest_of there.entries)

-- Each description keeps the rules, and there are few enough.
pub record KeepsDescriptions (program : Program) : Type 0 where
  pub storage : entry_rules program.storage ≡ []
  pub each_one : each description_rules program.files ≡ []
  pub few : length program.files ≤ most_storage
