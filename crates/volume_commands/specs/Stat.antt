-- What `stat` prints: what a volume is, and how many rows its files have.
use Rattle.std.specs.Prelude.{◌≡◌, ℕ, zero, suc, List, [], ◌∷◌, ◌++◌, codes, decimal, length}
use Rattle.std.specs.List.{flat_map}
use Rattle.station.specs.Disk.{Sector}
use Rattle.records.specs.Files.{NamedFile, Files}
use Rattle.file_recovery.specs.Recovered.{HoldsFiles}
use Rattle.volume_commands.specs.declared.volume_state.Layout.{Layout}
use Rattle.volume_commands.specs.declared.volume_state.Layout.TheVariants.{Trees, Halves}
use Rattle.volume_commands.specs.declared.volume_state.VolumeState.{VolumeState}
use Rattle.volume_commands.specs.State.{IsStateOf}
use Rattle.volume_commands.specs.Listing.{space}
use Rattle.volume_commands.specs.Text.{bytes_text, line_feed}

-- the mark of the newest root
abbrev pub mark_of : Layout → ℕ → List ℕ
mark_of Trees zero = codes "COBVOL01"
mark_of Trees (suc n) = codes "COBVOL02"
mark_of Halves version = codes "COBHALF1"

abbrev pub mark_line : Layout → ℕ → List ℕ
mark_line layout version = codes "mark" ++ space ∷ mark_of layout version ++ line_feed ∷ []

-- a name and a number
abbrev pub number_line : List ℕ → ℕ → List ℕ
number_line name number = name ++ space ∷ decimal number ++ line_feed ∷ []

-- the name of a file, and how many rows it has
abbrev pub rows_line : NamedFile → List ℕ
rows_line one = codes "rows " ++ bytes_text one.name ++ space ∷ decimal (length one.file.rows) ++ line_feed ∷ []

-- `Files` are in order of name.
abbrev pub rows_text : Files → List ℕ
rows_text files = flat_map rows_line files

-- the lines of a volume with so many files
abbrev pub state_text : VolumeState → ℕ → List ℕ
state_text state count =
    mark_line state.layout state.version
    ++ number_line (codes "generation") state.generation
    ++ number_line (codes "sectors") state.sectors
    ++ number_line (codes "free") state.free
    ++ number_line (codes "files") count

abbrev pub stat_text : VolumeState → Files → List ℕ
stat_text state files = state_text state (length files) ++ rows_text files

-- an image holds these files, in a volume that is so
pub record IsStat (image : List Sector) (state : VolumeState) (files : Files) : Type 0 where
  pub holds : HoldsFiles image files
  pub is : IsStateOf image state

-- the text of what an image holds
pub record IsStatText (image : List Sector) (text : List ℕ) : Type 0 where
  pub state : VolumeState
  pub files : Files
  pub is : IsStat image state files
  pub text_is : text ≡ stat_text state files
