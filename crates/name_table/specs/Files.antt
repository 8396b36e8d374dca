-- The names of files.
use Rattle.std.specs.Prelude.{◌≡◌, ℕ, suc, bytes_eq, if◌then◌else◌, List, [], ◌∷◌, Option, Some, None, slice_get}
use Rattle.indexmap.specs.IndexMap.{get_by}
use Rattle.source_tree.specs.declared.name.Name.{Name}
use Rattle.source_tree.specs.declared.select.Select.{Select}
use Rattle.source_tree.specs.LookUp.{first}
use Rattle.source_tree.specs.ProgramFiles.{ProgramFile, files_named}
use Rattle.name_table.specs.declared.files.FileNames.{FileNames}

-- the number of the first of these SELECTs that has this name, where so many are before them
abbrev pub first_file : List ℕ → ℕ → List Select → Option ℕ
first_file characters number [] = None
first_file characters number (one ∷ more) =
    if bytes_eq characters one.name.characters then Some number else first_file characters (suc number) more

-- Each name of these SELECTs has the number of its first one, and there are no others.
pub record AreFileNames (selects : List Select) (all : FileNames) : Type 0 where
  pub numbered : (characters : List ℕ) → get_by (λ k. bytes_eq characters k.now) all.numbers ≡ first_file characters 0 selects

-- The first file of a name is the one of this number.
pub record IsFirst (files : List ProgramFile) (name : Name) (number : ℕ) : Type 0 where
  pub file : ProgramFile
  pub here : slice_get files number ≡ Some file
  pub number_is : file.places.number ≡ number
  pub first_is : first (files_named files name) ≡ Some file

-- What was found is the number of the first file of a name, or there is none.
abbrev pub IsFileNamed : List ProgramFile → Name → Option ℕ → Type 0
IsFileNamed files name None = files_named files name ≡ []
IsFileNamed files name (Some number) = IsFirst files name number
