-- Whether marks cover the pages of a map.
use Rattle.std.specs.Prelude.{◌≡◌, ◌≢◌, ℕ, Bool, true, false, List, Option, None, slice_index_or}
use Rattle.station.specs.Disk.{Sector}

-- the page is used, and isn't marked
abbrev pub IsStray : List (Option Sector) → List Bool → ℕ → Type 0
IsStray pages seen page = (slice_index_or pages page None ≢ None) × (slice_index_or seen page false ≡ false)

-- each page that is used is marked
abbrev pub IsCovered : List (Option Sector) → List Bool → Type 0
IsCovered pages seen = (page : ℕ) → slice_index_or pages page None ≢ None → slice_index_or seen page false ≡ true
