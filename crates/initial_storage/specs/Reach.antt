-- Items and their areas.
use Rattle.std.specs.Prelude.{◌≡◌, ℕ, ◌+◌, ◌-◌, ◌*◌, ◌≤◌, map, List, [], ◌∷◌, ◌++◌, length, Some, slice_get, slice_index}
use Rattle.source_tree.specs.declared.table.Dimension.{Dimension}
use Rattle.source_tree.specs.declared.select.FileDescription.{FileDescription}
use Rattle.source_tree.specs.declared.program.Program.{Program}
use Rattle.source_tree.specs.Levels.{forest_of}
use Rattle.source_tree.specs.Places.{LocatedItem}
use Rattle.source_tree.specs.Records.{record_length}
use Rattle.source_tree.specs.Rooms.{area_lengths}

-- the lengths of the record areas of files
abbrev pub record_area_lengths : List FileDescription → List ℕ
record_area_lengths files = map (λ (one : FileDescription). record_length one.entries) files

-- the lengths of all areas of a program
abbrev pub program_area_lengths : Program → List ℕ
program_area_lengths program = area_lengths (forest_of program.storage) ++ record_area_lengths program.files

-- The bytes from an item's first occurrence to its last.
abbrev pub reach : List Dimension → ℕ
reach [] = 0
reach (one ∷ more) = (one.count - 1) * one.stride + reach more

-- All occurrences of an item lie within its area, the areas having these lengths.
abbrev pub IsWithinArea : List ℕ → LocatedItem → Type 0
IsWithinArea lengths one = one.offset + reach one.dimensions + one.item.length ≤ slice_index lengths one.area

-- The offset of the last occurrence, from that of the first.
abbrev pub last_offset : ℕ → List Dimension → ℕ
last_offset offset [] = offset
last_offset offset (one ∷ more) = last_offset (offset + (one.count - 1) * one.stride) more

-- There is an area for the item, and its last occurrence ends within it, the areas holding these bytes.
pub record Lies (areas : List (List ℕ)) (one : LocatedItem) : Type 0 where
  pub area : List ℕ
  pub here : slice_get areas one.area ≡ Some area
  pub within : last_offset one.offset one.dimensions + one.item.length ≤ length area
