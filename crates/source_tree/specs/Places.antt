-- The places of items (COBOL-85, Nucleus, "Data description entry": REDEFINES, OCCURS).
use Rattle.std.specs.Prelude.{ℕ, ◌+◌, ◌-◌, ◌*◌, if◌then◌else◌, List, [], ◌∷◌, ◌++◌, Option, Some, None}
use Rattle.picture.specs.declared.picture.Picture.{Picture}
use Rattle.items.specs.declared.item.Item.{Item}
use Rattle.source_tree.specs.declared.literal.Integer.{Integer}
use Rattle.source_tree.specs.declared.name.Name.{Name}
use Rattle.source_tree.specs.declared.table.Dimension.{Dimension}
use Rattle.source_tree.specs.declared.entry.Around.{Around}
use Rattle.source_tree.specs.declared.entry.ItemEntry.{ItemEntry}
use Rattle.source_tree.specs.declared.entry.ConditionEntry.{ConditionEntry}
use Rattle.source_tree.specs.declared.entry.Entry.{Entry}
use Rattle.source_tree.specs.Integers.{number_of}
use Rattle.source_tree.specs.Names.{with_name}
use Rattle.source_tree.specs.Levels.{Forest, End, Tree, forest_of}
use Rattle.source_tree.specs.Clauses.{nothing_around, inside, editing_of, occurrences}
use Rattle.source_tree.specs.Rooms.{redefines, item_with}

-- An item where it stands: its first occurrence is `offset` bytes after the start of its area.
pub record LocatedItem : Type 0 where
  pub entry : ItemEntry
  pub item : Item
  -- the picture by which it is edited, if it is
  pub editing : Option Picture
  pub conditions : List ConditionEntry
  -- the names of the groups around it, the nearest first
  pub groups : List Name
  -- what it says of the entries in it, and those
  pub inside : Around
  pub entries : Forest
  pub area : ℕ
  pub offset : ℕ
  -- the outermost first
  pub dimensions : List Dimension

-- what stands around entries
pub record Surroundings : Type 0 where
  pub around : Around
  pub groups : List Name
  pub area : ℕ
  pub dimensions : List Dimension

abbrev pub with_dimension : Option Integer → ℕ → List Dimension → List Dimension
with_dimension None size dimensions = dimensions
with_dimension (Some count) size dimensions = dimensions ++ record { stride = size; count = number_of count } ∷ []

abbrev pub dimensions_of : Surroundings → ItemEntry → Item → List Dimension
dimensions_of around one item = with_dimension one.occurs item.length around.dimensions

abbrev pub located_item : Surroundings → ItemEntry → List ConditionEntry → Item → Forest → ℕ → LocatedItem
located_item around one conditions item inner at = record {
  entry = one;
  item = item;
  editing = editing_of around.around one;
  conditions = conditions;
  groups = around.groups;
  inside = inside around.around one;
  entries = inner;
  area = around.area;
  offset = at;
  dimensions = dimensions_of around one item;
}

abbrev pub within : Surroundings → ItemEntry → Item → Surroundings
within around one item = record {
  around = inside around.around one;
  groups = with_name one.name around.groups;
  area = around.area;
  dimensions = dimensions_of around one item;
}

-- The entries from here on. One that redefines stands where the last one stands that doesn't: `last` is that place.
abbrev pub places : Surroundings → ℕ → ℕ → Forest → List LocatedItem
places around last here End = []
places around last here (Tree one conditions inner next) =
    let item : Item = item_with around.around one inner in
    let at : ℕ = if redefines one then last else here in
    located_item around one conditions item inner at ∷ (places (within around one item) at at inner
    ++ places around at (here + (if redefines one then 0 else occurrences one * item.length)) next)

abbrev pub top : ℕ → List Name → Surroundings
top area groups = record { around = nothing_around; groups = groups; area = area; dimensions = [] }

-- Each 01 and 77 that redefines nothing begins an area, of which so many are before it.
abbrev pub storage_places : ℕ → Forest → List LocatedItem
storage_places areas End = []
storage_places areas (Tree one conditions inner next) =
    let area : ℕ = if redefines one then areas - 1 else areas in
    places (top area []) 0 0 (Tree one conditions inner End) ++ storage_places (area + 1) next

-- All items of working storage, in order.
abbrev pub items_of : List Entry → List LocatedItem
items_of entries = storage_places 0 (forest_of entries)
