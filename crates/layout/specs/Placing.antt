-- The placed items of a tree of entries, with what the machine needs of each.
use Rattle.std.specs.Prelude.{ℕ, ◌+◌, ◌-◌, ◌*◌, if◌then◌else◌, List, [], ◌∷◌, ◌++◌}
use Rattle.items.specs.declared.item.Item.{Item}
use Rattle.source_tree.specs.declared.table.Dimension.{Dimension}
use Rattle.source_tree.specs.declared.entry.Around.{Around}
use Rattle.source_tree.specs.declared.entry.ItemEntry.{ItemEntry}
use Rattle.source_tree.specs.declared.select.FileDescription.{FileDescription}
use Rattle.source_tree.specs.Levels.{Forest, End, Tree, forest_of}
use Rattle.source_tree.specs.Clauses.{nothing_around, inside, editing_of, occurrences}
use Rattle.source_tree.specs.Rooms.{redefines, item_with}
use Rattle.source_tree.specs.Places.{LocatedItem, with_dimension}
use Rattle.layout.specs.declared.placed.PlacedItem.{PlacedItem}

-- what the layout tells of an item
abbrev pub placed_item : LocatedItem → PlacedItem
placed_item one = record { item = one.item; editing = one.editing; area = one.area; offset = one.offset; dimensions = one.dimensions }

-- the bytes that an entry takes
abbrev pub occupied_bytes : Around → ItemEntry → Forest → ℕ
occupied_bytes around one inner = if redefines one then 0 else occurrences one * (item_with around one inner).length

abbrev pub own_item : Around → ℕ → List Dimension → ItemEntry → Item → ℕ → PlacedItem
own_item around area dimensions one item offset = record {
  item = item;
  editing = editing_of around one;
  area = area;
  offset = offset;
  dimensions = with_dimension one.occurs item.length dimensions;
}

-- the items of a group, the last that redefines nothing and the next byte being there
unfoldable pub group_items : Around → ℕ → List Dimension → ℕ → ℕ → Forest → List PlacedItem
group_items around area dimensions last here End = []
group_items around area dimensions last here (Tree one conditions inner next) =
    let at : ℕ = if redefines one then last else here in
    own_item around area dimensions one (item_with around one inner) at
    ∷ (group_items (inside around one) area (with_dimension one.occurs (item_with around one inner).length dimensions) at at inner
    ++ group_items around area dimensions at (here + occupied_bytes around one inner) next)

-- an entry's item, and those in it
abbrev pub entry_items : Around → ℕ → List Dimension → ItemEntry → Forest → ℕ → List PlacedItem
entry_items around area dimensions one inner at =
    own_item around area dimensions one (item_with around one inner) at
    ∷ group_items (inside around one) area (with_dimension one.occurs (item_with around one inner).length dimensions) at at inner

-- the items of working storage, so many areas being before them
unfoldable pub storage_items : ℕ → Forest → List PlacedItem
storage_items areas End = []
storage_items areas (Tree one conditions inner next) =
    let area : ℕ = if redefines one then areas - 1 else areas in
    entry_items nothing_around area [] one inner 0 ++ storage_items (area + 1) next

-- the items of a file's records, of which each begins the area
unfoldable pub record_items : ℕ → Forest → List PlacedItem
record_items area End = []
record_items area (Tree one conditions inner next) = entry_items nothing_around area [] one inner 0 ++ record_items area next

-- those of files of which the first has this area
unfoldable pub file_items : ℕ → List FileDescription → List PlacedItem
file_items area [] = []
file_items area (one ∷ more) = record_items area (forest_of one.entries) ++ file_items (area + 1) more
