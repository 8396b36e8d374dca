-- What the code of parts of items is made from.
use Rattle.std.specs.Prelude.{ℕ, ◌+◌, Bool, false, Option, Some, None, not, is_some}
use Rattle.layout.specs.declared.placed.PlacedItem.{PlacedItem}
use Rattle.source_tree.specs.declared.reference.Part.{Part}
use Rattle.source_tree.specs.declared.reference.Reference.{Reference}
use Rattle.declarations.specs.Seen.{item_seen}
use Rattle.source_tree.specs.Parts.{known_length, seen_through}
use Rattle.source_tree.specs.Places.{LocatedItem}
use Rattle.data_instructions.specs.declared.tables.DataItem.{DataItem}
use Rattle.data_instructions.specs.PartForms.{begin_of, part_form}

-- the entry of a part of a placed item
abbrev pub entry_in : PlacedItem → Option Part → DataItem
entry_in one part = record {
  item = item_seen part one.item;
  editing = None;
  area = one.area;
  offset = one.offset + begin_of (part_form one.item.length part);
}

-- the length of what a reference shows
abbrev pub length_shown : Reference → Option LocatedItem → ℕ
length_shown one None = 0
length_shown one (Some found) = (seen_through one found).item.length

-- No literals say the length of a part of an item of that size.
abbrev pub has_room : ℕ → Option Part → Bool
has_room size None = false
has_room size (Some part) = not (is_some (known_length size part.first part.length))

-- whether the length of what a reference shows is found in the run
abbrev pub is_measured : Reference → Option LocatedItem → Bool
is_measured one None = false
is_measured one (Some found) = has_room found.item.length one.part
