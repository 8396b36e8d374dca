-- Parts of items (ISO 1989:1985, Nucleus, "Reference modification").
use Rattle.std.specs.Prelude.{ℕ, ◌+◌, ◌-◌, nat_le, Bool, true, false, ◌&&◌, if◌then◌else◌, List, map, Option, Some, None}
use Rattle.items.specs.declared.usage.Usage.{Usage}
use Rattle.items.specs.declared.usage.Usage.TheVariants as usage
use Rattle.items.specs.declared.item.Kind.{Kind}
use Rattle.items.specs.declared.item.Kind.TheVariants as kind
use Rattle.items.specs.declared.item.Item.{Item}
use Rattle.source_tree.specs.declared.reference.Subscript as written
use Rattle.source_tree.specs.declared.reference.Subscript.TheVariants as subscript
use Rattle.source_tree.specs.declared.reference.Part.{Part}
use Rattle.source_tree.specs.declared.reference.Reference.{Reference}
use Rattle.source_tree.specs.Integers.{number_of}
use Rattle.source_tree.specs.Levels.{End}
use Rattle.source_tree.specs.Clauses.{or_else}
use Rattle.source_tree.specs.Places.{LocatedItem}
use Rattle.source_tree.specs.LookUp.{items_named}

-- A part is alphabetic where its item is, and alphanumeric otherwise. It isn't justified.
abbrev pub part_kind : Kind → Kind
part_kind (kind.Alphabetic justified) = kind.Alphabetic false
part_kind _ = kind.Alphanumeric false

-- a part of so many characters
abbrev pub part_item : Kind → ℕ → Item
part_item of length = record { kind = part_kind of; length = length }

-- ---- what the rules know of a length

-- A literal from 1 to the item's size. Others count as unknown: a statement with one ends the run (own choice).
abbrev pub known_literal : ℕ → written.Subscript → Option ℕ
known_literal size (subscript.Literal n) = if nat_le 1 (number_of n) && nat_le (number_of n) size then Some (number_of n) else None
known_literal size (subscript.Item item adjustment) = None

abbrev pub length_from : ℕ → Option ℕ → Option ℕ
length_from size None = None
length_from size (Some first) = Some (size + 1 - first)

abbrev pub known_length : ℕ → written.Subscript → Option written.Subscript → Option ℕ
known_length size first None = length_from size (known_literal size first)
known_length size first (Some length) = known_literal size length

-- ---- what a reference shows

-- A part is an elementary item. A part of unknown length counts with the size of its whole item.
abbrev pub part_seen : LocatedItem → Part → LocatedItem
part_seen found part = record {
  entry = found.entry;
  item = part_item found.item.kind (or_else (known_length found.item.length part.first part.length) found.item.length);
  editing = None;
  conditions = found.conditions;
  groups = found.groups;
  inside = found.inside;
  entries = End;
  area = found.area;
  offset = found.offset;
  dimensions = found.dimensions;
}

abbrev pub seen_by : Option Part → LocatedItem → LocatedItem
seen_by None found = found
seen_by (Some part) found = part_seen found part

abbrev pub seen_through : Reference → LocatedItem → LocatedItem
seen_through reference found = seen_by reference.part found

-- the items that a reference names, each as the reference shows it
abbrev pub items_referred : List LocatedItem → Reference → List LocatedItem
items_referred items reference = map (seen_through reference) (items_named items reference.item)

-- ---- 75: which items have parts

-- a number in DISPLAY usage, or no number
abbrev pub has_characters : Usage → Bool
has_characters (usage.Display sign) = true
has_characters _ = false

abbrev pub may_have_parts : Kind → Bool
may_have_parts (kind.Numeric n) = has_characters n.usage
may_have_parts _ = true

abbrev pub has_part : Reference → Bool
has_part reference = go reference.part
  where
    go : Option Part → Bool
    go None = false
    go (Some part) = true
