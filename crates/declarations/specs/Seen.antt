-- What a reference shows of its item, as far as its rules ask.
use Rattle.std.specs.Prelude.{◌≡◌, List, [], ◌∷◌, Option, Some, None, Result, Ok, Err}
use Rattle.items.specs.declared.item.Kind.{Kind}
use Rattle.items.specs.declared.item.Item.{Item}
use Rattle.lexical.specs.declared.place.Place.{Place}
use Rattle.source_tree.specs.declared.reference.Part.{Part}
use Rattle.source_tree.specs.Clauses.{or_else}
use Rattle.source_tree.specs.Parts.{part_kind, part_item, known_length}
use Rattle.source_tree.specs.Places.{LocatedItem}
use Rattle.entry_rules.specs.declared.rule.BrokenRule.{BrokenRule}
use Rattle.declarations.specs.Found.{IsUnnamed}

abbrev pub item_seen : Option Part → Item → Item
item_seen None item = item
item_seen (Some part) item = part_item item.kind (or_else (known_length item.length part.first part.length) item.length)

abbrev pub kind_seen : Option Part → Kind → Kind
kind_seen None kind = kind
kind_seen (Some part) kind = part_kind kind

-- The only item, as a reference shows it.
abbrev pub IsItemShown : Place → Result Item BrokenRule → List LocatedItem → Type 0
IsItemShown place (Ok item) shown = (one : LocatedItem) × (shown ≡ one ∷ []) × (item ≡ one.item)
IsItemShown place (Err broken) shown = IsUnnamed place broken shown
