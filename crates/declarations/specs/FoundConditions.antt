-- Condition names that are found.
use Rattle.std.specs.Prelude.{◌≡◌, List, [], ◌∷◌, Result, Ok, Err}
use Rattle.lexical.specs.declared.place.Place.{Place}
use Rattle.source_tree.specs.LookUp.{NamedCondition}
use Rattle.layout.specs.declared.placed.PlacedItem.{PlacedItem}
use Rattle.layout.specs.Placing.{placed_item}
use Rattle.entry_rules.specs.declared.rule.BrokenRule.{BrokenRule}
use Rattle.declarations.specs.Found.{IsUnnamed}

-- The item of the only condition name, as it is placed; or what a name breaks that names nothing, or several things.
abbrev pub IsConditionNamed : Place → Result PlacedItem BrokenRule → List NamedCondition → Type 0
IsConditionNamed place (Ok item) found = (one : NamedCondition) × (found ≡ one ∷ []) × (item ≡ placed_item one.item)
IsConditionNamed place (Err broken) found = IsUnnamed place broken found
