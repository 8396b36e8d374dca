-- Condition names whose first value is such as their items take.
use Rattle.std.specs.Prelude.{List, [], ◌∷◌, Some}
use Rattle.items.specs.declared.item.Item.{Item}
use Rattle.source_tree.specs.declared.entry.ValueRange.{ValueRange}
use Rattle.source_tree.specs.LookUp.{NamedCondition}
use Rattle.initial_storage.specs.Fits.{HasKind, HasValue}

abbrev pub HasFirst : Item → List ValueRange → Type 0
HasFirst item [] = Unit {0}
HasFirst item (one ∷ more) = HasValue item.kind (Some one.first)

-- The item has the form of its kind, and takes the first value, where there is one.
pub record CanBeSet (one : NamedCondition) : Type 0 where
  pub kind : HasKind one.item.item
  pub value : HasFirst one.item.item one.condition.values
