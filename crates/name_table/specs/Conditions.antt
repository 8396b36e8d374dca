-- The condition names of a program, with their names and those around them.
use Rattle.std.specs.Prelude.{◌≡◌, ℕ, suc, List, [], ◌∷◌, ◌++◌, map, Option, Some, get_or, slice_get}
use Rattle.std.specs.Option.{option_map}
use Rattle.source_tree.specs.declared.entry.ConditionEntry.{ConditionEntry}
use Rattle.source_tree.specs.declared.reference.QualifiedName.{QualifiedName}
use Rattle.source_tree.specs.LookUp as tree
use Rattle.source_tree.specs.LookUp.{NamedCondition, all_conditions}
use Rattle.source_tree.specs.Names.{with_name}
use Rattle.source_tree.specs.Places.{LocatedItem}
use Rattle.name_table.specs.declared.look_up.LookUp.{LookUp}
use Rattle.name_table.specs.declared.conditions.DeclaredCondition.{DeclaredCondition}
use Rattle.name_table.specs.declared.conditions.ConditionNames.{ConditionNames}
use Rattle.name_table.specs.Positions.{NamePath, empty_path, IsLookUpOf}
use Rattle.name_table.specs.Table.{IsTable, calls_in}

-- Its item is around it too.
abbrev pub called_condition : NamedCondition → NamePath
called_condition one = record { name = Some one.condition.name; around = with_name one.item.entry.name one.item.groups }

-- a condition name and the number of its item
abbrev pub pair_of : DeclaredCondition → ConditionEntry × ℕ
pair_of one = (one.condition.now, one.item)

abbrev pub pairs_in : ConditionNames → List (ConditionEntry × ℕ)
pairs_in all = map pair_of all.conditions.items

-- the same, among items of these names
abbrev pub condition_at : List NamePath → ConditionEntry × ℕ → NamePath
condition_at calls one =
    record { name = Some one.0.name; around = with_name (get_or calls one.1 empty_path).name (get_or calls one.1 empty_path).around }

abbrev pub condition_of : List LocatedItem → ConditionEntry × ℕ → Option NamedCondition
condition_of items one = option_map (λ item. record { condition = one.0; item = item }) (slice_get items one.1)

-- a condition name and the item of that number, if there is one
abbrev pub found_at : List LocatedItem → DeclaredCondition → Option NamedCondition
found_at items one = condition_of items (pair_of one)

-- The numbers of the items that the condition names of these belong to, where so many stand before them.
abbrev pub item_numbers : ℕ → List LocatedItem → List ℕ
item_numbers count [] = []
item_numbers count (one ∷ more) = map (λ _. count) one.conditions ++ item_numbers (suc count) more

-- These are the condition names of the items, in order.
pub record AreConditions (items : List LocatedItem) (all : ConditionNames) : Type 0 where
  pub table : IsTable all.names
  pub calls : calls_in all.names ≡ map called_condition (all_conditions items)
  pub found : map (found_at items) all.conditions.items ≡ map Some (all_conditions items)
  pub numbers : map (λ (one : DeclaredCondition). one.item) all.conditions.items ≡ item_numbers 0 items

-- What was found is what the name names: nothing, the condition name of that number alone, or several.
abbrev pub IsConditionNamed : List LocatedItem → QualifiedName → LookUp → Type 0
IsConditionNamed items reference = IsLookUpOf (all_conditions items) (tree.conditions_named items reference)
