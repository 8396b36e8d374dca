-- Condition names that are looked up, and their items.
use Rattle.std.proofs.Common.{◌≡◌, ℕ, ◌<◌, List, None, Some, length, subst, sym, ap, ◌∙◌, arith}
use Rattle.std.specs.Prelude.{Option, map, slice_get}
use Rattle.std.specs.Option.{option_map}
use Rattle.std.proofs.lemmas.List.{length-map}
use Rattle.std.proofs.lemmas.Option.{slice_get-map, slice_get_within}
use Rattle.source_tree.specs.declared.reference.QualifiedName.{QualifiedName}
use Rattle.source_tree.specs.Places.{LocatedItem}
use Rattle.source_tree.specs.LookUp.{NamedCondition, all_conditions}
use Rattle.layout.specs.declared.placed.PlacedItem.{PlacedItem}
use Rattle.layout.specs.Placing.{placed_item}
use Rattle.name_table.specs.declared.conditions.ConditionNames.{ConditionNames}
use Rattle.name_table.specs.declared.conditions.DeclaredCondition.{DeclaredCondition}
use Rattle.name_table.specs.declared.look_up.LookUp.{LookUp}
use Rattle.name_table.specs.Conditions.{AreConditions, IsConditionNamed, called_condition, found_at}
use Rattle.name_table.specs.Positions.{look_up}
use Rattle.name_table.specs.Table.{calls_in}

-- what is found in the table is what the name names
pub named_is : (items : List LocatedItem) (all : ConditionNames) (name : QualifiedName) (found : LookUp)
    → AreConditions items all
    → IsConditionNamed items name (look_up name (map called_condition (all_conditions items)))
    → found ≡ look_up name (calls_in all.names) → IsConditionNamed items name found
named_is items all name found are law said =
    subst (IsConditionNamed items name) (sym (said ∙ ap (look_up name) are.calls)) law

module _ (items : List LocatedItem) (declared : List DeclaredCondition)
    (found : map (found_at items) declared ≡ map Some (all_conditions items))
    (n : ℕ) (one : NamedCondition) (is : slice_get (all_conditions items) n ≡ Some one) where
  told : option_map (found_at items) (slice_get declared n) ≡ Some (Some one)
  told = sym (slice_get-map (found_at items) declared n) ∙ ap (λ l. slice_get l n) found
      ∙ slice_get-map Some (all_conditions items) n ∙ ap (option_map Some) is

  -- a condition name has its place among those that are declared
  pub number_within : n < length declared
  number_within =
      let some = slice_get_within (all_conditions items) n one is in
      let many = length-map declared (found_at items) in
      let all = length-map (all_conditions items) Some in
      let same = ap length found in
      omega arith

  of_item : (d : DeclaredCondition) → slice_get declared n ≡ Some d → found_at items d ≡ Some one
  of_item d at = let e : Some (found_at items d) ≡ Some (Some one) =
      sym (ap (option_map (found_at items)) at) ∙ told in cc

  by_item : (d : DeclaredCondition) (item : Option LocatedItem)
      → option_map (λ (p : LocatedItem). record { condition = d.condition.now; item = p }) item ≡ Some one
      → item ≡ Some one.item
  by_item d None e = cc
  by_item d (Some item) e =
      let same : (record { condition = d.condition.now; item = item }) ≡ one = (cc) in
      ap (λ (c : NamedCondition). Some c.item) same

  pub item_is : (d : DeclaredCondition) → slice_get declared n ≡ Some d → slice_get items d.item ≡ Some one.item
  item_is d at = by_item d (slice_get items d.item) (of_item d at)

  pub placed_is : (d : DeclaredCondition) (placed : List PlacedItem) → slice_get declared n ≡ Some d
      → placed ≡ map placed_item items
      → slice_get placed d.item ≡ Some (placed_item one.item)
  placed_is d placed at e = ap (λ l. slice_get l d.item) e ∙ slice_get-map placed_item items d.item
      ∙ ap (option_map placed_item) (item_is d at)
