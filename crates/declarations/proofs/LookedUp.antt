-- What is looked up by a name or a number.
use Rattle.std.proofs.Common.{◌≡◌, ℕ, ◌<◌, List, [], ◌∷◌, Some, length, sym, ap, ◌∙◌}
use Rattle.std.specs.Prelude.{map, slice_get}
use Rattle.std.specs.Option.{option_map}
use Rattle.std.proofs.lemmas.Option.{slice_get-map, slice_get_within}
use Rattle.lexical.specs.declared.place.Place.{Place}
use Rattle.source_tree.specs.Broken.{RuleBreach}
use Rattle.source_tree.specs.LookUp.{first}
use Rattle.source_tree.specs.NameRules.{unique_name_rules}
use Rattle.source_tree.specs.Places.{LocatedItem}
use Rattle.layout.specs.declared.placed.PlacedItem.{PlacedItem}
use Rattle.layout.specs.Placing.{placed_item}
use Rattle.name_table.specs.Items.{called_item}
use Rattle.name_table.specs.Positions.{NamePath}

-- The item of a number, as it is placed and as it is called.
module _ (items : List LocatedItem) (n : ℕ) (one : LocatedItem) (is : slice_get items n ≡ Some one) where
  pub called_at : (calls : List NamePath) → calls ≡ map called_item items → slice_get calls n ≡ Some (called_item one)
  called_at calls e = ap (λ (l : List NamePath). slice_get l n) e ∙ slice_get-map called_item items n
      ∙ ap (option_map called_item) is

  pub place_at : (placed : List PlacedItem) → placed ≡ map placed_item items
      → slice_get placed n ≡ Some (placed_item one)
  place_at placed e = ap (λ (l : List PlacedItem). slice_get l n) e ∙ slice_get-map placed_item items n
      ∙ ap (option_map placed_item) is

  pub place_within : (placed : List PlacedItem) → placed ≡ map placed_item items → n < length placed
  place_within placed e = slice_get_within placed n (placed_item one) (place_at placed e)

  pub placed_is : (placed : List PlacedItem) (item : PlacedItem) → placed ≡ map placed_item items
      → slice_get placed n ≡ Some item → item ≡ placed_item one
  placed_is placed item e at = let same : Some item ≡ Some (placed_item one) = sym at ∙ place_at placed e in cc

-- what is broken where nothing has the name
pub unknown : {A : Type 0} (place : Place) (found : List A) → found ≡ [] → (rules : A → List RuleBreach)
    → first (unique_name_rules place rules found) ≡ Some (record { rule = 40; place = place })
unknown {A} place found e rules = ap (λ (l : List A). first (unique_name_rules place rules l)) e

-- and where several have it
pub several : {A : Type 0} (place : Place) (found : List A) (one other : A) (more : List A)
    → found ≡ one ∷ other ∷ more → (rules : A → List RuleBreach)
    → first (unique_name_rules place rules found) ≡ Some (record { rule = 41; place = place })
several {A} place found one other more e rules = ap (λ (l : List A). first (unique_name_rules place rules l)) e
