-- A condition name by its number, and its item.
use Rattle.std.proofs.Common.{◌≡◌, ℕ, zero, suc, ◌+◌, List, [], ◌∷◌, ◌++◌, map, Some, get_or, sym, ap, ◌∙◌, arith}
use Rattle.std.proofs.Common.{refl}
use Rattle.std.specs.Prelude.{slice_get}
use Rattle.std.proofs.lemmas.Option.{same_Some}
use Rattle.source_tree.specs.declared.entry.ConditionEntry.{ConditionEntry}
use Rattle.source_tree.specs.declared.reference.QualifiedName.{QualifiedName}
use Rattle.source_tree.specs.LookUp.{NamedCondition, conditions_of, all_conditions, conditions_named}
use Rattle.source_tree.specs.Places.{LocatedItem}
use Rattle.name_table.specs.declared.look_up.LookUp.{LookUp}
use Rattle.name_table.specs.declared.look_up.LookUp.TheVariants.{Unknown, One, Several}
use Rattle.name_table.specs.Conditions.{called_condition, item_numbers}
use Rattle.name_table.specs.Positions.{look_up, IsLookUpOf}
use Rattle.name_table.proofs.Picked.{named_conditions}
use Rattle.condition_codegen.specs.DataCode.{found_number}
use Rattle.condition_codegen.specs.ConditionCode.{condition_number}
use Rattle.lexical.specs.declared.place.Place.{Place}
use Rattle.source_tree.specs.Broken.{RuleBreach}
use Rattle.source_tree.specs.NameRules.{unique_name_rules}

-- ---- what a name names

found_one : {A : Type 0} (all named : List A) (one : A) (found : LookUp) → IsLookUpOf all named found → named ≡ one ∷ []
    → slice_get all (found_number found) ≡ Some one
found_one {A} all named one Unknown is e = absurd (none (sym is ∙ e))
  where
    nothing : List A
    nothing = []

    none : nothing ≡ one ∷ [] → ⊥
    none a = cc
found_one {A} all named one (One n) is e = is.1 ∙ ap Some (same is.0 (sym is.2 ∙ e))
  where
    same : (x : A) → x ∷ [] ≡ one ∷ [] → x ≡ one
    same x e = cc
found_one {A} all named one Several is e = absurd (more is.0 is.1 is.2 (sym is.3 ∙ e))
  where
    more : (x y : A) (zs : List A) → x ∷ y ∷ zs ≡ one ∷ [] → ⊥
    more x y zs e = cc

pub condition_there : (items : List LocatedItem) (name : QualifiedName) (one : NamedCondition)
    → conditions_named items name ≡ one ∷ []
    → slice_get (all_conditions items) (condition_number items name) ≡ Some one
condition_there items name one e = found_one (all_conditions items) (conditions_named items name) one
    (look_up name (map called_condition (all_conditions items))) (named_conditions items name) e

-- ---- its item

-- the number of an item of these, where so many stand before them
record IsNumbered (rest : List LocatedItem) (count number : ℕ) (item : LocatedItem) : Type 0 where
  at : ℕ
  is : number ≡ count + at
  here : slice_get rest at ≡ Some item

module _ (found : NamedCondition) where
  -- among the condition names of an item, and then others
  of_item : (count : ℕ) (one : LocatedItem) (more : List LocatedItem) (others : List NamedCondition) (numbers : List ℕ)
      → ((n : ℕ) → slice_get others n ≡ Some found → IsNumbered more (suc count) (get_or numbers n 0) found.item)
      → (conditions : List ConditionEntry) (n : ℕ) → slice_get (conditions_of one conditions ++ others) n ≡ Some found
      → IsNumbered (one ∷ more) count (get_or (map (λ (c : ConditionEntry). count) conditions ++ numbers) n 0)
      found.item
  of_item count one more others numbers later [] n e =
      let l = later n e in
      let next : suc count + l.at ≡ count + suc l.at = omega arith in
      record { at = suc l.at; is = l.is ∙ next; here = l.here }
  of_item count one more others numbers later (c ∷ conditions) zero e =
      let none : count ≡ count + 0 = omega arith in
      record {
        at = 0;
        is = none;
        here = ap (λ (x : NamedCondition). Some x.item) (same_Some (record { condition = c; item = one }) found e);
      }
  of_item count one more others numbers later (c ∷ conditions) (suc n) e =
      of_item count one more others numbers later conditions n e

  of_items : (rest : List LocatedItem) (count n : ℕ) → slice_get (all_conditions rest) n ≡ Some found
      → IsNumbered rest count (get_or (item_numbers count rest) n 0) found.item
  of_items [] count n e = absurd cc
  of_items (one ∷ more) count n e = of_item count one more (all_conditions more) (item_numbers (suc count) more)
      (of_items more (suc count)) one.conditions n e

pub condition_item_there : (items : List LocatedItem) (n : ℕ) (found : NamedCondition)
    → slice_get (all_conditions items) n ≡ Some found
    → slice_get items (get_or (item_numbers 0 items) n 0) ≡ Some found.item
condition_item_there items n found e =
    let l = of_items found items 0 n e in
    let none : 0 + l.at ≡ l.at = omega arith in
    ap (slice_get items) (l.is ∙ none) ∙ l.here

-- the only condition name that is named
pub only_condition : (place : Place) (rules : NamedCondition → List RuleBreach) (found : List NamedCondition)
    → unique_name_rules place rules found ≡ []
    → (one : NamedCondition) × (found ≡ one ∷ []) × (rules one ≡ [])
only_condition place rules [] e = absurd cc
only_condition place rules (one ∷ []) e = (one, refl, e)
only_condition place rules (one ∷ other ∷ more) e = absurd cc
