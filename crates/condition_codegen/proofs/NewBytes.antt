-- What SET puts into items, as bytes and marks.
use Rattle.std.proofs.Common.{◌≡◌, ℕ, List, [], ◌∷◌, length, map, Some, None, refl, sym, ap, subst, ◌∙◌}
use Rattle.std.specs.Prelude.{slice_get, replicate}
use Rattle.std.specs.List.{All}
use Rattle.std.specs.Option.{option_map}
use Rattle.std.proofs.lemmas.Option.{same_Some, slice_get-map, get_or_from_slice_get, slice_get_within}
use Rattle.items.specs.declared.item.Item.{Item}
use Rattle.source_tree.specs.declared.entry.ValueRange.{ValueRange}
use Rattle.source_tree.specs.declared.reference.Reference.{Reference}
use Rattle.source_tree.specs.ConditionRules.{condition_subscripts}
use Rattle.source_tree.specs.Initializing.{whole_pattern, first_value}
use Rattle.source_tree.specs.Literals.{literal_sender}
use Rattle.source_tree.specs.LookUp.{NamedCondition, all_conditions, conditions_named}
use Rattle.source_tree.specs.NameRules.{unique_name_rules, number_rules_of}
use Rattle.source_tree.specs.Places.{LocatedItem}
use Rattle.source_tree.specs.SettingRules.{set_one}
use Rattle.source_tree.specs.Starts.{with_value}
use Rattle.layout.specs.declared.placed.PlacedItem.{PlacedItem}
use Rattle.layout.specs.Placing.{placed_item}
use Rattle.initial_storage.specs.Conditions.{HasFirst, CanBeSet}
use Rattle.initial_storage.specs.Fits.{HasKind, HasValue}
use Rattle.data_instructions.specs.TextCodes.{new_byte, new_mark}
use Rattle.condition_codegen.specs.ConditionCode.{condition_number, condition_item, values_of, values_named}
use Rattle.condition_codegen.specs.PatternCode.{set_of}
use Rattle.condition_codegen.proofs.Lists.{left_none}
use Rattle.condition_codegen.proofs.ConditionItems.{only_condition, condition_there, condition_item_there}
use Rattle.condition_codegen.proofs.Setting.{set_kept}

pub all_at : {A : Type 0} (P : A → Type 0) (xs : List A) → All P xs → (k : ℕ) (x : A) → slice_get xs k ≡ Some x → P x
all_at P xs all k x here = subst P (get_or_from_slice_get xs k x x here) (all k x (slice_get_within xs k x here))

-- all bytes are new
pub whole_bytes : (bytes : List ℕ) → bytes ≡ map new_byte (whole_pattern bytes)
whole_bytes [] = refl
whole_bytes (byte ∷ more) = ap (λ (l : List ℕ). byte ∷ l) (whole_bytes more)

pub whole_marks : (bytes : List ℕ) → replicate (length bytes) 1 ≡ map new_mark (whole_pattern bytes)
whole_marks [] = refl
whole_marks (byte ∷ more) = ap (λ (l : List ℕ). 1 ∷ l) (whole_marks more)

module _ (item : Item) where
  -- The first value is such as the item takes, if all condition names can be set.
  pub first_has : (values : List ValueRange) (one : ValueRange) → Some one ≡ slice_get values 0 → HasFirst item values
      → HasValue item.kind (Some one.first)
  first_has [] one e h = absurd cc
  first_has (first ∷ more) one e h =
      subst (λ (r : ValueRange). HasValue item.kind (Some r.first)) (same_Some first one (sym e)) h

  pub first_is : (values : List ValueRange) (one : ValueRange) → Some one ≡ slice_get values 0
      → whole_pattern (with_value item (literal_sender one.first.value)) ≡ first_value item values
  first_is [] one e = absurd cc
  first_is (first ∷ more) one e = ap (λ (r : ValueRange).
      whole_pattern (with_value item (literal_sender r.first.value))) (sym (same_Some first one (sym e)))

  pub first_none : (values : List ValueRange) → None ≡ slice_get values 0 → [] ≡ first_value item values
  first_none [] e = refl
  first_none (first ∷ more) e = absurd cc

  pub first_bytes : (values : List ValueRange) (one : ValueRange) → Some one ≡ slice_get values 0
      → with_value item (literal_sender one.first.value) ≡ map new_byte (first_value item values)
  first_bytes values one e =
      whole_bytes (with_value item (literal_sender one.first.value)) ∙ ap (map new_byte) (first_is values one e)

  pub first_marks : (values : List ValueRange) (one : ValueRange) (bytes : List ℕ) → Some one ≡ slice_get values 0
      → bytes ≡ with_value item (literal_sender one.first.value)
      → replicate (length bytes) 1 ≡ map new_mark (first_value item values)
  first_marks values one bytes e is = whole_marks bytes ∙ ap (λ (l : List ℕ). map new_mark (whole_pattern l)) is
      ∙ ap (map new_mark) (first_is values one e)

-- the condition name that SET names, and its item
pub record IsSet (items : List LocatedItem) (one : Reference) : Type 0 where
  pub found : NamedCondition
  pub here : slice_get (all_conditions items) (condition_number items one.item) ≡ Some found
  pub item : slice_get items (condition_item items one.item).number ≡ Some found.item
  pub values : values_named items one.item ≡ found.condition.values
  pub pattern : set_of (slice_get (all_conditions items) (condition_number items one.item))
      ≡ first_value found.item.item found.condition.values

pub is_set : (items : List LocatedItem) (one : Reference) → set_one items one ≡ [] → IsSet items one
is_set items one e =
    let place = one.item.name.place in
    let all = unique_name_rules place (condition_subscripts one) (conditions_named items one.item) in
    let only = only_condition place (condition_subscripts one) (conditions_named items one.item)
    (left_none all (number_rules_of items one) (set_kept items one e)) in
    let there = condition_there items one.item only.0 only.1 in
    record {
      found = only.0;
      here = there;
      item = condition_item_there items (condition_number items one.item) only.0 there;
      values = ap values_of there;
      pattern = ap set_of there;
    }

module _ (items : List LocatedItem) (one : Reference) (keeps : set_one items one ≡ []) where
  -- its item, where it is told by the layout
  item_is : (all : List PlacedItem) (n : ℕ) (placed : PlacedItem) → all ≡ map placed_item items
      → n ≡ (condition_item items one.item).number → Some placed ≡ slice_get all n
      → placed ≡ placed_item (is_set items one keeps).found.item
  item_is all n placed are at e =
      let s = is_set items one keeps in
      same_Some placed (placed_item s.found.item)
      (e ∙ ap (λ (l : List PlacedItem). slice_get l n) are ∙ slice_get-map placed_item items n
      ∙ ap (λ (m : ℕ). option_map placed_item (slice_get items m)) at ∙ ap (option_map placed_item) s.item)

  pub item_there : (all : List PlacedItem) (n : ℕ) → all ≡ map placed_item items
      → n ≡ (condition_item items one.item).number → None ≡ slice_get all n → ⊥
  item_there all n are at e =
      let s = is_set items one keeps in
      let found : None ≡ Some (placed_item s.found.item) =
      e ∙ ap (λ (l : List PlacedItem). slice_get l n) are ∙ slice_get-map placed_item items n
      ∙ ap (λ (m : ℕ). option_map placed_item (slice_get items m)) at ∙ ap (option_map placed_item) s.item in
      cc

  can_be_set : All CanBeSet (all_conditions items) → CanBeSet (is_set items one keeps).found
  can_be_set all = let s = is_set items one keeps in
      all_at CanBeSet (all_conditions items) all (condition_number items one.item) s.found s.here

  module _ (all : List PlacedItem) (n : ℕ) (placed : PlacedItem) (are : all ≡ map placed_item items)
      (at : n ≡ (condition_item items one.item).number) (e : Some placed ≡ slice_get all n) where
    pub set_kind : All CanBeSet (all_conditions items) → HasKind placed.item
    set_kind can =
        subst (λ (p : PlacedItem). HasKind p.item) (sym (item_is all n placed are at e)) (can_be_set can).kind

    pub set_value : (values : List ValueRange) → values ≡ values_named items one.item
        → All CanBeSet (all_conditions items) → HasFirst placed.item values
    set_value values is can =
        let s = is_set items one keeps in
        subst (λ (p : PlacedItem). HasFirst p.item values) (sym (item_is all n placed are at e))
        (subst (HasFirst s.found.item.item) (sym (is ∙ s.values)) (can_be_set can).value)

    pub set_is : (values : List ValueRange) → values ≡ values_named items one.item
        → first_value placed.item values ≡ set_of (slice_get (all_conditions items) (condition_number items one.item))
    set_is values is =
        let s = is_set items one keeps in
        ap (λ (p : PlacedItem). first_value p.item values) (item_is all n placed are at e)
        ∙ ap (first_value s.found.item.item) (is ∙ s.values) ∙ sym s.pattern
