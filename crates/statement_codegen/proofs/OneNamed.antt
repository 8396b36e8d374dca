-- The only item that a reference names, as it is placed; and whether an item is there.
use Rattle.std.proofs.Common.{◌≡◌, ℕ, List, Option, Some, None, map, refl, sym, ap, ◌∙◌}
use Rattle.std.specs.Prelude.{slice_get, is_some}
use Rattle.std.specs.Option.{option_map}
use Rattle.std.proofs.lemmas.Option.{same_Some, slice_get-map}
use Rattle.records.specs.declared.file_spec.KeyPlace.{KeyPlace}
use Rattle.source_tree.specs.declared.reference.Reference.{Reference}
use Rattle.source_tree.specs.LookUp.{first}
use Rattle.source_tree.specs.Places.{LocatedItem}
use Rattle.source_tree.specs.ProgramFiles.{plain_place, place_in_record, key_place}
use Rattle.layout.specs.declared.placed.PlacedItem.{PlacedItem}
use Rattle.layout.specs.Placing.{placed_item}
use Rattle.file_descriptions.specs.Clauses.{NamesOne}
use Rattle.condition_codegen.specs.DataCode.{item_number}
use Rattle.statement_codegen.proofs.NamedItems.{item_there}

module _ (items : List LocatedItem) (one : Reference) (names : NamesOne items one) where
  place_is : key_place items one ≡ record { offset = names.one.offset; length = names.one.item.length }
  place_is = ap (λ (l : List LocatedItem). place_in_record (first l)) names.named

  module _ (all : List PlacedItem) (n : ℕ) (are : all ≡ map placed_item items)
      (at : n ≡ item_number items one.item) where
    there : slice_get all n ≡ Some (placed_item names.one)
    there =
        ap (λ (l : List PlacedItem). slice_get l n) are
        ∙ slice_get-map placed_item items n
        ∙ ap (λ (m : ℕ). option_map placed_item (slice_get items m)) at
        ∙ ap (option_map placed_item) (item_there items one.item names.one names.named)

    same : (found : PlacedItem) → Some found ≡ slice_get all n → found ≡ placed_item names.one
    same found e = same_Some found (placed_item names.one) (e ∙ there)

    pub key_offset : (found : PlacedItem) → Some found ≡ slice_get all n → found.offset ≡ (key_place items one).offset
    key_offset found e =
        ap (λ (x : PlacedItem). x.offset) (same found e) ∙ sym (ap (λ (place : KeyPlace). place.offset) place_is)

    pub key_bytes : (found : PlacedItem) → Some found ≡ slice_get all n
        → found.item.length ≡ (key_place items one).length
    key_bytes found e =
        ap (λ (x : PlacedItem). x.item.length) (same found e) ∙ sym (ap (λ (place : KeyPlace). place.length) place_is)

    pub area_named : (found : PlacedItem) → Some found ≡ slice_get all n → found.area ≡ names.one.area
    area_named found e = ap (λ (x : PlacedItem). x.area) (same found e)

    pub not_missing : None ≡ slice_get all n → ⊥
    not_missing e = let no : ◌≡◌ {A = Option PlacedItem} None (Some (placed_item names.one)) = e ∙ there in cc

-- an item of this number is there
pub place_there : (items : List LocatedItem) (all : List PlacedItem) (n : ℕ) → all ≡ map placed_item items
    → is_some (slice_get all n) ≡ is_some (plain_place (slice_get items n))
place_there items all n are =
    ap (λ (l : List PlacedItem). is_some (slice_get l n)) are ∙ ap is_some (slice_get-map placed_item items n)
    ∙ same_there (slice_get items n)
  where
    same_there : (found : Option LocatedItem) → is_some (option_map placed_item found) ≡ is_some (plain_place found)
    same_there None = refl
    same_there (Some x) = refl
