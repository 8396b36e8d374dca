-- What the layout has of the item of a number, by what the program's list of items has.
use Rattle.std.proofs.Common.{◌≡◌, ℕ, Bool, true, false, not, ◌&&◌, ◌==◌, List, [], length, map, Option, Some, None}
use Rattle.std.proofs.Common.{Bor}
use Rattle.std.proofs.Common.{refl, sym, ap, ◌∙◌}
use Rattle.std.specs.Prelude.{slice_get, is_some}
use Rattle.std.specs.Option.{option_map, option_copied}
use Rattle.std.proofs.lemmas.Option.{same_Some}
use Rattle.layout.specs.declared.placed.PlacedItem.{PlacedItem}
use Rattle.layout.specs.Placing.{placed_item}
use Rattle.source_tree.specs.declared.expression.Operand.TheVariants as operand
use Rattle.source_tree.specs.declared.reference.QualifiedName.{QualifiedName}
use Rattle.source_tree.specs.declared.reference.Reference.{Reference}
use Rattle.source_tree.specs.Arithmetic.{receiver_of}
use Rattle.source_tree.specs.ArithmeticRules.{is_numeric_kind}
use Rattle.source_tree.specs.InspectLayout.{found_size}
use Rattle.source_tree.specs.Parts.{has_part}
use Rattle.source_tree.specs.Places.{LocatedItem}
use Rattle.source_tree.specs.ProgramFiles.{plain_place}
use Rattle.condition_codegen.specs.ArithmeticCode.{receiver_scale, scale_of_item}
use Rattle.condition_codegen.specs.ConditionCode.{is_single, is_numeric_item, is_numeric_operand, is_operand_at_hand}
use Rattle.condition_codegen.specs.DataCode.{item_number, dimensions_of}
use Rattle.condition_codegen.proofs.ItemParts.{placed_at, has_part_is}

pub dimensions_there : (found : Option LocatedItem) (placed : PlacedItem) → Some placed ≡ option_map placed_item found
    → placed.dimensions ≡ dimensions_of found
dimensions_there None placed e = absurd cc
dimensions_there (Some found) placed e = ap (λ (p : PlacedItem). p.dimensions) (same_Some placed (placed_item found) e)

pub no_dimensions : (found : Option LocatedItem) → None ≡ option_map placed_item found → [] ≡ dimensions_of found
no_dimensions None e = refl
no_dimensions (Some found) e = absurd cc

pub size_there : (found : Option LocatedItem) (placed : PlacedItem) → Some placed ≡ option_map placed_item found
    → placed.item.length ≡ found_size found
size_there None placed e = absurd cc
size_there (Some found) placed e = ap (λ (p : PlacedItem). p.item.length) (same_Some placed (placed_item found) e)

pub no_size : (found : Option LocatedItem) → None ≡ option_map placed_item found → 0 ≡ found_size found
no_size None e = refl
no_size (Some found) e = absurd cc

pub scale_there : (found : Option LocatedItem) (placed : PlacedItem) → Some placed ≡ option_map placed_item found
    → receiver_scale (receiver_of placed.item.kind placed.editing) ≡ scale_of_item found
scale_there None placed e = absurd cc
scale_there (Some found) placed e =
    ap (λ (p : PlacedItem). receiver_scale (receiver_of p.item.kind p.editing)) (same_Some placed (placed_item found) e)

pub no_scale : (found : Option LocatedItem) → None ≡ option_map placed_item found → 0 ≡ scale_of_item found
no_scale None e = refl
no_scale (Some found) e = absurd cc

-- the layout has the item exactly where the program has
pub same_there : (seen : Option (Bor PlacedItem)) (found : Option LocatedItem)
    → option_copied seen ≡ option_map placed_item found → is_some seen ≡ is_some found
same_there None None e = refl
same_there None (Some found) e = absurd cc
same_there (Some placed) None e = absurd cc
same_there (Some placed) (Some found) e = refl

-- an item has a place exactly where it is there
pub place_there : (found : Option LocatedItem) → is_some found ≡ is_some (plain_place found)
place_there None = refl
place_there (Some found) = refl

-- what the layout has of the item that a name names
pub placed_named : (items : List LocatedItem) (all : List PlacedItem) (name : QualifiedName) (n : ℕ)
    → all ≡ map placed_item items → n ≡ item_number items name
    → slice_get all n ≡ option_map placed_item (slice_get items (item_number items name))
placed_named items all name n are is =
    placed_at items all n are ∙ ap (λ m. option_map placed_item (slice_get items m)) is

-- ---- an operand alone that is an item

module _ (items : List LocatedItem) (one : Reference) where
  numeric_found : (whole : Bool) (found : Option LocatedItem) (placed : PlacedItem)
      → Some placed ≡ option_map placed_item found
      → (whole && is_numeric_kind placed.item.kind) ≡ (whole && is_numeric_item found)
  numeric_found whole None placed e = absurd cc
  numeric_found whole (Some found) placed e =
      ap (λ (p : PlacedItem). whole && is_numeric_kind p.item.kind) (same_Some placed (placed_item found) e)

  pub numeric_there : (placed : PlacedItem)
      → Some placed ≡ option_map placed_item (slice_get items (item_number items one.item))
      → (not (is_some one.part) && is_numeric_kind placed.item.kind) ≡ is_numeric_operand items (operand.Item one)
  numeric_there placed e =
      numeric_found (not (is_some one.part)) (slice_get items (item_number items one.item)) placed e
      ∙ ap (λ b. not b && is_numeric_item (slice_get items (item_number items one.item))) (sym (has_part_is one))

  none_numeric : (whole : Bool) (found : Option LocatedItem) → None ≡ option_map placed_item found
      → false ≡ (whole && is_numeric_item found)
  none_numeric whole (Some found) e = absurd cc
  none_numeric true None e = refl
  none_numeric false None e = refl

  pub not_numeric : None ≡ option_map placed_item (slice_get items (item_number items one.item))
      → false ≡ is_numeric_operand items (operand.Item one)
  not_numeric e = none_numeric (not (has_part one)) (slice_get items (item_number items one.item)) e

  single_found : (whole : Bool) (found : Option LocatedItem) (placed : PlacedItem)
      → Some placed ≡ option_map placed_item found
      → (whole && length placed.dimensions == 0) ≡ (whole && is_single found)
  single_found whole None placed e = absurd cc
  single_found whole (Some found) placed e =
      ap (λ (p : PlacedItem). whole && length p.dimensions == 0) (same_Some placed (placed_item found) e)

  pub hand_there : (placed : PlacedItem)
      → Some placed ≡ option_map placed_item (slice_get items (item_number items one.item))
      → (not (is_some one.part) && length placed.dimensions == 0) ≡ is_operand_at_hand items (operand.Item one)
  hand_there placed e =
      single_found (not (is_some one.part)) (slice_get items (item_number items one.item)) placed e
      ∙ ap (λ b. not b && is_single (slice_get items (item_number items one.item))) (sym (has_part_is one))

  none_single : (whole : Bool) (found : Option LocatedItem) → None ≡ option_map placed_item found
      → false ≡ (whole && is_single found)
  none_single whole (Some found) e = absurd cc
  none_single true None e = refl
  none_single false None e = refl

  pub not_at_hand : None ≡ option_map placed_item (slice_get items (item_number items one.item))
      → false ≡ is_operand_at_hand items (operand.Item one)
  not_at_hand e = none_single (not (has_part one)) (slice_get items (item_number items one.item)) e
