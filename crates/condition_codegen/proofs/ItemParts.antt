-- The code of references with parts, by what the layout has of their items.
use Rattle.std.proofs.Common.{◌≡◌, ℕ, true, false, List, map, Option, Some, None, refl, sym, ap, ◌∙◌}
use Rattle.std.specs.Prelude.{slice_get, is_some}
use Rattle.std.specs.Option.{option_map}
use Rattle.std.proofs.lemmas.Option.{same_Some, slice_get-map}
use Rattle.layout.specs.declared.placed.PlacedItem.{PlacedItem}
use Rattle.layout.specs.Placing.{placed_item}
use Rattle.source_tree.specs.declared.reference.Subscript.{Subscript}
use Rattle.source_tree.specs.declared.reference.Part.{Part}
use Rattle.source_tree.specs.declared.reference.Reference.{Reference}
use Rattle.source_tree.specs.Parts.{known_length, has_part}
use Rattle.source_tree.specs.Places.{LocatedItem}
use Rattle.declarations.specs.Seen.{item_seen}
use Rattle.data_instructions.specs.PartForms.{known_begin, form_by, part_form}
use Rattle.code_image.specs.declared.code.Code.{Code}
use Rattle.condition_codegen.specs.Fragments.{empty_code, sequence}
use Rattle.condition_codegen.specs.DataCode.{place_fragment, entry_fragment, subscript_fragment, unknown_fragment}
use Rattle.condition_codegen.specs.DataCode.{making_fragment}
use Rattle.condition_codegen.specs.ItemParts.{entry_in, length_shown, has_room, is_measured}

-- what the layout has of the item of that number
pub placed_at : (items : List LocatedItem) (all : List PlacedItem) (n : ℕ) → all ≡ map placed_item items
    → slice_get all n ≡ option_map placed_item (slice_get items n)
placed_at items all n are = ap (λ (l : List PlacedItem). slice_get l n) are ∙ slice_get-map placed_item items n

pub has_part_is : (one : Reference) → has_part one ≡ is_some one.part
has_part_is one = by_part one.part
  where
    by_part : (part : Option Part)
        → has_part (record { item = one.item; subscripts = one.subscripts; part = part }) ≡ is_some part
    by_part None = refl
    by_part (Some part) = refl

-- ---- the length of what a reference shows

module _ (one : Reference) where
  seen_length : (part : Option Part) (found : LocatedItem)
      → (item_seen part found.item).length
      ≡ length_shown (record { item = one.item; subscripts = one.subscripts; part = part }) (Some found)
  seen_length None found = refl
  seen_length (Some part) found = refl

  pub length_there : (found : Option LocatedItem) (placed : PlacedItem) → Some placed ≡ option_map placed_item found
      → (item_seen one.part placed.item).length ≡ length_shown one found
  length_there None placed e = absurd cc
  length_there (Some found) placed e =
      ap (λ (p : PlacedItem). (item_seen one.part p.item).length) (same_Some placed (placed_item found) e)
      ∙ seen_length one.part found

  pub no_length : (found : Option LocatedItem) → None ≡ option_map placed_item found → 0 ≡ length_shown one found
  no_length None e = refl
  no_length (Some found) e = absurd cc

  -- ---- whether it is found in the run

  pub measured_there : (found : Option LocatedItem) (placed : PlacedItem) → Some placed ≡ option_map placed_item found
      → has_room placed.item.length one.part ≡ is_measured one found
  measured_there None placed e = absurd cc
  measured_there (Some found) placed e =
      ap (λ (p : PlacedItem). has_room p.item.length one.part) (same_Some placed (placed_item found) e)

  pub not_measured : (found : Option LocatedItem) → None ≡ option_map placed_item found
      → false ≡ is_measured one found
  not_measured None e = refl
  not_measured (Some found) e = absurd cc

-- ---- the place of a reference

module _ (items : List LocatedItem) (one : Reference) (before : Code) where
  -- of an item without a part
  pub whole_place : (found : Option LocatedItem) (part : Option Part) → is_some part ≡ false
      → place_fragment items found one None before ≡ place_fragment items found one part before
  whole_place found None e = refl
  whole_place found (Some part) e = absurd cc

  -- of a part
  pub part_place : (found : Option LocatedItem) (placed : PlacedItem) (part : Option Part) → is_some part ≡ true
      → Some placed ≡ option_map placed_item found
      → entry_fragment (entry_in placed part) before ≡ place_fragment items found one part before
  part_place found placed None some e = absurd cc
  part_place None placed (Some part) some e = absurd cc
  part_place (Some found) placed (Some part) some e =
      ap (λ (p : PlacedItem). entry_fragment (entry_in p (Some part)) before) (same_Some placed (placed_item found) e)

  pub no_place : (found : Option LocatedItem) (part : Option Part) → is_some part ≡ true
      → None ≡ option_map placed_item found
      → empty_code ≡ place_fragment items found one part before
  no_place found None some e = absurd cc
  no_place None (Some part) some e = refl
  no_place (Some found) (Some part) some e = absurd cc

-- ---- what makes a part

module _ (items : List LocatedItem) (size : ℕ) (before : Code) where
  settled : (first : Subscript) (length : Option Subscript) (known begin : Option ℕ) → is_some begin ≡ true
      → empty_code ≡ making_fragment items size (form_by first length known begin) before
  settled first length known None e = absurd cc
  settled first length known (Some bytes) e = refl

  -- A settled part needs no instruction.
  pub settled_making : (part : Part) (begin : Option ℕ)
      → begin ≡ known_begin size part.first (known_length size part.first part.length) → is_some begin ≡ true
      → empty_code ≡ making_fragment items size (part_form size (Some part)) before
  settled_making part begin is some =
      settled part.first part.length (known_length size part.first part.length)
      (known_begin size part.first (known_length size part.first part.length)) (sym (ap is_some is) ∙ some)

  made : (first : Subscript) (length : Option Subscript) (known begin : Option ℕ) → is_some begin ≡ false
      → making_fragment items size (form_by first length known None) before
      ≡ making_fragment items size (form_by first length known begin) before
  made first length known None e = refl
  made first length known (Some bytes) e = absurd cc

  -- Others are made in the run.
  pub other_making : (part : Part) (begin : Option ℕ)
      → begin ≡ known_begin size part.first (known_length size part.first part.length) → is_some begin ≡ false
      → making_fragment items size
      (form_by part.first part.length (known_length size part.first part.length) None) before
      ≡ making_fragment items size (part_form size (Some part)) before
  other_making part begin is some =
      made part.first part.length (known_length size part.first part.length)
      (known_begin size part.first (known_length size part.first part.length)) (sym (ap is_some is) ∙ some)

  -- a part of unknown length
  pub unknown_making : (first : Subscript) (length : Option Subscript)
      → sequence (subscript_fragment items first) (unknown_fragment items length) before
      ≡ making_fragment items size (form_by first length None None) before
  unknown_making first None = refl
  unknown_making first (Some length) = refl
