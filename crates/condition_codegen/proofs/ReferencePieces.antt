-- The place of an item, its subscripts and what follows them, by what the layout has of the item.
use Rattle.std.proofs.Common.{◌≡◌, ℕ, List, [], ◌∷◌, map, Option, ap, ◌∙◌}
use Rattle.std.specs.Prelude.{slice_get, Result, OnOk}
use Rattle.source_tree.specs.declared.entry.ValueRange.{ValueRange}
use Rattle.source_tree.specs.declared.reference.Reference.{Reference}
use Rattle.source_tree.specs.declared.reference.Subscript.{Subscript}
use Rattle.source_tree.specs.declared.table.Dimension.{Dimension}
use Rattle.source_tree.specs.InspectLayout.{found_size}
use Rattle.source_tree.specs.LookUp.{all_conditions}
use Rattle.source_tree.specs.Places.{LocatedItem}
use Rattle.data_instructions.specs.declared.index.ItemIndex.{ItemIndex}
use Rattle.data_instructions.specs.declared.instruction.DataInstruction.TheVariants as i
use Rattle.data_instructions.specs.PartForms.{part_form}
use Rattle.data_instructions.specs.TextCodes.{new_byte, new_mark}
use Rattle.code_image.specs.declared.code.Code.{Code}
use Rattle.condition_codegen.specs.Fragments.{append}
use Rattle.condition_codegen.specs.DataCode.{item_number, dimensions_of, work_fragment, works_fragment, place_fragment}
use Rattle.condition_codegen.specs.DataCode.{subscripts_fragment, making_fragment, reference_fragment}
use Rattle.condition_codegen.specs.ConditionCode.{condition_number, condition_item, values_named, values_fragment}
use Rattle.condition_codegen.specs.ConditionCode.{condition_name_fragment}
use Rattle.condition_codegen.specs.PatternCode.{overlay_fragment, set_of, set_fragment}
use Rattle.condition_codegen.proofs.Sequences.{on_ok, three_so, four_so}

module _ (items : List LocatedItem) (one : Reference) where
  -- the subscripts, by the dimensions and the subscripts that were read
  subscripts_so : (found : Option LocatedItem) (dimensions : List Dimension) (written : List Subscript)
      (placed indexed : Code) → dimensions ≡ dimensions_of found → written ≡ one.subscripts
      → indexed ≡ append placed (subscripts_fragment items dimensions written placed)
      → indexed ≡ append placed (subscripts_fragment items (dimensions_of found) one.subscripts placed)
  subscripts_so found dimensions written placed indexed d w e =
      e ∙ ap (λ (l : List Dimension). append placed (subscripts_fragment items l written placed)) d
      ∙ ap (λ (l : List Subscript). append placed (subscripts_fragment items (dimensions_of found) l placed)) w

  module _ {T E : Type 0} (result : Result T E) where
    pub reference_so : (n size : ℕ) (dimensions : List Dimension) (written : List Subscript)
        (old placed indexed made : Code) → n ≡ item_number items one.item
        → dimensions ≡ dimensions_of (slice_get items n) → written ≡ one.subscripts
        → size ≡ found_size (slice_get items n)
        → placed ≡ append old (place_fragment items (slice_get items (item_number items one.item)) one one.part old)
        → indexed ≡ append placed (subscripts_fragment items dimensions written placed)
        → OnOk result (made ≡ append indexed (making_fragment items size (part_form size one.part) indexed))
        → OnOk result (made ≡ append old (reference_fragment items one old))
    reference_so n size dimensions written old placed indexed made is d w s p q r =
        let found = slice_get items (item_number items one.item) in
        let same = ap (slice_get items) is in
        three_so result (place_fragment items found one one.part)
        (subscripts_fragment items (dimensions_of found) one.subscripts)
        (making_fragment items (found_size found) (part_form (found_size found) one.part)) old placed indexed made p
        (subscripts_so found dimensions written placed indexed (d ∙ ap dimensions_of same) w q)
        (on_ok result r (λ e. e ∙ ap
        (λ (n : ℕ). append indexed (making_fragment items n (part_form n one.part) indexed)) (s ∙ ap found_size same)))

    -- ---- the item of a condition name

    module _ (index : ItemIndex) (dimensions : List Dimension) (written : List Subscript) (old placed indexed : Code)
        (is : index ≡ condition_item items one.item) (d : dimensions ≡ dimensions_of (slice_get items index.number))
        (w : written ≡ one.subscripts) (p : placed ≡ append old (work_fragment (i.Place index) old))
        (q : indexed ≡ append placed (subscripts_fragment items dimensions written placed)) where
      named_place : placed ≡ append old (work_fragment (i.Place (condition_item items one.item)) old)
      named_place = p ∙ ap (λ (x : ItemIndex). append old (work_fragment (i.Place x) old)) is

      named_subscripts : indexed ≡ append placed (subscripts_fragment items
          (dimensions_of (slice_get items (condition_item items one.item).number)) one.subscripts placed)
      named_subscripts = subscripts_so (slice_get items (condition_item items one.item).number) dimensions written
          placed indexed (d ∙ ap (λ (x : ItemIndex). dimensions_of (slice_get items x.number)) is) w q

      pub set_so : (bytes marks : List ℕ) (made : Code)
          → bytes ≡ map new_byte (set_of (slice_get (all_conditions items) (condition_number items one.item)))
          → marks ≡ map new_mark (set_of (slice_get (all_conditions items) (condition_number items one.item)))
          → OnOk result (made ≡ append indexed (overlay_fragment bytes marks indexed))
          → OnOk result (made ≡ append old (set_fragment items one old))
      set_so bytes marks made b m r =
          let pattern = set_of (slice_get (all_conditions items) (condition_number items one.item)) in
          three_so result (work_fragment (i.Place (condition_item items one.item))) (subscripts_fragment items
          (dimensions_of (slice_get items (condition_item items one.item).number)) one.subscripts)
          (overlay_fragment (map new_byte pattern) (map new_mark pattern)) old placed indexed made named_place
          named_subscripts
          (on_ok result r (λ e. e ∙ ap (λ (l : List ℕ). append indexed (overlay_fragment l marks indexed)) b
          ∙ ap (λ (l : List ℕ). append indexed (overlay_fragment (map new_byte pattern) l indexed)) m))

      pub condition_name_so : (values : List ValueRange) (taken made : Code) → values ≡ values_named items one.item
          → taken ≡ append indexed (works_fragment (i.Take ∷ i.ClearTruth ∷ []) indexed)
          → OnOk result (made ≡ append taken (values_fragment values taken))
          → OnOk result (made ≡ append old (condition_name_fragment items one old))
      condition_name_so values taken made v r s =
          four_so result (work_fragment (i.Place (condition_item items one.item))) (subscripts_fragment items
          (dimensions_of (slice_get items (condition_item items one.item).number)) one.subscripts)
          (works_fragment (i.Take ∷ i.ClearTruth ∷ [])) (values_fragment (values_named items one.item)) old placed
          indexed taken made named_place named_subscripts r
          (on_ok result s (λ e. e ∙ ap (λ (l : List ValueRange). append taken (values_fragment l taken)) v))
