-- The code of a subscript that is an item: its place and its number at once, and what is added to it.
use Rattle.std.proofs.Common.{◌≡◌, List, [], ◌∷◌, refl, sym, ap, ◌∙◌}
use Rattle.std.specs.Prelude.{Result, OnOk}
use Rattle.source_tree.specs.declared.reference.Adjustment.{Adjustment}
use Rattle.source_tree.specs.declared.reference.QualifiedName.{QualifiedName}
use Rattle.source_tree.specs.declared.reference.Subscript.{Subscript}
use Rattle.source_tree.specs.declared.reference.Subscript.TheVariants as subscript
use Rattle.source_tree.specs.Places.{LocatedItem}
use Rattle.data_instructions.specs.declared.index.ItemIndex.{ItemIndex}
use Rattle.data_instructions.specs.declared.instruction.DataInstruction.{DataInstruction}
use Rattle.data_instructions.specs.declared.instruction.DataInstruction.TheVariants as i
use Rattle.code_image.specs.declared.code.Code.{Code}
use Rattle.condition_codegen.specs.Fragments.{Fragment, append, sequence}
use Rattle.condition_codegen.specs.DataCode.{adjustment_fragment, item_index, subscript_fragment, work_fragment}
use Rattle.condition_codegen.specs.DataCode.{works_fragment}
use Rattle.condition_codegen.proofs.Fragments.{joined_assoc}
use Rattle.condition_codegen.proofs.Sequences.{on_ok, three_so}

module _ {T E : Type 0} (result : Result T E) where
  two_before : (one other : DataInstruction) (piece : Fragment) (old now new : Code)
      → now ≡ append old (works_fragment (one ∷ other ∷ []) old) → OnOk result (new ≡ append now (piece now))
      → OnOk result (new ≡ append old (sequence (work_fragment one) (sequence (work_fragment other) piece) old))
  two_before one other piece old now new is then =
      let first = work_fragment one old in
      three_so result (work_fragment one) (work_fragment other) piece old (append old first) now new refl
      (is ∙ sym (joined_assoc old first (work_fragment other old))) then

  pub item_pushed : (items : List LocatedItem) (one : Subscript) (name : QualifiedName) (adjusting : Adjustment)
      (index : ItemIndex) (old now new : Code) → one ≡ subscript.Item name adjusting → index ≡ item_index items name
      → now ≡ append old (works_fragment (i.Place index ∷ i.Push ∷ []) old)
      → OnOk result (new ≡ append now (adjustment_fragment adjusting now))
      → OnOk result (new ≡ append old (subscript_fragment items one old))
  item_pushed items one name adjusting index old now new is found placed then =
      on_ok result
      (two_before (i.Place (item_index items name)) i.Push (adjustment_fragment adjusting) old now new
      (placed ∙ ap (λ (n : ItemIndex). append old (works_fragment (i.Place n ∷ i.Push ∷ []) old)) found) then)
      (λ e. e ∙ ap (λ (s : Subscript). append old (subscript_fragment items s old)) (sym is))
