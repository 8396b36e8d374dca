-- The code of subscripts in turn, where there are no more of them.
use Rattle.std.proofs.Common.{◌≡◌, ℕ, ◌≤◌, List, [], ◌∷◌, length, drop, refl, sym, ap, ◌∙◌}
use Rattle.std.proofs.lemmas.List.{drop_all}
use Rattle.source_tree.specs.declared.reference.Subscript.{Subscript}
use Rattle.source_tree.specs.declared.table.Dimension.{Dimension}
use Rattle.source_tree.specs.Places.{LocatedItem}
use Rattle.code_image.specs.declared.code.Code.{Code}
use Rattle.condition_codegen.specs.Fragments.{empty_code, append}
use Rattle.condition_codegen.specs.DataCode.{subscripts_fragment}
use Rattle.condition_codegen.proofs.Fragments.{joined_nothing}

module _ (items : List LocatedItem) where
  none_left : (dimensions : List Dimension) (before : Code)
      → subscripts_fragment items dimensions [] before ≡ empty_code
  none_left [] before = refl
  none_left (one ∷ more) before = refl

  pub subscripts_done : (dimensions : List Dimension) (subscripts : List Subscript) (i : ℕ) (code total : Code)
      → length subscripts ≤ i
      → append code (subscripts_fragment items (drop i dimensions) (drop i subscripts) code) ≡ total → code ≡ total
  subscripts_done dimensions subscripts i code total le so_far =
      sym (joined_nothing code)
      ∙ ap (append code) (sym (none_left (drop i dimensions) code))
      ∙ sym (ap (λ (l : List Subscript). append code (subscripts_fragment items (drop i dimensions) l code))
      (drop_all i subscripts le))
      ∙ so_far
