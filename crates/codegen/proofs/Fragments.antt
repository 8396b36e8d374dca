-- Sections one after the other.
use Rattle.std.proofs.Common.{◌≡◌, List, [], ◌∷◌, refl, sym, ap, ◌∙◌}
use Rattle.source_tree.specs.declared.program.Section.{Section}
use Rattle.source_tree.specs.Procedures.{paragraphs_or_one, paragraphs_in}
use Rattle.source_tree.specs.Setting.{Scope}
use Rattle.code_image.specs.declared.code.Code.{Code}
use Rattle.condition_codegen.specs.Fragments.{append, in_order}
use Rattle.codegen.specs.Layout.{paragraph_fragment, section_fragment}
use Rattle.condition_codegen.proofs.Fragments.{in_order-append}

-- sections one after the other are their paragraphs
pub flat : (scope : Scope) (sections : List Section) (before : Code) → in_order (section_fragment scope) sections
    before ≡ in_order (paragraph_fragment scope) (paragraphs_in sections) before
flat scope [] before = refl
flat scope (one ∷ more) before =
    let first = section_fragment scope one before in
    ap (append first) (flat scope more (append before first))
    ∙ sym (in_order-append (paragraph_fragment scope) (paragraphs_or_one one.paragraphs) (paragraphs_in more) before)
