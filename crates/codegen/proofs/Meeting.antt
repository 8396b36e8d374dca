-- Phrases as two ways that meet.
use Rattle.std.proofs.Common.{◌≡◌, ◌||◌, true, List, Option, Some, None, refl}
use Rattle.source_tree.specs.Arithmetic.{is_there}
use Rattle.source_tree.specs.Setting.{Scope}
use Rattle.code_image.specs.declared.code.Code.{Code}
use Rattle.condition_codegen.specs.Fragments.{Fragment}
use Rattle.condition_codegen.specs.Meeting.{either_fragment}
use Rattle.codegen.specs.Layout.{phrase_fragment, phrases_from}

-- the phrases where one stands
pub phrases_stand : (scope : Scope) {S : Type 0} (inside : S → Fragment) (arose did_not : Option (List S))
    (before : Code) → (is_there arose || is_there did_not) ≡ true
    → either_fragment (phrase_fragment scope inside arose) (phrase_fragment scope inside did_not) before
    ≡ phrases_from scope inside arose did_not before
phrases_stand scope inside None None before e = cc
phrases_stand scope inside None (Some other) before e = refl
phrases_stand scope inside (Some one) other before e = refl
