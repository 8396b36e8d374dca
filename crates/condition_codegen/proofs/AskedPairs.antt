-- The conditions of subjects and objects, by the first of each and the others, and those of WHENs.
use Rattle.std.proofs.Common.{◌≡◌, List, [], ◌∷◌, sym, ap, ◌∙◌}
use Rattle.source_tree.specs.declared.condition.Condition.{Condition}
use Rattle.source_tree.specs.declared.condition.Condition.TheVariants.{All, Any}
use Rattle.source_tree.specs.declared.evaluate_statement.Object.{Object}
use Rattle.source_tree.specs.declared.evaluate_statement.Subject.{Subject}
use Rattle.source_tree.specs.declared.evaluate_statement.When.{When}
use Rattle.source_tree.specs.Broken.{each}
use Rattle.source_tree.specs.ConditionRules.{condition_rules}
use Rattle.source_tree.specs.Evaluate.{selection_condition, object_conditions, when_condition, when_conditions}
use Rattle.source_tree.specs.Places.{LocatedItem}
use Rattle.code_image.specs.declared.code.Code.{Code}
use Rattle.condition_codegen.specs.Fragments.{Fragment, append, sequence, in_order}
use Rattle.condition_codegen.specs.ConditionCode.{or_fragment, condition_fragment}
use Rattle.condition_codegen.proofs.ConditionLayers.{all_is, all_parts}
use Rattle.condition_codegen.proofs.Questions.{further_piece, pairs_rules, pairs_go_on, whens_are}

module _ (items : List LocatedItem) (subject : Subject) (subjects : List Subject) (object : Object)
    (objects : List Object) (asking : List Subject) (asked : List Object) (s : asking ≡ subject ∷ subjects)
    (o : asked ≡ object ∷ objects) where
  conditions_of :
      object_conditions items asking asked ≡ object_conditions items (subject ∷ subjects) (object ∷ objects)
  conditions_of = ap (λ (l : List Subject). object_conditions items l asked) s
      ∙ ap (λ (l : List Object). object_conditions items (subject ∷ subjects) l) o

  pub pairs_are : (old : Code) → sequence (condition_fragment items (selection_condition items subject object.choice))
      (in_order (further_piece items) (object_conditions items subjects objects)) old
      ≡ condition_fragment items (All (object_conditions items asking asked)) old
  pairs_are old =
      let one = selection_condition items subject object.choice in
      let others = object_conditions items subjects objects in
      all_parts items one others old ∙ ap (λ (p : Fragment). p old) (sym (all_is items (one ∷ others)))
      ∙ sym (ap (λ (l : List Condition). condition_fragment items (All l) old) conditions_of)

  -- A pair is made, and the others come after it.
  pub pairs_next : (now next : Code) → next ≡ append now (further_piece items
      (selection_condition items subject object.choice) now)
      → append next (in_order (further_piece items) (object_conditions items subjects objects) next)
      ≡ append now (in_order (further_piece items) (object_conditions items asking asked) now)
  pairs_next now next is =
      pairs_go_on items subject subjects object objects now next is
      ∙ sym (ap (λ (l : List Condition). append now (in_order (further_piece items) l now)) conditions_of)

  pub pairs_kept : each (condition_rules items) (object_conditions items asking asked) ≡ []
      → each (condition_rules items) (object_conditions items subjects objects) ≡ []
  pairs_kept kept = pairs_rules items subject subjects object objects
      (sym (ap (each (condition_rules items)) conditions_of) ∙ kept)

-- The first WHEN and the others are all of them.
pub whens_all :
    (items : List LocatedItem) (subjects : List Subject) (first : When) (more whens : List When) (old : Code)
    → whens ≡ first ∷ more
    → sequence (condition_fragment items (when_condition items subjects first))
    (in_order (λ (one : When). or_fragment (condition_fragment items (when_condition items subjects one))) more) old
    ≡ condition_fragment items (Any (when_conditions items subjects whens)) old
whens_all items subjects first more whens old is =
    whens_are items subjects first more old
    ∙ sym (ap (λ (l : List When). condition_fragment items (Any (when_conditions items subjects l)) old) is)
