-- The code of conditions names what is there, and its ways lead after a `join`, where the rules are kept.
use Rattle.std.proofs.Common.{◌≡◌, List, [], ◌∷◌, map, sym, subst, ◌∙◌}
use Rattle.source_tree.specs.declared.condition.Condition.{Condition, roll-Condition}
use Rattle.source_tree.specs.declared.condition.Condition.TheOpen.{Condition-F}
use Rattle.source_tree.specs.declared.condition.Condition.TheFolds.{map-Condition, ind-Condition}
use Rattle.source_tree.specs.Broken.{RuleBreach, each}
use Rattle.source_tree.specs.ConditionRules.{broken_already, condition_layer_rules, condition_rules}
use Rattle.source_tree.specs.Conditions.{sign_relation}
use Rattle.source_tree.specs.Places.{LocatedItem}
use Rattle.data_instructions.specs.declared.test.Test.TheVariants as t
use Rattle.data_instructions.specs.declared.instruction.DataInstruction.TheVariants as i
use Rattle.code_image.specs.declared.code.Code.{Code}
use Rattle.condition_codegen.specs.Fragments.{Fragment, append, sequence, in_order}
use Rattle.condition_codegen.specs.Meeting.{nothing_fragment}
use Rattle.condition_codegen.specs.DataCode.{work_fragment, works_fragment}
use Rattle.condition_codegen.specs.ConditionCode.{and_fragment, or_fragment, all_fragment, any_fragment}
use Rattle.condition_codegen.specs.ConditionCode.{condition_layer_fragment, condition_fragment}
use Rattle.condition_codegen.proofs.Lists.{left_none, right_none}
use Rattle.codegen.proofs.ConditionBlind.{nothing_blind, condition_blind}
use Rattle.codegen.proofs.ConditionForms.{mapped_piece, mapped_rules}
use Rattle.codegen.proofs.ConditionStraight.{relation_straight, sign_straight, class_straight, name_straight}
use Rattle.condition_codegen.proofs.ConditionValues.{AreFormed}
use Rattle.codegen.proofs.Leading.{Asks, Meets, both_meet, nothing_meets, straight_meets, either_meets}
use Rattle.codegen.proofs.Straight.{AlwaysStraight, works_straight, work_straight}

-- a piece, after whatever code
abbrev AlwaysMeets : Asks → Fragment → Type 0
AlwaysMeets Q piece = (before : Code) → Meets Q before (piece before)

straight_always : (Q : Asks) (piece : Fragment) → AlwaysStraight Q.items piece → AlwaysMeets Q piece
straight_always Q piece straight before = straight_meets Q before (piece before) (straight before)

both_always : (Q : Asks) (first second : Fragment) → AlwaysMeets Q first → AlwaysMeets Q second
    → AlwaysMeets Q (sequence first second)
both_always Q first second f g before =
    both_meet Q before (first before) (second (append before (first before))) (f before)
    (g (append before (first before)))

module _ (Q : Asks) (formed : AreFormed Q.items) where
  abbrev items : List LocatedItem
  items = Q.items

  record IsMet (one : Condition) : Type 0 where
    by : condition_rules items one ≡ [] → AlwaysMeets Q (condition_fragment items one)

  abbrev Known : Type 0
  Known = (one : Condition) × IsMet one

  abbrev rules_of : Known → List RuleBreach
  rules_of m = condition_rules items m.0

  abbrev piece_of : Known → Fragment
  piece_of m = condition_fragment items m.0

  abbrev each_rules : List Known → List RuleBreach
  each_rules all = each broken_already (map rules_of all)

  and_meets : (one : Known) → rules_of one ≡ [] → AlwaysMeets Q (and_fragment (piece_of one))
  and_meets one e = either_meets Q (piece_of one) nothing_fragment (condition_blind items one.0) nothing_blind
      (one.1.by e) (nothing_meets Q)

  or_meets : (one : Known) → rules_of one ≡ [] → AlwaysMeets Q (or_fragment (piece_of one))
  or_meets one e = either_meets Q nothing_fragment (piece_of one) nothing_blind (condition_blind items one.0)
      (nothing_meets Q) (one.1.by e)

  ands_meet : (more : List Known) → each_rules more ≡ [] → AlwaysMeets Q (in_order and_fragment (map piece_of more))
  ands_meet [] e before = nothing_meets Q before
  ands_meet (one ∷ more) e before =
      both_always Q (and_fragment (piece_of one)) (in_order and_fragment (map piece_of more))
      (and_meets one (left_none (rules_of one) (each_rules more) e))
      (ands_meet more (right_none (rules_of one) (each_rules more) e)) before

  ors_meet : (more : List Known) → each_rules more ≡ [] → AlwaysMeets Q (in_order or_fragment (map piece_of more))
  ors_meet [] e before = nothing_meets Q before
  ors_meet (one ∷ more) e before =
      both_always Q (or_fragment (piece_of one)) (in_order or_fragment (map piece_of more))
      (or_meets one (left_none (rules_of one) (each_rules more) e))
      (ors_meet more (right_none (rules_of one) (each_rules more) e)) before

  all_meet : (parts : List Known) → each_rules parts ≡ [] → AlwaysMeets Q (all_fragment (map piece_of parts))
  all_meet [] e = straight_always Q (works_fragment (i.ClearTruth ∷ i.Test t.Invert ∷ []))
      (works_straight (i.ClearTruth ∷ i.Test t.Invert ∷ []))
  all_meet (one ∷ more) e =
      both_always Q (piece_of one) (in_order and_fragment (map piece_of more))
      (one.1.by (left_none (rules_of one) (each_rules more) e))
      (ands_meet more (right_none (rules_of one) (each_rules more) e))

  any_meets : (parts : List Known) → each_rules parts ≡ [] → AlwaysMeets Q (any_fragment (map piece_of parts))
  any_meets [] e = straight_always Q (works_fragment (i.ClearTruth ∷ [])) (works_straight (i.ClearTruth ∷ []))
  any_meets (one ∷ more) e =
      both_always Q (piece_of one) (in_order or_fragment (map piece_of more))
      (one.1.by (left_none (rules_of one) (each_rules more) e))
      (ors_meet more (right_none (rules_of one) (each_rules more) e))

  layer_meets : (l : Condition-F Known)
      → condition_layer_rules items (map-Condition Known (List RuleBreach) rules_of l) ≡ []
      → AlwaysMeets Q (condition_layer_fragment items (map-Condition Known Fragment piece_of l))
  layer_meets (Condition-F.Name reference) e before =
      straight_meets Q before _ (name_straight items formed reference before)
  layer_meets (Condition-F.Relation left one right) e before =
      straight_meets Q before _ (relation_straight items left one right e before)
  layer_meets (Condition-F.Sign value negated one) e before =
      straight_meets Q before _ (sign_straight items value (sign_relation one negated) before)
  layer_meets (Condition-F.Class reference negated one) e before =
      straight_meets Q before _ (class_straight items reference negated one before)
  layer_meets (Condition-F.Not inner) e before =
      both_always Q (piece_of inner) (work_fragment (i.Test t.Invert)) (inner.1.by e)
      (straight_always Q (work_fragment (i.Test t.Invert)) (work_straight (i.Test t.Invert))) before
  layer_meets (Condition-F.All parts) e before = all_meet parts e before
  layer_meets (Condition-F.Any parts) e before = any_meets parts e before

  met_inside : (l : Condition-F Known) → IsMet (roll-Condition (map-Condition Known Condition (λ m. m.0) l))
  met_inside l =
      record {
        by = λ e. subst (AlwaysMeets Q) (sym (mapped_piece items (λ (m : Known). m.0) l))
            (layer_meets l (sym (mapped_rules items (λ (m : Known). m.0) l) ∙ e));
      }

  met : (one : Condition) → IsMet one
  met = ind-Condition IsMet (λ one l is. subst (λ k. IsMet (roll-Condition k)) is (met_inside l))

  pub condition_meets : (one : Condition) → condition_rules items one ≡ [] → (before : Code)
      → Meets Q before (condition_fragment items one before)
  condition_meets one e before = (met one).by e before
