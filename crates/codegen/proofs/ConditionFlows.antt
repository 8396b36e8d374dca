-- The code of conditions finds what it needs, where the rules are kept: it begins and ends at rest.
use Rattle.std.proofs.Common.{◌≡◌, ℕ, List, [], ◌∷◌, map, Some, refl, sym, ap, subst, ◌∙◌}
use Rattle.std.specs.Prelude.{slice_get}
use Rattle.source_tree.specs.declared.condition.Condition.{Condition, roll-Condition}
use Rattle.source_tree.specs.declared.condition.Condition.TheOpen.{Condition-F}
use Rattle.source_tree.specs.declared.condition.Condition.TheFolds.{map-Condition, ind-Condition}
use Rattle.source_tree.specs.Broken.{RuleBreach, each}
use Rattle.source_tree.specs.ConditionRules.{broken_already, condition_layer_rules, condition_rules}
use Rattle.source_tree.specs.Conditions.{ConditionValue, sign_relation, relation_holds, name_holds}
use Rattle.source_tree.specs.Places.{LocatedItem}
use Rattle.data_instructions.specs.declared.test.Test.TheVariants as t
use Rattle.data_instructions.specs.declared.instruction.DataInstruction.TheVariants as i
use Rattle.data_instructions.specs.Tables.{IsTables}
use Rattle.data_instructions.specs.Codes.{data_item}
use Rattle.data_instructions.specs.Chains.{LiesWhole}
use Rattle.data_instructions.specs.ConditionCodes.{negation, sign_truth, class_truth}
use Rattle.code_image.specs.declared.code.Code.{Code}
use Rattle.code_image.specs.Known.{known_along}
use Rattle.condition_codegen.specs.Fragments.{Fragment, append, sequence, in_order}
use Rattle.condition_codegen.specs.Meeting.{nothing_fragment}
use Rattle.condition_codegen.specs.DataCode.{work_fragment, works_fragment, number_fragment, take_fragment}
use Rattle.condition_codegen.specs.ArithmeticCode.{zero_number, expression_fragment}
use Rattle.condition_codegen.specs.ConditionCode.{and_fragment, or_fragment, all_fragment, any_fragment}
use Rattle.condition_codegen.specs.ConditionCode.{condition_name_fragment, relation_fragment, condition_layer_fragment}
use Rattle.condition_codegen.specs.ConditionCode.{condition_fragment}
use Rattle.condition_codegen.proofs.Lists.{left_none, right_none}
use Rattle.codegen.proofs.CodedPieces.{CodedBy}
use Rattle.codegen.proofs.ConditionBlind.{nothing_blind, condition_blind}
use Rattle.codegen.proofs.ConditionCodes.{Tested, relation_tested, sign_tested, class_tested, name_tested}
use Rattle.codegen.proofs.ConditionForms.{mapped_piece, mapped_rules}
use Rattle.codegen.proofs.Flowing.{rest, along_data, Flows, both_flow, nothing_flows, BodyFlows, either_flows}
use Rattle.codegen.proofs.Standing.{Stands, front, back}

module _ (whole : Code) where
  -- code that decides a truth
  tested_flows : (value : ConditionValue) (piece : Fragment) → CodedBy whole (Tested whole.tables value) piece
      → BodyFlows whole piece
  tested_flows value piece coded = record {
    by = λ before st.
        let c = coded.by before st in
        record {
          by = λ sender.
              let k = c.holds.1 (rest sender) in (
                k.sender,
                ap (λ l. known_along whole.tables l (rest sender)) c.is ∙ along_data whole.tables c.code (rest sender)
                    ∙ k.by,
              );
        };
  }

  both_bodies : (first second : Fragment) → BodyFlows whole first → BodyFlows whole second
      → BodyFlows whole (sequence first second)
  both_bodies first second f g = record {
    by = λ before st.
        let a = first before in
        let b = second (append before a) in
        both_flow whole.tables a b (f.by before (front whole before a b st))
        (g.by (append before a) (back whole before a b st));
  }

  nothing_body : BodyFlows whole nothing_fragment
  nothing_body = record { by = λ before st. nothing_flows whole.tables }

  clear_body : BodyFlows whole (works_fragment (i.ClearTruth ∷ []))
  clear_body = record { by = λ before st. record { by = λ sender. (sender, refl) } }

  clear_inverted_body : BodyFlows whole (works_fragment (i.ClearTruth ∷ i.Test t.Invert ∷ []))
  clear_inverted_body = record { by = λ before st. record { by = λ sender. (sender, refl) } }

  invert_body : BodyFlows whole (work_fragment (i.Test t.Invert))
  invert_body = record { by = λ before st. record { by = λ sender. (sender, refl) } }

module _ (items : List LocatedItem) (whole : Code) (entries : (n : ℕ) (one : LocatedItem) → slice_get items n ≡ Some one
    → slice_get whole.tables.items n ≡ Some (data_item one))
    (order : IsTables whole.tables) (lie : (n : ℕ) (one : LocatedItem) → slice_get items n ≡ Some one
    → LiesWhole whole.tables one) where
  record IsFlowing (one : Condition) : Type 0 where
    by : condition_rules items one ≡ [] → BodyFlows whole (condition_fragment items one)

  abbrev Known : Type 0
  Known = (one : Condition) × IsFlowing one

  abbrev rules_of : Known → List RuleBreach
  rules_of m = condition_rules items m.0

  abbrev piece_of : Known → Fragment
  piece_of m = condition_fragment items m.0

  abbrev each_rules : List Known → List RuleBreach
  each_rules all = each broken_already (map rules_of all)

  and_flows : (one : Known) → rules_of one ≡ [] → BodyFlows whole (and_fragment (piece_of one))
  and_flows one e = record {
    by = λ before st. either_flows whole (piece_of one) nothing_fragment (condition_blind items one.0) nothing_blind
        (one.1.by e) (nothing_body whole) before st;
  }

  or_flows : (one : Known) → rules_of one ≡ [] → BodyFlows whole (or_fragment (piece_of one))
  or_flows one e = record {
    by = λ before st. either_flows whole nothing_fragment (piece_of one) nothing_blind (condition_blind items one.0)
        (nothing_body whole) (one.1.by e) before st;
  }

  ands_flow : (more : List Known) → each_rules more ≡ [] → BodyFlows whole (in_order and_fragment (map piece_of more))
  ands_flow [] e = record { by = λ before st. nothing_flows whole.tables }
  ands_flow (one ∷ more) e =
      both_bodies whole (and_fragment (piece_of one)) (in_order and_fragment (map piece_of more))
      (and_flows one (left_none (rules_of one) (each_rules more) e))
      (ands_flow more (right_none (rules_of one) (each_rules more) e))

  ors_flow : (more : List Known) → each_rules more ≡ [] → BodyFlows whole (in_order or_fragment (map piece_of more))
  ors_flow [] e = record { by = λ before st. nothing_flows whole.tables }
  ors_flow (one ∷ more) e =
      both_bodies whole (or_fragment (piece_of one)) (in_order or_fragment (map piece_of more))
      (or_flows one (left_none (rules_of one) (each_rules more) e))
      (ors_flow more (right_none (rules_of one) (each_rules more) e))

  all_flow : (parts : List Known) → each_rules parts ≡ [] → BodyFlows whole (all_fragment (map piece_of parts))
  all_flow [] e = clear_inverted_body whole
  all_flow (one ∷ more) e =
      both_bodies whole (piece_of one) (in_order and_fragment (map piece_of more))
      (one.1.by (left_none (rules_of one) (each_rules more) e))
      (ands_flow more (right_none (rules_of one) (each_rules more) e))

  any_flow : (parts : List Known) → each_rules parts ≡ [] → BodyFlows whole (any_fragment (map piece_of parts))
  any_flow [] e = clear_body whole
  any_flow (one ∷ more) e =
      both_bodies whole (piece_of one) (in_order or_fragment (map piece_of more)) (one.1.by
      (left_none (rules_of one) (each_rules more) e)) (ors_flow more (right_none (rules_of one) (each_rules more) e))

  layer_flows : (l : Condition-F Known)
      → condition_layer_rules items (map-Condition Known (List RuleBreach) rules_of l) ≡ []
      → BodyFlows whole (condition_layer_fragment items (map-Condition Known Fragment piece_of l))
  layer_flows (Condition-F.Name reference) e = tested_flows whole (name_holds items reference)
      (condition_name_fragment items reference) (name_tested items whole entries order lie reference e)
  layer_flows (Condition-F.Relation left one right) e =
      tested_flows whole (relation_holds items left one right) (relation_fragment items left one right)
      (relation_tested items whole entries order lie left one right e)
  layer_flows (Condition-F.Sign value negated one) e =
      tested_flows whole (sign_truth items value negated one)
      (sequence (expression_fragment items value) (sequence (number_fragment zero_number)
      (work_fragment (i.Test (t.CompareNumbers (sign_relation one negated))))))
      (sign_tested items whole entries order lie value negated one e)
  layer_flows (Condition-F.Class reference negated one) e =
      tested_flows whole (class_truth items reference negated one)
      (sequence (take_fragment items (i.Test (t.Class one)) reference) (works_fragment (negation negated)))
      (class_tested items whole entries order lie reference negated one e)
  layer_flows (Condition-F.Not inner) e =
      both_bodies whole (piece_of inner) (work_fragment (i.Test t.Invert)) (inner.1.by e) (invert_body whole)
  layer_flows (Condition-F.All parts) e = all_flow parts e
  layer_flows (Condition-F.Any parts) e = any_flow parts e

  flowing_inside : (l : Condition-F Known) → IsFlowing (roll-Condition (map-Condition Known Condition (λ m. m.0) l))
  flowing_inside l = record {
    by = λ e. subst (BodyFlows whole) (sym (mapped_piece items (λ (m : Known). m.0) l))
        (layer_flows l (sym (mapped_rules items (λ (m : Known). m.0) l) ∙ e));
  }

  flowing : (one : Condition) → IsFlowing one
  flowing = ind-Condition IsFlowing (λ one l is. subst (λ k. IsFlowing (roll-Condition k)) is (flowing_inside l))

  pub condition_flows : (one : Condition) (before : Code) → condition_rules items one ≡ []
      → Stands whole before (condition_fragment items one before)
      → Flows whole.tables (condition_fragment items one before)
  condition_flows one before e st = ((flowing one).by e).by before st
