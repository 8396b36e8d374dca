-- The code of conditions without AND and OR is straight: it counts nothing and leads nowhere.
use Rattle.std.proofs.Common.{◌≡◌, ℕ, zero, suc, Bool, true, false, ◌&&◌, List, [], ◌∷◌, Option, Some, None, refl}
use Rattle.std.specs.Prelude.{slice_get, not}
use Rattle.std.specs.List.{AllByRecursion}
use Rattle.source_tree.specs.declared.literal.Literal.{Literal}
use Rattle.source_tree.specs.declared.entry.ValueRange.{ValueRange}
use Rattle.source_tree.specs.declared.reference.Reference.{Reference}
use Rattle.source_tree.specs.declared.expression.Operand.{Operand}
use Rattle.source_tree.specs.declared.expression.Operand.TheVariants as operand
use Rattle.source_tree.specs.declared.expression.Expression.{Expression}
use Rattle.source_tree.specs.declared.condition.Relation.{Relation}
use Rattle.source_tree.specs.declared.condition.Relation.TheVariants.{Equal}
use Rattle.source_tree.specs.declared.condition.Class.{Class}
use Rattle.source_tree.specs.declared.condition.Side.{Side}
use Rattle.source_tree.specs.declared.condition.Side.TheVariants as side
use Rattle.source_tree.specs.ConditionRules.{relation_rules}
use Rattle.source_tree.specs.Conditions.{alone_side}
use Rattle.source_tree.specs.LookUp.{NamedCondition, all_conditions}
use Rattle.source_tree.specs.NameRules.{operand_rules, form_rule}
use Rattle.source_tree.specs.Places.{LocatedItem}
use Rattle.source_tree.specs.ValueRules.{has_form}
use Rattle.data_entries.proofs.Forms.{sender_formed}
use Rattle.data_instructions.specs.declared.test.Test.TheVariants as t
use Rattle.data_instructions.specs.declared.instruction.DataInstruction.TheVariants as i
use Rattle.data_instructions.specs.ConditionCodes.{negation}
use Rattle.condition_codegen.specs.Fragments.{sequence}
use Rattle.condition_codegen.specs.DataCode.{dimensions_of, work_fragment, works_fragment, number_fragment}
use Rattle.condition_codegen.specs.DataCode.{subscripts_fragment, take_fragment, sender_fragment}
use Rattle.condition_codegen.specs.ArithmeticCode.{zero_number, expression_fragment}
use Rattle.condition_codegen.specs.Values.{HasForms, AreFormedValues}
use Rattle.condition_codegen.specs.ConditionCode.{condition_number, condition_item, values_of, values_named}
use Rattle.condition_codegen.specs.ConditionCode.{range_fragment, value_range_fragment, values_fragment}
use Rattle.condition_codegen.specs.ConditionCode.{condition_name_fragment, compared_fragment, zero_literal}
use Rattle.condition_codegen.specs.ConditionCode.{side_fragment, pair_fragment, is_numeric_operand, is_operand_at_hand}
use Rattle.condition_codegen.specs.ConditionCode.{taken_first, relation_from, relation_fragment}
use Rattle.codegen.proofs.ArithmeticStraight.{value_straight, expression_straight}
use Rattle.codegen.proofs.ConditionCodes.{KeepsRelation, keeps_relation, alone_keeps}
use Rattle.condition_codegen.proofs.ConditionValues.{AreFormed}
use Rattle.condition_codegen.proofs.Integers.{kept, not_false}
use Rattle.codegen.proofs.Straight.{AlwaysStraight, both_straight, nothing_straight, works_straight, work_straight}
use Rattle.codegen.proofs.Straight.{number_straight, subscripts_straight, taking_straight, sender_straight}

range_straight : {items : List LocatedItem} (from : Literal) (last : Option Literal) → HasForms from last
    → AlwaysStraight items (range_fragment from last)
range_straight from None h before = record {
  instructions = (tt, tt);
  starts = refl;
  files = refl;
  areas = refl;
  entries = tt;
  senders = (sender_formed from.value h, tt);
  inspections = tt;
}
range_straight from (Some last) h before = record {
  instructions = (tt, tt);
  starts = refl;
  files = refl;
  areas = refl;
  entries = tt;
  senders = (sender_formed from.value h.0, (sender_formed last.value h.1, tt));
  inspections = tt;
}

values_straight : {items : List LocatedItem} (all : List ValueRange) → AreFormedValues all
    → AlwaysStraight items (values_fragment all)
values_straight [] h before = nothing_straight
values_straight (one ∷ more) h before = both_straight (value_range_fragment one) (values_fragment more)
    (range_straight one.first one.last h.0) (values_straight more h.1) before

-- the values of the condition name of a number, if there is one
values_at : (all : List NamedCondition)
    → AllByRecursion (λ (one : NamedCondition). AreFormedValues one.condition.values) all → (n : ℕ)
    → AreFormedValues (values_of (slice_get all n))
values_at [] h n = tt
values_at (one ∷ more) h zero = h.0
values_at (one ∷ more) h (suc n) = values_at more h.1 n

module _ (items : List LocatedItem) where
  compared_straight : (one : Relation) (other : Operand) → operand_rules items other ≡ []
      → AlwaysStraight items (compared_fragment items one other)
  compared_straight one (operand.Item reference) e before =
      taking_straight items (i.Test (t.Compare one)) reference before
  compared_straight one (operand.Literal literal) e before = record {
    instructions = (tt, tt);
    starts = refl;
    files = refl;
    areas = refl;
    entries = tt;
    senders = (
      sender_formed literal.value (not_false (has_form literal.value)
          (kept (not (has_form literal.value)) (form_rule literal.value) literal.place e)),
      tt,
    );
    inspections = tt;
  }

  side_straight : (one : Side) → AlwaysStraight items (side_fragment items one)
  side_straight (side.Expression one) = expression_straight items one
  side_straight (side.Literal one) = value_straight items (operand.Literal one)

  sides_straight : (left : Side) (one : Relation) (right : Side)
      → AlwaysStraight items (sequence (side_fragment items left)
      (sequence (side_fragment items right) (work_fragment (i.Test (t.CompareNumbers one)))))
  sides_straight left one right =
      both_straight (side_fragment items left)
      (sequence (side_fragment items right) (work_fragment (i.Test (t.CompareNumbers one)))) (side_straight left)
      (both_straight (side_fragment items right) (work_fragment (i.Test (t.CompareNumbers one))) (side_straight right)
      (work_straight (i.Test (t.CompareNumbers one))))

  pair_straight : (a : Operand) (one : Relation) (b : Operand) → operand_rules items a ≡ [] → operand_rules items b ≡ []
      → AlwaysStraight items (pair_fragment items a one b)
  pair_straight a one b e f = both_straight (sender_fragment items a) (compared_fragment items one b)
      (sender_straight items a e) (compared_straight one b f)

  taken_straight : (first numeric : Bool) (a b : Operand) (left : Side) (one : Relation) (right : Side)
      → operand_rules items a ≡ [] → operand_rules items b ≡ []
      → AlwaysStraight items (taken_first items first numeric a b left one right)
  taken_straight false numeric a b left one right e f = pair_straight a one b e f
  taken_straight true true a b left one right e f = sides_straight left one right
  taken_straight true false a b left one right e f =
      both_straight (pair_fragment items a Equal (operand.Literal zero_literal)) (pair_fragment items a one b)
      (pair_straight a Equal (operand.Literal zero_literal) e refl) (pair_straight a one b e f)

  relation_from_straight : (a b : Option Operand) (left : Side) (one : Relation) (right : Side) → alone_side left ≡ a
      → alone_side right ≡ b → KeepsRelation items left right
      → AlwaysStraight items (relation_from items a b left one right)
  relation_from_straight (Some a) (Some b) left one right is other k =
      taken_straight (is_numeric_operand items a && not (is_operand_at_hand items b)) (is_numeric_operand items b) a b
      left one right (alone_keeps items left a is k.left_keeps)
      (alone_keeps items right b other k.right_keeps)
  relation_from_straight (Some a) None left one right is other k = sides_straight left one right
  relation_from_straight None (Some b) left one right is other k = sides_straight left one right
  relation_from_straight None None left one right is other k = sides_straight left one right

  pub relation_straight : (left : Side) (one : Relation) (right : Side) → relation_rules items left right ≡ []
      → AlwaysStraight items (relation_fragment items left one right)
  relation_straight left one right e = relation_from_straight (alone_side left) (alone_side right) left one right refl
      refl (keeps_relation items left right e)

  pub sign_straight : (value : Expression) (one : Relation)
      → AlwaysStraight items (sequence (expression_fragment items value)
      (sequence (number_fragment zero_number) (work_fragment (i.Test (t.CompareNumbers one)))))
  sign_straight value one =
      both_straight (expression_fragment items value) (sequence (number_fragment zero_number)
      (work_fragment (i.Test (t.CompareNumbers one)))) (expression_straight items value)
      (both_straight (number_fragment zero_number) (work_fragment (i.Test (t.CompareNumbers one)))
      (number_straight zero_number) (work_straight (i.Test (t.CompareNumbers one))))

  pub class_straight : (reference : Reference) (negated : Bool) (one : Class) → AlwaysStraight items
      (sequence (take_fragment items (i.Test (t.Class one)) reference) (works_fragment (negation negated)))
  class_straight reference negated one =
      both_straight (take_fragment items (i.Test (t.Class one)) reference) (works_fragment (negation negated))
      (taking_straight items (i.Test (t.Class one)) reference) (works_straight (negation negated))

  pub name_straight : AreFormed items → (one : Reference) → AlwaysStraight items (condition_name_fragment items one)
  name_straight formed one =
      let dimensions = dimensions_of (slice_get items (condition_item items one.item).number) in
      let subscripts = subscripts_fragment items dimensions one.subscripts in
      let taking = works_fragment (i.Take ∷ i.ClearTruth ∷ []) in
      let values = values_fragment (values_named items one.item) in
      both_straight (work_fragment (i.Place (condition_item items one.item)))
      (sequence subscripts (sequence taking values)) (work_straight (i.Place (condition_item items one.item)))
      (both_straight subscripts (sequence taking values) (subscripts_straight items dimensions one.subscripts)
      (both_straight taking values (works_straight (i.Take ∷ i.ClearTruth ∷ []))
      (values_straight (values_named items one.item)
      (values_at (all_conditions items) formed (condition_number items one.item)))))
