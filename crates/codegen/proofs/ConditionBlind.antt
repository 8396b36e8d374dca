-- The code of conditions doesn't depend on the instructions before it, but on how many there are.
use Rattle.std.proofs.Common.{Bool, true, false, not, ◌&&◌, List, [], ◌∷◌, map, Option, Some, None, length, refl, sym}
use Rattle.std.proofs.Common.{subst}
use Rattle.std.specs.Prelude.{slice_get}
use Rattle.source_tree.specs.declared.literal.Literal.{Literal}
use Rattle.source_tree.specs.declared.entry.ValueRange.{ValueRange}
use Rattle.source_tree.specs.declared.reference.Reference.{Reference}
use Rattle.source_tree.specs.declared.expression.Operand.{Operand}
use Rattle.source_tree.specs.declared.expression.Operand.TheVariants as operand
use Rattle.source_tree.specs.declared.expression.Expression.{Expression}
use Rattle.source_tree.specs.declared.condition.Relation.{Relation}
use Rattle.source_tree.specs.declared.condition.Relation.TheVariants.{Equal}
use Rattle.source_tree.specs.declared.condition.Class.{Class}
use Rattle.source_tree.specs.declared.condition.Side.{Side}
use Rattle.source_tree.specs.declared.condition.Side.TheVariants as side
use Rattle.source_tree.specs.declared.condition.Condition.{Condition, roll-Condition}
use Rattle.source_tree.specs.declared.condition.Condition.TheOpen.{Condition-F}
use Rattle.source_tree.specs.declared.condition.Condition.TheFolds.{map-Condition, ind-Condition}
use Rattle.source_tree.specs.Conditions.{sign_relation, alone_side}
use Rattle.source_tree.specs.Literals.{literal_sender}
use Rattle.source_tree.specs.Places.{LocatedItem}
use Rattle.data_instructions.specs.declared.tables.DataTables.{DataTables}
use Rattle.data_instructions.specs.declared.test.Test.TheVariants as t
use Rattle.data_instructions.specs.declared.instruction.DataInstruction.TheVariants as i
use Rattle.data_instructions.specs.ConditionCodes.{negation}
use Rattle.code_image.specs.declared.instruction.Instruction.TheVariants.{Data}
use Rattle.condition_codegen.specs.Fragments.{Fragment, no_tables, sequence, in_order}
use Rattle.condition_codegen.specs.Meeting.{nothing_fragment}
use Rattle.condition_codegen.specs.DataCode.{dimensions_of, work_fragment, works_fragment, number_fragment}
use Rattle.condition_codegen.specs.DataCode.{literal_entry, subscripts_fragment, take_fragment, sender_fragment}
use Rattle.condition_codegen.specs.ArithmeticCode.{zero_number, expression_fragment}
use Rattle.condition_codegen.specs.ConditionCode.{condition_item, values_named, range_fragment, value_range_fragment}
use Rattle.condition_codegen.specs.ConditionCode.{values_fragment, and_fragment, or_fragment, all_fragment}
use Rattle.condition_codegen.specs.ConditionCode.{any_fragment, condition_name_fragment, compared_fragment}
use Rattle.condition_codegen.specs.ConditionCode.{zero_literal, side_fragment, pair_fragment, is_numeric_operand}
use Rattle.condition_codegen.specs.ConditionCode.{is_operand_at_hand, taken_first, relation_from}
use Rattle.condition_codegen.specs.ConditionCode.{condition_layer_fragment, condition_fragment}
use Rattle.codegen.proofs.Blind.{Blind, tables_blind, both_blind, in_order_blind, work_blind, works_blind, number_blind}
use Rattle.codegen.proofs.Blind.{subscripts_blind, taking_blind, sender_blind}
use Rattle.codegen.proofs.BlindArithmetic.{value_blind, expression_blind}
use Rattle.codegen.proofs.ConditionForms.{mapped_piece}
use Rattle.codegen.proofs.Either.{either_blind}

pub nothing_blind : Blind nothing_fragment
nothing_blind = record { by = λ a b alike. refl }

range_blind : (from : Literal) (last : Option Literal) → Blind (range_fragment from last)
range_blind from None = tables_blind (λ (tables : DataTables). record {
  tables = record no_tables { senders = literal_entry (literal_sender from.value) ∷ [] };
  files = [];
  starts = [];
  instructions = Data (i.Test (t.OrEqual (record { number = length tables.senders }))) ∷ [];
})
range_blind from (Some last) = tables_blind (λ (tables : DataTables). record {
  tables = record no_tables
      { senders = literal_entry (literal_sender from.value) ∷ literal_entry (literal_sender last.value) ∷ [] };
  files = [];
  starts = [];
  instructions = Data (i.Test (t.OrWithin (record { number = length tables.senders }))) ∷ [];
})

values_blind : (all : List ValueRange) → Blind (values_fragment all)
values_blind all = in_order_blind value_range_fragment (λ one. range_blind one.first one.last) all

module _ (items : List LocatedItem) where
  compared_blind : (one : Relation) (other : Operand) → Blind (compared_fragment items one other)
  compared_blind one (operand.Item reference) = taking_blind items (i.Test (t.Compare one)) reference
  compared_blind one (operand.Literal literal) = tables_blind (λ (tables : DataTables). record {
    tables = record no_tables { senders = literal_entry (literal_sender literal.value) ∷ [] };
    files = [];
    starts = [];
    instructions = Data (i.Test (t.CompareLiteral one (record { number = length tables.senders }))) ∷ [];
  })

  side_blind : (one : Side) → Blind (side_fragment items one)
  side_blind (side.Expression one) = expression_blind items one
  side_blind (side.Literal one) = value_blind items (operand.Literal one)

  pair_blind : (a : Operand) (one : Relation) (b : Operand) → Blind (pair_fragment items a one b)
  pair_blind a one b =
      both_blind (sender_fragment items a) (compared_fragment items one b) (sender_blind items a) (compared_blind one b)

  sides_blind : (left : Side) (one : Relation) (right : Side) → Blind (sequence (side_fragment items left)
      (sequence (side_fragment items right) (work_fragment (i.Test (t.CompareNumbers one)))))
  sides_blind left one right =
      both_blind (side_fragment items left)
      (sequence (side_fragment items right) (work_fragment (i.Test (t.CompareNumbers one)))) (side_blind left)
      (both_blind (side_fragment items right) (work_fragment (i.Test (t.CompareNumbers one))) (side_blind right)
      (work_blind (i.Test (t.CompareNumbers one))))

  taken_blind : (first numeric : Bool) (a b : Operand) (left : Side) (one : Relation) (right : Side)
      → Blind (taken_first items first numeric a b left one right)
  taken_blind false numeric a b left one right = pair_blind a one b
  taken_blind true true a b left one right = sides_blind left one right
  taken_blind true false a b left one right =
      both_blind (pair_fragment items a Equal (operand.Literal zero_literal)) (pair_fragment items a one b)
      (pair_blind a Equal (operand.Literal zero_literal)) (pair_blind a one b)

  relation_blind : (a b : Option Operand) (left : Side) (one : Relation) (right : Side)
      → Blind (relation_from items a b left one right)
  relation_blind (Some a) (Some b) left one right = taken_blind
      (is_numeric_operand items a && not (is_operand_at_hand items b)) (is_numeric_operand items b) a b left one right
  relation_blind (Some a) None left one right = sides_blind left one right
  relation_blind None (Some b) left one right = sides_blind left one right
  relation_blind None None left one right = sides_blind left one right

  sign_blind : (value : Expression) (one : Relation) → Blind (sequence (expression_fragment items value)
      (sequence (number_fragment zero_number) (work_fragment (i.Test (t.CompareNumbers one)))))
  sign_blind value one =
      both_blind (expression_fragment items value) (sequence (number_fragment zero_number)
      (work_fragment (i.Test (t.CompareNumbers one)))) (expression_blind items value)
      (both_blind (number_fragment zero_number) (work_fragment (i.Test (t.CompareNumbers one)))
      (number_blind zero_number) (work_blind (i.Test (t.CompareNumbers one))))

  class_blind : (reference : Reference) (negated : Bool) (one : Class)
      → Blind (sequence (take_fragment items (i.Test (t.Class one)) reference) (works_fragment (negation negated)))
  class_blind reference negated one =
      both_blind (take_fragment items (i.Test (t.Class one)) reference) (works_fragment (negation negated))
      (taking_blind items (i.Test (t.Class one)) reference) (works_blind (negation negated))

  name_blind : (one : Reference) → Blind (condition_name_fragment items one)
  name_blind one =
      let place = work_fragment (i.Place (condition_item items one.item)) in
      let dimensions = dimensions_of (slice_get items (condition_item items one.item).number) in
      let subscripts = subscripts_fragment items dimensions one.subscripts in
      let taking = works_fragment (i.Take ∷ i.ClearTruth ∷ []) in
      let values = values_fragment (values_named items one.item) in
      both_blind place (sequence subscripts (sequence taking values))
      (work_blind (i.Place (condition_item items one.item)))
      (both_blind subscripts (sequence taking values) (subscripts_blind items dimensions one.subscripts)
      (both_blind taking values (works_blind (i.Take ∷ i.ClearTruth ∷ []))
      (values_blind (values_named items one.item))))

  -- ---- conditions in conditions

  -- a condition whose code is so
  abbrev Known : Type 0
  Known = (one : Condition) × Blind (condition_fragment items one)

  abbrev piece_of : Known → Fragment
  piece_of m = condition_fragment items m.0

  ands_blind : (more : List Known) → Blind (in_order and_fragment (map piece_of more))
  ands_blind [] = record { by = λ a b alike. refl }
  ands_blind (one ∷ more) =
      both_blind (and_fragment (piece_of one)) (in_order and_fragment (map piece_of more))
      (either_blind (piece_of one) nothing_fragment one.1 nothing_blind) (ands_blind more)

  ors_blind : (more : List Known) → Blind (in_order or_fragment (map piece_of more))
  ors_blind [] = record { by = λ a b alike. refl }
  ors_blind (one ∷ more) =
      both_blind (or_fragment (piece_of one)) (in_order or_fragment (map piece_of more))
      (either_blind nothing_fragment (piece_of one) nothing_blind one.1) (ors_blind more)

  all_blind : (parts : List Known) → Blind (all_fragment (map piece_of parts))
  all_blind [] = works_blind (i.ClearTruth ∷ i.Test t.Invert ∷ [])
  all_blind (one ∷ more) = both_blind (piece_of one) (in_order and_fragment (map piece_of more)) one.1 (ands_blind more)

  any_blind : (parts : List Known) → Blind (any_fragment (map piece_of parts))
  any_blind [] = works_blind (i.ClearTruth ∷ [])
  any_blind (one ∷ more) = both_blind (piece_of one) (in_order or_fragment (map piece_of more)) one.1 (ors_blind more)

  layer_blind : (l : Condition-F Known)
      → Blind (condition_layer_fragment items (map-Condition Known Fragment piece_of l))
  layer_blind (Condition-F.Name reference) = name_blind reference
  layer_blind (Condition-F.Relation left one right) = relation_blind (alone_side left) (alone_side right) left one right
  layer_blind (Condition-F.Sign value negated one) = sign_blind value (sign_relation one negated)
  layer_blind (Condition-F.Class reference negated one) = class_blind reference negated one
  layer_blind (Condition-F.Not inner) =
      both_blind (piece_of inner) (work_fragment (i.Test t.Invert)) inner.1 (work_blind (i.Test t.Invert))
  layer_blind (Condition-F.All parts) = all_blind parts
  layer_blind (Condition-F.Any parts) = any_blind parts

  blind_inside : (l : Condition-F Known)
      → Blind (condition_fragment items (roll-Condition (map-Condition Known Condition (λ m. m.0) l)))
  blind_inside l = subst Blind (sym (mapped_piece items (λ (m : Known). m.0) l)) (layer_blind l)

  pub condition_blind : (one : Condition) → Blind (condition_fragment items one)
  condition_blind = ind-Condition (λ one. Blind (condition_fragment items one))
      (λ one l is. subst (λ k. Blind (condition_fragment items (roll-Condition k))) is (blind_inside l))
