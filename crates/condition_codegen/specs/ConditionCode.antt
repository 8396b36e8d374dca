-- The code of conditions, which sets the truth (own choice).
use Rattle.std.specs.Prelude.{ℕ, ◌==◌, ◌&&◌, Bool, true, false, not, List, [], ◌∷◌, length, map, Option, Some, None, get_or, slice_get}
use Rattle.source_tree.specs.declared.literal.Literal.{Literal}
use Rattle.source_tree.specs.declared.literal.Figurative.TheVariants as figurative
use Rattle.source_tree.specs.declared.literal.LiteralValue.TheVariants as literal
use Rattle.source_tree.specs.declared.entry.ValueRange.{ValueRange}
use Rattle.source_tree.specs.declared.reference.QualifiedName.{QualifiedName}
use Rattle.source_tree.specs.declared.reference.Reference.{Reference}
use Rattle.source_tree.specs.declared.expression.Operand.{Operand}
use Rattle.source_tree.specs.declared.expression.Operand.TheVariants as operand
use Rattle.source_tree.specs.declared.condition.Relation.{Relation}
use Rattle.source_tree.specs.declared.condition.Relation.TheVariants.{Equal}
use Rattle.source_tree.specs.declared.condition.Side.{Side}
use Rattle.source_tree.specs.declared.condition.Side.TheVariants as side
use Rattle.source_tree.specs.declared.condition.Condition.{Condition}
use Rattle.source_tree.specs.declared.condition.Condition.TheOpen.{Condition-F}
use Rattle.source_tree.specs.declared.condition.Condition.TheFolds.{fold-Condition}
use Rattle.source_tree.specs.ArithmeticRules.{is_numeric_kind}
use Rattle.source_tree.specs.Literals.{literal_sender}
use Rattle.source_tree.specs.LookUp.{NamedCondition, all_conditions}
use Rattle.source_tree.specs.Parts.{has_part}
use Rattle.source_tree.specs.Places.{LocatedItem}
use Rattle.source_tree.specs.Conditions.{sign_relation, alone_side}
use Rattle.data_instructions.specs.declared.index.ItemIndex.{ItemIndex}
use Rattle.data_instructions.specs.declared.test.Test.TheVariants as t
use Rattle.data_instructions.specs.declared.instruction.DataInstruction.TheVariants as i
use Rattle.data_instructions.specs.ConditionCodes.{negation}
use Rattle.code_image.specs.declared.instruction.Instruction.TheVariants.{Data}
use Rattle.name_table.specs.Positions.{look_up}
use Rattle.name_table.specs.Conditions.{called_condition, item_numbers}
use Rattle.condition_codegen.specs.Fragments.{Fragment, no_tables, sequence, in_order}
use Rattle.condition_codegen.specs.Meeting.{either_fragment, nothing_fragment}
use Rattle.condition_codegen.specs.DataCode.{found_number, item_number, dimensions_of, work_fragment, works_fragment}
use Rattle.condition_codegen.specs.DataCode.{number_fragment, literal_entry, subscripts_fragment, take_fragment}
use Rattle.condition_codegen.specs.DataCode.{sender_fragment}
use Rattle.condition_codegen.specs.ArithmeticCode.{zero_number, value_fragment, expression_fragment}

-- ---- condition names

-- a condition name, by its place among all of them
abbrev pub condition_number : List LocatedItem → QualifiedName → ℕ
condition_number items name = found_number (look_up name (map called_condition (all_conditions items)))

-- the item that a condition name is of, by its place in the table
abbrev pub condition_item : List LocatedItem → QualifiedName → ItemIndex
condition_item items name = record { number = get_or (item_numbers 0 items) (condition_number items name) 0 }

abbrev pub values_of : Option NamedCondition → List ValueRange
values_of None = []
values_of (Some found) = found.condition.values

abbrev pub values_named : List LocatedItem → QualifiedName → List ValueRange
values_named items name = values_of (slice_get (all_conditions items) (condition_number items name))

-- The sender compared with a value of a condition name, or with what lies from it to the last one.
abbrev pub range_fragment : Literal → Option Literal → Fragment
range_fragment from None before = record {
  tables = record no_tables { senders = literal_entry (literal_sender from.value) ∷ [] };
  files = [];
  starts = [];
  instructions = Data (i.Test (t.OrEqual (record { number = length before.tables.senders }))) ∷ [];
}
range_fragment from (Some last) before = record {
  tables = record no_tables { senders = literal_entry (literal_sender from.value) ∷ literal_entry (literal_sender last.value) ∷ [] };
  files = [];
  starts = [];
  instructions = Data (i.Test (t.OrWithin (record { number = length before.tables.senders }))) ∷ [];
}

abbrev pub value_range_fragment : ValueRange → Fragment
value_range_fragment one = range_fragment one.first one.last

abbrev pub values_fragment : List ValueRange → Fragment
values_fragment = in_order value_range_fragment

-- ---- AND and OR

-- A further condition after AND, where the truth is true so far; after OR, where it is false.
abbrev pub and_fragment : Fragment → Fragment
and_fragment one = either_fragment one nothing_fragment

abbrev pub or_fragment : Fragment → Fragment
or_fragment one = either_fragment nothing_fragment one

-- of no conditions what has no opposite: true for AND, false for OR; no text has that
abbrev pub all_fragment : List Fragment → Fragment
all_fragment [] = works_fragment (i.ClearTruth ∷ i.Test t.Invert ∷ [])
all_fragment (one ∷ more) = sequence one (in_order and_fragment more)

abbrev pub any_fragment : List Fragment → Fragment
any_fragment [] = works_fragment (i.ClearTruth ∷ [])
any_fragment (one ∷ more) = sequence one (in_order or_fragment more)

-- ---- conditions

-- ZERO, with which each value may be compared
abbrev pub zero_literal : Literal
zero_literal = record { value = literal.Figurative figurative.Zero; place = record { line = 0; column = 0 } }

-- an item without subscripts
abbrev pub is_single : Option LocatedItem → Bool
is_single None = false
is_single (Some one) = length one.dimensions == 0

abbrev pub is_numeric_item : Option LocatedItem → Bool
is_numeric_item None = false
is_numeric_item (Some one) = is_numeric_kind one.item.kind

-- `items` are those of the table of items, in order.
module _ (items : List LocatedItem) where
  -- the item is taken, in the occurrence referred to, and compared with each value
  abbrev pub condition_name_fragment : Reference → Fragment
  condition_name_fragment one =
      sequence (work_fragment (i.Place (condition_item items one.item)))
      (sequence (subscripts_fragment items (dimensions_of (slice_get items (condition_item items one.item).number)) one.subscripts)
      (sequence (works_fragment (i.Take ∷ i.ClearTruth ∷ [])) (values_fragment (values_named items one.item))))

  -- the sender compared with an operand
  abbrev pub compared_fragment : Relation → Operand → Fragment
  compared_fragment one (operand.Item reference) = take_fragment items (i.Test (t.Compare one)) reference
  compared_fragment one (operand.Literal literal) = λ before. record {
    tables = record no_tables { senders = literal_entry (literal_sender literal.value) ∷ [] };
    files = [];
    starts = [];
    instructions = Data (i.Test (t.CompareLiteral one (record { number = length before.tables.senders }))) ∷ [];
  }

  -- a side as a number
  abbrev pub side_fragment : Side → Fragment
  side_fragment (side.Expression one) = expression_fragment items one
  side_fragment (side.Literal one) = value_fragment items (operand.Literal one)

  -- two sides as numbers
  abbrev pub numbers_fragment : Side → Relation → Side → Fragment
  numbers_fragment left one right = sequence (side_fragment left) (sequence (side_fragment right) (work_fragment (i.Test (t.CompareNumbers one))))

  -- two operands alone as what they are
  abbrev pub pair_fragment : Operand → Relation → Operand → Fragment
  pair_fragment a one b = sequence (sender_fragment items a) (compared_fragment one b)

  -- A part is no number.
  abbrev pub is_numeric_operand : Operand → Bool
  is_numeric_operand (operand.Item one) = not (has_part one) && is_numeric_item (slice_get items (item_number items one.item))
  is_numeric_operand (operand.Literal one) = false

  -- a literal, or an item without subscripts and part: no fault but that of bytes that are no number
  abbrev pub is_operand_at_hand : Operand → Bool
  is_operand_at_hand (operand.Item one) = not (has_part one) && is_single (slice_get items (item_number items one.item))
  is_operand_at_hand (operand.Literal one) = true

  -- A numeric item is taken before the subscripts of the right operand: as a number beside a number, and beside anything else by a
  -- comparison with ZERO, whose truth isn't used.
  abbrev pub taken_first : Bool → Bool → Operand → Operand → Side → Relation → Side → Fragment
  taken_first false numeric a b left one right = pair_fragment a one b
  taken_first true true a b left one right = numbers_fragment left one right
  taken_first true false a b left one right = sequence (pair_fragment a Equal (operand.Literal zero_literal)) (pair_fragment a one b)

  -- Two operands alone are compared as what they are, others as numbers.
  abbrev pub relation_from : Option Operand → Option Operand → Side → Relation → Side → Fragment
  relation_from (Some a) (Some b) left one right = taken_first (is_numeric_operand a && not (is_operand_at_hand b)) (is_numeric_operand b) a b left one right
  relation_from _ _ left one right = numbers_fragment left one right

  abbrev pub relation_fragment : Side → Relation → Side → Fragment
  relation_fragment left one right = relation_from (alone_side left) (alone_side right) left one right

  -- a condition, by the code of those in it
  abbrev pub condition_layer_fragment : Condition-F Fragment → Fragment
  condition_layer_fragment (Condition-F.Name reference) = condition_name_fragment reference
  condition_layer_fragment (Condition-F.Relation left one right) = relation_fragment left one right
  condition_layer_fragment (Condition-F.Sign value negated one) =
      sequence (expression_fragment items value) (sequence (number_fragment zero_number) (work_fragment (i.Test (t.CompareNumbers (sign_relation one negated)))))
  condition_layer_fragment (Condition-F.Class reference negated one) = sequence (take_fragment items (i.Test (t.Class one)) reference) (works_fragment (negation negated))
  condition_layer_fragment (Condition-F.Not inner) = sequence inner (work_fragment (i.Test t.Invert))
  condition_layer_fragment (Condition-F.All parts) = all_fragment parts
  condition_layer_fragment (Condition-F.Any parts) = any_fragment parts

  unfoldable pub condition_fragment : Condition → Fragment
  condition_fragment = fold-Condition Fragment condition_layer_fragment
