-- Tests computed on A PIC 9(2), B PIC 9(2) with bytes that are no number, C PIC 9(2)V9(2), and D PIC X(3).
use Rattle.std.proofs.Common.{◌≡◌, ℕ, List, [], ◌∷◌, refl, pos, Option, Some, None}
use Rattle.std.specs.Prelude.{Bool, true, false, codes}
use Rattle.decimal18.specs.Order.{order}
use Rattle.decimal18.specs.Quotient.{greatest, quotient}
use Rattle.items.specs.declared.usage.OperationalSign.TheVariants as operational
use Rattle.items.specs.declared.usage.Usage.TheVariants as usage
use Rattle.items.specs.declared.item.Kind.TheVariants as kind
use Rattle.items.specs.declared.item.Item.{Item}
use Rattle.items.specs.declared.taken.Taken.TheVariants as kept
use Rattle.items.specs.Values.{value_of}
use Rattle.text_ops.specs.Compare.{comparison_of, order_of_texts}
use Rattle.text_ops.specs.Classes.{is_class}
use Rattle.source_tree.specs.declared.condition.Relation.{Relation}
use Rattle.source_tree.specs.declared.condition.Relation.TheVariants as relation
use Rattle.source_tree.specs.declared.condition.Class.TheVariants as class
use Rattle.source_tree.specs.Evaluated.{Data}
use Rattle.data_instructions.specs.declared.tables.DataItem.{DataItem}
use Rattle.data_instructions.specs.declared.tables.LiteralSender.{LiteralSender}
use Rattle.data_instructions.specs.declared.tables.DataTables.{DataTables}
use Rattle.data_instructions.specs.declared.calculation.Calculation.TheVariants as calculation
use Rattle.data_instructions.specs.declared.shape.Shape.{Shape}
use Rattle.data_instructions.specs.declared.test.Test.TheVariants as t
use Rattle.data_instructions.specs.declared.instruction.DataInstruction.{DataInstruction}
use Rattle.data_instructions.specs.declared.instruction.DataInstruction.TheVariants as i
use Rattle.data_instructions.specs.Scratch.{Scratch, Step, Continues, Faulted, Stuck, initial_scratch}
use Rattle.data_instructions.specs.Shapes.{empty, effect}
use Rattle.data_instructions.specs.Codes.{works}
use Rattle.data_instructions.specs.ConditionCodes.{negation}

abbrev number_item : ℕ → ℕ → Item
number_item digits scale = record {
  kind = kind.Numeric (record { digits = digits; scale = scale; usage = usage.Display operational.Unsigned });
  length = digits;
}

abbrev text_item : ℕ → Item
text_item length = record { kind = kind.Alphanumeric false; length = length }

abbrev at_area : Item → ℕ → DataItem
at_area item area = record { item = item; editing = None; area = area; offset = 0 }

abbrev digit : List ℕ → LiteralSender
digit bytes = record { taken = kept.Item (number_item 1 0); bytes = bytes }

computing : Unit {0}
unfolding value_of comparison_of order_of_texts order is_class greatest quotient
computing = tt

-- the literals 5, 7, 8 and 9, and a text; the numbers 1.5 and 0
abbrev tables : DataTables
tables = record {
  areas = codes "07" ∷ codes "x3" ∷ codes "0150" ∷ codes "Ab " ∷ [];
  items = at_area (number_item 2 0) 0 ∷ at_area (number_item 2 0) 1 ∷ at_area (number_item 4 2) 2
      ∷ at_area (text_item 3) 3 ∷ [];
  numbers = record { coefficient = pos 15; scale = 1 } ∷ record { coefficient = pos 0; scale = 0 } ∷ [];
  senders = digit (codes "5") ∷ digit (codes "7") ∷ digit (codes "8") ∷ digit (codes "9")
      ∷ record { taken = kept.Item (text_item 2); bytes = codes "Ab" } ∷ [];
  texts = [];
  inspections = [];
}

abbrev item : ℕ → DataInstruction
item number = i.Place (record { number = number })

abbrev number : ℕ → DataInstruction
number index = i.Literal (record { number = index })

abbrev equal : ℕ → DataInstruction
equal literal = i.Test (t.OrEqual (record { number = literal }))

-- from a literal to the next one
abbrev within : ℕ → DataInstruction
within literal = i.Test (t.OrWithin (record { number = literal }))

abbrev against : Relation → ℕ → DataInstruction
against one literal = i.Test (t.CompareLiteral one (record { number = literal }))

abbrev begun : Scratch
begun = initial_scratch tables

abbrev truth_of : Step → Option Bool
truth_of (Continues s) = Some s.truth
truth_of _ = None

abbrev asked : List DataInstruction → Option Bool
asked code = truth_of (works tables code begun)

-- a condition name of A, with values
abbrev named : List DataInstruction → Option Bool
named values = asked (item 0 ∷ i.Take ∷ i.ClearTruth ∷ values)

has_the_value : named (equal 1 ∷ []) ≡ Some true
unfolding computing
has_the_value = refl

has_another_value : named (equal 0 ∷ []) ≡ Some false
unfolding computing
has_another_value = refl

-- 5 THRU 7, 7 THRU 8, 8 THRU 9
last_of_the_range : named (within 0 ∷ []) ≡ Some true
unfolding computing
last_of_the_range = refl

first_of_the_range : named (within 1 ∷ []) ≡ Some true
unfolding computing
first_of_the_range = refl

below_the_range : named (within 2 ∷ []) ≡ Some false
unfolding computing
below_the_range = refl

-- any of several values
earlier_value_stands : named (equal 1 ∷ within 2 ∷ equal 0 ∷ []) ≡ Some true
unfolding computing
earlier_value_stands = refl

later_value_found : named (equal 0 ∷ within 1 ∷ []) ≡ Some true
unfolding computing
later_value_found = refl

no_value_found : named (equal 0 ∷ within 2 ∷ []) ≡ Some false
unfolding computing
no_value_found = refl

-- B holds no number
no_number_to_look_at : works tables (item 1 ∷ i.Take ∷ i.ClearTruth ∷ equal 1 ∷ []) begun ≡ Faulted Data
unfolding computing
no_number_to_look_at = refl

is_no_number : asked (item 1 ∷ i.Test (t.Class class.Numeric) ∷ []) ≡ Some false
unfolding computing
is_no_number = refl

is_not_no_number : asked (item 1 ∷ i.Test (t.Class class.Numeric) ∷ negation true) ≡ Some true
unfolding computing
is_not_no_number = refl

is_number : asked (item 0 ∷ i.Test (t.Class class.Numeric) ∷ []) ≡ Some true
unfolding computing
is_number = refl

is_alphabetic : asked (item 3 ∷ i.Test (t.Class class.Alphabetic) ∷ []) ≡ Some true
unfolding computing
is_alphabetic = refl

is_no_upper_case : asked (item 3 ∷ i.Test (t.Class class.AlphabeticUpper) ∷ []) ≡ Some false
unfolding computing
is_no_upper_case = refl

-- A beside C, 7 beside 1.50
item_greater : asked (item 0 ∷ i.Take ∷ item 2 ∷ i.Test (t.Compare relation.Greater) ∷ []) ≡ Some true
unfolding computing
item_greater = refl

no_number_beside : works tables (item 0 ∷ i.Take ∷ item 1 ∷ i.Test (t.Compare relation.Greater) ∷ []) begun
    ≡ Faulted Data
unfolding computing
no_number_beside = refl

literal_greater : asked (item 0 ∷ i.Take ∷ against relation.Less 2 ∷ []) ≡ Some true
unfolding computing
literal_greater = refl

-- D beside the text: the shorter one is padded with spaces
same_text : asked (item 3 ∷ i.Take ∷ against relation.Equal 4 ∷ []) ≡ Some true
unfolding computing
same_text = refl

nothing_taken : works tables (against relation.Equal 4 ∷ []) begun ≡ Stuck
nothing_taken = refl

-- 1.5 and 1.50 are the same number
two_scales : asked (number 0 ∷ item 2 ∷ i.Push ∷ i.Test (t.CompareNumbers relation.Equal) ∷ []) ≡ Some true
unfolding computing
two_scales = refl

-- The one below is on the left.
below_is_left : asked (number 1 ∷ number 0 ∷ i.Test (t.CompareNumbers relation.Less) ∷ []) ≡ Some true
unfolding computing
below_is_left = refl

newest_is_right : asked (number 0 ∷ number 1 ∷ i.Test (t.CompareNumbers relation.Less) ∷ []) ≡ Some false
unfolding computing
newest_is_right = refl

-- By zero there is no number to compare.
size_error_on_the_left : works tables (number 0 ∷ number 1 ∷ i.Calculate calculation.Divide ∷ number 0
    ∷ i.Test (t.CompareNumbers relation.Equal) ∷ []) begun ≡ Faulted Data
unfolding computing
size_error_on_the_left = refl

size_error_on_the_right : works tables (number 0 ∷ number 0 ∷ number 1 ∷ i.Calculate calculation.Divide
    ∷ i.Test (t.CompareNumbers relation.NotEqual) ∷ []) begun ≡ Faulted Data
unfolding computing
size_error_on_the_right = refl

one_number_alone : works tables (number 0 ∷ i.Test (t.CompareNumbers relation.Equal) ∷ []) begun ≡ Stuck
one_number_alone = refl

-- What is known: a sender is wanted, two numbers, and two literals of a range.
abbrev sent : Shape
sent = record empty { sender = Some (kept.Item (number_item 2 0)) }

sender_stays_known : effect tables (within 3) sent ≡ Some sent
sender_stays_known = refl

no_literal_behind : effect tables (within 4) sent ≡ None
no_literal_behind = refl

no_sender_known : effect tables (equal 0) empty ≡ None
no_sender_known = refl

two_numbers_known : effect tables (i.Test (t.CompareNumbers relation.Equal))
    (record empty { stacks = record { numbers = 2; places = [] } }) ≡ Some empty
two_numbers_known = refl

one_number_known : effect tables (i.Test (t.CompareNumbers relation.Equal))
    (record empty { stacks = record { numbers = 1; places = [] } }) ≡ None
one_number_known = refl
