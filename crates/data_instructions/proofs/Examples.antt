-- Instructions on a table of three numbers, 01 T with N PIC 9(2) OCCURS 3, all of it, M PIC 9(3), Q PIC 9, and R PIC
-- S9(2)V9 SIGN TRAILING SEPARATE, computed.
use Rattle.std.proofs.Common.{◌≡◌, ℕ, List, [], ◌∷◌, ◌++◌, refl, pos, negsuc, Option, Some, None}
use Rattle.std.specs.Prelude.{Bool, true, false, codes, slice_index_or}
use Rattle.decimal18.specs.Fraction.{Fraction}
use Rattle.decimal18.specs.Arithmetic.{sum, difference, product}
use Rattle.decimal18.specs.Quotient.{greatest, quotient}
use Rattle.decimal18.specs.Receiver.{fitted_decimal, low_digits, truncated_decimal}
use Rattle.items.specs.declared.usage.OperationalSign.TheVariants as operational
use Rattle.items.specs.declared.usage.Usage.TheVariants as usage
use Rattle.items.specs.declared.item.Kind.TheVariants as kind
use Rattle.items.specs.declared.item.Item.{Item}
use Rattle.items.specs.Values.{value_of, bytes_of}
use Rattle.text_ops.specs.Shown.{shown_bytes}
use Rattle.edited_move.specs.Moves as moves
use Rattle.source_tree.specs.Evaluated.{Data, Subscript}
use Rattle.data_instructions.specs.declared.tables.DataItem.{DataItem}
use Rattle.data_instructions.specs.declared.tables.DataTables.{DataTables}
use Rattle.data_instructions.specs.declared.calculation.Calculation.TheVariants as calculation
use Rattle.data_instructions.specs.declared.instruction.DataInstruction.{DataInstruction}
use Rattle.data_instructions.specs.declared.instruction.DataInstruction.TheVariants as i
use Rattle.data_instructions.specs.Scratch.{Scratch, Step, Continues, Faulted, Stuck, initial_scratch}
use Rattle.data_instructions.specs.Table.{accept_step, date_step}
use Rattle.data_instructions.specs.Shapes.{empty, effect}
use Rattle.data_instructions.specs.Codes.{go_on, works}
use Rattle.data_instructions.specs.ArithmeticCodes.{duplicate, discard, kept_code}

abbrev at_area : Item → ℕ → DataItem
at_area item area = record { item = item; editing = None; area = area; offset = 0 }

computing : Unit {0}
unfolding low_digits fitted_decimal truncated_decimal value_of bytes_of shown_bytes moves.moved_bytes sum difference
    product greatest quotient
computing = tt

abbrev tables : DataTables
tables = record {
  areas = codes "0102x3" ∷ codes "005" ∷ codes "7" ∷ codes "000+" ∷ [];
  items = at_area (record {
    kind = kind.Numeric (record { digits = 2; scale = 0; usage = usage.Display operational.Unsigned });
    length = 2;
  }) 0
      ∷ at_area (record { kind = kind.Group; length = 6 }) 0
      ∷ at_area (record {
        kind = kind.Numeric (record { digits = 3; scale = 0; usage = usage.Display operational.Unsigned });
        length = 3;
      }) 1
      ∷ at_area (record {
        kind = kind.Numeric (record { digits = 1; scale = 0; usage = usage.Display operational.Unsigned });
        length = 1;
      }) 2
      ∷ at_area (record {
        kind = kind.Numeric (record { digits = 3; scale = 1; usage = usage.Display operational.TrailingSeparate });
        length = 4;
      }) 3
      ∷ [];
  numbers = record { coefficient = pos 2; scale = 0 } ∷ record { coefficient = pos 4; scale = 0 }
      ∷ record { coefficient = pos 15; scale = 1 } ∷ record { coefficient = pos 3; scale = 0 }
      ∷ record { coefficient = pos 40; scale = 0 } ∷ record { coefficient = pos 25; scale = 2 }
      ∷ record { coefficient = pos 0; scale = 0 } ∷ [];
  senders = [];
  texts = codes "N=" ∷ [];
  inspections = [];
}

abbrev item : ℕ → DataInstruction
item number = i.Place (record { number = number })

abbrev number : ℕ → DataInstruction
number index = i.Literal (record { number = index })

-- N of a subscript
abbrev element : ℕ → List DataInstruction
element subscript = item 0 ∷ number subscript ∷ i.Index 2 3 ∷ []

abbrev begun : Scratch
begun = initial_scratch tables

second_place : works tables (element 0) begun
    ≡ Continues (record begun { places = record { item = record { number = 0 }; offset = 2; length = 2 } ∷ [] })
second_place = refl

fourth_place : works tables (element 1) begun ≡ Faulted Subscript
fourth_place = refl

no_integer : works tables (element 2) begun ≡ Faulted Data
no_integer = refl

no_subscript : works tables (item 0 ∷ i.Index 2 3 ∷ []) begun ≡ Stuck
no_subscript = refl

-- the number that code leaves, and the bytes of an area, if it goes on
abbrev numbers_of : Step → List (Option Fraction)
numbers_of (Continues s) = s.numbers
numbers_of _ = []

abbrev area_of : ℕ → Step → List ℕ
area_of k (Continues s) = slice_index_or s.storage k []
area_of k _ = []

abbrev line_of : Step → List ℕ
line_of (Continues s) = s.line
line_of _ = []

second_number : numbers_of (works tables (element 0 ++ i.Push ∷ []) begun)
    ≡ Some (record { coefficient = pos 2; scale = 0 }) ∷ []
unfolding computing
second_number = refl

no_number : works tables (element 3 ++ i.Push ∷ []) begun ≡ Faulted Data
unfolding computing
no_number = refl

difference_of_two : numbers_of (works tables (number 0 ∷ number 1 ∷ i.Calculate calculation.Subtract ∷ []) begun)
    ≡ Some (record { coefficient = negsuc 1; scale = 0 }) ∷ []
unfolding computing
difference_of_two = refl

-- MOVE N (2) TO M
number_moved : area_of 1 (works tables (element 0 ++ i.Take ∷ item 2 ∷ i.Move ∷ []) begun) ≡ codes "002"
unfolding computing
number_moved = refl

-- MOVE N (3) TO M
no_number_moved : works tables (element 3 ++ i.Take ∷ item 2 ∷ i.Move ∷ []) begun ≡ Faulted Data
unfolding computing
no_number_moved = refl

nothing_taken : works tables (item 2 ∷ i.Move ∷ []) begun ≡ Stuck
nothing_taken = refl

-- DISPLAY "N=" N (2), up to its end
shown_line : line_of (works tables (i.AppendLiteral (record { number = 0 }) ∷ element 0 ++ i.Append ∷ []) begun)
    ≡ codes "N=02"
unfolding computing
shown_line = refl

-- ACCEPT N (2), ACCEPT M FROM DATE
line_accepted : area_of 0 (go_on (works tables (element 0) begun) (accept_step tables (codes "7"))) ≡ codes "017 x3"
line_accepted = refl

day_moved : area_of 1 (go_on (works tables (item 2 ∷ []) begun) (date_step tables (codes "991231"))) ≡ codes "231"
unfolding computing
day_moved = refl

-- what is known of N (I): its last occurrence lies in the area; a fourth wouldn't
last_place : effect tables (i.Index 2 3)
    (record empty { stacks = record { numbers = 1; places = record { item = record { number = 0 }; reach = 0 } ∷ [] } })
    ≡ Some
    (record empty { stacks = record { numbers = 0; places = record { item = record { number = 0 }; reach = 4 } ∷ [] } })
last_place = refl

past_the_area : effect tables (i.Index 2 4) (record empty
    { stacks = record { numbers = 1; places = record { item = record { number = 0 }; reach = 0 } ∷ [] } }) ≡ None
past_the_area = refl

no_sender_known : effect tables i.Move (record empty
    { stacks = record { numbers = 0; places = record { item = record { number = 2 }; reach = 0 } ∷ [] } }) ≡ None
no_sender_known = refl

-- whether a size error arose
abbrev truth_of : Step → Option Bool
truth_of (Continues s) = Some s.truth
truth_of _ = None

-- DIVIDE a number BY another GIVING Q REMAINDER M
abbrev divided : Bool → ℕ → ℕ → Step
divided keep dividend divisor =
    works tables
    ((i.ClearTruth ∷ number dividend ∷ number divisor ∷ duplicate 1 ∷ duplicate 1 ∷ i.Calculate calculation.Divide
    ∷ duplicate 0 ∷ item 3 ∷ i.Store false keep ∷ [])
    ++ (i.Calculate (calculation.Truncate 0) ∷ i.Calculate calculation.Multiply ∷ i.Calculate calculation.Subtract
    ∷ (kept_code [] tables keep keep ++ (item 2 ∷ i.Store false keep ∷ []))))
    begun

-- 4 by 1.5 is 2, and 1 remains
quotient_stored : area_of 2 (divided true 1 2) ≡ codes "2"
unfolding computing
quotient_stored = refl

remainder_stored : area_of 1 (divided true 1 2) ≡ codes "001"
unfolding computing
remainder_stored = refl

no_size_error : truth_of (divided true 1 2) ≡ Some false
unfolding computing
no_size_error = refl

-- 40 by 1.5 is 26, for which Q has too few digits: with ON SIZE ERROR Q is left alone, and so is M
quotient_kept : area_of 2 (divided true 4 2) ≡ codes "7"
unfolding computing
quotient_kept = refl

remainder_kept : area_of 1 (divided true 4 2) ≡ codes "005"
unfolding computing
remainder_kept = refl

size_error_told : truth_of (divided true 4 2) ≡ Some true
unfolding computing
size_error_told = refl

-- Without the phrase Q takes the low digit; what remains is by all of the quotient.
low_digit_stored : area_of 2 (divided false 4 2) ≡ codes "6"
unfolding computing
low_digit_stored = refl

remainder_of_whole : area_of 1 (divided false 4 2) ≡ codes "001"
unfolding computing
remainder_of_whole = refl

-- by 0: there is no number, and nothing is stored
nothing_by_zero : area_of 2 (divided false 4 6) ≡ codes "7"
unfolding computing
nothing_by_zero = refl

no_remainder_by_zero : area_of 1 (divided false 4 6) ≡ codes "005"
unfolding computing
no_remainder_by_zero = refl

-- 0.25 less 2 is -1.75
abbrev negative : List DataInstruction
negative = number 5 ∷ number 0 ∷ i.Calculate calculation.Subtract ∷ []

cut_towards_zero : numbers_of (works tables (negative ++ i.Calculate (calculation.Truncate 1) ∷ []) begun)
    ≡ Some (record { coefficient = negsuc 16; scale = 1 }) ∷ []
unfolding computing
cut_towards_zero = refl

negative_truncated : area_of 3 (works tables (negative ++ item 4 ∷ i.Store false false ∷ []) begun) ≡ codes "017-"
unfolding computing
negative_truncated = refl

negative_rounded : area_of 3 (works tables (negative ++ item 4 ∷ i.Store true false ∷ []) begun) ≡ codes "018-"
unfolding computing
negative_rounded = refl

-- without S the absolute value
absolute_stored : area_of 1 (works tables (negative ++ item 2 ∷ i.Store false false ∷ []) begun) ≡ codes "001"
unfolding computing
absolute_stored = refl

sign_changed : numbers_of (works tables (number 5 ∷ i.Calculate calculation.Negate ∷ []) begun)
    ≡ Some (record { coefficient = negsuc 24; scale = 2 }) ∷ []
sign_changed = refl

-- the number below the newest once more
number_copied : numbers_of (works tables (number 0 ∷ number 1 ∷ duplicate 1 ∷ []) begun)
    ≡ Some (record { coefficient = pos 2; scale = 0 }) ∷ Some (record { coefficient = pos 4; scale = 0 })
    ∷ Some (record { coefficient = pos 2; scale = 0 }) ∷ []
number_copied = refl

nothing_below : works tables (number 0 ∷ duplicate 1 ∷ []) begun ≡ Stuck
nothing_below = refl

newest_discarded : numbers_of (works tables (number 0 ∷ number 1 ∷ discard ∷ []) begun)
    ≡ Some (record { coefficient = pos 2; scale = 0 }) ∷ []
newest_discarded = refl

no_number_to_store : works tables (item 2 ∷ i.Store false false ∷ []) begun ≡ Stuck
no_number_to_store = refl

-- what is known of a copy: two numbers are wanted for the one below the newest
copy_known : effect tables (duplicate 1) (record empty { stacks = record { numbers = 2; places = [] } })
    ≡ Some (record empty { stacks = record { numbers = 3; places = [] } })
copy_known = refl

no_copy_known : effect tables (duplicate 1) (record empty { stacks = record { numbers = 1; places = [] } }) ≡ None
no_copy_known = refl
