-- Parts of 01 T PIC X(5), which holds ABCDE, computed. Item 0 is all of T, item 1 has two characters, and item 2 is
-- numeric.
use Rattle.std.proofs.Common.{◌≡◌, ℕ, List, [], ◌∷◌, ◌++◌, refl, Option, Some, None, pos, negsuc}
use Rattle.std.specs.Prelude.{false, codes, map}
use Rattle.decimal18.specs.Fraction.{Fraction}
use Rattle.items.specs.declared.usage.OperationalSign.TheVariants as operational
use Rattle.items.specs.declared.usage.Usage.TheVariants as usage
use Rattle.items.specs.declared.item.Kind.TheVariants as kind
use Rattle.items.specs.declared.item.Item.{Item}
use Rattle.source_tree.specs.Evaluated as fault
use Rattle.data_instructions.specs.declared.tables.DataItem.{DataItem}
use Rattle.data_instructions.specs.declared.tables.DataTables.{DataTables}
use Rattle.data_instructions.specs.declared.shape.Shape.{Shape}
use Rattle.data_instructions.specs.declared.gather.Gather.TheVariants as g
use Rattle.data_instructions.specs.declared.part.Part.TheVariants as part
use Rattle.data_instructions.specs.declared.instruction.DataInstruction.{DataInstruction}
use Rattle.data_instructions.specs.declared.instruction.DataInstruction.TheVariants as i
use Rattle.data_instructions.specs.Scratch.{Step, Continues, Faulted, Stuck, initial_scratch}
use Rattle.data_instructions.specs.Shapes.{empty}
use Rattle.data_instructions.specs.Codes.{works}
use Rattle.data_instructions.specs.Chains.{effects}

abbrev at_start : Item → DataItem
at_start item = record { item = item; editing = None; area = 0; offset = 0 }

abbrev whole_number : ℕ → Fraction
whole_number n = record { coefficient = pos n; scale = 0 }

-- the numbers from 0 to 6, -1 and 1.5
abbrev tables : DataTables
tables = record {
  areas = codes "ABCDE" ∷ [];
  items = at_start (record { kind = kind.Alphanumeric false; length = 5 })
      ∷ at_start (record { kind = kind.Alphanumeric false; length = 2 })
      ∷ at_start (record {
        kind = kind.Numeric (record { digits = 5; scale = 0; usage = usage.Display operational.Unsigned });
        length = 5;
      })
      ∷ [];
  numbers = map whole_number (0 ∷ 1 ∷ 2 ∷ 3 ∷ 4 ∷ 5 ∷ 6 ∷ [])
      ++ (record { coefficient = negsuc 0; scale = 0 } ∷ record { coefficient = pos 15; scale = 1 } ∷ []);
  senders = [];
  texts = [];
  inspections = [];
}

abbrev item : ℕ → DataInstruction
item number = i.Place (record { number = number })

abbrev number : ℕ → DataInstruction
number index = i.Literal (record { number = index })

abbrev counted : ℕ → ℕ → List DataInstruction
counted first length = number first ∷ number length ∷ i.Part part.Counted ∷ []

abbrev rest : ℕ → List DataInstruction
rest first = number first ∷ i.Part part.Rest ∷ []

abbrev fixed : ℕ → ℕ → List DataInstruction
fixed first size = number first ∷ i.Part (part.Fixed size) ∷ []

abbrev run : List DataInstruction → Step
run code = works tables code (initial_scratch tables)

-- the bytes of the part
abbrev line_of : Step → Option (List ℕ)
line_of (Continues s) = Some s.line
line_of _ = None

abbrev bytes : List DataInstruction → Option (List ℕ)
bytes code = line_of (run (code ++ (i.Gather g.Bytes ∷ [])))

-- T (2:3)
second_to_fourth : bytes (item 0 ∷ counted 2 3) ≡ Some (codes "BCD")
second_to_fourth = refl

-- T (1:5)
all_of_it : bytes (item 0 ∷ counted 1 5) ≡ Some (codes "ABCDE")
all_of_it = refl

-- T (4:), and T (5:)
from_the_fourth : bytes (item 0 ∷ rest 4) ≡ Some (codes "DE")
from_the_fourth = refl

from_the_fifth : bytes (item 0 ∷ rest 5) ≡ Some (codes "E")
from_the_fifth = refl

-- T (4:2), of a length that was known
last_two : bytes (item 1 ∷ fixed 4 5) ≡ Some (codes "DE")
last_two = refl

-- T (2:4), and of it (2:3)
part_of_a_part : bytes (item 0 ∷ (counted 2 4 ++ counted 2 3)) ≡ Some (codes "CDE")
part_of_a_part = refl

-- of T (2:3) no four
held_to_the_part : run (item 0 ∷ (counted 2 3 ++ counted 1 4)) ≡ Faulted fault.Part
held_to_the_part = refl

-- T (6:1), T (5:2), T (0:1), T (-1:1), T (1:0), T (6:), T (0:)
past_the_end : run (item 0 ∷ counted 6 1) ≡ Faulted fault.Part
past_the_end = refl

end_past_the_item : run (item 0 ∷ counted 5 2) ≡ Faulted fault.Part
end_past_the_item = refl

from_nothing : run (item 0 ∷ counted 0 1) ≡ Faulted fault.Part
from_nothing = refl

from_below : run (item 0 ∷ counted 7 1) ≡ Faulted fault.Part
from_below = refl

of_no_length : run (item 0 ∷ counted 1 0) ≡ Faulted fault.Part
of_no_length = refl

rest_of_nothing : run (item 0 ∷ rest 6) ≡ Faulted fault.Part
rest_of_nothing = refl

rest_from_nothing : run (item 0 ∷ rest 0) ≡ Faulted fault.Part
rest_from_nothing = refl

-- T (5:2) and T (0:2), of a length that was known
fixed_past_the_end : run (item 1 ∷ fixed 5 5) ≡ Faulted fault.Part
fixed_past_the_end = refl

fixed_from_nothing : run (item 1 ∷ fixed 0 5) ≡ Faulted fault.Part
fixed_from_nothing = refl

-- 1.5 is no length, and that comes before a first place that is too great
no_integer : run (item 0 ∷ counted 6 8) ≡ Faulted fault.Data
no_integer = refl

no_length : run (item 0 ∷ number 1 ∷ i.Part part.Counted ∷ []) ≡ Stuck
no_length = refl

-- ---- what is known

abbrev known : List DataInstruction → Option Shape
known code = effects tables code empty

abbrev only_place : ℕ → ℕ → Shape
only_place item reach = record empty {
  stacks = record { numbers = 0; places = record { item = record { number = item }; reach = reach } ∷ [] };
}

fixed_reach : known (item 1 ∷ fixed 1 5) ≡ Some (only_place 1 3)
fixed_reach = refl

-- six bytes don't lie in the area
too_wide : known (item 1 ∷ fixed 1 6) ≡ None
too_wide = refl

counted_reach : known (item 0 ∷ counted 1 1) ≡ Some (only_place 0 0)
counted_reach = refl

-- a number has no part of any length
no_part_of_a_number : known (item 2 ∷ counted 1 1) ≡ None
no_part_of_a_number = refl

no_rest_of_a_number : known (item 2 ∷ rest 1) ≡ None
no_rest_of_a_number = refl

no_first_place : known (item 0 ∷ number 1 ∷ i.Part part.Counted ∷ []) ≡ None
no_first_place = refl
