-- Instructions of INITIALIZE, SET and STRING on 01 T PIC X(4), 01 P PIC 9, 01 S PIC X(3), 01 D PIC X and 01 G with N
-- PIC 9(2) and FILLER PIC X(2), computed.
use Rattle.std.proofs.Common.{◌≡◌, ℕ, List, [], ◌∷◌, ◌++◌, refl, Option, Some, None}
use Rattle.std.specs.Prelude.{Bool, true, false, codes, slice_index_or}
use Rattle.decimal18.specs.Receiver.{fitted_decimal, low_digits, truncated_decimal}
use Rattle.items.specs.declared.usage.OperationalSign.TheVariants as operational
use Rattle.items.specs.declared.usage.Usage.TheVariants as usage
use Rattle.items.specs.declared.item.Kind.TheVariants as kind
use Rattle.items.specs.declared.item.Item.{Item}
use Rattle.items.specs.Values.{value_of, bytes_of}
use Rattle.text_ops.specs.Strings.{delimited_characters, string_of_senders}
use Rattle.source_tree.specs.Evaluated.{Data}
use Rattle.data_instructions.specs.declared.tables.DataItem.{DataItem}
use Rattle.data_instructions.specs.declared.tables.DataTables.{DataTables}
use Rattle.data_instructions.specs.declared.gather.Gather.TheVariants as g
use Rattle.data_instructions.specs.declared.instruction.DataInstruction.{DataInstruction}
use Rattle.data_instructions.specs.declared.instruction.DataInstruction.TheVariants as i
use Rattle.data_instructions.specs.Scratch.{Step, Continues, Faulted, Stuck, initial_scratch}
use Rattle.data_instructions.specs.Shapes.{empty}
use Rattle.data_instructions.specs.Codes.{works}
use Rattle.data_instructions.specs.Chains.{effects}

computing : Unit {0}
unfolding low_digits fitted_decimal truncated_decimal value_of bytes_of delimited_characters string_of_senders
computing = tt

abbrev text_item : ℕ → Item
text_item length = record { kind = kind.Alphanumeric false; length = length }

abbrev at_area : Item → ℕ → DataItem
at_area item area = record { item = item; editing = None; area = area; offset = 0 }

-- with P as it is given
abbrev tables : List ℕ → DataTables
tables pointer = record {
  areas = codes "...." ∷ pointer ∷ codes "C D" ∷ codes " " ∷ codes "12ab" ∷ [];
  items = at_area (text_item 4) 0
      ∷ at_area (record {
        kind = kind.Numeric (record { digits = 1; scale = 0; usage = usage.Display operational.Unsigned });
        length = 1;
      }) 1
      ∷ at_area (text_item 3) 2
      ∷ at_area (text_item 1) 3
      ∷ at_area (record { kind = kind.Group; length = 4 }) 4
      ∷ [];
  numbers = [];
  senders = [];
  texts = codes "AB" ∷ codes " " ∷ codes "E" ∷ codes "A B" ∷ (48 ∷ 48 ∷ 0 ∷ 0 ∷ []) ∷ (1 ∷ 1 ∷ 0 ∷ 0 ∷ []) ∷ [];
  inspections = [];
}

abbrev item : ℕ → DataInstruction
item number = i.Place (record { number = number })

abbrev text : ℕ → DataInstruction
text number = i.AppendLiteral (record { number = number })

abbrev up_to_text : ℕ → DataInstruction
up_to_text number = i.Gather (g.UpToText (record { number = number }))

abbrev text_up_to_place : ℕ → DataInstruction
text_up_to_place number = i.Gather (g.TextUpToPlace (record { number = number }))

abbrev overlay : ℕ → DataInstruction
overlay number = i.Overlay (record { number = number })

-- T and P, whether there was an overflow, and the line
record Left : Type 0 where
  receiver : List ℕ
  pointer : List ℕ
  overflow : Bool
  line : List ℕ

abbrev left_of : Step → Option Left
left_of (Continues s) = Some (record {
  receiver = slice_index_or s.storage 0 [];
  pointer = slice_index_or s.storage 1 [];
  overflow = s.truth;
  line = s.line;
})
left_of _ = None

abbrev left : List ℕ → List DataInstruction → Option Left
left pointer code = left_of (works (tables pointer) code (initial_scratch (tables pointer)))

-- STRING "AB" S DELIMITED BY SPACE INTO T WITH POINTER P
abbrev sent : List DataInstruction
sent = text 0 ∷ item 2 ∷ up_to_text 1 ∷ []

abbrev with_pointer : List DataInstruction
with_pointer = item 0 ∷ item 1 ∷ i.String true ∷ []

from_the_second : left (codes "2") (sent ++ with_pointer)
    ≡ Some (record { receiver = codes ".ABC"; pointer = codes "5"; overflow = false; line = [] })
unfolding computing
from_the_second = refl

-- the same with "E" more
no_room_for_the_last : left (codes "2") (sent ++ text 2 ∷ with_pointer)
    ≡ Some (record { receiver = codes ".ABC"; pointer = codes "5"; overflow = true; line = [] })
unfolding computing
no_room_for_the_last = refl

outside_of_the_receiver : left (codes "0") (sent ++ with_pointer)
    ≡ Some (record { receiver = codes "...."; pointer = codes "0"; overflow = true; line = [] })
unfolding computing
outside_of_the_receiver = refl

behind_the_receiver : left (codes "5") (sent ++ with_pointer)
    ≡ Some (record { receiver = codes "...."; pointer = codes "5"; overflow = true; line = [] })
unfolding computing
behind_the_receiver = refl

no_pointer_there : works (tables (codes "x")) (sent ++ with_pointer) (initial_scratch (tables (codes "x")))
    ≡ Faulted Data
unfolding computing
no_pointer_there = refl

-- STRING S "A B" DELIMITED BY D INTO T
up_to_an_item : left (codes "2") (item 2 ∷ i.DropPlace ∷ item 3 ∷ item 2 ∷ i.Gather g.UpToPlace ∷ text_up_to_place 3
    ∷ i.DropPlace ∷ item 0 ∷ i.String false ∷ [])
    ≡ Some (record { receiver = codes "CA.."; pointer = codes "2"; overflow = false; line = [] })
unfolding computing
up_to_an_item = refl

-- STRING S DELIMITED BY SIZE INTO T
by_size : left (codes "2") (item 2 ∷ i.Gather g.Bytes ∷ item 0 ∷ i.String false ∷ [])
    ≡ Some (record { receiver = codes "C D."; pointer = codes "2"; overflow = false; line = [] })
unfolding computing
by_size = refl

no_delimiter : works (tables (codes "2")) (item 2 ∷ i.Gather g.UpToPlace ∷ []) (initial_scratch (tables (codes "2")))
    ≡ Stuck
no_delimiter = refl

-- INITIALIZE G
abbrev group_of : Step → List ℕ
group_of (Continues s) = slice_index_or s.storage 4 []
group_of _ = []

filler_stays : group_of (works (tables (codes "2")) (item 4 ∷ overlay 4 ∷ []) (initial_scratch (tables (codes "2"))))
    ≡ codes "00ab"
filler_stays = refl

-- what is known
as_long_as_the_senders : effects (tables (codes "2")) sent empty ≡ Some (record empty { line = 5 })
as_long_as_the_senders = refl

empty_behind_it : effects (tables (codes "2")) (sent ++ with_pointer) empty ≡ Some empty
empty_behind_it = refl

delimiter_wanted : effects (tables (codes "2")) (item 2 ∷ i.Gather g.UpToPlace ∷ []) empty ≡ None
delimiter_wanted = refl

marks_wanted : effects (tables (codes "2")) (item 4 ∷ overlay 5 ∷ []) empty ≡ None
marks_wanted = refl
