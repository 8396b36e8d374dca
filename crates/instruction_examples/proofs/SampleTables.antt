-- Tables of three rows of four numbers and a name, subscripts, and other items:
--
--     01 T.                                  01 I PIC 9(2).    01 J PIC S9(2).
--        02 ROW OCCURS 3.                    01 E PIC -(3)9.99.
--           03 CELL PIC S9(3)V99 OCCURS 4.   01 X PIC X(6).
--           03 NAME PIC X(4).                01 N PIC 9(4).   01 D PIC 9(6).
--     01 C PIC S9(3)V99.                     01 R PIC S9(3)V99.
--     01 B PIC Z9.9 BLANK WHEN ZERO.
use Rattle.std.proofs.Common.{ℕ, pos, negsuc, List, [], ◌∷◌, replicate, Bool, true, false, None, Some}
use Rattle.std.specs.Prelude.{codes}
use Rattle.text_ops.specs.declared.entry.Span.{Span}
use Rattle.text_ops.specs.declared.entry.Fit.TheVariants as fit
use Rattle.text_ops.specs.declared.entry.Entry.{Entry}
use Rattle.picture.specs.Pictures.{picture_of}
use Rattle.items.specs.declared.usage.OperationalSign.{OperationalSign}
use Rattle.items.specs.declared.usage.OperationalSign.TheVariants as operational
use Rattle.items.specs.declared.usage.Usage.TheVariants as usage
use Rattle.items.specs.declared.item.Kind.{Kind}
use Rattle.items.specs.declared.item.Kind.TheVariants as kind
use Rattle.items.specs.declared.taken.Figurative.TheVariants as figurative
use Rattle.items.specs.declared.taken.Taken.{Taken}
use Rattle.items.specs.declared.taken.Taken.TheVariants as taken
use Rattle.data_instructions.specs.declared.tables.DataItem.{DataItem}
use Rattle.data_instructions.specs.declared.tables.LiteralSender.{LiteralSender}
use Rattle.data_instructions.specs.declared.tables.Inspection.{Inspection}
use Rattle.data_instructions.specs.declared.tables.DataTables.{DataTables}

abbrev pub number : ℕ → ℕ → OperationalSign → Kind
number digits scale sign = kind.Numeric (record { digits = digits; scale = scale; usage = usage.Display sign })

abbrev pub text : Kind
text = kind.Alphanumeric false

-- an item without a picture: its kind, its length, its area, and its place in the area
abbrev pub plain_item : Kind → ℕ → ℕ → ℕ → DataItem
plain_item kind length area offset = record {
  item = record { kind = kind; length = length };
  editing = None;
  area = area;
  offset = offset;
}

-- a numeric edited item at the start of its area
abbrev pub edited_item : Bool → List ℕ → ℕ → ℕ → DataItem
edited_item blank picture length area = record {
  item = record { kind = kind.NumericEdited blank; length = length };
  editing = picture_of picture;
  area = area;
  offset = 0;
}

-- what a literal of a kind counts as, with so many characters
abbrev literal_of : Kind → ℕ → Taken
literal_of kind length = taken.Item (record { kind = kind; length = length })

abbrev sender : Taken → List ℕ → LiteralSender
sender one bytes = record { taken = one; bytes = bytes }

abbrev digit : Taken
digit = literal_of (number 1 0 operational.Unsigned) 1

abbrev character : ℕ → Span
character start = record { start = start; length = 1 }

-- the first character of the texts is counted, and replaced by the second one
abbrev counting_entry : Entry
counting_entry = record { fit = fit.All (character 0); before = None; after = None; by = None }

abbrev inspection : Inspection
inspection = record {
  size = 2;
  counters = 1 ∷ [];
  tallying = counting_entry ∷ [];
  replacing = record counting_entry { by = Some (character 1) } ∷ [];
}

-- "AB" and -12.5
abbrev pub ab : LiteralSender
ab = sender (literal_of text 2) (codes "AB")

abbrev pub twelve : LiteralSender
twelve = sender (literal_of (number 3 1 operational.Trailing) 3) (codes "12u")

abbrev pub areas : List (List ℕ)
areas = replicate 72 48 ∷ codes "02" ∷ codes "03" ∷ codes "       " ∷ codes "12AB  " ∷ codes "0000" ∷ codes "000000"
    ∷ codes "00000" ∷ codes "00000" ∷ codes "    " ∷ []

-- CELL (1, 1), NAME (1), I, J, E, X, N, D, T, C, R and B
abbrev pub items : List DataItem
items = plain_item (number 5 2 operational.Trailing) 5 0 0
    ∷ plain_item text 4 0 20
    ∷ plain_item (number 2 0 operational.Unsigned) 2 1 0
    ∷ plain_item (number 2 0 operational.Trailing) 2 2 0
    ∷ edited_item false (codes "-(3)9.99") 7 3
    ∷ plain_item text 6 4 0
    ∷ plain_item (number 4 0 operational.Unsigned) 4 5 0
    ∷ plain_item (number 6 0 operational.Unsigned) 6 6 0
    ∷ plain_item kind.Group 72 0 0
    ∷ plain_item (number 5 2 operational.Trailing) 5 7 0
    ∷ plain_item (number 5 2 operational.Trailing) 5 8 0
    ∷ edited_item true (codes "Z9.9") 4 9
    ∷ []

abbrev pub senders : List LiteralSender
senders = ab ∷ twelve ∷ sender (literal_of text 9) (codes "123456789") ∷ sender (taken.Figurative figurative.Zero) []
    ∷ sender digit (codes "1") ∷ sender digit (codes "3") ∷ sender digit (codes "5") ∷ []

abbrev pub tables : DataTables
tables = record {
  areas = areas;
  items = items;
  numbers = record { coefficient = pos 1; scale = 0 } ∷ record { coefficient = pos 2; scale = 0 }
      ∷ record { coefficient = pos 5; scale = 0 } ∷ record { coefficient = pos 7; scale = 0 }
      ∷ record { coefficient = negsuc 6; scale = 0 } ∷ record { coefficient = pos 20; scale = 0 }
      ∷ record { coefficient = pos 99; scale = 0 } ∷ record { coefficient = pos 999; scale = 0 }
      ∷ record { coefficient = pos 1005; scale = 3 } ∷ record { coefficient = pos 12345678; scale = 3 }
      ∷ record { coefficient = pos 999995; scale = 3 } ∷ record { coefficient = pos 0; scale = 0 } ∷ [];
  senders = senders;
  texts = codes "E=" ∷ codes "|" ∷ codes "WXYZ" ∷ (1 ∷ 0 ∷ 1 ∷ 0 ∷ []) ∷ codes "A" ∷ codes "XAB  Y" ∷ [];
  inspections = inspection ∷ [];
}
