-- The code of references, and of MOVE, DISPLAY and ACCEPT (own choice). Numbers, senders and texts go into their tables as they come.
use Rattle.std.specs.Prelude.{ℕ, pos, Bool, true, false, List, [], ◌∷◌, length, map, Option, Some, None, slice_get}
use Rattle.decimal18.specs.Fraction.{Fraction}
use Rattle.source_tree.specs.declared.literal.LiteralValue.{LiteralValue}
use Rattle.source_tree.specs.declared.reference.QualifiedName.{QualifiedName}
use Rattle.source_tree.specs.declared.reference.Adjustment.{Adjustment}
use Rattle.source_tree.specs.declared.reference.Adjustment.TheVariants as adjustment
use Rattle.source_tree.specs.declared.reference.Subscript as written
use Rattle.source_tree.specs.declared.reference.Subscript.TheVariants as subscript
use Rattle.source_tree.specs.declared.reference.Part.{Part}
use Rattle.source_tree.specs.declared.reference.Reference.{Reference}
use Rattle.source_tree.specs.declared.expression.Operand.{Operand}
use Rattle.source_tree.specs.declared.expression.Operand.TheVariants as operand
use Rattle.source_tree.specs.declared.table.Dimension.{Dimension}
use Rattle.source_tree.specs.Display.{shown_literal, line_end}
use Rattle.source_tree.specs.InspectLayout.{found_size}
use Rattle.source_tree.specs.Integers.{number_of}
use Rattle.source_tree.specs.Literals.{Sender, literal_sender}
use Rattle.source_tree.specs.Places.{LocatedItem}
use Rattle.data_instructions.specs.declared.index.ItemIndex.{ItemIndex}
use Rattle.data_instructions.specs.declared.tables.LiteralSender.{LiteralSender}
use Rattle.data_instructions.specs.declared.calculation.Calculation.TheVariants as c
use Rattle.data_instructions.specs.declared.instruction.DataInstruction.{DataInstruction}
use Rattle.data_instructions.specs.declared.instruction.DataInstruction.TheVariants as i
use Rattle.data_instructions.specs.declared.part.Part as part
use Rattle.data_instructions.specs.declared.part.Part.TheVariants as made
use Rattle.data_instructions.specs.declared.tables.DataItem.{DataItem}
use Rattle.data_instructions.specs.Codes.{integer, index_code}
use Rattle.data_instructions.specs.PartForms.{PartForm, Whole, Settled, OfLength, Counted, Rest, part_form, part_entry}
use Rattle.code_image.specs.declared.instruction.Instruction.TheVariants.{Data, Show, Accept, Date}
use Rattle.name_table.specs.declared.look_up.LookUp.{LookUp}
use Rattle.name_table.specs.declared.look_up.LookUp.TheVariants.{One}
use Rattle.name_table.specs.Positions.{look_up}
use Rattle.name_table.specs.Items.{called_item}
use Rattle.condition_codegen.specs.Fragments.{Fragment, no_tables, empty_code, sequence, in_order, plain_code}

-- the number of the only thing that is named
abbrev pub found_number : LookUp → ℕ
found_number (One n) = n
found_number _ = 0

-- the item that a name names, by its place in the table
abbrev pub item_number : List LocatedItem → QualifiedName → ℕ
item_number items name = found_number (look_up name (map called_item items))

abbrev pub item_index : List LocatedItem → QualifiedName → ItemIndex
item_index items name = record { number = item_number items name }

abbrev pub dimensions_of : Option LocatedItem → List Dimension
dimensions_of None = []
dimensions_of (Some one) = one.dimensions

-- an instruction on data
abbrev pub work_fragment : DataInstruction → Fragment
work_fragment one before = plain_code (Data one ∷ [])

-- instructions on data
abbrev pub works_fragment : List DataInstruction → Fragment
works_fragment all before = plain_code (map Data all)

-- a number, on the stack of numbers
abbrev pub number_fragment : Fraction → Fragment
number_fragment x before = record {
  tables = record no_tables { numbers = x ∷ [] };
  files = [];
  starts = [];
  instructions = Data (i.Literal (record { number = length before.tables.numbers })) ∷ [];
}

-- an integer
abbrev pub integer_fragment : ℕ → Fragment
integer_fragment n = number_fragment (integer (pos n))

abbrev pub adjustment_fragment : Adjustment → Fragment
adjustment_fragment adjustment.Nothing before = empty_code
adjustment_fragment (adjustment.Plus n) before = sequence (integer_fragment (number_of n)) (work_fragment (i.Calculate c.Add)) before
adjustment_fragment (adjustment.Minus n) before = sequence (integer_fragment (number_of n)) (work_fragment (i.Calculate c.Subtract)) before

-- a text, added to the line
abbrev pub text_fragment : List ℕ → Fragment
text_fragment bytes before = record {
  tables = record no_tables { texts = bytes ∷ [] };
  files = [];
  starts = [];
  instructions = Data (i.AppendLiteral (record { number = length before.tables.texts })) ∷ [];
}

abbrev pub literal_entry : Sender → LiteralSender
literal_entry sender = record { taken = sender.taken; bytes = sender.bytes }

-- a literal, taken as the sender
abbrev pub literal_fragment : LiteralValue → Fragment
literal_fragment value before = record {
  tables = record no_tables { senders = literal_entry (literal_sender value) ∷ [] };
  files = [];
  starts = [];
  instructions = Data (i.TakeLiteral (record { number = length before.tables.senders })) ∷ [];
}

abbrev pub line_end_fragment : Bool → Fragment
line_end_fragment true before = text_fragment (line_end true) before
line_end_fragment false before = empty_code

-- The table of items has an entry for each part that a program names. The place of its item's first occurrence comes on the stack of
-- places.
abbrev pub entry_fragment : DataItem → Fragment
entry_fragment entry before = record {
  tables = record no_tables { items = entry ∷ [] };
  files = [];
  starts = [];
  instructions = Data (i.Place (record { number = length before.tables.items })) ∷ [];
}

abbrev pub part_place_fragment : Option LocatedItem → Part → Fragment
part_place_fragment None part before = empty_code
part_place_fragment (Some found) part before = entry_fragment (part_entry found (Some part)) before

-- a part in the place of the newest one
abbrev pub part_fragment : part.Part → Fragment
part_fragment one = work_fragment (i.Part one)

-- the line is shown
abbrev pub show_fragment : Fragment
show_fragment before = plain_code (Show ∷ [])

-- `items` are those of the table of items, in order.
module _ (items : List LocatedItem) where
  -- the number of a subscript, on the stack of numbers
  abbrev pub subscript_fragment : written.Subscript → Fragment
  subscript_fragment (subscript.Literal n) = integer_fragment (number_of n)
  subscript_fragment (subscript.Item name adjusting) = sequence (work_fragment (i.Place (item_index items name))) (sequence (work_fragment i.Push) (adjustment_fragment adjusting))

  -- each subscript in turn, and its range
  abbrev pub subscripts_fragment : List Dimension → List written.Subscript → Fragment
  subscripts_fragment [] subscripts before = empty_code
  subscripts_fragment (one ∷ more) [] before = empty_code
  subscripts_fragment (one ∷ more) (written ∷ others) before =
      sequence (sequence (subscript_fragment written) (work_fragment (index_code one))) (subscripts_fragment more others) before

  -- the place of an item that a reference names, or of its part
  abbrev pub place_fragment : Option LocatedItem → Reference → Option Part → Fragment
  place_fragment found one None = work_fragment (i.Place (item_index items one.item))
  place_fragment found one (Some part) = part_place_fragment found part

  -- a part of unknown length, after the number of its first place
  abbrev pub unknown_fragment : Option written.Subscript → Fragment
  unknown_fragment None = part_fragment made.Rest
  unknown_fragment (Some length) = sequence (subscript_fragment length) (part_fragment made.Counted)

  -- the part that comes in the newest place, whose item has so many bytes
  abbrev pub making_fragment : ℕ → PartForm → Fragment
  making_fragment size Whole before = empty_code
  making_fragment size (Settled bytes) before = empty_code
  making_fragment size (OfLength first) before = sequence (subscript_fragment first) (part_fragment (made.Fixed size)) before
  making_fragment size (Counted first length) before = sequence (subscript_fragment first) (unknown_fragment (Some length)) before
  making_fragment size (Rest first) before = sequence (subscript_fragment first) (unknown_fragment None) before

  -- the place of a reference to an item, on the stack of places
  abbrev pub referred_fragment : Option LocatedItem → Reference → Fragment
  referred_fragment found one =
      sequence (place_fragment found one one.part)
      (sequence (subscripts_fragment (dimensions_of found) one.subscripts) (making_fragment (found_size found) (part_form (found_size found) one.part)))

  abbrev pub reference_fragment : Reference → Fragment
  reference_fragment one = referred_fragment (slice_get items (item_number items one.item)) one

  -- a reference, and an instruction that takes its place
  abbrev pub take_fragment : DataInstruction → Reference → Fragment
  take_fragment taking one = sequence (reference_fragment one) (work_fragment taking)

  abbrev pub sender_fragment : Operand → Fragment
  sender_fragment (operand.Item one) = take_fragment i.Take one
  sender_fragment (operand.Literal one) = literal_fragment one.value

  abbrev pub receivers_fragment : List Reference → Fragment
  receivers_fragment = in_order (take_fragment i.Move)

  -- MOVE, after its `tick`
  abbrev pub move_fragment : Operand → List Reference → Fragment
  move_fragment sender receivers = sequence (sender_fragment sender) (receivers_fragment receivers)

  abbrev pub operand_fragment : Operand → Fragment
  operand_fragment (operand.Item one) = take_fragment i.Append one
  operand_fragment (operand.Literal one) = text_fragment (shown_literal one.value)

  abbrev pub operands_fragment : List Operand → Fragment
  operands_fragment = in_order operand_fragment

  -- DISPLAY, after its `tick`
  abbrev pub display_fragment : List Operand → Bool → Fragment
  display_fragment operands advancing = sequence (sequence (operands_fragment operands) (line_end_fragment advancing)) show_fragment

  -- ACCEPT, after its `tick`: the receiver's place, and `accept`
  abbrev pub accept_fragment : Reference → Fragment
  accept_fragment receiver = sequence (reference_fragment receiver) (λ before. plain_code (Accept ∷ []))

  -- ACCEPT FROM DATE
  abbrev pub date_fragment : Reference → Fragment
  date_fragment receiver = sequence (reference_fragment receiver) (λ before. plain_code (Date ∷ []))
