-- No piece depends on the instructions before it, but on how many there are.
use Rattle.std.proofs.Common.{◌≡◌, ℕ, pos, Bool, true, false, List, [], ◌∷◌, length, map, refl, ap, ◌∙◌, arith}
use Rattle.std.proofs.Common.{Option, Some, None, length-append}
use Rattle.std.specs.Prelude.{slice_get}
use Rattle.decimal18.specs.Fraction.{Fraction}
use Rattle.source_tree.specs.declared.literal.LiteralValue.{LiteralValue}
use Rattle.source_tree.specs.declared.reference.Adjustment.{Adjustment}
use Rattle.source_tree.specs.declared.reference.Adjustment.TheVariants as adjustment
use Rattle.source_tree.specs.declared.reference.Subscript as written
use Rattle.source_tree.specs.declared.reference.Subscript.TheVariants as subscript
use Rattle.source_tree.specs.declared.reference.Part.{Part}
use Rattle.source_tree.specs.declared.reference.Reference.{Reference}
use Rattle.source_tree.specs.declared.expression.Operand.{Operand}
use Rattle.source_tree.specs.declared.expression.Operand.TheVariants as operand
use Rattle.source_tree.specs.declared.table.Dimension.{Dimension}
use Rattle.source_tree.specs.declared.data_statement.DataStatement.{DataStatement}
use Rattle.source_tree.specs.declared.data_statement.DataStatement.TheVariants.{Move, Initialize, Set}
use Rattle.source_tree.specs.declared.inspect_statement.InspectStatement.{InspectStatement}
use Rattle.source_tree.specs.Converting.{as_replacing}
use Rattle.source_tree.specs.declared.text_statement.TextStatement.{TextStatement}
use Rattle.source_tree.specs.declared.text_statement.TextStatement.TheVariants.{Display, Accept, AcceptDate, Inspect}
use Rattle.source_tree.specs.declared.text_statement.TextStatement.TheVariants.{Convert}
use Rattle.source_tree.specs.Display.{shown_literal, line_end}
use Rattle.source_tree.specs.Initializing.{Pattern}
use Rattle.source_tree.specs.InspectLayout as layout
use Rattle.source_tree.specs.InspectLayout.{InspectArgument, found_size, takings}
use Rattle.source_tree.specs.Integers.{number_of}
use Rattle.source_tree.specs.Literals.{literal_sender}
use Rattle.source_tree.specs.LookUp.{all_conditions}
use Rattle.source_tree.specs.MeasuredTexts.{room_of}
use Rattle.source_tree.specs.Places.{LocatedItem}
use Rattle.data_instructions.specs.declared.calculation.Calculation.TheVariants as c
use Rattle.data_instructions.specs.declared.index.InspectionIndex.{InspectionIndex}
use Rattle.data_instructions.specs.declared.part.Part.TheVariants as made
use Rattle.data_instructions.specs.declared.tables.DataItem.{DataItem}
use Rattle.data_instructions.specs.declared.tables.Inspection.{Inspection}
use Rattle.data_instructions.specs.PartForms.{PartForm, Whole, Settled, OfLength, Counted, Rest, part_form, part_entry}
use Rattle.data_instructions.specs.declared.tables.DataTables.{DataTables}
use Rattle.data_instructions.specs.declared.instruction.DataInstruction.{DataInstruction}
use Rattle.data_instructions.specs.declared.instruction.DataInstruction.TheVariants as i
use Rattle.data_instructions.specs.Codes.{integer, index_code}
use Rattle.data_instructions.specs.TextCodes.{new_byte, new_mark}
use Rattle.data_instructions.specs.InspectCodes.{gather_by, taken_numbers, inspect_by, convert_by}
use Rattle.code_image.specs.declared.code.Code.{Code}
use Rattle.code_image.specs.declared.instruction.Instruction.TheVariants as instruction
use Rattle.condition_codegen.specs.Fragments.{Fragment, no_tables, empty_code, joined_tables, append, sequence}
use Rattle.condition_codegen.specs.Fragments.{in_order, plain_code}
use Rattle.condition_codegen.specs.DataCode.{item_number, item_index, dimensions_of, work_fragment, works_fragment}
use Rattle.condition_codegen.specs.DataCode.{number_fragment, integer_fragment, adjustment_fragment, text_fragment}
use Rattle.condition_codegen.specs.DataCode.{literal_entry, literal_fragment, line_end_fragment, show_fragment}
use Rattle.condition_codegen.specs.DataCode.{subscript_fragment, subscripts_fragment, reference_fragment, take_fragment}
use Rattle.condition_codegen.specs.DataCode.{sender_fragment, receivers_fragment, operand_fragment, operands_fragment}
use Rattle.condition_codegen.specs.DataCode.{entry_fragment, place_fragment, unknown_fragment, making_fragment}
use Rattle.condition_codegen.specs.ConditionCode.{condition_number, condition_item}
use Rattle.condition_codegen.specs.PatternCode.{overlay_fragment, pattern_fragment, pattern_of, set_of}
use Rattle.condition_codegen.specs.PatternCode.{initialize_fragment, set_fragment}
use Rattle.statement_codegen.specs.InspectCode.{inspecting_fragment, inspection_entry, taken_fragment, takings_fragment}
use Rattle.codegen.specs.Layout.{data_fragment, texts_fragment}

-- Two codes that no piece tells apart: the same tables, and as many instructions.
pub record Alike (a b : Code) : Type 0 where
  pub tables : a.tables ≡ b.tables
  pub count : length a.instructions ≡ length b.instructions

pub alike_joined : (a b x y : Code) → Alike a b → x ≡ y → Alike (append a x) (append b y)
alike_joined a b x y alike same = record {
  tables = ap (λ (t : DataTables). joined_tables t x.tables) alike.tables
      ∙ ap (λ (z : Code). joined_tables b.tables z.tables) same;
  count = omega (
    arith,
    alike.count,
    length-append a.instructions x.instructions,
    length-append b.instructions y.instructions,
    ap (λ (z : Code). length z.instructions) same,
  );
}

-- A piece is the same after codes that are alike.
pub record Blind (piece : Fragment) : Type 0 where
  pub by : (a b : Code) → Alike a b → piece a ≡ piece b

pub blind_as : (one other : Fragment) → ((before : Code) → one before ≡ other before) → Blind other → Blind one
blind_as one other same blind = record { by = λ a b alike. same a ∙ blind.by a b alike ∙ sym_at b }
  where
    sym_at : (b : Code) → other b ≡ one b
    sym_at b = cc (same b)

-- ---- how pieces are put together

pub constant_blind : (part : Code) → Blind (λ before. part)
constant_blind part = record { by = λ a b alike. refl }

-- by the tables before it alone, and by the number of instructions alone
pub tables_blind : (part : DataTables → Code) → Blind (λ before. part before.tables)
tables_blind part = record { by = λ a b alike. ap part alike.tables }

pub count_blind : (part : ℕ → Code) → Blind (λ before. part (length before.instructions))
count_blind part = record { by = λ a b alike. ap part alike.count }

pub both_blind : (first second : Fragment) → Blind first → Blind second → Blind (sequence first second)
both_blind first second f g = record {
  by = λ a b alike.
      let same = f.by a b alike in
      ap (λ (z : Code). append z (second (append a (first a)))) same
      ∙ ap (append (first b))
      (g.by (append a (first a)) (append b (first b)) (alike_joined a b (first a) (first b) alike same));
}

pub in_order_blind : {A : Type 0} (piece : A → Fragment) → ((one : A) → Blind (piece one)) → (all : List A)
    → Blind (in_order piece all)
in_order_blind piece f [] = constant_blind empty_code
in_order_blind piece f (one ∷ more) = both_blind (piece one) (in_order piece more) (f one) (in_order_blind piece f more)

-- ---- instructions on data

pub work_blind : (one : DataInstruction) → Blind (work_fragment one)
work_blind one = constant_blind (plain_code (instruction.Data one ∷ []))

pub works_blind : (all : List DataInstruction) → Blind (works_fragment all)
works_blind all = constant_blind (plain_code (map instruction.Data all))

pub number_blind : (x : Fraction) → Blind (number_fragment x)
number_blind x = tables_blind (λ (t : DataTables). record {
  tables = record no_tables { numbers = x ∷ [] };
  files = [];
  starts = [];
  instructions = instruction.Data (i.Literal (record { number = length t.numbers })) ∷ [];
})

pub text_blind : (bytes : List ℕ) → Blind (text_fragment bytes)
text_blind bytes = tables_blind (λ (t : DataTables). record {
  tables = record no_tables { texts = bytes ∷ [] };
  files = [];
  starts = [];
  instructions = instruction.Data (i.AppendLiteral (record { number = length t.texts })) ∷ [];
})

overlay_blind : (bytes marks : List ℕ) → Blind (overlay_fragment bytes marks)
overlay_blind bytes marks = tables_blind (λ (t : DataTables). record {
  tables = record no_tables { texts = bytes ∷ marks ∷ [] };
  files = [];
  starts = [];
  instructions = instruction.Data (i.Overlay (record { number = length t.texts })) ∷ [];
})

pattern_blind : (pattern : Pattern) → Blind (pattern_fragment pattern)
pattern_blind pattern = overlay_blind (map new_byte pattern) (map new_mark pattern)

-- an entry for a part
entry_blind : (one : DataItem) → Blind (entry_fragment one)
entry_blind one = tables_blind (λ (t : DataTables). record {
  tables = record no_tables { items = one ∷ [] };
  files = [];
  starts = [];
  instructions = instruction.Data (i.Place (record { number = length t.items })) ∷ [];
})

inspecting_blind : (make : InspectionIndex → DataInstruction) (one : Inspection) → Blind (inspecting_fragment make one)
inspecting_blind make one = tables_blind (λ (t : DataTables). record {
  tables = record no_tables { inspections = one ∷ [] };
  files = [];
  starts = [];
  instructions = instruction.Data (make (record { number = length t.inspections })) ∷ [];
})

literal_blind : (value : LiteralValue) → Blind (literal_fragment value)
literal_blind value = tables_blind (λ (t : DataTables). record {
  tables = record no_tables { senders = literal_entry (literal_sender value) ∷ [] };
  files = [];
  starts = [];
  instructions = instruction.Data (i.TakeLiteral (record { number = length t.senders })) ∷ [];
})

integer_blind : (n : ℕ) → Blind (integer_fragment n)
integer_blind n = number_blind (integer (pos n))

adjustment_blind : (one : Adjustment) → Blind (adjustment_fragment one)
adjustment_blind adjustment.Nothing = constant_blind empty_code
adjustment_blind (adjustment.Plus n) = both_blind (integer_fragment (number_of n)) (work_fragment (i.Calculate c.Add))
    (integer_blind (number_of n)) (work_blind (i.Calculate c.Add))
adjustment_blind (adjustment.Minus n) =
    both_blind (integer_fragment (number_of n)) (work_fragment (i.Calculate c.Subtract)) (integer_blind (number_of n))
    (work_blind (i.Calculate c.Subtract))

line_end_blind : (advancing : Bool) → Blind (line_end_fragment advancing)
line_end_blind true = text_blind (line_end true)
line_end_blind false = constant_blind empty_code

module _ (items : List LocatedItem) where
  subscript_blind : (one : written.Subscript) → Blind (subscript_fragment items one)
  subscript_blind (subscript.Literal n) = integer_blind (number_of n)
  subscript_blind (subscript.Item name adjusting) =
      both_blind (work_fragment (i.Place (item_index items name)))
      (sequence (work_fragment i.Push) (adjustment_fragment adjusting)) (work_blind (i.Place (item_index items name)))
      (both_blind (work_fragment i.Push) (adjustment_fragment adjusting) (work_blind i.Push)
      (adjustment_blind adjusting))

  pub subscripts_blind : (dimensions : List Dimension) (all : List written.Subscript)
      → Blind (subscripts_fragment items dimensions all)
  subscripts_blind [] all = constant_blind empty_code
  subscripts_blind (one ∷ more) [] = constant_blind empty_code
  subscripts_blind (one ∷ more) (written ∷ others) =
      both_blind (sequence (subscript_fragment items written) (work_fragment (index_code one)))
      (subscripts_fragment items more others)
      (both_blind (subscript_fragment items written) (work_fragment (index_code one)) (subscript_blind written)
      (work_blind (index_code one))) (subscripts_blind more others)

  place_blind : (found : Option LocatedItem) (one : Reference) (part : Option Part)
      → Blind (place_fragment items found one part)
  place_blind found one None = work_blind (i.Place (item_index items one.item))
  place_blind None one (Some part) = constant_blind empty_code
  place_blind (Some found) one (Some part) = entry_blind (part_entry found (Some part))

  unknown_blind : (length : Option written.Subscript) → Blind (unknown_fragment items length)
  unknown_blind None = work_blind (i.Part made.Rest)
  unknown_blind (Some length) =
      both_blind (subscript_fragment items length) (work_fragment (i.Part made.Counted)) (subscript_blind length)
      (work_blind (i.Part made.Counted))

  making_blind : (size : ℕ) (form : PartForm) → Blind (making_fragment items size form)
  making_blind size Whole = constant_blind empty_code
  making_blind size (Settled bytes) = constant_blind empty_code
  making_blind size (OfLength first) =
      both_blind (subscript_fragment items first) (work_fragment (i.Part (made.Fixed size))) (subscript_blind first)
      (work_blind (i.Part (made.Fixed size)))
  making_blind size (Counted first length) =
      both_blind (subscript_fragment items first) (unknown_fragment items (Some length)) (subscript_blind first)
      (unknown_blind (Some length))
  making_blind size (Rest first) =
      both_blind (subscript_fragment items first) (unknown_fragment items None) (subscript_blind first)
      (unknown_blind None)

  pub reference_blind : (one : Reference) → Blind (reference_fragment items one)
  reference_blind one =
      let found = slice_get items (item_number items one.item) in
      let form = part_form (found_size found) one.part in
      let place = place_fragment items found one one.part in
      let subscripts = subscripts_fragment items (dimensions_of found) one.subscripts in
      let making = making_fragment items (found_size found) form in
      both_blind place (sequence subscripts making) (place_blind found one one.part)
      (both_blind subscripts making (subscripts_blind (dimensions_of found) one.subscripts)
      (making_blind (found_size found) form))

  pub taking_blind : (taking : DataInstruction) (one : Reference) → Blind (take_fragment items taking one)
  taking_blind taking one =
      both_blind (reference_fragment items one) (work_fragment taking) (reference_blind one) (work_blind taking)

  pub sender_blind : (one : Operand) → Blind (sender_fragment items one)
  sender_blind (operand.Item one) = taking_blind i.Take one
  sender_blind (operand.Literal one) = literal_blind one.value

  operand_blind : (one : Operand) → Blind (operand_fragment items one)
  operand_blind (operand.Item one) = taking_blind i.Append one
  operand_blind (operand.Literal one) = text_blind (shown_literal one.value)

  initialize_blind : (one : Reference) → Blind (initialize_fragment items one)
  initialize_blind one =
      let pattern = pattern_of one (slice_get items (item_number items one.item)) in
      both_blind (reference_fragment items one) (pattern_fragment pattern) (reference_blind one) (pattern_blind pattern)

  set_blind : (one : Reference) → Blind (set_fragment items one)
  set_blind one =
      let place = i.Place (condition_item items one.item) in
      let dimensions = dimensions_of (slice_get items (condition_item items one.item).number) in
      let subscripts = subscripts_fragment items dimensions one.subscripts in
      let pattern = set_of (slice_get (all_conditions items) (condition_number items one.item)) in
      both_blind (work_fragment place) (sequence subscripts (pattern_fragment pattern)) (work_blind place)
      (both_blind subscripts (pattern_fragment pattern) (subscripts_blind dimensions one.subscripts)
      (pattern_blind pattern))

  pub moving_blind : (one : DataStatement) → Blind (data_fragment items one)
  moving_blind (Move sender receivers) =
      both_blind (sender_fragment items sender) (receivers_fragment items receivers) (sender_blind sender)
      (in_order_blind (take_fragment items i.Move) (λ one. taking_blind i.Move one) receivers)
  moving_blind (Initialize receivers) =
      in_order_blind (initialize_fragment items) (λ one. initialize_blind one) receivers
  moving_blind (Set conditions) = in_order_blind (set_fragment items) (λ one. set_blind one) conditions

  taken_blind : (one : InspectArgument) → Blind (taken_fragment items one)
  taken_blind (layout.Counter one) = reference_blind one
  taken_blind (layout.Text (layout.Bytes one)) = taking_blind (i.Gather (gather_by (room_of items one))) one
  taken_blind (layout.Text (layout.Characters text)) = text_blind text

  -- the place of a subject, and all of an inspection
  subject_blind : (subject : Reference) (make : InspectionIndex → DataInstruction) (one : InspectStatement)
      → Blind (sequence (reference_fragment items subject) (sequence (takings_fragment items (takings items one))
      (inspecting_fragment make (inspection_entry items one))))
  subject_blind subject make one =
      let parts = takings_fragment items (takings items one) in
      let last = inspecting_fragment make (inspection_entry items one) in
      both_blind (reference_fragment items subject) (sequence parts last) (reference_blind subject)
      (both_blind parts last (in_order_blind (taken_fragment items) (λ one. taken_blind one) (takings items one))
      (inspecting_blind make (inspection_entry items one)))

  pub texts_blind : (one : TextStatement) → Blind (texts_fragment items one)
  texts_blind (Display operands advancing) =
      both_blind (sequence (operands_fragment items operands) (line_end_fragment advancing)) show_fragment
      (both_blind (operands_fragment items operands) (line_end_fragment advancing)
      (in_order_blind (operand_fragment items) (λ one. operand_blind one) operands) (line_end_blind advancing))
      (constant_blind (plain_code (instruction.Show ∷ [])))
  texts_blind (Accept receiver) =
      both_blind (reference_fragment items receiver) (λ before. plain_code (instruction.Accept ∷ []))
      (reference_blind receiver) (constant_blind (plain_code (instruction.Accept ∷ [])))
  texts_blind (AcceptDate receiver) =
      both_blind (reference_fragment items receiver) (λ before. plain_code (instruction.Date ∷ []))
      (reference_blind receiver) (constant_blind (plain_code (instruction.Date ∷ [])))
  texts_blind (Inspect one) =
      subject_blind one.subject (λ index. inspect_by index (taken_numbers items (takings items one))) one
  texts_blind (Convert one) =
      let as_one = as_replacing one in
      subject_blind one.subject (λ index. convert_by index (taken_numbers items (takings items as_one))) as_one
