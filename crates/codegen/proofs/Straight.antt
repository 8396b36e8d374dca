-- The code of references and of statements on data is straight: it counts nothing and leads nowhere.
use Rattle.std.proofs.Common.{◌≡◌, List, [], ◌∷◌, ◌++◌, map, true, false, Bool, refl, ap, ◌∙◌, Option, Some, None}
use Rattle.std.specs.Prelude.{ℕ, pos, slice_get, not}
use Rattle.std.specs.List.{AllByRecursion}
use Rattle.decimal18.specs.Fraction.{Fraction}
use Rattle.items.specs.Items.{IsTaken}
use Rattle.source_tree.specs.declared.expression.Operand.{Operand}
use Rattle.source_tree.specs.declared.expression.Operand.TheVariants as operand
use Rattle.source_tree.specs.declared.reference.Adjustment.{Adjustment}
use Rattle.source_tree.specs.declared.reference.Adjustment.TheVariants as adjustment
use Rattle.source_tree.specs.declared.reference.Subscript as written
use Rattle.source_tree.specs.declared.reference.Subscript.TheVariants as subscript
use Rattle.source_tree.specs.declared.reference.Part.{Part}
use Rattle.source_tree.specs.declared.reference.Reference.{Reference}
use Rattle.source_tree.specs.InspectLayout.{found_size}
use Rattle.source_tree.specs.declared.table.Dimension.{Dimension}
use Rattle.source_tree.specs.declared.data_statement.DataStatement.{DataStatement}
use Rattle.source_tree.specs.declared.data_statement.DataStatement.TheVariants.{Move, Initialize, Set}
use Rattle.source_tree.specs.Broken.{each}
use Rattle.source_tree.specs.Display.{shown_literal, line_end}
use Rattle.source_tree.specs.Integers.{number_of}
use Rattle.source_tree.specs.MoveRules.{sent_by, receives}
use Rattle.source_tree.specs.NameRules.{reference_rules, operand_rules, form_rule}
use Rattle.source_tree.specs.Places.{LocatedItem}
use Rattle.source_tree.specs.Initializing.{Pattern}
use Rattle.source_tree.specs.LookUp.{all_conditions}
use Rattle.source_tree.specs.Rules.{moving_rules}
use Rattle.source_tree.specs.ValueRules.{has_form}
use Rattle.data_entries.proofs.Forms.{sender_formed}
use Rattle.data_instructions.specs.declared.tables.DataItem.{DataItem}
use Rattle.data_instructions.specs.declared.tables.LiteralSender.{LiteralSender}
use Rattle.data_instructions.specs.declared.part.Part.TheVariants as made
use Rattle.data_instructions.specs.PartForms.{PartForm, Whole, Settled, OfLength, Counted, Rest, part_form, part_entry}
use Rattle.data_instructions.specs.Tables.{IsInspection}
use Rattle.data_instructions.specs.declared.calculation.Calculation.TheVariants as c
use Rattle.data_instructions.specs.declared.instruction.DataInstruction.{DataInstruction}
use Rattle.data_instructions.specs.declared.instruction.DataInstruction.TheVariants as i
use Rattle.data_instructions.specs.Codes.{integer, index_code}
use Rattle.code_image.specs.declared.code.Code.{Code}
use Rattle.code_image.specs.declared.instruction.Instruction.{Instruction}
use Rattle.code_image.specs.declared.instruction.Instruction.TheVariants as instruction
use Rattle.condition_codegen.specs.Fragments.{Fragment, empty_code, append, sequence, in_order, plain_code}
use Rattle.condition_codegen.specs.DataCode.{item_index, item_number, dimensions_of, work_fragment, works_fragment}
use Rattle.condition_codegen.specs.DataCode.{number_fragment, integer_fragment, adjustment_fragment, text_fragment}
use Rattle.condition_codegen.specs.DataCode.{line_end_fragment, subscript_fragment, subscripts_fragment}
use Rattle.condition_codegen.specs.DataCode.{reference_fragment, take_fragment, sender_fragment, receivers_fragment}
use Rattle.condition_codegen.specs.DataCode.{operand_fragment, place_fragment, unknown_fragment, making_fragment}
use Rattle.condition_codegen.specs.ConditionCode.{condition_number, condition_item}
use Rattle.condition_codegen.specs.PatternCode.{pattern_fragment, pattern_of, set_of, initialize_fragment, set_fragment}
use Rattle.codegen.specs.Layout.{data_fragment}
use Rattle.condition_codegen.proofs.Lists.{left_none, all_both}
use Rattle.condition_codegen.proofs.Integers.{kept, not_false}

-- a sender has the bytes of what it counts as
abbrev pub IsSent : LiteralSender → Type 0
IsSent one = IsTaken one.taken one.bytes

abbrev pub IsStraight : Instruction → Type 0
IsStraight (instruction.Data one) = Unit {0}
IsStraight instruction.Show = Unit {0}
IsStraight instruction.Accept = Unit {0}
IsStraight instruction.Date = Unit {0}
IsStraight (instruction.Tick line) = ⊥
IsStraight instruction.Stop = ⊥
IsStraight (instruction.Count counter turns) = ⊥
IsStraight (instruction.CountNumber counter) = ⊥
IsStraight (instruction.Turn counter to) = ⊥
IsStraight (instruction.Branch to) = ⊥
IsStraight (instruction.Jump to) = ⊥
IsStraight instruction.Join = ⊥
IsStraight (instruction.Perform line first last) = ⊥
IsStraight (instruction.Back paragraph) = ⊥
IsStraight (instruction.File file verb) = ⊥
IsStraight (instruction.TestStatus class) = ⊥
IsStraight instruction.Unheard = ⊥

-- an entry of the table for a part of one of these items
pub record IsPartOf (items : List LocatedItem) (one : DataItem) : Type 0 where
  pub number : ℕ
  pub found : LocatedItem
  pub here : slice_get items number ≡ Some found
  pub part : Part
  pub is : one ≡ part_entry found (Some part)

-- A part of such instructions, without areas, files and starts of its own. Its items are parts of these. Its senders
-- have their bytes, and its inspections their texts.
pub record Straight (items : List LocatedItem) (part : Code) : Type 0 where
  pub instructions : AllByRecursion IsStraight part.instructions
  pub starts : part.starts ≡ []
  pub files : part.files ≡ []
  pub areas : part.tables.areas ≡ []
  pub entries : AllByRecursion (IsPartOf items) part.tables.items
  pub senders : AllByRecursion IsSent part.tables.senders
  pub inspections : AllByRecursion IsInspection part.tables.inspections

-- a piece, after whatever code
abbrev pub AlwaysStraight : List LocatedItem → Fragment → Type 0
AlwaysStraight items piece = (before : Code) → Straight items (piece before)

pub joined_straight : {items : List LocatedItem} (a b : Code) → Straight items a → Straight items b
    → Straight items (append a b)
joined_straight {items} a b f s = record {
  instructions = all_both IsStraight a.instructions b.instructions f.instructions s.instructions;
  starts = ap (λ l. l ++ b.starts) f.starts ∙ s.starts;
  files = ap (λ l. l ++ b.files) f.files ∙ s.files;
  areas = ap (λ l. l ++ b.tables.areas) f.areas ∙ s.areas;
  entries = all_both (IsPartOf items) a.tables.items b.tables.items f.entries s.entries;
  senders = all_both IsSent a.tables.senders b.tables.senders f.senders s.senders;
  inspections = all_both IsInspection a.tables.inspections b.tables.inspections f.inspections s.inspections;
}

pub both_straight : {items : List LocatedItem} (first second : Fragment) → AlwaysStraight items first
    → AlwaysStraight items second
    → AlwaysStraight items (sequence first second)
both_straight first second f s before =
    joined_straight (first before) (second (append before (first before))) (f before) (s (append before (first before)))

pub nothing_straight : {items : List LocatedItem} → Straight items empty_code
nothing_straight = record {
  instructions = tt;
  starts = refl;
  files = refl;
  areas = refl;
  entries = tt;
  senders = tt;
  inspections = tt;
}

pub in_order_straight : {items : List LocatedItem} {A : Type 0} (piece : A → Fragment)
    → ((one : A) → AlwaysStraight items (piece one)) → (all : List A)
    → AlwaysStraight items (in_order piece all)
in_order_straight piece straight [] before = nothing_straight
in_order_straight piece straight (one ∷ more) before =
    joined_straight (piece one before) (in_order piece more (append before (piece one before))) (straight one before)
    (in_order_straight piece straight more (append before (piece one before)))

data_straight : (all : List DataInstruction) → AllByRecursion IsStraight (map instruction.Data all)
data_straight [] = tt
data_straight (one ∷ more) = (tt, data_straight more)

pub works_straight : {items : List LocatedItem} (all : List DataInstruction) → AlwaysStraight items (works_fragment all)
works_straight all before = record {
  instructions = data_straight all;
  starts = refl;
  files = refl;
  areas = refl;
  entries = tt;
  senders = tt;
  inspections = tt;
}

pub work_straight : {items : List LocatedItem} (one : DataInstruction) → AlwaysStraight items (work_fragment one)
work_straight one = works_straight (one ∷ [])

pub number_straight : {items : List LocatedItem} (x : Fraction) → AlwaysStraight items (number_fragment x)
number_straight x before = record {
  instructions = (tt, tt);
  starts = refl;
  files = refl;
  areas = refl;
  entries = tt;
  senders = tt;
  inspections = tt;
}

adjustment_straight : {items : List LocatedItem} (one : Adjustment) → AlwaysStraight items (adjustment_fragment one)
adjustment_straight adjustment.Nothing before = nothing_straight
adjustment_straight (adjustment.Plus n) before =
    both_straight (integer_fragment (number_of n)) (work_fragment (i.Calculate c.Add))
    (number_straight (integer (pos (number_of n)))) (work_straight (i.Calculate c.Add)) before
adjustment_straight (adjustment.Minus n) before =
    both_straight (integer_fragment (number_of n)) (work_fragment (i.Calculate c.Subtract))
    (number_straight (integer (pos (number_of n)))) (work_straight (i.Calculate c.Subtract)) before

pub text_straight : {items : List LocatedItem} (bytes : List ℕ) → AlwaysStraight items (text_fragment bytes)
text_straight bytes before = record {
  instructions = (tt, tt);
  starts = refl;
  files = refl;
  areas = refl;
  entries = tt;
  senders = tt;
  inspections = tt;
}

pattern_straight : {items : List LocatedItem} (pattern : Pattern) → AlwaysStraight items (pattern_fragment pattern)
pattern_straight pattern before = record {
  instructions = (tt, tt);
  starts = refl;
  files = refl;
  areas = refl;
  entries = tt;
  senders = tt;
  inspections = tt;
}

pub line_end_straight : {items : List LocatedItem} (advancing : Bool)
    → AlwaysStraight items (line_end_fragment advancing)
line_end_straight true before = text_straight (line_end true) before
line_end_straight false before = nothing_straight

-- one instruction
pub one_straight : {items : List LocatedItem} (one : Instruction) → IsStraight one
    → AlwaysStraight items (λ before. plain_code (one ∷ []))
one_straight one h before = record {
  instructions = (h, tt);
  starts = refl;
  files = refl;
  areas = refl;
  entries = tt;
  senders = tt;
  inspections = tt;
}

module _ (items : List LocatedItem) where
  subscript_straight : (one : written.Subscript) → AlwaysStraight items (subscript_fragment items one)
  subscript_straight (subscript.Literal n) = number_straight (integer (pos (number_of n)))
  subscript_straight (subscript.Item name adjusting) =
      both_straight (work_fragment (i.Place (item_index items name))) (sequence (work_fragment i.Push)
      (adjustment_fragment adjusting)) (work_straight (i.Place (item_index items name)))
      (both_straight (work_fragment i.Push) (adjustment_fragment adjusting) (work_straight i.Push)
      (adjustment_straight adjusting))

  pub subscripts_straight : (dimensions : List Dimension) (all : List written.Subscript)
      → AlwaysStraight items (subscripts_fragment items dimensions all)
  subscripts_straight [] all before = nothing_straight
  subscripts_straight (one ∷ more) [] before = nothing_straight
  subscripts_straight (one ∷ more) (written ∷ others) before =
      both_straight (sequence (subscript_fragment items written) (work_fragment (index_code one)))
      (subscripts_fragment items more others)
      (both_straight (subscript_fragment items written) (work_fragment (index_code one)) (subscript_straight written)
      (work_straight (index_code one))) (subscripts_straight more others) before

  -- ---- parts

  place_straight : (found : Option LocatedItem) (one : Reference) → slice_get items (item_number items one.item) ≡ found
      → (part : Option Part) → AlwaysStraight items (place_fragment items found one part)
  place_straight found one there None before = work_straight (i.Place (item_index items one.item)) before
  place_straight None one there (Some part) before = nothing_straight
  place_straight (Some found) one there (Some part) before = record {
    instructions = (tt, tt);
    starts = refl;
    files = refl;
    areas = refl;
    entries = (
      record { number = item_number items one.item; found = found; here = there; part = part; is = refl },
      tt,
    );
    senders = tt;
    inspections = tt;
  }

  unknown_straight : (length : Option written.Subscript) → AlwaysStraight items (unknown_fragment items length)
  unknown_straight None = work_straight (i.Part made.Rest)
  unknown_straight (Some length) = both_straight (subscript_fragment items length) (work_fragment (i.Part made.Counted))
      (subscript_straight length) (work_straight (i.Part made.Counted))

  making_straight : (size : ℕ) (form : PartForm) → AlwaysStraight items (making_fragment items size form)
  making_straight size Whole before = nothing_straight
  making_straight size (Settled bytes) before = nothing_straight
  making_straight size (OfLength first) before =
      both_straight (subscript_fragment items first) (work_fragment (i.Part (made.Fixed size)))
      (subscript_straight first)
      (work_straight (i.Part (made.Fixed size))) before
  making_straight size (Counted first length) before =
      both_straight (subscript_fragment items first) (unknown_fragment items (Some length)) (subscript_straight first)
      (unknown_straight (Some length)) before
  making_straight size (Rest first) before =
      both_straight (subscript_fragment items first) (unknown_fragment items None) (subscript_straight first)
      (unknown_straight None) before

  pub reference_straight : (one : Reference) → AlwaysStraight items (reference_fragment items one)
  reference_straight one =
      let found = slice_get items (item_number items one.item) in
      let form = part_form (found_size found) one.part in
      let place = place_fragment items found one one.part in
      let subscripts = subscripts_fragment items (dimensions_of found) one.subscripts in
      let making = making_fragment items (found_size found) form in
      both_straight place (sequence subscripts making) (place_straight found one refl one.part)
      (both_straight subscripts making (subscripts_straight (dimensions_of found) one.subscripts)
      (making_straight (found_size found) form))

  pub taking_straight : (taking : DataInstruction) (one : Reference)
      → AlwaysStraight items (take_fragment items taking one)
  taking_straight taking one = both_straight (reference_fragment items one) (work_fragment taking)
      (reference_straight one) (work_straight taking)

  -- ---- MOVE, DISPLAY and ACCEPT

  pub sender_straight : (one : Operand) → operand_rules items one ≡ []
      → AlwaysStraight items (sender_fragment items one)
  sender_straight (operand.Item one) e before = taking_straight i.Take one before
  sender_straight (operand.Literal one) e before = record {
    instructions = (tt, tt);
    starts = refl;
    files = refl;
    areas = refl;
    entries = tt;
    senders = (
      sender_formed one.value
          (not_false (has_form one.value) (kept (not (has_form one.value)) (form_rule one.value) one.place e)),
      tt,
    );
    inspections = tt;
  }

  pub operand_straight : (one : Operand) → AlwaysStraight items (operand_fragment items one)
  operand_straight (operand.Item one) = taking_straight i.Append one
  operand_straight (operand.Literal one) = text_straight (shown_literal one.value)

  initialize_straight : (one : Reference) → AlwaysStraight items (initialize_fragment items one)
  initialize_straight one =
      let pattern = pattern_of one (slice_get items (item_number items one.item)) in
      both_straight (reference_fragment items one) (pattern_fragment pattern) (reference_straight one)
      (pattern_straight pattern)

  set_straight : (one : Reference) → AlwaysStraight items (set_fragment items one)
  set_straight one =
      let place = i.Place (condition_item items one.item) in
      let dimensions = dimensions_of (slice_get items (condition_item items one.item).number) in
      let subscripts = subscripts_fragment items dimensions one.subscripts in
      let pattern = set_of (slice_get (all_conditions items) (condition_number items one.item)) in
      both_straight (work_fragment place) (sequence subscripts (pattern_fragment pattern)) (work_straight place)
      (both_straight subscripts (pattern_fragment pattern) (subscripts_straight dimensions one.subscripts)
      (pattern_straight pattern))

  pub moving_straight : (one : DataStatement) → moving_rules items one ≡ []
      → AlwaysStraight items (data_fragment items one)
  moving_straight (Move sender receivers) e =
      both_straight (sender_fragment items sender) (receivers_fragment items receivers)
      (sender_straight sender (left_none
      (operand_rules items sender) (each (reference_rules items (receives (sent_by items sender))) receivers) e))
      (in_order_straight (take_fragment items i.Move) (taking_straight i.Move) receivers)
  moving_straight (Initialize receivers) e = in_order_straight (initialize_fragment items) initialize_straight receivers
  moving_straight (Set conditions) e = in_order_straight (set_fragment items) set_straight conditions
