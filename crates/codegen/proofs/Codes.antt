-- The code of references, MOVE, DISPLAY and ACCEPT is what the laws of instructions on data speak of, where the rules
-- are kept.
use Rattle.std.proofs.Common.{◌≡◌, ℕ, Bool, true, false, List, [], ◌∷◌, ◌++◌, length, map, Some, None, Option, refl}
use Rattle.std.proofs.Common.{sym, ap, subst, ◌∙◌, arith, append_assoc}
use Rattle.std.specs.Prelude.{slice_get, not, ◌==◌}
use Rattle.std.proofs.lemmas.Bool.Decides.{nat_tests}
use Rattle.lexical.specs.declared.place.Place.{Place}
use Rattle.source_tree.specs.declared.reference.QualifiedName.{QualifiedName}
use Rattle.source_tree.specs.declared.reference.Adjustment.{Adjustment}
use Rattle.source_tree.specs.declared.reference.Adjustment.TheVariants as adjustment
use Rattle.source_tree.specs.declared.reference.Subscript as written
use Rattle.source_tree.specs.declared.reference.Subscript.TheVariants as subscript
use Rattle.source_tree.specs.declared.reference.Reference.{Reference}
use Rattle.source_tree.specs.declared.expression.Operand.{Operand}
use Rattle.source_tree.specs.declared.expression.Operand.TheVariants as operand
use Rattle.source_tree.specs.declared.table.Dimension.{Dimension}
use Rattle.source_tree.specs.Broken.{RuleBreach, where_so, each}
use Rattle.source_tree.specs.Display.{shown_literal, line_end}
use Rattle.source_tree.specs.Integers.{number_of}
use Rattle.source_tree.specs.LookUp.{items_named, first}
use Rattle.source_tree.specs.MoveRules.{sent_by, receives, move_rules}
use Rattle.source_tree.specs.NameRules.{unique_name_rules, is_integer_kind, subscript_item, subscript_rules}
use Rattle.source_tree.specs.NameRules.{adjustment_rules, reference_rules, any_item, operand_rules, part_item_rules}
use Rattle.source_tree.specs.NameRules.{length_rules, part_rules, number_rules_of}
use Rattle.source_tree.specs.Parts.{known_length, seen_through}
use Rattle.source_tree.specs.declared.reference.Part.{Part}
use Rattle.source_tree.specs.Places.{LocatedItem}
use Rattle.source_tree.specs.TextRules.{shown_rules, display_rules, accept_line_rules, accept_date_rules}
use Rattle.source_tree.specs.Accepting.{date_sender}
use Rattle.data_instructions.specs.declared.calculation.Calculation.TheVariants as calculation
use Rattle.data_instructions.specs.declared.instruction.DataInstruction.{DataInstruction}
use Rattle.data_instructions.specs.declared.instruction.DataInstruction.TheVariants as i
use Rattle.data_instructions.specs.declared.index.ItemIndex.{ItemIndex}
use Rattle.data_instructions.specs.declared.part.Part.TheVariants as made
use Rattle.data_instructions.specs.PartForms.{PartForm, Whole, Settled, OfLength, Counted, Rest, known_begin, form_by}
use Rattle.data_instructions.specs.PartForms.{part_form, part_entry}
use Rattle.data_instructions.specs.Codes.{IsPartCode, data_item, index_code, HasItem, IsAdjustmentCode, IsSubscriptCode}
use Rattle.data_instructions.specs.Codes.{AreSubscriptsCode, IsReferenceCode, IsTakingCode, IsSenderCode}
use Rattle.data_instructions.specs.Codes.{AreReceiversCode, IsMoveCode, IsTextCode, IsOperandCode, AreOperandsCode}
use Rattle.data_instructions.specs.Codes.{IsLineEndCode, IsDisplayCode}
use Rattle.code_image.specs.declared.code.Code.{Code}
use Rattle.code_image.specs.declared.instruction.Instruction.{Instruction}
use Rattle.code_image.specs.declared.instruction.Instruction.TheVariants.{Data, Accept, Date}
use Rattle.condition_codegen.specs.Fragments.{append, sequence, plain_code}
use Rattle.condition_codegen.specs.DataCode.{item_number, item_index, dimensions_of, work_fragment, integer_fragment}
use Rattle.condition_codegen.specs.DataCode.{adjustment_fragment, text_fragment, literal_fragment, line_end_fragment}
use Rattle.condition_codegen.specs.DataCode.{subscript_fragment, subscripts_fragment, reference_fragment}
use Rattle.condition_codegen.specs.DataCode.{entry_fragment, place_fragment, making_fragment, referred_fragment}
use Rattle.condition_codegen.specs.DataCode.{take_fragment, sender_fragment, receivers_fragment, move_fragment}
use Rattle.condition_codegen.specs.DataCode.{operand_fragment, operands_fragment, accept_fragment, date_fragment}
use Rattle.condition_codegen.proofs.Integers.{kept, not_false, small_integer}
use Rattle.codegen.proofs.Standing.{Stands, front, back, number_stands, item_stands, sender_stands, text_stands}
use Rattle.condition_codegen.proofs.Lists.{left_none, right_none, map_both}
use Rattle.statement_codegen.proofs.NamedItems.{only_named, item_there}

-- ---- code that stands in the whole

-- an instruction on data, and others in two pieces
all_data : (one : DataInstruction) (first last : List DataInstruction) (a b c : List Instruction) → a ≡ Data one ∷ []
    → b ≡ map Data first
    → c ≡ map Data last
    → a ++ (b ++ c) ≡ map Data (one ∷ (first ++ last))
all_data one first last a b c e f g =
    ap (λ l. l ++ (b ++ c)) e ∙ ap (λ l. Data one ∷ (l ++ c)) f ∙ ap (λ l. Data one ∷ (map Data first ++ l)) g
    ∙ ap (λ l. Data one ∷ l) (sym (map_both Data first last))

-- The instructions of a part are these on data, and of them something holds.
pub record Coded (P : List DataInstruction → Type 0) (part : Code) : Type 0 where
  pub code : List DataInstruction
  pub is : part.instructions ≡ map Data code
  pub holds : P code

module _ (items : List LocatedItem) (whole : Code) (entries : (n : ℕ) (one : LocatedItem) → slice_get items n ≡ Some one
    → slice_get whole.tables.items n ≡ Some (data_item one)) where
  has_item : (name : QualifiedName) (one : LocatedItem) → items_named items name ≡ one ∷ []
      → HasItem items whole.tables name (item_index items name) one
  has_item name one e =
      record { named = ap first e; entry = entries (item_number items name) one (item_there items name one e) }

  -- ---- subscripts

  adjustment_coded : (one : Adjustment) (before : Code) → adjustment_rules one ≡ []
      → Stands whole before (adjustment_fragment one before)
      → Coded (IsAdjustmentCode items whole.tables one) (adjustment_fragment one before)
  adjustment_coded adjustment.Nothing before e st = record { code = []; is = refl; holds = refl }
  adjustment_coded (adjustment.Plus n) before e st =
      let a = integer_fragment (number_of n) before in
      record {
        code = i.Literal (record { number = length before.tables.numbers }) ∷ i.Calculate calculation.Add ∷ [];
        is = refl;
        holds = (
          _,
          record {
            entry = number_stands whole before a _ [] refl
                (front whole before a (work_fragment (i.Calculate calculation.Add) (append before a)) st);
            small = small_integer n e;
          },
          refl,
        );
      }
  adjustment_coded (adjustment.Minus n) before e st =
      let a = integer_fragment (number_of n) before in
      record {
        code = i.Literal (record { number = length before.tables.numbers }) ∷ i.Calculate calculation.Subtract ∷ [];
        is = refl;
        holds = (
          _,
          record {
            entry = number_stands whole before a _ [] refl
                (front whole before a (work_fragment (i.Calculate calculation.Subtract) (append before a)) st);
            small = small_integer n e;
          },
          refl,
        );
      }

  -- the item of a subscript is an integer
  integer_kind : (place : Place) (one : LocatedItem) → subscript_item place one ≡ []
      → is_integer_kind one.item.kind ≡ true
  integer_kind place one e =
      let test = where_so (not (length one.dimensions == 0)) 50 place in
      not_false (is_integer_kind one.item.kind) (kept (not (is_integer_kind one.item.kind)) 51 place
      (right_none test (where_so (not (is_integer_kind one.item.kind)) 51 place) e))

  subscript_coded : (one : written.Subscript) (before : Code) → subscript_rules items one ≡ []
      → Stands whole before (subscript_fragment items one before)
      → Coded (IsSubscriptCode items whole.tables one) (subscript_fragment items one before)
  subscript_coded (subscript.Literal n) before e st = record {
    code = i.Literal (record { number = length before.tables.numbers }) ∷ [];
    is = refl;
    holds = (
      _,
      record {
        entry = number_stands whole before (integer_fragment (number_of n) before) _ [] refl st;
        small = small_integer n e;
      },
      refl,
    );
  }
  subscript_coded (subscript.Item name adjusting) before e st =
      let place = i.Place (item_index items name) in
      let a = work_fragment place before in
      let b = work_fragment i.Push (append before a) in
      let c = adjustment_fragment adjusting (append (append before a) b) in
      let rules = unique_name_rules name.name.place (subscript_item name.name.place) (items_named items name) in
      let only = only_named name.name.place (subscript_item name.name.place) (items_named items name)
      (left_none rules (adjustment_rules adjusting) e) in
      let more =
      adjustment_coded adjusting (append (append before a) b) (right_none rules (adjustment_rules adjusting) e)
      (back whole (append before a) b c (back whole before a (append b c) st)) in
      record {
        code = place ∷ i.Push ∷ more.code;
        is = ap (λ l. Data place ∷ Data i.Push ∷ l) more.is;
        holds = (
          item_index items name,
          only.0,
          has_item name only.0 only.1,
          integer_kind name.name.place only.0 only.2,
          more.code,
          more.holds,
          refl,
        );
      }

  -- as many as there are dimensions
  pub subscripts_coded : (dimensions : List Dimension) (all : List written.Subscript) (before : Code)
      → length all ≡ length dimensions → each (subscript_rules items) all ≡ []
      → Stands whole before (subscripts_fragment items dimensions all before)
      → Coded (AreSubscriptsCode items whole.tables dimensions all) (subscripts_fragment items dimensions all before)
  subscripts_coded [] [] before count e st = record { code = []; is = refl; holds = refl }
  subscripts_coded [] (one ∷ more) before count e st = absurd (omega arith)
  subscripts_coded (one ∷ more) [] before count e st = absurd (omega arith)
  subscripts_coded (one ∷ more) (written ∷ others) before count e st =
      let a = subscript_fragment items written before in
      let index = index_code one in
      let b = work_fragment index (append before a) in
      let c = subscripts_fragment items more others (append before (append a b)) in
      let whole_part = front whole before (append a b) c st in
      let first =
      subscript_coded written before (left_none (subscript_rules items written) (each (subscript_rules items) others) e)
      (front whole before a b whole_part) in
      let rest = subscripts_coded more others (append before (append a b)) (omega (arith, count))
      (right_none (subscript_rules items written) (each (subscript_rules items) others) e)
      (back whole before (append a b) c st) in
      record {
        code = first.code ++ (index ∷ rest.code);
        is = ap (λ l. (l ++ Data index ∷ []) ++ c.instructions) first.is
            ∙ ap (λ l. (map Data first.code ++ Data index ∷ []) ++ l) rest.is
            ∙ append_assoc (map Data first.code) (Data index ∷ []) (map Data rest.code)
            ∙ sym (map_both Data first.code (index ∷ rest.code));
        holds = (first.code, first.holds, rest.code, rest.holds, refl);
      }

  -- ---- references

  dimensions_there : (name : QualifiedName) (one : LocatedItem) → items_named items name ≡ one ∷ []
      → dimensions_of (slice_get items (item_number items name)) ≡ one.dimensions
  dimensions_there name one e = ap dimensions_of (item_there items name one e)

  -- the item of a reference that keeps its rules, the number of its subscripts, and what is asked of what it shows
  pub record Keeps (asked : Place → LocatedItem → List RuleBreach) (one : Reference) : Type 0 where
    pub found : LocatedItem
    pub named : items_named items one.item ≡ found ∷ []
    pub count : length one.subscripts ≡ length found.dimensions
    pub asks : asked one.item.name.place (seen_through one found) ≡ []
    pub numbers : number_rules_of items one ≡ []

  pub keeps : (asked : Place → LocatedItem → List RuleBreach) (one : Reference) → reference_rules items asked one ≡ []
      → Keeps asked one
  keeps asked one e =
      let place = one.item.name.place in
      let test = λ (found : LocatedItem). length one.subscripts == length found.dimensions in
      let counts = λ (found : LocatedItem). where_so (not (test found)) 50 place in
      let rules =
      λ (found : LocatedItem). counts found ++ part_item_rules one found ++ asked place (seen_through one found) in
      let only = only_named place rules (items_named items one.item) (left_none
      (unique_name_rules place rules (items_named items one.item)) (number_rules_of items one) e) in
      let front =
      left_none (counts only.0 ++ part_item_rules one only.0) (asked place (seen_through one only.0)) only.2 in
      record {
        found = only.0;
        named = only.1;
        count = same (length one.subscripts) (length only.0.dimensions) (not_false (test only.0)
            (kept (not (test only.0)) 50 place (left_none (counts only.0) (part_item_rules one only.0) front)));
        asks = right_none (counts only.0 ++ part_item_rules one only.0) (asked place (seen_through one only.0)) only.2;
        numbers = right_none (unique_name_rules place rules (items_named items one.item)) (number_rules_of items one) e;
      }
    where
      same : (n m : ℕ) → (n == m) ≡ true → n ≡ m
      same n m e = grind (arith, nat_tests)

  -- two codes one after the other
  both_coded : (P Q R : List DataInstruction → Type 0) (a b : Code) → Coded P a → Coded Q b
      → ((front back : List DataInstruction) → P front → Q back → R (front ++ back)) → Coded R (append a b)
  both_coded P Q R a b front back h = record {
    code = front.code ++ back.code;
    is = ap (λ l. l ++ b.instructions) front.is ∙ ap (λ l. map Data front.code ++ l) back.is
        ∙ sym (map_both Data front.code back.code);
    holds = h front.code back.code front.holds back.holds;
  }

  -- ---- parts

  -- the numbers that make a part keep their rules
  abbrev KeepsNumbers : PartForm → Type 0
  KeepsNumbers Whole = Unit {0}
  KeepsNumbers (Settled bytes) = Unit {0}
  KeepsNumbers (OfLength first) = subscript_rules items first ≡ []
  KeepsNumbers (Counted first length) = (subscript_rules items first ≡ []) × (subscript_rules items length ≡ [])
  KeepsNumbers (Rest first) = subscript_rules items first ≡ []

  numbers_kept : (size : ℕ) (part : Option Part) → part_rules items part ≡ [] → KeepsNumbers (part_form size part)
  numbers_kept size None e = tt
  numbers_kept size (Some part) e =
      let known = known_length size part.first part.length in
      let first = left_none (subscript_rules items part.first) (length_rules items part.length) e in
      let second = right_none (subscript_rules items part.first) (length_rules items part.length) e in
      by_form part.first part.length known (known_begin size part.first known) first second
    where
      by_form : (first : written.Subscript) (length : Option written.Subscript) (known begin : Option ℕ)
          → subscript_rules items first ≡ [] → length_rules items length ≡ []
          → KeepsNumbers (form_by first length known begin)
      by_form first length known (Some bytes) e f = tt
      by_form first length (Some n) None e f = e
      by_form first (Some length) None None e f = (e, f)
      by_form first None None None e f = e

  -- a number, and an instruction
  number_coded : (P : List DataInstruction → Type 0) (first : written.Subscript) (one : DataInstruction) (before : Code)
      → subscript_rules items first ≡ []
      → Stands whole before (sequence (subscript_fragment items first) (work_fragment one) before)
      → ((front : List DataInstruction) → IsSubscriptCode items whole.tables first front → P (front ++ (one ∷ [])))
      → Coded P (sequence (subscript_fragment items first) (work_fragment one) before)
  number_coded P first one before e st holds =
      let a = subscript_fragment items first before in
      let b = work_fragment one (append before a) in
      both_coded (IsSubscriptCode items whole.tables first) (λ code. code ≡ one ∷ []) P a b
      (subscript_coded first before e (front whole before a b st)) (record { code = one ∷ []; is = refl; holds = refl })
      (λ front last is only. subst (λ l. P (front ++ l)) (sym only) (holds front is))

  making_coded : (size : ℕ) (form : PartForm) (before : Code) → KeepsNumbers form
      → Stands whole before (making_fragment items size form before)
      → Coded (IsPartCode items whole.tables size form) (making_fragment items size form before)
  making_coded size Whole before e st = record { code = []; is = refl; holds = refl }
  making_coded size (Settled bytes) before e st = record { code = []; is = refl; holds = refl }
  making_coded size (OfLength first) before e st =
      number_coded (IsPartCode items whole.tables size (OfLength first)) first (i.Part (made.Fixed size)) before e st
      (λ front is. (front, is, refl))
  making_coded size (Counted first length) before e st =
      let a = subscript_fragment items first before in
      let b = sequence (subscript_fragment items length) (work_fragment (i.Part made.Counted)) (append before a) in
      let IsLast : List DataInstruction → Type 0 = λ code.
      (back : List DataInstruction) × IsSubscriptCode items whole.tables length back
      × (code ≡ back ++ (i.Part made.Counted ∷ [])) in
      both_coded (IsSubscriptCode items whole.tables first) IsLast
      (IsPartCode items whole.tables size (Counted first length)) a b
      (subscript_coded first before e.0 (front whole before a b st))
      (number_coded IsLast length (i.Part made.Counted) (append before a) e.1 (back whole before a b st)
      (λ back is. (back, is, refl)))
      (λ first last is more. (first, is, more.0, more.1, ap (λ l. first ++ l) more.2))
  making_coded size (Rest first) before e st =
      number_coded (IsPartCode items whole.tables size (Rest first)) first (i.Part made.Rest) before e st
      (λ front is. (front, is, refl))

  -- The place of an item, or of a part, whose entry stands in the whole.
  record PlaceCoded (found : LocatedItem) (part : Option Part) (code : Code) : Type 0 where
    index : ItemIndex
    is : code.instructions ≡ Data (i.Place index) ∷ []
    entry : slice_get whole.tables.items index.number ≡ Some (part_entry found part)

  place_coded : (one : Reference) (found : LocatedItem) → items_named items one.item ≡ found ∷ []
      → (part : Option Part) (before : Code) → Stands whole before (place_fragment items (Some found) one part before)
      → PlaceCoded found part (place_fragment items (Some found) one part before)
  place_coded one found named None before st = record {
    index = item_index items one.item;
    is = refl;
    entry = entries (item_number items one.item) found (item_there items one.item found named);
  }
  place_coded one found named (Some part) before st = record {
    index = record { number = length before.tables.items };
    is = refl;
    entry = item_stands whole before (entry_fragment (part_entry found (Some part)) before) _ [] refl st;
  }

  -- a reference whose place, subscripts and part have these codes
  made_reference :
      (one : Reference) (found : LocatedItem) (index : ItemIndex) (subscripts making : List DataInstruction)
      (part : Code)
      → first (items_named items one.item) ≡ Some found
      → slice_get whole.tables.items index.number ≡ Some (part_entry found one.part)
      → AreSubscriptsCode items whole.tables found.dimensions one.subscripts subscripts
      → IsPartCode items whole.tables found.item.length (part_form found.item.length one.part) making
      → part.instructions ≡ map Data (i.Place index ∷ (subscripts ++ making))
      → Coded (IsReferenceCode items whole.tables one) part
  made_reference one found index subscripts making part named entry each makes is = record {
    code = i.Place index ∷ (subscripts ++ making);
    is = is;
    holds = record {
      index = index;
      found = found;
      named = named;
      entry = entry;
      subscripts = subscripts;
      each = each;
      making = making;
      makes = makes;
      is = refl;
    };
  }

  referred_coded : (one : Reference) (found : LocatedItem) (before : Code) → items_named items one.item ≡ found ∷ []
      → length one.subscripts ≡ length found.dimensions → number_rules_of items one ≡ []
      → Stands whole before (referred_fragment items (Some found) one before)
      → Coded (IsReferenceCode items whole.tables one) (referred_fragment items (Some found) one before)
  referred_coded one found before named count e st =
      let form = part_form found.item.length one.part in
      let a = place_fragment items (Some found) one one.part before in
      let b = subscripts_fragment items found.dimensions one.subscripts (append before a) in
      let c = making_fragment items found.item.length form (append (append before a) b) in
      let behind = back whole before a (append b c) st in
      let place = place_coded one found named one.part before (front whole before a (append b c) st) in
      let more = subscripts_coded found.dimensions one.subscripts (append before a) count
      (left_none (each (subscript_rules items) one.subscripts) (part_rules items one.part) e)
      (front whole (append before a) b c behind) in
      let last = making_coded found.item.length form (append (append before a) b)
      (numbers_kept found.item.length one.part
      (right_none (each (subscript_rules items) one.subscripts) (part_rules items one.part) e))
      (back whole (append before a) b c behind) in
      made_reference one found place.index more.code last.code (append a (append b c)) (ap first named) place.entry
      more.holds last.holds
      (all_data (i.Place place.index) more.code last.code a.instructions b.instructions c.instructions place.is more.is
      last.is)

  pub reference_coded : (asked : Place → LocatedItem → List RuleBreach) (one : Reference) (before : Code)
      → reference_rules items asked one ≡ [] → Stands whole before (reference_fragment items one before)
      → Coded (IsReferenceCode items whole.tables one) (reference_fragment items one before)
  reference_coded asked one before e st =
      let k = keeps asked one e in
      let there = item_there items one.item k.found k.named in
      subst (λ o. Coded (IsReferenceCode items whole.tables one) (referred_fragment items o one before)) (sym there)
      (referred_coded one k.found before k.named k.count k.numbers
      (subst (λ o. Stands whole before (referred_fragment items o one before)) there st))

  pub taking_coded :
      (taking : DataInstruction) (asked : Place → LocatedItem → List RuleBreach) (one : Reference) (before : Code)
      → reference_rules items asked one ≡ [] → Stands whole before (take_fragment items taking one before)
      → Coded (IsTakingCode items whole.tables taking one) (take_fragment items taking one before)
  taking_coded taking asked one before e st =
      let a = reference_fragment items one before in
      let b = work_fragment taking (append before a) in
      both_coded (IsReferenceCode items whole.tables one) (λ code. code ≡ taking ∷ [])
      (IsTakingCode items whole.tables taking one) a b (reference_coded asked one before e (front whole before a b st))
      (record { code = taking ∷ []; is = refl; holds = refl })
      (λ first last is only. (first, is, ap (λ l. first ++ l) only))

  -- ---- MOVE

  pub sender_coded : (one : Operand) (before : Code)
      → operand_rules items one ≡ [] → Stands whole before (sender_fragment items one before)
      → Coded (IsSenderCode items whole.tables one) (sender_fragment items one before)
  sender_coded (operand.Item one) before e st = taking_coded i.Take any_item one before e st
  sender_coded (operand.Literal one) before e st = record {
    code = i.TakeLiteral (record { number = length before.tables.senders }) ∷ [];
    is = refl;
    holds = (_, _, sender_stands whole before (literal_fragment one.value before) _ [] refl st, refl, refl);
  }

  pub receivers_coded : (asked : Place → LocatedItem → List RuleBreach) (all : List Reference) (before : Code)
      → each (reference_rules items asked) all ≡ [] → Stands whole before (receivers_fragment items all before)
      → Coded (AreReceiversCode items whole.tables all) (receivers_fragment items all before)
  receivers_coded asked [] before e st = record { code = []; is = refl; holds = refl }
  receivers_coded asked (one ∷ more) before e st =
      let a = take_fragment items i.Move one before in
      let b = receivers_fragment items more (append before a) in
      both_coded (IsTakingCode items whole.tables i.Move one) (AreReceiversCode items whole.tables more)
      (AreReceiversCode items whole.tables (one ∷ more)) a b
      (taking_coded i.Move asked one before (left_none (reference_rules items asked one)
      (each (reference_rules items asked) more) e) (front whole before a b st))
      (receivers_coded asked more (append before a) (right_none (reference_rules items asked one)
      (each (reference_rules items asked) more) e) (back whole before a b st))
      (λ first last is others. (first, is, last, others, refl))

  pub move_coded : (sender : Operand) (receivers : List Reference) (before : Code)
      → move_rules items sender receivers ≡ [] → Stands whole before (move_fragment items sender receivers before)
      → Coded (IsMoveCode items whole.tables sender receivers) (move_fragment items sender receivers before)
  move_coded sender receivers before e st =
      let asked = receives (sent_by items sender) in
      let a = sender_fragment items sender before in
      let b = receivers_fragment items receivers (append before a) in
      both_coded (IsSenderCode items whole.tables sender) (AreReceiversCode items whole.tables receivers)
      (IsMoveCode items whole.tables sender receivers) a b
      (sender_coded sender before (left_none (operand_rules items sender) (each (reference_rules items asked) receivers)
      e) (front whole before a b st))
      (receivers_coded asked receivers (append before a) (right_none (operand_rules items sender)
      (each (reference_rules items asked) receivers) e) (back whole before a b st))
      (λ first last is others. (first, is, last, others, refl))

  -- ---- DISPLAY

  pub text_coded : (bytes : List ℕ) (before : Code) → Stands whole before (text_fragment bytes before)
      → Coded (IsTextCode items whole.tables bytes) (text_fragment bytes before)
  text_coded bytes before st = record {
    code = i.AppendLiteral (record { number = length before.tables.texts }) ∷ [];
    is = refl;
    holds = (_, text_stands whole before (text_fragment bytes before) _ [] refl st, refl);
  }

  operand_coded : (one : Operand) (before : Code)
      → shown_rules items one ≡ [] → Stands whole before (operand_fragment items one before)
      → Coded (IsOperandCode items whole.tables one) (operand_fragment items one before)
  operand_coded (operand.Item one) before e st = taking_coded i.Append any_item one before e st
  operand_coded (operand.Literal one) before e st = text_coded (shown_literal one.value) before st

  operands_coded : (all : List Operand) (before : Code) → display_rules items all ≡ []
      → Stands whole before (operands_fragment items all before)
      → Coded (AreOperandsCode items whole.tables all) (operands_fragment items all before)
  operands_coded [] before e st = record { code = []; is = refl; holds = refl }
  operands_coded (one ∷ more) before e st =
      let a = operand_fragment items one before in
      let b = operands_fragment items more (append before a) in
      both_coded (IsOperandCode items whole.tables one) (AreOperandsCode items whole.tables more)
      (AreOperandsCode items whole.tables (one ∷ more)) a b
      (operand_coded one before (left_none (shown_rules items one) (each (shown_rules items) more) e)
      (front whole before a b st))
      (operands_coded more (append before a) (right_none (shown_rules items one) (each (shown_rules items) more) e)
      (back whole before a b st))
      (λ first last is others. (first, is, last, others, refl))

  line_end_coded : (advancing : Bool) (before : Code) → Stands whole before (line_end_fragment advancing before)
      → Coded (IsLineEndCode items whole.tables advancing) (line_end_fragment advancing before)
  line_end_coded true before st = text_coded (line_end true) before st
  line_end_coded false before st = record { code = []; is = refl; holds = refl }

  pub display_coded : (operands : List Operand) (advancing : Bool) (before : Code) → display_rules items operands ≡ []
      → Stands whole before (sequence (operands_fragment items operands) (line_end_fragment advancing) before)
      → Coded (IsDisplayCode items whole.tables operands advancing)
      (sequence (operands_fragment items operands) (line_end_fragment advancing) before)
  display_coded operands advancing before e st =
      let a = operands_fragment items operands before in
      let b = line_end_fragment advancing (append before a) in
      both_coded (AreOperandsCode items whole.tables operands) (IsLineEndCode items whole.tables advancing)
      (IsDisplayCode items whole.tables operands advancing) a b
      (operands_coded operands before e (front whole before a b st))
      (line_end_coded advancing (append before a) (back whole before a b st))
      (λ first last is others. (first, is, last, others, refl))

  -- ---- ACCEPT

  pub accept_coded : (receiver : Reference) (before : Code) → accept_line_rules items receiver ≡ []
      → Stands whole before (accept_fragment items receiver before)
      → Coded (IsReferenceCode items whole.tables receiver) (reference_fragment items receiver before)
  accept_coded receiver before e st = reference_coded any_item receiver before e
      (front whole before (reference_fragment items receiver before) (plain_code (Accept ∷ [])) st)

  pub date_coded : (receiver : Reference) (before : Code) → accept_date_rules items receiver ≡ []
      → Stands whole before (date_fragment items receiver before)
      → Coded (IsReferenceCode items whole.tables receiver) (reference_fragment items receiver before)
  date_coded receiver before e st =
      reference_coded (receives (Some (date_sender []).taken)) receiver before e
      (front whole before (reference_fragment items receiver before) (plain_code (Date ∷ [])) st)
