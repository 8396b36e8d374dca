-- The code of arithmetic statements is what the laws of instructions on data speak of, where the rules are kept.
use Rattle.std.proofs.Common.{◌≡◌, ℕ, Bool, true, false, List, [], ◌∷◌, ◌++◌, Option, Some, None, refl, sym, ap, subst}
use Rattle.std.proofs.Common.{◌∙◌, append_assoc}
use Rattle.std.specs.Prelude.{slice_get, not}
use Rattle.picture.specs.declared.picture.Picture.{Picture}
use Rattle.items.specs.declared.item.Item.{Item}
use Rattle.items.specs.declared.item.Kind.{Kind}
use Rattle.items.specs.declared.item.Kind.TheVariants as kind
use Rattle.edited_move.specs.Moves.{needs_number, IsPlainKind}
use Rattle.lexical.specs.declared.place.Place.{Place}
use Rattle.source_tree.specs.declared.reference.Part.{Part}
use Rattle.source_tree.specs.declared.reference.Reference.{Reference}
use Rattle.source_tree.specs.declared.expression.Operand.{Operand}
use Rattle.source_tree.specs.declared.expression.Operator.{Operator}
use Rattle.source_tree.specs.declared.expression.Expression.{Expression}
use Rattle.source_tree.specs.declared.expression.Operator.TheVariants as operator
use Rattle.source_tree.specs.declared.arithmetic.Receiver.{Receiver}
use Rattle.source_tree.specs.declared.arithmetic.DivisionOrder.{DivisionOrder}
use Rattle.source_tree.specs.declared.arithmetic.DivisionOrder.TheVariants.{Into, By}
use Rattle.source_tree.specs.declared.arithmetic.Operation.{Operation}
use Rattle.source_tree.specs.declared.arithmetic.Operation.TheVariants.{Add, AddGiving, Subtract, SubtractGiving}
use Rattle.source_tree.specs.declared.arithmetic.Operation.TheVariants.{Multiply, MultiplyGiving, Divide, DivideGiving}
use Rattle.source_tree.specs.declared.arithmetic.Operation.TheVariants.{DivideRemainder, Compute}
use Rattle.source_tree.specs.Arithmetic.{NumberReceiver, receiver_of}
use Rattle.source_tree.specs.ArithmeticRules.{numeric_item, number_receiver, number_rules, updated_rules, given_rules}
use Rattle.source_tree.specs.ArithmeticRules.{expression_rules, operation_rules}
use Rattle.source_tree.specs.Broken.{RuleBreach, each}
use Rattle.source_tree.specs.Computed.{expression_value}
use Rattle.source_tree.specs.LookUp.{first}
use Rattle.source_tree.specs.NameRules.{reference_rules}
use Rattle.source_tree.specs.Parts.{part_kind, seen_by, seen_through}
use Rattle.source_tree.specs.Places.{LocatedItem}
use Rattle.data_instructions.specs.declared.calculation.Calculation.TheVariants as c
use Rattle.data_instructions.specs.declared.instruction.DataInstruction.{DataInstruction}
use Rattle.data_instructions.specs.declared.instruction.DataInstruction.TheVariants as i
use Rattle.data_instructions.specs.Tables.{IsEditing, IsTables}
use Rattle.data_instructions.specs.Codes.{data_item, IsTakingCode}
use Rattle.data_instructions.specs.Chains.{LiesWhole}
use Rattle.data_instructions.specs.ArithmeticCodes.{operator_code, duplicate, discard, Computes, PushesNumber}
use Rattle.data_instructions.specs.ArithmeticCodes.{IsValueCode, AreAddedCode, IsTotalCode, HasScale, IsUpdateCode}
use Rattle.data_instructions.specs.ArithmeticCodes.{AreUpdatesCode, IsGiveCode, AreGivesCode, IsRemainderCode}
use Rattle.data_instructions.specs.ArithmeticCodes.{IsDivisionCode, IsOperationCode, IsArithmeticCode}
use Rattle.code_image.specs.declared.code.Code.{Code}
use Rattle.condition_codegen.specs.Fragments.{Fragment, sequence, in_order}
use Rattle.condition_codegen.specs.DataCode.{item_number, works_fragment, take_fragment}
use Rattle.condition_codegen.specs.ArithmeticCode.{zero_number, receiver_scale, scale_of_item, division_fragment}
use Rattle.condition_codegen.specs.ArithmeticCode.{void_code, value_fragment, added_fragment, total_fragment}
use Rattle.condition_codegen.specs.ArithmeticCode.{expression_fragment, quotient_scale, store_fragment, update_fragment}
use Rattle.condition_codegen.specs.ArithmeticCode.{updates_fragment, give_fragment, gives_fragment, remainder_fragment}
use Rattle.condition_codegen.specs.ArithmeticCode.{operation_fragment, arithmetic_fragment}
use Rattle.condition_codegen.proofs.Lists.{left_none, right_none}
use Rattle.statement_codegen.proofs.NamedItems.{item_there}
use Rattle.codegen.proofs.Codes.{keeps, Coded}
use Rattle.codegen.proofs.CodedPieces.{CodedBy, weaker_by, both_by, before_by, behind_by}
use Rattle.codegen.proofs.ExpressionCodes.{number_codes, taking_codes, value_codes, expression_codes}
use Rattle.condition_codegen.proofs.Integers.{kept, not_false}
use Rattle.codegen.proofs.Standing.{Stands}

-- A numeric item, or an edited one with its picture, receives numbers.
receives_kind : (one : Kind) (editing : Option Picture) → needs_number one ≡ true → (editing ≡ None → IsPlainKind one)
    → (to : NumberReceiver) × (receiver_of one editing ≡ Some to)
receives_kind (kind.Numeric numeric) editing wants plain = (_, refl)
receives_kind (kind.NumericEdited blank) (Some picture) wants plain = (_, refl)
receives_kind (kind.NumericEdited blank) None wants plain = absurd (plain refl)
receives_kind _ editing wants plain = absurd cc

receives_number : (item : Item) (editing : Option Picture) → needs_number item.kind ≡ true → IsEditing item editing
    → (to : NumberReceiver) × (receiver_of item.kind editing ≡ Some to)
receives_number item None wants is = receives_kind item.kind None wants (λ e. is)
receives_number item (Some picture) wants is = receives_kind item.kind (Some picture) wants (λ e. absurd (some e))
  where
    some : Some picture ≡ None → ⊥
    some e = cc

module _ (items : List LocatedItem) (whole : Code) (entries : (n : ℕ) (one : LocatedItem) → slice_get items n ≡ Some one
    → slice_get whole.tables.items n ≡ Some (data_item one)) where
  -- ---- operands added up

  -- a number, added to the newest one
  abbrev IsAddedCode : Operand → List DataInstruction → Type 0
  IsAddedCode one code = (front : List DataInstruction) × IsValueCode items whole.tables one front
      × (code ≡ front ++ (i.Calculate c.Add ∷ []))

  added_codes : (all : List Operand) → each (number_rules items) all ≡ []
      → CodedBy whole (AreAddedCode items whole.tables all) (in_order (added_fragment items) all)
  added_codes [] e = record { by = λ before st. record { code = []; is = refl; holds = refl } }
  added_codes (one ∷ more) e =
      both_by whole (IsAddedCode one) (AreAddedCode items whole.tables more)
      (AreAddedCode items whole.tables (one ∷ more)) (added_fragment items one) (in_order (added_fragment items) more)
      (behind_by whole (IsValueCode items whole.tables one) (IsAddedCode one) (value_fragment items one)
      (i.Calculate c.Add ∷ [])
      (value_codes items whole entries one (left_none (number_rules items one) (each (number_rules items) more) e))
      (λ code is. (code, is, refl)))
      (added_codes more (right_none (number_rules items one) (each (number_rules items) more) e))
      (λ front back is others.
      (is.0, is.1, back, others, ap (λ l. l ++ back) is.2 ∙ append_assoc is.0 (i.Calculate c.Add ∷ []) back))

  total_codes : (all : List Operand) → each (number_rules items) all ≡ []
      → CodedBy whole (IsTotalCode items whole.tables all) (total_fragment items all)
  total_codes [] e = number_codes items whole entries zero_number
  total_codes (one ∷ more) e =
      both_by whole (IsValueCode items whole.tables one) (AreAddedCode items whole.tables more)
      (IsTotalCode items whole.tables (one ∷ more)) (value_fragment items one) (in_order (added_fragment items) more)
      (value_codes items whole entries one (left_none (number_rules items one) (each (number_rules items) more) e))
      (added_codes more (right_none (number_rules items one) (each (number_rules items) more) e))
      (λ front back is others. (front, is, back, others, refl))

  -- ---- receivers

  module _ (keep : Bool) (asked : Place → LocatedItem → List RuleBreach) where
    store_codes : (one : Receiver) → reference_rules items asked one.item ≡ [] → CodedBy whole
        (IsTakingCode items whole.tables (i.Store one.rounded keep) one.item) (store_fragment items keep one)
    store_codes one e = taking_codes items whole entries (i.Store one.rounded keep) asked one.item e

    -- a calculation with what the receiver holds, and the store
    abbrev IsUpdateEnd : Operator → Receiver → List DataInstruction → Type 0
    IsUpdateEnd by one code =
        (back : List DataInstruction) × IsTakingCode items whole.tables (i.Store one.rounded keep) one.item back
        × (code ≡ duplicate 1 ∷ operator_code by ∷ back)

    update_codes : (by : Operator) (one : Receiver) → reference_rules items asked one.item ≡ []
        → CodedBy whole (IsUpdateCode items whole.tables keep by one) (update_fragment items keep by one)
    update_codes by one e =
        let calculating = duplicate 1 ∷ operator_code by ∷ [] in
        both_by whole (IsTakingCode items whole.tables i.Push one.item)
        (IsUpdateEnd by one) (IsUpdateCode items whole.tables keep by one) (take_fragment items i.Push one.item)
        (sequence (works_fragment calculating) (store_fragment items keep one))
        (taking_codes items whole entries i.Push asked one.item e)
        (before_by whole calculating (IsTakingCode items whole.tables (i.Store one.rounded keep) one.item)
        (IsUpdateEnd by one) (store_fragment items keep one) (store_codes one e) (λ code is. (code, is, refl)))
        (λ front rest is last. (front, is, last.0, last.1, ap (λ l. front ++ l) last.2))

    abbrev receiver_rules : Receiver → List RuleBreach
    receiver_rules one = reference_rules items asked one.item

    updates_codes : (by : Operator) (all : List Receiver) → each receiver_rules all ≡ []
        → CodedBy whole (AreUpdatesCode items whole.tables keep by all) (updates_fragment items keep by all)
    updates_codes by [] e = record { by = λ before st. record { code = []; is = refl; holds = refl } }
    updates_codes by (one ∷ more) e =
        both_by whole (IsUpdateCode items whole.tables keep by one) (AreUpdatesCode items whole.tables keep by more)
        (AreUpdatesCode items whole.tables keep by (one ∷ more)) (update_fragment items keep by one)
        (updates_fragment items keep by more)
        (update_codes by one (left_none (receiver_rules one) (each receiver_rules more) e))
        (updates_codes by more (right_none (receiver_rules one) (each receiver_rules more) e))
        (λ front back is others. (front, is, back, others, refl))

    give_codes : (one : Receiver) → reference_rules items asked one.item ≡ []
        → CodedBy whole (IsGiveCode items whole.tables keep one) (give_fragment items keep one)
    give_codes one e =
        before_by whole (duplicate 0 ∷ []) (IsTakingCode items whole.tables (i.Store one.rounded keep) one.item)
        (IsGiveCode items whole.tables keep one) (store_fragment items keep one) (store_codes one e)
        (λ code is. (code, is, refl))

    gives_codes : (all : List Receiver) → each receiver_rules all ≡ []
        → CodedBy whole (AreGivesCode items whole.tables keep all) (gives_fragment items keep all)
    gives_codes [] e = record { by = λ before st. record { code = []; is = refl; holds = refl } }
    gives_codes (one ∷ more) e =
        both_by whole (IsGiveCode items whole.tables keep one) (AreGivesCode items whole.tables keep more) (AreGivesCode
        items whole.tables keep (one ∷ more)) (give_fragment items keep one) (gives_fragment items keep more)
        (give_codes one (left_none (receiver_rules one) (each receiver_rules more) e))
        (gives_codes more (right_none (receiver_rules one) (each receiver_rules more) e))
        (λ front back is others. (front, is, back, others, refl))

  -- ---- shapes of operations

  -- a value, what is done with it, and then none of it is left
  abbrev IsDone : (List DataInstruction → Type 0) → (List DataInstruction → Type 0) → List DataInstruction
      → List DataInstruction → Type 0
  IsDone P Q last code = (front : List DataInstruction) × P front × (back : List DataInstruction) × Q back
      × (code ≡ front ++ (back ++ last))

  -- what is done, and then none is left
  abbrev IsEnd : (List DataInstruction → Type 0) → List DataInstruction → List DataInstruction → List DataInstruction
      → Type 0
  IsEnd Q all last code = (back : List DataInstruction) × Q back × (code ≡ all ++ (back ++ last))

  end_codes : (Q : List DataInstruction → Type 0) (all : List DataInstruction) (piece : Fragment)
      (last : List DataInstruction) → CodedBy whole Q piece
      → CodedBy whole (IsEnd Q all last) (sequence (works_fragment all) (sequence piece (works_fragment last)))
  end_codes Q all piece last one =
      before_by whole all (IsEnd Q [] last) (IsEnd Q all last) (sequence piece (works_fragment last))
      (behind_by whole Q (IsEnd Q [] last) piece last one (λ code is. (code, is, refl)))
      (λ code is. (is.0, is.1, ap (λ l. all ++ l) is.2))

  done_codes : (P Q : List DataInstruction → Type 0) (value piece : Fragment) (last : List DataInstruction)
      → CodedBy whole P value → CodedBy whole Q piece
      → CodedBy whole (IsDone P Q last) (sequence value (sequence piece (works_fragment last)))
  done_codes P Q value piece last first one =
      both_by whole P (IsEnd Q [] last) (IsDone P Q last) value (sequence piece (works_fragment last)) first
      (behind_by whole Q (IsEnd Q [] last) piece last one (λ code is. (code, is, refl)))
      (λ front rest is end. (front, is, end.0, end.1, ap (λ l. front ++ l) end.2))

  -- two values, and what is done with them
  abbrev AreTwo : (List DataInstruction → Type 0) → (List DataInstruction → Type 0) → (List DataInstruction → Type 0)
      → List DataInstruction → Type 0
  AreTwo P Q S code =
      (front : List DataInstruction) × P front × (other : List DataInstruction) × Q other
      × (rest : List DataInstruction) × S rest × (code ≡ front ++ (other ++ rest))

  abbrev AreBoth : (List DataInstruction → Type 0) → (List DataInstruction → Type 0) → List DataInstruction → Type 0
  AreBoth Q S code =
      (other : List DataInstruction) × Q other × (rest : List DataInstruction) × S rest × (code ≡ other ++ rest)

  two_codes : (P Q S : List DataInstruction → Type 0) (value other piece : Fragment) → CodedBy whole P value
      → CodedBy whole Q other → CodedBy whole S piece
      → CodedBy whole (AreTwo P Q S) (sequence value (sequence other piece))
  two_codes P Q S value other piece one two rest =
      both_by whole P (AreBoth Q S) (AreTwo P Q S) value (sequence other piece) one
      (both_by whole Q S (AreBoth Q S) other piece two rest (λ front back is holds. (front, is, back, holds, refl)))
      (λ front back is others. (front, is, others.0, others.1, others.2, others.3, ap (λ l. front ++ l) others.4))

  -- the dividend below the divisor, and what is done with them
  abbrev IsDivided : Bool → DivisionOrder → (List DataInstruction → Type 0) → List DataInstruction → Type 0
  IsDivided keep one S code =
      (inner : List DataInstruction) × S inner × IsDivisionCode items whole.tables keep one inner code

  division_codes : (keep : Bool) (one : DivisionOrder) (S : List DataInstruction → Type 0) (piece : Fragment)
      → CodedBy whole S piece → CodedBy whole (IsDivided keep one S) (division_fragment one piece)
  division_codes keep By S piece inner =
      weaker_by whole S (IsDivided keep By S) piece (λ code is. (code, is, refl)) inner
  division_codes keep Into S piece inner =
      weaker_by whole (IsEnd S (duplicate 1 ∷ []) (discard ∷ [])) (IsDivided keep Into S) (division_fragment Into piece)
      (λ code is. (is.0, is.1, is.2)) (end_codes S (duplicate 1 ∷ []) piece (discard ∷ []) inner)

  -- ---- remainders

  module _ (order : IsTables whole.tables) where
    no_number : (one : Kind) → needs_number (part_kind one) ≡ true → ⊥
    no_number kind.Group e = cc
    no_number (kind.Alphabetic justified) e = cc
    no_number (kind.Alphanumeric justified) e = cc
    no_number kind.AlphanumericEdited e = cc
    no_number (kind.NumericEdited blank) e = cc
    no_number (kind.Numeric numeric) e = cc

    -- A part takes no number.
    whole_receives : (found : LocatedItem) (part : Option Part) → needs_number (seen_by part found).item.kind ≡ true
        → IsEditing found.item found.editing
        → (to : NumberReceiver)
        × (receiver_of (seen_by part found).item.kind (seen_by part found).editing ≡ Some to)
        × (receiver_of found.item.kind found.editing ≡ Some to)
    whole_receives found None wants editing =
        let to = receives_number found.item found.editing wants editing in (to.0, to.1, to.1)
    whole_receives found (Some part) wants editing = absurd (no_number found.item.kind wants)

    has_scale : (one : Reference) → reference_rules items number_receiver one ≡ []
        → HasScale items whole.tables one (quotient_scale items one)
    has_scale one e =
        let k = keeps items whole entries number_receiver one e in
        let n = item_number items one.item in
        let there : slice_get items n ≡ Some k.found = item_there items one.item k.found k.named in
        let shown = seen_through one k.found in
        let wants = not_false (needs_number shown.item.kind)
        (kept (not (needs_number shown.item.kind)) 51 one.item.name.place k.asks) in
        let to = whole_receives k.found one.part wants
        (order.items n (data_item k.found) (entries n k.found there)).editing in
        (k.found, ap first k.named, to.0, to.1, sym (ap scale_of_item there ∙ ap receiver_scale to.2))

    -- the remainder, without the quotient's store
    abbrev IsRemainderEnd : Bool → ℕ → Reference → List DataInstruction → Type 0
    IsRemainderEnd keep scale remainder code =
        (back : List DataInstruction) × IsTakingCode items whole.tables (i.Store false keep) remainder back
        × (code
        ≡ i.Calculate (c.Truncate scale) ∷ i.Calculate c.Multiply ∷ i.Calculate c.Subtract ∷ (void_code keep ++ back))

    remainder_codes : (keep : Bool) (quotient : Receiver) (remainder : Reference)
        → reference_rules items number_receiver quotient.item ≡ []
        → reference_rules items number_receiver remainder ≡ []
        → CodedBy whole (IsRemainderCode items whole.tables keep quotient remainder)
        (remainder_fragment items keep quotient remainder)
    remainder_codes keep quotient remainder e f =
        let scale = quotient_scale items quotient.item in
        let first_three = duplicate 1 ∷ duplicate 1 ∷ i.Calculate c.Divide ∷ [] in
        let three = i.Calculate (c.Truncate scale) ∷ i.Calculate c.Multiply ∷ i.Calculate c.Subtract ∷ void_code keep in
        let last = take_fragment items (i.Store false keep) remainder in
        let Give = IsGiveCode items whole.tables keep quotient in
        let End = IsRemainderEnd keep scale remainder in
        before_by whole first_three (AreBoth Give End) (IsRemainderCode items whole.tables keep quotient remainder)
        (sequence (give_fragment items keep quotient) (sequence (works_fragment three) last))
        (both_by whole Give End (AreBoth Give End) (give_fragment items keep quotient)
        (sequence (works_fragment three) last) (give_codes keep number_receiver quotient e)
        (before_by whole three (IsTakingCode items whole.tables (i.Store false keep) remainder) End last (taking_codes
        items whole entries (i.Store false keep) number_receiver remainder f) (λ code is. (code, is, refl)))
        (λ front back is rest. (front, is, back, rest, refl)))
        (λ code is. (
          is.0,
          is.1,
          scale,
          has_scale quotient.item e,
          is.3.0,
          is.3.1,
          ap (λ l. first_three ++ l) (is.4 ∙ ap (λ l. is.0 ++ l) is.3.2),
        ))

    -- ---- operations

    module _ (lie : (n : ℕ) (one : LocatedItem) → slice_get items n ≡ Some one → LiesWhole whole.tables one)
        (keep : Bool) where
      abbrev Operated : Operation → Type 0
      Operated one = CodedBy whole (IsOperationCode items whole.tables keep one) (operation_fragment items keep one)

      subtract_giving_codes : (operands : List Operand) (minuend : Operand) (receivers : List Receiver)
          → operation_rules items (SubtractGiving operands minuend receivers) ≡ []
          → Operated (SubtractGiving operands minuend receivers)
      subtract_giving_codes operands minuend receivers e =
          let a = each (number_rules items) operands in
          let b = number_rules items minuend in
          let g = given_rules items receivers in
          let f = left_none (a ++ b) g e in
          let Total = IsTotalCode items whole.tables operands in
          let Minuend = IsValueCode items whole.tables minuend in
          let Gives = AreGivesCode items whole.tables keep receivers in
          let all = duplicate 1 ∷ i.Calculate c.Subtract ∷ [] in
          let last = discard ∷ discard ∷ [] in
          weaker_by whole (AreTwo Total Minuend (IsEnd Gives all last))
          (IsOperationCode items whole.tables keep (SubtractGiving operands minuend receivers))
          (operation_fragment items keep (SubtractGiving operands minuend receivers))
          (λ code is. (is.0, is.1, is.2, is.3, is.5.0, is.5.1, is.6 ∙ ap (λ l. is.0 ++ (is.2 ++ l)) is.5.2))
          (two_codes Total Minuend (IsEnd Gives all last) (total_fragment items operands) (value_fragment items minuend)
          (sequence (works_fragment all) (sequence (gives_fragment items keep receivers) (works_fragment last)))
          (total_codes operands (left_none a b f)) (value_codes items whole entries minuend (right_none a b f))
          (end_codes Gives all (gives_fragment items keep receivers) last
          (gives_codes keep number_receiver receivers (right_none (a ++ b) g e))))

      multiply_giving_codes : (factor by : Operand) (receivers : List Receiver)
          → operation_rules items (MultiplyGiving factor by receivers) ≡ []
          → Operated (MultiplyGiving factor by receivers)
      multiply_giving_codes factor by receivers e =
          let a = number_rules items factor in
          let b = number_rules items by in
          let g = given_rules items receivers in
          let f = left_none (a ++ b) g e in
          let Gives = AreGivesCode items whole.tables keep receivers in
          let all = i.Calculate c.Multiply ∷ [] in
          let last = discard ∷ [] in
          weaker_by whole (AreTwo (IsValueCode items whole.tables factor) (IsValueCode items whole.tables by)
          (IsEnd Gives all last)) (IsOperationCode items whole.tables keep (MultiplyGiving factor by receivers))
          (operation_fragment items keep (MultiplyGiving factor by receivers))
          (λ code is. (is.0, is.1, is.2, is.3, is.5.0, is.5.1, is.6 ∙ ap (λ l. is.0 ++ (is.2 ++ l)) is.5.2))
          (two_codes (IsValueCode items whole.tables factor) (IsValueCode items whole.tables by) (IsEnd Gives all last)
          (value_fragment items factor) (value_fragment items by)
          (sequence (works_fragment all) (sequence (gives_fragment items keep receivers) (works_fragment last)))
          (value_codes items whole entries factor (left_none a b f))
          (value_codes items whole entries by (right_none a b f))
          (end_codes Gives all (gives_fragment items keep receivers) last
          (gives_codes keep number_receiver receivers (right_none (a ++ b) g e))))

      divide_giving_codes : (one : Operand) (way : DivisionOrder) (two : Operand) (receivers : List Receiver)
          → operation_rules items (DivideGiving one way two receivers) ≡ []
          → Operated (DivideGiving one way two receivers)
      divide_giving_codes one way two receivers e =
          let a = number_rules items one in
          let b = number_rules items two in
          let g = given_rules items receivers in
          let f = left_none (a ++ b) g e in
          let Gives = AreGivesCode items whole.tables keep receivers in
          let all = i.Calculate c.Divide ∷ [] in
          let last = discard ∷ [] in
          let inner =
          sequence (works_fragment all) (sequence (gives_fragment items keep receivers) (works_fragment last)) in
          let Divided = IsDivided keep way (IsEnd Gives all last) in
          weaker_by whole (AreTwo (IsValueCode items whole.tables one) (IsValueCode items whole.tables two) Divided)
          (IsOperationCode items whole.tables keep (DivideGiving one way two receivers))
          (operation_fragment items keep (DivideGiving one way two receivers))
          (λ code is. (
            is.0,
            is.1,
            is.2,
            is.3,
            is.5.1.0,
            is.5.1.1,
            is.4,
            subst (λ l. IsDivisionCode items whole.tables keep way l is.4) is.5.1.2 is.5.2,
            is.6,
          ))
          (two_codes (IsValueCode items whole.tables one) (IsValueCode items whole.tables two) Divided
          (value_fragment items one) (value_fragment items two) (division_fragment way inner)
          (value_codes items whole entries one (left_none a b f))
          (value_codes items whole entries two (right_none a b f))
          (division_codes keep way (IsEnd Gives all last) inner (end_codes Gives all (gives_fragment items keep
          receivers) last (gives_codes keep number_receiver receivers (right_none (a ++ b) g e)))))

      divide_remainder_codes : (one : Operand) (way : DivisionOrder) (two : Operand) (quotient : Receiver)
          (remainder : Reference) → operation_rules items (DivideRemainder one way two quotient remainder) ≡ []
          → Operated (DivideRemainder one way two quotient remainder)
      divide_remainder_codes one way two quotient remainder e =
          let a = number_rules items one in
          let b = number_rules items two in
          let g = reference_rules items number_receiver quotient.item in
          let h = reference_rules items number_receiver remainder in
          let f = left_none (a ++ b ++ g) h e in
          let r = left_none (a ++ b) g f in
          let Remainder = IsRemainderCode items whole.tables keep quotient remainder in
          let inner = remainder_fragment items keep quotient remainder in
          let Divided = IsDivided keep way Remainder in
          weaker_by whole (AreTwo (IsValueCode items whole.tables one) (IsValueCode items whole.tables two) Divided)
          (IsOperationCode items whole.tables keep (DivideRemainder one way two quotient remainder))
          (operation_fragment items keep (DivideRemainder one way two quotient remainder))
          (λ code is. (is.0, is.1, is.2, is.3, is.5.0, is.5.1, is.4, is.5.2, is.6))
          (two_codes (IsValueCode items whole.tables one) (IsValueCode items whole.tables two) Divided
          (value_fragment items one) (value_fragment items two) (division_fragment way inner)
          (value_codes items whole entries one (left_none a b r))
          (value_codes items whole entries two (right_none a b r))
          (division_codes keep way Remainder inner
          (remainder_codes keep quotient remainder (right_none (a ++ b) g f) (right_none (a ++ b ++ g) h e))))

      compute_codes : (receivers : List Receiver) (value : Expression)
          → operation_rules items (Compute receivers value) ≡ [] → Operated (Compute receivers value)
      compute_codes receivers value e =
          let a = given_rules items receivers in
          let b = expression_rules items value in
          let Value = λ (code : List DataInstruction). Computes whole.tables (expression_value items value) code
          × PushesNumber whole.tables code in
          let Gives = AreGivesCode items whole.tables keep receivers in
          weaker_by whole (IsDone Value Gives (discard ∷ [])) (IsOperationCode items whole.tables keep
          (Compute receivers value)) (operation_fragment items keep (Compute receivers value))
          (λ code is. (is.0, is.1.0, is.1.1, is.2, is.3, is.4))
          (done_codes Value Gives (expression_fragment items value) (gives_fragment items keep receivers) (discard ∷ [])
          (expression_codes items whole entries order lie value (right_none a b e))
          (gives_codes keep number_receiver receivers (left_none a b e)))

      operation_codes : (one : Operation) → operation_rules items one ≡ [] → Operated one
      operation_codes (Add operands receivers) e =
          let a = each (number_rules items) operands in
          let b = updated_rules items receivers in
          done_codes (IsTotalCode items whole.tables operands) (AreUpdatesCode items whole.tables keep operator.Add
          receivers) (total_fragment items operands) (updates_fragment items keep operator.Add receivers) (discard ∷ [])
          (total_codes operands (left_none a b e))
          (updates_codes keep numeric_item operator.Add receivers (right_none a b e))
      operation_codes (AddGiving operands receivers) e =
          let a = each (number_rules items) operands in
          let b = given_rules items receivers in
          done_codes (IsTotalCode items whole.tables operands) (AreGivesCode items whole.tables keep receivers)
          (total_fragment items operands) (gives_fragment items keep receivers) (discard ∷ [])
          (total_codes operands (left_none a b e)) (gives_codes keep number_receiver receivers (right_none a b e))
      operation_codes (Subtract operands receivers) e =
          let a = each (number_rules items) operands in
          let b = updated_rules items receivers in
          done_codes (IsTotalCode items whole.tables operands)
          (AreUpdatesCode items whole.tables keep operator.Subtract receivers) (total_fragment items operands)
          (updates_fragment items keep operator.Subtract receivers) (discard ∷ [])
          (total_codes operands (left_none a b e))
          (updates_codes keep numeric_item operator.Subtract receivers (right_none a b e))
      operation_codes (SubtractGiving operands minuend receivers) e = subtract_giving_codes operands minuend receivers e
      operation_codes (Multiply factor receivers) e =
          let a = number_rules items factor in
          let b = updated_rules items receivers in
          done_codes (IsValueCode items whole.tables factor)
          (AreUpdatesCode items whole.tables keep operator.Multiply receivers) (value_fragment items factor)
          (updates_fragment items keep operator.Multiply receivers) (discard ∷ [])
          (value_codes items whole entries factor (left_none a b e))
          (updates_codes keep numeric_item operator.Multiply receivers (right_none a b e))
      operation_codes (MultiplyGiving factor by receivers) e = multiply_giving_codes factor by receivers e
      operation_codes (Divide divisor receivers) e =
          let a = number_rules items divisor in
          let b = updated_rules items receivers in
          done_codes (IsValueCode items whole.tables divisor)
          (AreUpdatesCode items whole.tables keep operator.Divide receivers) (value_fragment items divisor)
          (updates_fragment items keep operator.Divide receivers) (discard ∷ [])
          (value_codes items whole entries divisor (left_none a b e))
          (updates_codes keep numeric_item operator.Divide receivers (right_none a b e))
      operation_codes (DivideGiving one way two receivers) e = divide_giving_codes one way two receivers e
      operation_codes (DivideRemainder one way two quotient remainder) e =
          divide_remainder_codes one way two quotient remainder e
      operation_codes (Compute receivers value) e = compute_codes receivers value e

      -- the code of an arithmetic statement, without its phrases
      pub arithmetic_coded : (one : Operation) (before : Code) → operation_rules items one ≡ []
          → Stands whole before (arithmetic_fragment items keep one before)
          → Coded (IsArithmeticCode items whole.tables keep one) (arithmetic_fragment items keep one before)
      arithmetic_coded one before e st =
          (before_by whole (i.ClearTruth ∷ []) (IsOperationCode items whole.tables keep one)
          (IsArithmeticCode items whole.tables keep one) (operation_fragment items keep one) (operation_codes one e)
          (λ code is. (code, is, refl))).by before st
