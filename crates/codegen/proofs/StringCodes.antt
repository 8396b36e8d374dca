-- The code of STRING, without its phrases, is what the laws of instructions on data speak of, where the rules are kept,
-- and its items lie in their areas.
use Rattle.std.proofs.Common.{◌≡◌, ℕ, true, false, List, [], ◌∷◌, ◌++◌, length, Option, Some, None, refl, ap}
use Rattle.std.specs.Prelude.{slice_get}
use Rattle.lexical.specs.declared.place.Place.{Place}
use Rattle.source_tree.specs.declared.literal.Literal.{Literal}
use Rattle.source_tree.specs.declared.reference.Reference.{Reference}
use Rattle.source_tree.specs.declared.expression.Operand.{Operand}
use Rattle.source_tree.specs.declared.expression.Operand.TheVariants as operand
use Rattle.source_tree.specs.declared.string_statement.Sending.{Sending}
use Rattle.source_tree.specs.declared.string_statement.StringStatement.{StringStatement}
use Rattle.source_tree.specs.Broken.{RuleBreach, each}
use Rattle.source_tree.specs.Display.{shown_literal}
use Rattle.source_tree.specs.Parts.{items_referred}
use Rattle.source_tree.specs.NameRules.{reference_rules}
use Rattle.source_tree.specs.Places.{LocatedItem}
use Rattle.source_tree.specs.StringRules.{sent_item, sent_rules, delimiter_rules, sending_rules, receiver_item}
use Rattle.source_tree.specs.StringRules.{pointer_item, only_length, pointer_rules, string_rules}
use Rattle.source_tree.specs.Stringing.{sent_of}
use Rattle.data_instructions.specs.declared.gather.Gather.TheVariants as g
use Rattle.data_instructions.specs.declared.index.TextIndex.{TextIndex}
use Rattle.data_instructions.specs.declared.instruction.DataInstruction.{DataInstruction}
use Rattle.data_instructions.specs.declared.instruction.DataInstruction.TheVariants as i
use Rattle.data_instructions.specs.Codes.{data_item, IsReferenceCode}
use Rattle.data_instructions.specs.Chains.{LiesWhole}
use Rattle.data_instructions.specs.ArithmeticCodes.{LiesOperand, LieOperands}
use Rattle.data_instructions.specs.TextCodes.{HasText, IsSentCode, AreSentCode, IsFoundCode, AreFoundCode}
use Rattle.data_instructions.specs.TextCodes.{IsUpToPlaceCode, AreUpToPlaceCode, IsSendingBy, IsSendingCode}
use Rattle.data_instructions.specs.TextCodes.{AreSendingsCode, IsPutCode, IsStringCode, LiesDelimiter, LieSendings}
use Rattle.data_instructions.specs.TextCodes.{LiesPointer, LiesString}
use Rattle.code_image.specs.declared.code.Code.{Code}
use Rattle.condition_codegen.specs.Fragments.{sequence, in_order}
use Rattle.condition_codegen.specs.DataCode.{work_fragment, text_fragment, reference_fragment}
use Rattle.statement_codegen.specs.StringCode.{up_to_text_fragment, text_up_to_place_fragment, sent_item_fragment}
use Rattle.statement_codegen.specs.StringCode.{sent_fragment, found_fragment, up_to_place_fragment, sender_by_fragment}
use Rattle.statement_codegen.specs.StringCode.{sender_fragment, sendings_fragment, pointer_numbers, put_fragment}
use Rattle.statement_codegen.specs.StringCode.{string_fragment}
use Rattle.condition_codegen.proofs.Lists.{left_none, right_none}
use Rattle.codegen.proofs.Codes.{reference_coded, text_coded}
use Rattle.codegen.proofs.CodedPieces.{CodedBy, both_by, behind_by}
use Rattle.codegen.proofs.ExpressionCodes.{taking_codes}
use Rattle.condition_codegen.proofs.Kept.{item_kept}
use Rattle.codegen.proofs.Lying.{lies_all}
use Rattle.codegen.proofs.Standing.{text_stands}

-- what the rules of STRING say
pub record KeepsString (items : List LocatedItem) {S : Type 0} (one : StringStatement S) : Type 0 where
  pub sendings : each (sending_rules items) one.sendings ≡ []
  pub receiver : reference_rules items receiver_item one.receiver ≡ []
  pub pointer : pointer_rules items (only_length (items_referred items one.receiver)) one.pointer ≡ []

pub keeps_string : (items : List LocatedItem) {S : Type 0} (one : StringStatement S) → string_rules items one ≡ []
    → KeepsString items one
keeps_string items one e =
    let a = each (sending_rules items) one.sendings in
    let b = reference_rules items receiver_item one.receiver in
    let c = pointer_rules items (only_length (items_referred items one.receiver)) one.pointer in
    let f = left_none (a ++ b) c e in
    record { sendings = left_none a b f; receiver = right_none a b f; pointer = right_none (a ++ b) c e }

pub pointer_kept : (items : List LocatedItem) (size : ℕ) (one : Option Reference) → pointer_rules items size one ≡ []
    → pointer_numbers items one ≡ []
pointer_kept items size None e = refl
pointer_kept items size (Some one) e = item_kept items (pointer_item size) one e

module _ (items : List LocatedItem) (whole : Code) (entries : (n : ℕ) (one : LocatedItem) → slice_get items n ≡ Some one
    → slice_get whole.tables.items n ≡ Some (data_item one)) where
  place_codes : (asked : Place → LocatedItem → List RuleBreach) (one : Reference) → reference_rules items asked one ≡ []
      → CodedBy whole (IsReferenceCode items whole.tables one) (reference_fragment items one)
  place_codes asked one e = record { by = λ before st. reference_coded items whole entries asked one before e st }

  -- ---- senders up to a literal

  -- a text, and what gathers by it
  up_to_text_codes : (delimiter : List ℕ)
      → CodedBy whole (λ code. (text : TextIndex) × HasText items whole.tables delimiter text
      × (code ≡ i.Gather (g.UpToText text) ∷ [])) (up_to_text_fragment delimiter)
  up_to_text_codes delimiter = record {
    by = λ before st. record {
      code = i.Gather (g.UpToText (record { number = length before.tables.texts })) ∷ [];
      is = refl;
      holds = (_, text_stands whole before (up_to_text_fragment delimiter before) delimiter [] refl st, refl);
    };
  }

  sent_item_codes : (delimiter : Option (List ℕ)) (one : Reference) → reference_rules items sent_item one ≡ []
      → CodedBy whole (IsSentCode items whole.tables delimiter (operand.Item one))
      (sent_item_fragment items delimiter one)
  sent_item_codes None one e = taking_codes items whole entries (i.Gather g.Bytes) sent_item one e
  sent_item_codes (Some delimiter) one e =
      both_by whole (IsReferenceCode items whole.tables one)
      (λ code. (text : TextIndex) × HasText items whole.tables delimiter text
      × (code ≡ i.Gather (g.UpToText text) ∷ []))
      (IsSentCode items whole.tables (Some delimiter) (operand.Item one)) (reference_fragment items one)
      (up_to_text_fragment delimiter)
      (place_codes sent_item one e) (up_to_text_codes delimiter)
      (λ front back is last. (last.0, last.1, (front, is, ap (λ l. front ++ l) last.2)))

  sent_text_codes : (delimiter : Option (List ℕ)) (one : Literal)
      → CodedBy whole (IsSentCode items whole.tables delimiter (operand.Literal one))
      (text_fragment (sent_of delimiter (shown_literal one.value)))
  sent_text_codes None one =
      record { by = λ before st. text_coded items whole entries (sent_of None (shown_literal one.value)) before st }
  sent_text_codes (Some delimiter) one = record {
    by = λ before st. text_coded items whole entries (sent_of (Some delimiter) (shown_literal one.value)) before st;
  }

  sent_codes : (delimiter : Option (List ℕ)) (one : Operand) → sent_rules items one ≡ []
      → CodedBy whole (IsSentCode items whole.tables delimiter one) (sent_fragment items delimiter one)
  sent_codes delimiter (operand.Item one) e = sent_item_codes delimiter one e
  sent_codes delimiter (operand.Literal one) e = sent_text_codes delimiter one

  each_sent_codes : (delimiter : Option (List ℕ)) (all : List Operand) → each (sent_rules items) all ≡ []
      → CodedBy whole (AreSentCode items whole.tables delimiter all) (in_order (sent_fragment items delimiter) all)
  each_sent_codes delimiter [] e = record { by = λ before st. record { code = []; is = refl; holds = refl } }
  each_sent_codes delimiter (one ∷ more) e =
      let rules = sent_rules items in
      both_by whole (IsSentCode items whole.tables delimiter one) (AreSentCode items whole.tables delimiter more)
      (AreSentCode items whole.tables delimiter (one ∷ more))
      (sent_fragment items delimiter one) (in_order (sent_fragment items delimiter) more)
      (sent_codes delimiter one (left_none (rules one) (each rules more) e))
      (each_sent_codes delimiter more (right_none (rules one) (each rules more) e))
      (λ front back is others. (front, is, back, others, refl))

  -- ---- senders up to an item

  found_codes : (one : Operand) → sent_rules items one ≡ []
      → CodedBy whole (IsFoundCode items whole.tables one) (found_fragment items one)
  found_codes (operand.Item one) e = taking_codes items whole entries i.DropPlace sent_item one e
  found_codes (operand.Literal one) e = record { by = λ before st. record { code = []; is = refl; holds = refl } }

  each_found_codes : (all : List Operand) → each (sent_rules items) all ≡ []
      → CodedBy whole (AreFoundCode items whole.tables all) (in_order (found_fragment items) all)
  each_found_codes [] e = record { by = λ before st. record { code = []; is = refl; holds = refl } }
  each_found_codes (one ∷ more) e =
      let rules = sent_rules items in
      both_by whole (IsFoundCode items whole.tables one) (AreFoundCode items whole.tables more)
      (AreFoundCode items whole.tables (one ∷ more))
      (found_fragment items one) (in_order (found_fragment items) more)
      (found_codes one (left_none (rules one) (each rules more) e))
      (each_found_codes more (right_none (rules one) (each rules more) e))
      (λ front back is others. (front, is, back, others, refl))

  up_to_place_codes : (one : Operand) → sent_rules items one ≡ []
      → CodedBy whole (IsUpToPlaceCode items whole.tables one) (up_to_place_fragment items one)
  up_to_place_codes (operand.Item one) e = taking_codes items whole entries (i.Gather g.UpToPlace) sent_item one e
  up_to_place_codes (operand.Literal one) e =
      let bytes = shown_literal one.value in
      record {
        by = λ before st. record {
          code = i.Gather (g.TextUpToPlace (record { number = length before.tables.texts })) ∷ [];
          is = refl;
          holds = (_, text_stands whole before (text_up_to_place_fragment bytes before) bytes [] refl st, refl);
        };
      }

  each_up_to_place_codes : (all : List Operand) → each (sent_rules items) all ≡ []
      → CodedBy whole (AreUpToPlaceCode items whole.tables all) (in_order (up_to_place_fragment items) all)
  each_up_to_place_codes [] e = record { by = λ before st. record { code = []; is = refl; holds = refl } }
  each_up_to_place_codes (one ∷ more) e =
      let rules = sent_rules items in
      both_by whole (IsUpToPlaceCode items whole.tables one) (AreUpToPlaceCode items whole.tables more)
      (AreUpToPlaceCode items whole.tables (one ∷ more))
      (up_to_place_fragment items one) (in_order (up_to_place_fragment items) more)
      (up_to_place_codes one (left_none (rules one) (each rules more) e))
      (each_up_to_place_codes more (right_none (rules one) (each rules more) e))
      (λ front back is others. (front, is, back, others, refl))

  -- ---- senders with their delimiter

  -- what follows the senders that are found, and after the delimiter's place
  abbrev IsPartsCode : List Operand → List DataInstruction → Type 0
  IsPartsCode senders code = (parts : List DataInstruction) × AreUpToPlaceCode items whole.tables senders parts
      × (code ≡ parts ++ (i.DropPlace ∷ []))

  abbrev IsDelimitedCode : List Operand → Reference → List DataInstruction → Type 0
  IsDelimitedCode senders delimiter code =
      (delimiting : List DataInstruction) × IsReferenceCode items whole.tables delimiter delimiting
      × (parts : List DataInstruction) × AreUpToPlaceCode items whole.tables senders parts
      × (code ≡ delimiting ++ (parts ++ (i.DropPlace ∷ [])))

  sending_by_codes : (senders : List Operand) (delimiter : Option Operand) → each (sent_rules items) senders ≡ []
      → delimiter_rules items delimiter ≡ []
      → CodedBy whole (IsSendingBy items whole.tables senders delimiter) (sender_by_fragment items senders delimiter)
  sending_by_codes senders None e f = each_sent_codes None senders e
  sending_by_codes senders (Some (operand.Literal delimiter)) e f =
      each_sent_codes (Some (shown_literal delimiter.value)) senders e
  sending_by_codes senders (Some (operand.Item delimiter)) e f =
      let parts = in_order (up_to_place_fragment items) senders in
      let last = work_fragment i.DropPlace in
      both_by whole (AreFoundCode items whole.tables senders) (IsDelimitedCode senders delimiter)
      (IsSendingBy items whole.tables senders (Some (operand.Item delimiter)))
      (in_order (found_fragment items) senders) (sequence (reference_fragment items delimiter) (sequence parts last))
      (each_found_codes senders e)
      (both_by whole (IsReferenceCode items whole.tables delimiter) (IsPartsCode senders)
      (IsDelimitedCode senders delimiter) (reference_fragment items delimiter)
      (sequence parts last) (place_codes sent_item delimiter f)
      (behind_by whole (AreUpToPlaceCode items whole.tables senders) (IsPartsCode senders) parts (i.DropPlace ∷ [])
      (each_up_to_place_codes senders e) (λ code is. (code, is, refl)))
      (λ front back is others. (front, is, others.0, others.1, ap (λ l. front ++ l) others.2)))
      (λ front back is others. (front, is, others.0, others.1, others.2, others.3, ap (λ l. front ++ l) others.4))

  sendings_codes : (all : List Sending) → each (sending_rules items) all ≡ []
      → CodedBy whole (AreSendingsCode items whole.tables all) (sendings_fragment items all)
  sendings_codes [] e = record { by = λ before st. record { code = []; is = refl; holds = refl } }
  sendings_codes (one ∷ more) e =
      let rules = sending_rules items in
      let here = left_none (rules one) (each rules more) e in
      both_by whole (IsSendingCode items whole.tables one) (AreSendingsCode items whole.tables more)
      (AreSendingsCode items whole.tables (one ∷ more))
      (sender_fragment items one) (sendings_fragment items more)
      (sending_by_codes one.senders one.delimiter
      (left_none (each (sent_rules items) one.senders) (delimiter_rules items one.delimiter) here)
      (right_none (each (sent_rules items) one.senders) (delimiter_rules items one.delimiter) here))
      (sendings_codes more (right_none (rules one) (each rules more) e))
      (λ front back is others. (front, is, back, others, refl))

  -- ---- STRING

  put_codes : (size : ℕ) (pointer : Option Reference) → pointer_rules items size pointer ≡ []
      → CodedBy whole (IsPutCode items whole.tables pointer) (put_fragment items pointer)
  put_codes size None e = record { by = λ before st. record { code = i.String false ∷ []; is = refl; holds = refl } }
  put_codes size (Some pointer) e = taking_codes items whole entries (i.String true) (pointer_item size) pointer e

  abbrev IsStoredCode : Reference → Option Reference → List DataInstruction → Type 0
  IsStoredCode receiver pointer code =
      (place : List DataInstruction) × IsReferenceCode items whole.tables receiver place
      × (last : List DataInstruction) × IsPutCode items whole.tables pointer last × (code ≡ place ++ last)

  pub string_codes : {S : Type 0} (one : StringStatement S) → string_rules items one ≡ []
      → CodedBy whole (IsStringCode items whole.tables one)
      (string_fragment items one.sendings one.receiver one.pointer)
  string_codes one e =
      let k = keeps_string items one e in
      let place = reference_fragment items one.receiver in
      both_by whole (AreSendingsCode items whole.tables one.sendings) (IsStoredCode one.receiver one.pointer)
      (IsStringCode items whole.tables one)
      (sendings_fragment items one.sendings) (sequence place (put_fragment items one.pointer))
      (sendings_codes one.sendings k.sendings)
      (both_by whole (IsReferenceCode items whole.tables one.receiver) (IsPutCode items whole.tables one.pointer)
      (IsStoredCode one.receiver one.pointer) place
      (put_fragment items one.pointer) (place_codes receiver_item one.receiver k.receiver)
      (put_codes (only_length (items_referred items one.receiver)) one.pointer k.pointer)
      (λ front back is last. (front, is, back, last, refl)))
      (λ front back is others. (front, is, others.0, others.1, others.2, others.3, ap (λ l. front ++ l) others.4))

  -- ---- areas

  module _ (lie : (n : ℕ) (one : LocatedItem) → slice_get items n ≡ Some one → LiesWhole whole.tables one) where
    lies_sent : (one : Operand) → sent_rules items one ≡ [] → LiesOperand items whole.tables one
    lies_sent (operand.Item one) e = lies_all items whole entries lie sent_item one e
    lies_sent (operand.Literal one) e = tt

    lie_sent : (all : List Operand) → each (sent_rules items) all ≡ [] → LieOperands items whole.tables all
    lie_sent [] e = tt
    lie_sent (one ∷ more) e =
        let rules = sent_rules items in (
          lies_sent one (left_none (rules one) (each rules more) e),
          lie_sent more (right_none (rules one) (each rules more) e),
        )

    lies_delimiter : (one : Option Operand) → delimiter_rules items one ≡ [] → LiesDelimiter items whole.tables one
    lies_delimiter None e = tt
    lies_delimiter (Some one) e = lies_sent one e

    lie_sendings : (all : List Sending) → each (sending_rules items) all ≡ [] → LieSendings items whole.tables all
    lie_sendings [] e = tt
    lie_sendings (one ∷ more) e =
        let rules = sending_rules items in
        let senders = each (sent_rules items) one.senders in
        let delimiter = delimiter_rules items one.delimiter in
        let here = left_none (rules one) (each rules more) e in (
          lie_sent one.senders (left_none senders delimiter here),
          lies_delimiter one.delimiter (right_none senders delimiter here),
          lie_sendings more (right_none (rules one) (each rules more) e),
        )

    lies_pointer : (size : ℕ) (one : Option Reference) → pointer_rules items size one ≡ []
        → LiesPointer items whole.tables one
    lies_pointer size None e = tt
    lies_pointer size (Some one) e = lies_all items whole entries lie (pointer_item size) one e

    pub lies_string : {S : Type 0} (one : StringStatement S) → string_rules items one ≡ []
        → LiesString items whole.tables one
    lies_string one e =
        let k = keeps_string items one e in (
          lie_sendings one.sendings k.sendings,
          lies_all items whole entries lie receiver_item one.receiver k.receiver,
          lies_pointer (only_length (items_referred items one.receiver)) one.pointer k.pointer,
        )
