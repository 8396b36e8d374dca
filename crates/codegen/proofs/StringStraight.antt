-- The code of STRING, without its phrases, is straight: it counts nothing and leads nowhere.
use Rattle.std.proofs.Common.{ℕ, true, false, List, Option, Some, None, refl}
use Rattle.source_tree.specs.declared.reference.Reference.{Reference}
use Rattle.source_tree.specs.declared.expression.Operand.{Operand}
use Rattle.source_tree.specs.declared.expression.Operand.TheVariants as operand
use Rattle.source_tree.specs.declared.string_statement.Sending.{Sending}
use Rattle.source_tree.specs.Display.{shown_literal}
use Rattle.source_tree.specs.Places.{LocatedItem}
use Rattle.source_tree.specs.Stringing.{sent_of}
use Rattle.data_instructions.specs.declared.gather.Gather.TheVariants as g
use Rattle.data_instructions.specs.declared.instruction.DataInstruction.TheVariants as i
use Rattle.condition_codegen.specs.Fragments.{sequence, in_order}
use Rattle.condition_codegen.specs.DataCode.{work_fragment, reference_fragment}
use Rattle.statement_codegen.specs.StringCode.{up_to_text_fragment, text_up_to_place_fragment, sent_item_fragment}
use Rattle.statement_codegen.specs.StringCode.{sent_fragment, found_fragment, up_to_place_fragment, sender_by_fragment}
use Rattle.statement_codegen.specs.StringCode.{sender_fragment, sendings_fragment, put_fragment, string_fragment}
use Rattle.codegen.proofs.Straight.{AlwaysStraight, both_straight, nothing_straight, in_order_straight, work_straight}
use Rattle.codegen.proofs.Straight.{text_straight, reference_straight, taking_straight}

up_to_text_straight : {items : List LocatedItem} (delimiter : List ℕ)
    → AlwaysStraight items (up_to_text_fragment delimiter)
up_to_text_straight delimiter before = record {
  instructions = (tt, tt);
  starts = refl;
  files = refl;
  areas = refl;
  entries = tt;
  senders = tt;
  inspections = tt;
}

text_up_to_place_straight : {items : List LocatedItem} (bytes : List ℕ)
    → AlwaysStraight items (text_up_to_place_fragment bytes)
text_up_to_place_straight bytes before = record {
  instructions = (tt, tt);
  starts = refl;
  files = refl;
  areas = refl;
  entries = tt;
  senders = tt;
  inspections = tt;
}

module _ (items : List LocatedItem) where
  sent_item_straight : (delimiter : Option (List ℕ)) (one : Reference)
      → AlwaysStraight items (sent_item_fragment items delimiter one)
  sent_item_straight None one = taking_straight items (i.Gather g.Bytes) one
  sent_item_straight (Some delimiter) one = both_straight (reference_fragment items one) (up_to_text_fragment delimiter)
      (reference_straight items one) (up_to_text_straight delimiter)

  sent_straight : (delimiter : Option (List ℕ)) (one : Operand)
      → AlwaysStraight items (sent_fragment items delimiter one)
  sent_straight delimiter (operand.Item one) = sent_item_straight delimiter one
  sent_straight delimiter (operand.Literal one) = text_straight (sent_of delimiter (shown_literal one.value))

  found_straight : (one : Operand) → AlwaysStraight items (found_fragment items one)
  found_straight (operand.Item one) before = taking_straight items i.DropPlace one before
  found_straight (operand.Literal one) before = nothing_straight

  up_to_place_straight : (one : Operand) → AlwaysStraight items (up_to_place_fragment items one)
  up_to_place_straight (operand.Item one) = taking_straight items (i.Gather g.UpToPlace) one
  up_to_place_straight (operand.Literal one) = text_up_to_place_straight (shown_literal one.value)

  sending_by_straight : (senders : List Operand) (delimiter : Option Operand)
      → AlwaysStraight items (sender_by_fragment items senders delimiter)
  sending_by_straight senders None = in_order_straight (sent_fragment items None) (sent_straight None) senders
  sending_by_straight senders (Some (operand.Literal delimiter)) =
      let text =
      Some (shown_literal delimiter.value) in in_order_straight (sent_fragment items text) (sent_straight text) senders
  sending_by_straight senders (Some (operand.Item delimiter)) =
      let found = in_order (found_fragment items) senders in
      let place = reference_fragment items delimiter in
      let parts = in_order (up_to_place_fragment items) senders in
      let last = work_fragment i.DropPlace in
      both_straight found (sequence place (sequence parts last))
      (in_order_straight (found_fragment items) found_straight senders)
      (both_straight place (sequence parts last) (reference_straight items delimiter)
      (both_straight parts last (in_order_straight (up_to_place_fragment items) up_to_place_straight senders)
      (work_straight i.DropPlace)))

  sendings_straight : (all : List Sending) → AlwaysStraight items (sendings_fragment items all)
  sendings_straight all =
      in_order_straight (sender_fragment items) (λ one. sending_by_straight one.senders one.delimiter) all

  put_straight : (pointer : Option Reference) → AlwaysStraight items (put_fragment items pointer)
  put_straight None = work_straight (i.String false)
  put_straight (Some pointer) = taking_straight items (i.String true) pointer

  pub string_straight : (sendings : List Sending) (receiver : Reference) (pointer : Option Reference)
      → AlwaysStraight items (string_fragment items sendings receiver pointer)
  string_straight sendings receiver pointer =
      let place = reference_fragment items receiver in
      both_straight (sendings_fragment items sendings) (sequence place (put_fragment items pointer))
      (sendings_straight sendings)
      (both_straight place (put_fragment items pointer) (reference_straight items receiver) (put_straight pointer))
