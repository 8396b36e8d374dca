-- The code of STRING doesn't depend on the instructions before it, but on how many there are.
use Rattle.std.proofs.Common.{ℕ, true, false, List, [], ◌∷◌, length, Option, Some, None}
use Rattle.source_tree.specs.declared.reference.Reference.{Reference}
use Rattle.source_tree.specs.declared.expression.Operand.{Operand}
use Rattle.source_tree.specs.declared.expression.Operand.TheVariants as operand
use Rattle.source_tree.specs.declared.string_statement.Sending.{Sending}
use Rattle.source_tree.specs.Display.{shown_literal}
use Rattle.source_tree.specs.Places.{LocatedItem}
use Rattle.source_tree.specs.Stringing.{sent_of}
use Rattle.data_instructions.specs.declared.gather.Gather.TheVariants as g
use Rattle.data_instructions.specs.declared.tables.DataTables.{DataTables}
use Rattle.data_instructions.specs.declared.instruction.DataInstruction.TheVariants as i
use Rattle.code_image.specs.declared.instruction.Instruction.TheVariants.{Data}
use Rattle.condition_codegen.specs.Fragments.{no_tables, empty_code, sequence, in_order}
use Rattle.condition_codegen.specs.DataCode.{work_fragment, reference_fragment}
use Rattle.statement_codegen.specs.StringCode.{up_to_text_fragment, text_up_to_place_fragment, sent_item_fragment}
use Rattle.statement_codegen.specs.StringCode.{sent_fragment, found_fragment, up_to_place_fragment, sender_by_fragment}
use Rattle.statement_codegen.specs.StringCode.{sender_fragment, sendings_fragment, put_fragment, string_fragment}
use Rattle.codegen.proofs.Blind.{Blind, constant_blind, tables_blind, both_blind, in_order_blind, work_blind}
use Rattle.codegen.proofs.Blind.{text_blind, reference_blind, taking_blind}

up_to_text_blind : (delimiter : List ℕ) → Blind (up_to_text_fragment delimiter)
up_to_text_blind delimiter = tables_blind (λ (t : DataTables). record {
  tables = record no_tables { texts = delimiter ∷ [] };
  files = [];
  starts = [];
  instructions = Data (i.Gather (g.UpToText (record { number = length t.texts }))) ∷ [];
})

text_up_to_place_blind : (bytes : List ℕ) → Blind (text_up_to_place_fragment bytes)
text_up_to_place_blind bytes = tables_blind (λ (t : DataTables). record {
  tables = record no_tables { texts = bytes ∷ [] };
  files = [];
  starts = [];
  instructions = Data (i.Gather (g.TextUpToPlace (record { number = length t.texts }))) ∷ [];
})

module _ (items : List LocatedItem) where
  sent_item_blind : (delimiter : Option (List ℕ)) (one : Reference) → Blind (sent_item_fragment items delimiter one)
  sent_item_blind None one = taking_blind items (i.Gather g.Bytes) one
  sent_item_blind (Some delimiter) one = both_blind (reference_fragment items one) (up_to_text_fragment delimiter)
      (reference_blind items one) (up_to_text_blind delimiter)

  sent_blind : (delimiter : Option (List ℕ)) (one : Operand) → Blind (sent_fragment items delimiter one)
  sent_blind delimiter (operand.Item one) = sent_item_blind delimiter one
  sent_blind delimiter (operand.Literal one) = text_blind (sent_of delimiter (shown_literal one.value))

  found_blind : (one : Operand) → Blind (found_fragment items one)
  found_blind (operand.Item one) = taking_blind items i.DropPlace one
  found_blind (operand.Literal one) = constant_blind empty_code

  up_to_place_blind : (one : Operand) → Blind (up_to_place_fragment items one)
  up_to_place_blind (operand.Item one) = taking_blind items (i.Gather g.UpToPlace) one
  up_to_place_blind (operand.Literal one) = text_up_to_place_blind (shown_literal one.value)

  sending_by_blind : (senders : List Operand) (delimiter : Option Operand)
      → Blind (sender_by_fragment items senders delimiter)
  sending_by_blind senders None = in_order_blind (sent_fragment items None) (λ one. sent_blind None one) senders
  sending_by_blind senders (Some (operand.Literal delimiter)) =
      let text = Some (shown_literal delimiter.value) in
      in_order_blind (sent_fragment items text) (λ one. sent_blind text one) senders
  sending_by_blind senders (Some (operand.Item delimiter)) =
      let found = in_order (found_fragment items) senders in
      let place = reference_fragment items delimiter in
      let parts = in_order (up_to_place_fragment items) senders in
      let last = work_fragment i.DropPlace in
      both_blind found (sequence place (sequence parts last))
      (in_order_blind (found_fragment items) (λ one. found_blind one) senders)
      (both_blind place (sequence parts last) (reference_blind items delimiter)
      (both_blind parts last (in_order_blind (up_to_place_fragment items) (λ one. up_to_place_blind one) senders)
      (work_blind i.DropPlace)))

  sendings_blind : (all : List Sending) → Blind (sendings_fragment items all)
  sendings_blind all = in_order_blind (sender_fragment items) (λ one. sending_by_blind one.senders one.delimiter) all

  put_blind : (pointer : Option Reference) → Blind (put_fragment items pointer)
  put_blind None = work_blind (i.String false)
  put_blind (Some pointer) = taking_blind items (i.String true) pointer

  pub string_blind : (sendings : List Sending) (receiver : Reference) (pointer : Option Reference)
      → Blind (string_fragment items sendings receiver pointer)
  string_blind sendings receiver pointer =
      let place = reference_fragment items receiver in
      both_blind (sendings_fragment items sendings) (sequence place (put_fragment items pointer))
      (sendings_blind sendings)
      (both_blind place (put_fragment items pointer) (reference_blind items receiver) (put_blind pointer))
