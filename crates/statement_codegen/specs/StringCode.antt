-- The code of STRING, without its phrases (own choice).
use Rattle.std.specs.Prelude.{ℕ, true, false, List, [], ◌∷◌, length, Option, Some, None}
use Rattle.source_tree.specs.declared.reference.Reference.{Reference}
use Rattle.source_tree.specs.declared.expression.Operand.{Operand}
use Rattle.source_tree.specs.declared.expression.Operand.TheVariants as operand
use Rattle.source_tree.specs.declared.string_statement.Sending.{Sending}
use Rattle.source_tree.specs.Broken.{RuleBreach}
use Rattle.source_tree.specs.Display.{shown_literal}
use Rattle.source_tree.specs.NameRules.{number_rules_of}
use Rattle.source_tree.specs.Places.{LocatedItem}
use Rattle.source_tree.specs.Stringing.{sent_of}
use Rattle.data_instructions.specs.declared.gather.Gather.TheVariants as g
use Rattle.data_instructions.specs.declared.instruction.DataInstruction.TheVariants as i
use Rattle.code_image.specs.declared.instruction.Instruction.TheVariants.{Data}
use Rattle.condition_codegen.specs.Fragments.{Fragment, no_tables, sequence, in_order}
use Rattle.condition_codegen.specs.Meeting.{nothing_fragment}
use Rattle.condition_codegen.specs.DataCode.{work_fragment, text_fragment, reference_fragment, take_fragment}

-- The bytes of the newest place up to a text, added to the line; the place is taken.
abbrev pub up_to_text_fragment : List ℕ → Fragment
up_to_text_fragment delimiter before = record {
  tables = record no_tables { texts = delimiter ∷ [] };
  files = [];
  starts = [];
  instructions = Data (i.Gather (g.UpToText (record { number = length before.tables.texts }))) ∷ [];
}

-- a text up to the bytes of the newest place, added to the line
abbrev pub text_up_to_place_fragment : List ℕ → Fragment
text_up_to_place_fragment bytes before = record {
  tables = record no_tables { texts = bytes ∷ [] };
  files = [];
  starts = [];
  instructions = Data (i.Gather (g.TextUpToPlace (record { number = length before.tables.texts }))) ∷ [];
}

-- `items` are those of the table of items, in order.
module _ (items : List LocatedItem) where
  abbrev pub sent_item_fragment : Option (List ℕ) → Reference → Fragment
  sent_item_fragment None one = take_fragment items (i.Gather g.Bytes) one
  sent_item_fragment (Some delimiter) one = sequence (reference_fragment items one) (up_to_text_fragment delimiter)

  -- A sender DELIMITED BY SIZE, or by a literal, up to which a sender that is a literal is cut here.
  abbrev pub sent_fragment : Option (List ℕ) → Operand → Fragment
  sent_fragment delimiter (operand.Item one) = sent_item_fragment delimiter one
  sent_fragment delimiter (operand.Literal one) = text_fragment (sent_of delimiter (shown_literal one.value))

  -- the place of a sender, which isn't wanted yet
  abbrev pub found_fragment : Operand → Fragment
  found_fragment (operand.Item one) = take_fragment items i.DropPlace one
  found_fragment (operand.Literal one) = nothing_fragment

  -- a sender up to the bytes of the newest place, which stays
  abbrev pub up_to_place_fragment : Operand → Fragment
  up_to_place_fragment (operand.Item one) = take_fragment items (i.Gather g.UpToPlace) one
  up_to_place_fragment (operand.Literal one) = text_up_to_place_fragment (shown_literal one.value)

  -- Senders up to an item, which is found after them, for faults in the order of writing.
  abbrev pub delimited_fragment : List Operand → Reference → Fragment
  delimited_fragment senders delimiter =
      sequence (in_order found_fragment senders) (sequence (reference_fragment items delimiter) (sequence (in_order up_to_place_fragment senders) (work_fragment i.DropPlace)))

  -- senders with their delimiter
  abbrev pub sender_by_fragment : List Operand → Option Operand → Fragment
  sender_by_fragment senders None = in_order (sent_fragment None) senders
  sender_by_fragment senders (Some (operand.Literal delimiter)) = in_order (sent_fragment (Some (shown_literal delimiter.value))) senders
  sender_by_fragment senders (Some (operand.Item delimiter)) = delimited_fragment senders delimiter

  abbrev pub sender_fragment : Sending → Fragment
  sender_fragment one = sender_by_fragment one.senders one.delimiter

  abbrev pub sendings_fragment : List Sending → Fragment
  sendings_fragment = in_order sender_fragment

  -- the rules of the numbers after the name of a pointer
  abbrev pub pointer_numbers : Option Reference → List RuleBreach
  pointer_numbers None = []
  pointer_numbers (Some pointer) = number_rules_of items pointer

  -- the pointer's place, if there is one, and what puts the text
  abbrev pub put_fragment : Option Reference → Fragment
  put_fragment None = work_fragment (i.String false)
  put_fragment (Some pointer) = take_fragment items (i.String true) pointer

  -- STRING, after its `tick` and before its phrases
  abbrev pub string_fragment : List Sending → Reference → Option Reference → Fragment
  string_fragment sendings receiver pointer = sequence (sendings_fragment sendings) (sequence (reference_fragment items receiver) (put_fragment pointer))
