-- The code of INITIALIZE, SET and STRING finds what it needs.
use Rattle.std.proofs.Common.{◌≡◌, ℕ, ◌+◌, length, List, [], ◌∷◌, ◌++◌, sym, ◌∙◌, ap, Option, Some, None}
use Rattle.std.specs.Prelude.{true}
use Rattle.text_ops.specs.Strings.{delimited_characters}
use Rattle.source_tree.specs.declared.reference.Reference.{Reference}
use Rattle.source_tree.specs.declared.expression.Operand.{Operand}
use Rattle.source_tree.specs.declared.expression.Operand.TheVariants as operand
use Rattle.source_tree.specs.declared.string_statement.Sending.{Sending}
use Rattle.source_tree.specs.declared.string_statement.StringStatement.{StringStatement}
use Rattle.source_tree.specs.Display.{shown_literal}
use Rattle.source_tree.specs.Parts.{seen_through}
use Rattle.source_tree.specs.Places.{LocatedItem}
use Rattle.source_tree.specs.Initializing.{Pattern, named_pattern, set_pattern}
use Rattle.data_instructions.specs.declared.index.TextIndex.{TextIndex}
use Rattle.data_instructions.specs.declared.tables.DataTables.{DataTables}
use Rattle.data_instructions.specs.declared.gather.Gather.TheVariants as g
use Rattle.data_instructions.specs.declared.instruction.DataInstruction.{DataInstruction}
use Rattle.data_instructions.specs.declared.instruction.DataInstruction.TheVariants as i
use Rattle.data_instructions.specs.declared.shape.PlaceShape.{PlaceShape}
use Rattle.data_instructions.specs.declared.shape.Shape.{Shape}
use Rattle.data_instructions.specs.Shapes.{and_then, with_text, shape_with}
use Rattle.data_instructions.specs.Chains.{effects, greatest, last_begin, LiesAll, KnowsDisplay}
use Rattle.data_instructions.specs.Codes.{data_item}
use Rattle.data_instructions.specs.ArithmeticCodes.{LiesOperand, LieOperands}
use Rattle.data_instructions.specs.TextCodes.{HasPattern, IsInitializeCode, AreInitializedCode, IsSetCode, AreSetCode}
use Rattle.data_instructions.specs.TextCodes.{IsSentCode, AreSentCode, IsFoundCode, AreFoundCode, IsUpToPlaceCode}
use Rattle.data_instructions.specs.TextCodes.{AreUpToPlaceCode, IsSendingBy, AreSendingsCode, IsPutCode, IsStringCode}
use Rattle.data_instructions.specs.TextCodes.{KnowsAll, KnowsString, LieEach, LieConditions, LiesDelimiter, LieSendings}
use Rattle.data_instructions.specs.TextCodes.{LiesPointer, LiesString}
use Rattle.data_instructions.proofs.Chains.{effects_append, place_known, subscripts_known, reference_known}
use Rattle.data_instructions.proofs.Chains.{taking_known, text_known, longer, as_it_is}

module _ (items : List LocatedItem) (tables : DataTables) where
  abbrev above : PlaceShape → Shape → Shape
  above q s = record s { stacks = record { numbers = s.stacks.numbers; places = q ∷ s.stacks.places } }

  -- one part after another, each of which leaves all as it was
  both_stay : (front back code : List DataInstruction) → code ≡ front ++ back → KnowsAll items tables front
      → KnowsAll items tables back → KnowsAll items tables code
  both_stay front back code is one other s = ap (λ c. effects tables c s) is ∙ effects_append tables front back s
      ∙ ap (λ o. and_then o (effects tables back)) (one s) ∙ other s

  nothing_stays : (code : List DataInstruction) → code ≡ [] → KnowsAll items tables code
  nothing_stays code is s = ap (λ c. effects tables c s) is

  -- ---- INITIALIZE and SET

  overlay_known : (pattern : Pattern) (text : TextIndex) → HasPattern tables pattern text → (q : PlaceShape) (s : Shape)
      → effects tables (i.Overlay text ∷ []) (above q s) ≡ Some s
  overlay_known pattern text has q s =
      ap (λ o. and_then (shape_with (and_then o (λ bytes. with_text tables (text.number + 1) (Some s.stacks)))
      (Some s.line) (Some s.sender)) (effects tables [])) has.bytes
      ∙ ap (λ o. and_then (shape_with (and_then o (λ marks. Some s.stacks)) (Some s.line) (Some s.sender))
      (effects tables [])) has.marks

  one_initialized : (one : Reference) (code : List DataInstruction) → IsInitializeCode items tables one code
      → LiesAll items tables one → KnowsAll items tables code
  one_initialized one code (found, named, text, has, taking) lies s =
      taking_known items tables (i.Overlay text) one code taking lies s
      ∙ overlay_known (named_pattern (seen_through one found)) text has
      (record { item = taking.1.index; reach = last_begin taking.1.found one.part }) s

  pub initialize_known : (receivers : List Reference) (code : List DataInstruction)
      → AreInitializedCode items tables receivers code → LieEach items tables receivers → KnowsAll items tables code
  initialize_known [] code is lies = nothing_stays code is
  initialize_known (one ∷ more) code (front, is_front, back, is_back, is) lies = both_stay front back code is
      (one_initialized one front is_front lies.0) (initialize_known more back is_back lies.1)

  one_set_known : (one : Reference) (code : List DataInstruction) → IsSetCode items tables one code
      → LieConditions items tables (one ∷ []) → KnowsAll items tables code
  one_set_known one code (found, named, index, entry, subscripts, each, text, has, is) lies s =
      ap (λ c. effects tables c s) is
      ∙ place_known items tables index (data_item found.item) entry (subscripts ++ (i.Overlay text ∷ [])) s
      ∙ effects_append tables subscripts (i.Overlay text ∷ [])
      (above (record { item = index; reach = found.item.offset }) s)
      ∙ ap (λ o. and_then o (effects tables (i.Overlay text ∷ []))) (subscripts_known items tables found.item.dimensions
      one.subscripts subscripts each index (data_item found.item) found.item.offset entry (lies.0 found named) s)
      ∙ overlay_known (set_pattern found) text has
      (record { item = index; reach = greatest found.item.offset found.item.dimensions }) s

  pub set_known : (conditions : List Reference) (code : List DataInstruction) → AreSetCode items tables conditions code
      → LieConditions items tables conditions → KnowsAll items tables code
  set_known [] code is lies = nothing_stays code is
  set_known (one ∷ more) code (front, is_front, back, is_back, is) lies =
      both_stay front back code is (one_set_known one front is_front (lies.0, tt)) (set_known more back is_back lies.1)

  -- ---- STRING

  sent_known : (delimiter : Option (List ℕ)) (one : Operand) (code : List DataInstruction)
      → IsSentCode items tables delimiter one code → LiesOperand items tables one → KnowsDisplay items tables code
  sent_known None (operand.Item reference) code is lies s = (
    s.line + (seen_through reference is.1.found).item.length,
    taking_known items tables (i.Gather g.Bytes) reference code is lies s
        ∙ ap (λ o. and_then (shape_with (Some s.stacks) (and_then o (λ one. Some (s.line + one.item.length)))
        (Some s.sender)) (effects tables [])) is.1.entry,
  )
  sent_known (Some delimiter) (operand.Item reference) code (text, has, taking) lies s = (
    s.line + (seen_through reference taking.1.found).item.length,
    taking_known items tables (i.Gather (g.UpToText text)) reference code taking lies s
        ∙ ap (λ o. and_then (shape_with (with_text tables text.number (Some s.stacks))
        (and_then o (λ one. Some (s.line + one.item.length))) (Some s.sender)) (effects tables [])) taking.1.entry
        ∙ ap (λ o. and_then (shape_with (and_then o (λ bytes. Some s.stacks))
        (Some (s.line + (seen_through reference taking.1.found).item.length)) (Some s.sender)) (effects tables [])) has,
  )
  sent_known None (operand.Literal one) code is lies s =
      (_, text_known items tables (shown_literal one.value) code is s)
  sent_known (Some delimiter) (operand.Literal one) code is lies s =
      (_, text_known items tables (delimited_characters delimiter (shown_literal one.value)) code is s)

  each_sent_known : (delimiter : Option (List ℕ)) (senders : List Operand) (code : List DataInstruction)
      → AreSentCode items tables delimiter senders code → LieOperands items tables senders
      → KnowsDisplay items tables code
  each_sent_known delimiter [] code is lies = λ s. (s.line, ap (λ c. effects tables c s) is)
  each_sent_known delimiter (one ∷ more) code (front, is_front, back, is_back, is) lies =
      as_it_is items tables code (front ++ back) is (longer items tables front back
      (sent_known delimiter one front is_front lies.0) (each_sent_known delimiter more back is_back lies.1))

  found_known : (one : Operand) (code : List DataInstruction) → IsFoundCode items tables one code
      → LiesOperand items tables one → KnowsAll items tables code
  found_known (operand.Item reference) code is lies s = taking_known items tables i.DropPlace reference code is lies s
  found_known (operand.Literal one) code is lies s = nothing_stays code is s

  each_found_known : (senders : List Operand) (code : List DataInstruction) → AreFoundCode items tables senders code
      → LieOperands items tables senders → KnowsAll items tables code
  each_found_known [] code is lies = nothing_stays code is
  each_found_known (one ∷ more) code (front, is_front, back, is_back, is) lies =
      both_stay front back code is (found_known one front is_front lies.0) (each_found_known more back is_back lies.1)

  -- with a place below, which stays
  abbrev KnowsOver : PlaceShape → List DataInstruction → Type 0
  KnowsOver q code =
      (s : Shape) → (line : ℕ) × (effects tables code (above q s) ≡ Some (above q (record s { line = line })))

  up_known : (one : Operand) (code : List DataInstruction) → IsUpToPlaceCode items tables one code
      → LiesOperand items tables one → (q : PlaceShape) → KnowsOver q code
  up_known (operand.Item reference) code is lies q s = (
    s.line + (seen_through reference is.1.found).item.length,
    taking_known items tables (i.Gather g.UpToPlace) reference code is lies (above q s)
        ∙ ap (λ o. and_then (shape_with (Some (above q s).stacks) (and_then o (λ one. Some (s.line + one.item.length)))
        (Some s.sender)) (effects tables [])) is.1.entry,
  )
  up_known (operand.Literal one) code (text, has, is) lies q s = (
    s.line + length (shown_literal one.value),
    ap (λ c. effects tables c (above q s)) is
        ∙ ap (λ o. and_then (shape_with (and_then o (λ bytes. Some (above q s).stacks))
        (and_then o (λ bytes. Some (s.line + length bytes))) (Some s.sender)) (effects tables [])) has,
  )

  each_up_known : (senders : List Operand) (code : List DataInstruction) → AreUpToPlaceCode items tables senders code
      → LieOperands items tables senders → (q : PlaceShape) → KnowsOver q code
  each_up_known [] code is lies q s = (s.line, ap (λ c. effects tables c (above q s)) is)
  each_up_known (one ∷ more) code (front, is_front, back, is_back, is) lies q s =
      let first = up_known one front is_front lies.0 q s in
      let rest = each_up_known more back is_back lies.1 q (record s { line = first.0 }) in (
        rest.0,
        ap (λ c. effects tables c (above q s)) is ∙ effects_append tables front back (above q s)
            ∙ ap (λ o. and_then o (effects tables back)) first.1 ∙ rest.1,
      )

  sending_known : (senders : List Operand) (delimiter : Option Operand) (code : List DataInstruction)
      → IsSendingBy items tables senders delimiter code → LieOperands items tables senders
      → LiesDelimiter items tables delimiter → KnowsDisplay items tables code
  sending_known senders None code is lie lies s = each_sent_known None senders code is lie s
  sending_known senders (Some (operand.Literal delimiter)) code is lie lies s =
      each_sent_known (Some (shown_literal delimiter.value)) senders code is lie s
  sending_known senders (Some (operand.Item delimiter)) code (front, is_front, delimiting, r, parts, are, is) lie lies
      s =
      let q : PlaceShape = record { item = r.index; reach = last_begin r.found delimiter.part } in
      let last : List DataInstruction = i.DropPlace ∷ [] in
      let up = each_up_known senders parts are lie q s in (
        up.0,
        ap (λ c. effects tables c s) is
            ∙ effects_append tables front (delimiting ++ (parts ++ last)) s
            ∙ ap (λ o. and_then o (effects tables (delimiting ++ (parts ++ last))))
            (each_found_known senders front is_front lie s)
            ∙ effects_append tables delimiting (parts ++ last) s
            ∙ ap (λ o. and_then o (effects tables (parts ++ last)))
            (reference_known items tables delimiter delimiting r lies s)
            ∙ effects_append tables parts last (above q s)
            ∙ ap (λ o. and_then o (effects tables last)) up.1,
      )

  pub sendings_known : (sendings : List Sending) (code : List DataInstruction)
      → AreSendingsCode items tables sendings code → LieSendings items tables sendings → KnowsDisplay items tables code
  sendings_known [] code is lies = λ s. (s.line, ap (λ c. effects tables c s) is)
  sendings_known (one ∷ more) code (front, is_front, back, is_back, is) (senders, delimiter, others) =
      as_it_is items tables code (front ++ back) is (longer items tables front back (sending_known one.senders
      one.delimiter front is_front senders delimiter) (sendings_known more back is_back others))

  -- the line is empty then
  put_known : (pointer : Option Reference) (code : List DataInstruction)
      → IsPutCode items tables pointer code → LiesPointer items tables pointer → (q : PlaceShape) (s : Shape)
      → effects tables code (above q s) ≡ Some (record s { line = 0 })
  put_known None code is lies q s = ap (λ c. effects tables c (above q s)) is
  put_known (Some pointer) code is lies q s = taking_known items tables (i.String true) pointer code is lies (above q s)

  pub string_known : {S : Type 0} (one : StringStatement S) (code : List DataInstruction)
      → IsStringCode items tables one code → LiesString items tables one → KnowsString items tables code
  string_known one code (sendings, are, receiver, r, back, is_back, is) (lie, lies, points) s empty =
      let sends = sendings_known one.sendings sendings are lie s in
      let t : Shape = record s { line = sends.0 } in
      ap (λ c. effects tables c s) is
      ∙ effects_append tables sendings (receiver ++ back) s
      ∙ ap (λ o. and_then o (effects tables (receiver ++ back))) sends.1
      ∙ effects_append tables receiver back t
      ∙ ap (λ o. and_then o (effects tables back)) (reference_known items tables one.receiver receiver r lies t)
      ∙ put_known one.pointer back is_back points
      (record { item = r.index; reach = last_begin r.found one.receiver.part }) t
      ∙ ap (λ line. Some (record s { line = line })) (sym empty)
