-- The code of INITIALIZE, SET and STRING does what they mean.
use Rattle.std.proofs.Common.{◌≡◌, ℕ, ◌+◌, List, [], ◌∷◌, ◌++◌, map, refl, sym, ◌∙◌, ap, subst, Option, Some, None}
use Rattle.std.specs.Prelude.{true, false, slice_get, Ok, Err}
use Rattle.std.proofs.lemmas.List.{append_assoc, append-nil}
use Rattle.text_ops.specs.Strings.{delimited_characters}
use Rattle.source_tree.specs.declared.reference.Reference.{Reference}
use Rattle.source_tree.specs.declared.expression.Operand.{Operand}
use Rattle.source_tree.specs.declared.expression.Operand.TheVariants as operand
use Rattle.source_tree.specs.declared.string_statement.Sending.{Sending}
use Rattle.source_tree.specs.declared.string_statement.StringStatement.{StringStatement}
use Rattle.source_tree.specs.Display.{shown_literal}
use Rattle.source_tree.specs.Places.{LocatedItem}
use Rattle.source_tree.specs.LookUp.{NamedCondition}
use Rattle.source_tree.specs.Storage.{Storage}
use Rattle.source_tree.specs.Evaluated.{Evaluation, ◌>>=◌, evaluation_of}
use Rattle.source_tree.specs.References.{ItemPlace, part_of, place_after, place_of, occurrence}
use Rattle.source_tree.specs.References.{referred_place}
use Rattle.source_tree.specs.Parts.{seen_through}
use Rattle.source_tree.specs.References as tree
use Rattle.source_tree.specs.Initializing.{Pattern, overlaid_storage, named_pattern, set_pattern, initialize}
use Rattle.source_tree.specs.Initializing.{storage_after_set}
use Rattle.source_tree.specs.Stringing.{Strings, text_of, texts_of, delimiter_of, sent_of, sent_of_each, sent_bytes}
use Rattle.source_tree.specs.Stringing.{all_sent, held_position, pointer_of, put_text, string_stores}
use Rattle.data_instructions.specs.declared.index.TextIndex.{TextIndex}
use Rattle.data_instructions.specs.declared.tables.DataTables.{DataTables}
use Rattle.data_instructions.specs.declared.gather.Gather.TheVariants as g
use Rattle.data_instructions.specs.declared.instruction.DataInstruction.{DataInstruction}
use Rattle.data_instructions.specs.declared.instruction.DataInstruction.TheVariants as i
use Rattle.data_instructions.specs.Tables.{IsTables, shortened_item, item_place}
use Rattle.data_instructions.specs.Scratch.{Scratch, Step, Continues, step_with, step_at}
use Rattle.data_instructions.specs.Table.{at_place, place_step, append_step, pattern_of, laid_over, place_at}
use Rattle.data_instructions.specs.Table.{newest_place, strung_to, work}
use Rattle.data_instructions.specs.Codes.{go_on, works, IsReferenceCode}
use Rattle.data_instructions.specs.TextCodes.{new_byte, new_mark, HasPattern, IsInitializeCode, AreInitializedCode}
use Rattle.data_instructions.specs.TextCodes.{IsSetCode, AreSetCode, IsSentCode, AreSentCode, IsFoundCode, AreFoundCode}
use Rattle.data_instructions.specs.TextCodes.{IsUpToPlaceCode, AreUpToPlaceCode, IsSendingBy, AreSendingsCode}
use Rattle.data_instructions.specs.TextCodes.{IsPutCode, IsStringCode}
use Rattle.data_instructions.proofs.Subscripts.{go_with, with_same, with_bind, works_append, nothing_more}
use Rattle.data_instructions.proofs.Codes.{taking_works}
use Rattle.data_instructions.proofs.Subscripts.{with_known, at, subscripts_works}
use Rattle.data_instructions.proofs.Codes.{text_works, reference_works, place_shown}

-- a pattern, by its bytes and their marks
pattern_same : (pattern : Pattern) → pattern_of (map new_byte pattern) (map new_mark pattern) ≡ pattern
pattern_same [] = refl
pattern_same (None ∷ more) = ap (λ (p : Pattern). None ∷ p) (pattern_same more)
pattern_same (Some byte ∷ more) = ap (λ (p : Pattern). Some byte ∷ p) (pattern_same more)

-- Nothing is stored in between, so that what is found out a second time is the same.
again : {A B : Type 0} (r : Evaluation A) (other : Evaluation B) (go : B → A → Step)
    → step_with r (λ x. step_with other (λ y. step_with r (go y))) ≡ step_with r (λ x. step_with other (λ y. go y x))
again (Ok x) other go = refl
again (Err fault) other go = refl

module _ (items : List LocatedItem) (tables : DataTables) (order : IsTables tables) where
  -- ---- INITIALIZE and SET

  overlay_works : (pattern : Pattern) (text : TextIndex) → HasPattern tables pattern text → (s : Scratch)
      → work tables (i.Overlay text) s ≡ at_place tables (laid_over pattern) s
  overlay_works pattern text has s =
      ap (λ o. step_at o (λ bytes. step_at (slice_get tables.texts (text.number + 1))
      (λ marks. at_place tables (laid_over (pattern_of bytes marks)) s))) has.bytes
      ∙ ap (λ o. step_at o (λ marks. at_place tables (laid_over (pattern_of (map new_byte pattern) marks)) s)) has.marks
      ∙ ap (λ (p : Pattern). at_place tables (laid_over p) s) (pattern_same pattern)

  pub initialize_works : (receivers : List Reference) (code : List DataInstruction)
      → AreInitializedCode items tables receivers code → (s : Scratch)
      → works tables code s
      ≡ step_with (initialize items receivers s.storage) (λ after. Continues (record s { storage = after }))
  initialize_works [] code is s = ap (λ c. works tables c s) is
  initialize_works (one ∷ more) code (front, is_front, back, is_back, is) s =
      ap (λ c. works tables c s) is ∙ works_append tables front back s
      ∙ by_front is_front (λ after. initialize_works more back is_back (record s { storage = after }))
    where
      done : Storage → Step
      done after = Continues (record s { storage = after })

      by_front : IsInitializeCode items tables one front → ((after : Storage)
          → works tables back (record s { storage = after }) ≡ step_with (initialize items more after) done)
          → go_on (works tables front s) (works tables back) ≡ step_with (initialize items (one ∷ more) s.storage) done
      by_front (found, named, text, has, taking) rest =
          let pattern : Pattern = named_pattern (seen_through one found) in
          ap (λ step. go_on step (works tables back)) (taking_works items tables order (i.Overlay text)
          (laid_over pattern) (overlay_works pattern text has) one front taking s)
          ∙ go_with (place_of items one s.storage) (λ place. laid_over pattern place s) (works tables back)
          ∙ ap (λ o. step_with (evaluation_of o >>= (λ it. referred_place items one it s.storage))
          (λ place. go_on (laid_over pattern place s) (works tables back))) named
          ∙ with_same (referred_place items one found s.storage) _ _
          (λ place. rest (overlaid_storage pattern place s.storage))
          ∙ sym (with_bind (referred_place items one found s.storage)
          (λ place. initialize items more (overlaid_storage pattern place s.storage)) done)
          ∙ ap (λ o. step_with (evaluation_of o >>= (λ it. referred_place items one it s.storage >>= (λ place.
          initialize items more (overlaid_storage (named_pattern (seen_through one it)) place s.storage)))) done)
          (sym named)

  -- the occurrence of a condition name's item takes the value
  one_set : (one : Reference) (code : List DataInstruction) (is : IsSetCode items tables one code) (s : Scratch)
      → works tables code s
      ≡ step_with (occurrence items one.subscripts is.0.item s.storage) (λ place. laid_over (set_pattern is.0) place s)
  one_set one code (found, named, index, entry, subscripts, each, text, has, is) s =
      ap (λ c. works tables c s) is
      ∙ ap (λ o. go_on (step_at o (λ it. place_step index it s)) (works tables (subscripts ++ last))) entry
      ∙ works_append tables subscripts last (record s
      { places = record { item = index; offset = found.item.offset; length = found.item.item.length } ∷ s.places })
      ∙ ap (λ step. go_on step (works tables last)) (subscripts_works items tables order found.item.dimensions
      one.subscripts subscripts each index found.item.item.length found.item.offset s)
      ∙ go_with behind (λ more. Continues (stands more)) (works tables last)
      ∙ with_same behind _ _ (λ more.
      nothing_more tables (work tables (i.Overlay text) (stands more))
      ∙ overlay_works (set_pattern found) text has (stands more)
      ∙ ap (λ o. step_at o (λ it. laid_over (set_pattern found)
      (item_place (shortened_item it found.item.item.length) (found.item.offset + more)) s)) entry)
      ∙ sym
      (with_bind behind (λ more. Ok (place_after found.item more)) (λ place. laid_over (set_pattern found) place s))
    where
      last : List DataInstruction
      last = i.Overlay text ∷ []

      behind : Evaluation ℕ
      behind = tree.bytes_before items found.item.dimensions one.subscripts s.storage

      stands : ℕ → Scratch
      stands more = at index found.item.item.length (found.item.offset + more) s

  pub set_works : (conditions : List Reference) (code : List DataInstruction) → AreSetCode items tables conditions code
      → (s : Scratch)
      → works tables code s
      ≡ step_with (storage_after_set items conditions s.storage) (λ after. Continues (record s { storage = after }))
  set_works [] code is s = ap (λ c. works tables c s) is
  set_works (one ∷ more) code (front, is_front, back, is_back, is) s =
      let found : NamedCondition = is_front.0 in
      let there : Evaluation ItemPlace = occurrence items one.subscripts found.item s.storage in
      ap (λ c. works tables c s) is
      ∙ works_append tables front back s
      ∙ ap (λ step. go_on step (works tables back)) (one_set one front is_front s)
      ∙ go_with there (λ place. laid_over (set_pattern found) place s) (works tables back)
      ∙ with_same there _ _ (λ place.
      set_works more back is_back (record s { storage = overlaid_storage (set_pattern found) place s.storage }))
      ∙ sym (with_bind there (λ place. storage_after_set items more
      (overlaid_storage (set_pattern found) place s.storage)) (λ after. Continues (record s { storage = after })))
      ∙ ap (λ o. step_with (evaluation_of o >>= (λ it. occurrence items one.subscripts it.item
      s.storage >>= (λ place. storage_after_set items more (overlaid_storage (set_pattern it) place s.storage))))
      (λ after. Continues (record s { storage = after }))) (sym is_front.1)

  -- ---- STRING

  -- a sender DELIMITED BY SIZE or by a literal
  sent_works : (delimiter : Option (List ℕ)) (one : Operand) (code : List DataInstruction)
      → IsSentCode items tables delimiter one code → (s : Scratch)
      → works tables code s ≡ step_with (text_of items one s.storage) (λ text. append_step (sent_of delimiter text) s)
  sent_works None (operand.Item reference) code is s =
      taking_works items tables order (i.Gather g.Bytes) (λ place t. append_step (part_of t.storage place) t)
      (λ t. refl) reference code is s
      ∙ sym (with_bind (place_of items reference s.storage) (λ place. Ok (part_of s.storage place))
      (λ text. append_step text s))
  sent_works (Some delimiter) (operand.Item reference) code (text, has, taking) s =
      taking_works items tables order (i.Gather (g.UpToText text))
      (λ place t. append_step (delimited_characters delimiter (part_of t.storage place)) t)
      (λ t. ap (λ o. step_at o (λ bytes. at_place tables (λ place u.
      append_step (delimited_characters bytes (part_of u.storage place)) u) t)) has) reference code taking s
      ∙ sym (with_bind (place_of items reference s.storage) (λ place. Ok (part_of s.storage place))
      (λ text. append_step (delimited_characters delimiter text) s))
  sent_works None (operand.Literal one) code is s = text_works items tables order (shown_literal one.value) code is s
  sent_works (Some delimiter) (operand.Literal one) code is s =
      text_works items tables order (delimited_characters delimiter (shown_literal one.value)) code is s

  -- one text after another, each put after what is in the line
  both_put :
      (delimiter : Option (List ℕ)) (one : Operand) (more : List Operand) (back : List DataInstruction) (s : Scratch)
      → ((t : Scratch) → t.storage ≡ s.storage → t.places ≡ s.places → works tables back t ≡ step_with
      (texts_of items more t.storage) (λ texts. append_step (sent_of_each delimiter texts) t))
      → go_on (step_with (text_of items one s.storage) (λ text. append_step (sent_of delimiter text) s)) (works tables
      back) ≡ step_with (texts_of items (one ∷ more) s.storage) (λ texts. append_step (sent_of_each delimiter texts) s)
  both_put delimiter one more back s rest =
      let put : List (List ℕ) → Step = λ texts. append_step (sent_of_each delimiter texts) s in
      go_with (text_of items one s.storage) (λ text. append_step (sent_of delimiter text) s) (works tables back)
      ∙ with_same (text_of items one s.storage) _ _ (λ text.
      rest (record s { line = s.line ++ sent_of delimiter text }) refl refl
      ∙ with_same (texts_of items more s.storage) _ _ (λ others. ap (λ line. Continues (record s { line = line }))
      (append_assoc s.line (sent_of delimiter text) (sent_of_each delimiter others)))
      ∙ sym (with_bind (texts_of items more s.storage) (λ others. Ok (text ∷ others)) put))
      ∙ sym (with_bind (text_of items one s.storage)
      (λ text. texts_of items more s.storage >>= (λ others. Ok (text ∷ others))) put)

  nothing_put : (code : List DataInstruction) → code ≡ [] → (s : Scratch) → works tables code s ≡ append_step [] s
  nothing_put code is s =
      ap (λ c. works tables c s) is ∙ ap (λ line. Continues (record s { line = line })) (sym (append-nil s.line))

  each_sent : (delimiter : Option (List ℕ)) (senders : List Operand) (code : List DataInstruction)
      → AreSentCode items tables delimiter senders code → (s : Scratch)
      → works tables code s
      ≡ step_with (texts_of items senders s.storage) (λ texts. append_step (sent_of_each delimiter texts) s)
  each_sent delimiter [] code is s = nothing_put code is s
  each_sent delimiter (one ∷ more) code (front, is_front, back, is_back, is) s =
      ap (λ c. works tables c s) is
      ∙ works_append tables front back s
      ∙ ap (λ step. go_on step (works tables back)) (sent_works delimiter one front is_front s)
      ∙ both_put delimiter one more back s (λ t storage places. each_sent delimiter more back is_back t)

  -- the first time a sender's place is found
  found_works : (one : Operand) (code : List DataInstruction) → IsFoundCode items tables one code → (s : Scratch)
      → works tables code s ≡ step_with (text_of items one s.storage) (λ text. Continues s)
  found_works (operand.Item reference) code is s =
      taking_works items tables order i.DropPlace (λ place t. Continues t) (λ t. refl) reference code is s
      ∙ sym
      (with_bind (place_of items reference s.storage) (λ place. Ok (part_of s.storage place)) (λ text. Continues s))
  found_works (operand.Literal one) code is s = ap (λ c. works tables c s) is

  each_found : (senders : List Operand) (code : List DataInstruction) → AreFoundCode items tables senders code
      → (s : Scratch) → works tables code s ≡ step_with (texts_of items senders s.storage) (λ texts. Continues s)
  each_found [] code is s = ap (λ c. works tables c s) is
  each_found (one ∷ more) code (front, is_front, back, is_back, is) s =
      ap (λ c. works tables c s) is
      ∙ works_append tables front back s
      ∙ ap (λ step. go_on step (works tables back)) (found_works one front is_front s)
      ∙ go_with (text_of items one s.storage) (λ text. Continues s) (works tables back)
      ∙ with_same (text_of items one s.storage) _ _ (λ text. each_found more back is_back s
      ∙ sym (with_bind (texts_of items more s.storage) (λ others. Ok (text ∷ others)) (λ texts. Continues s)))
      ∙ sym (with_bind (text_of items one s.storage)
      (λ text. texts_of items more s.storage >>= (λ others. Ok (text ∷ others))) (λ texts. Continues s))

  -- the second time, with the delimiter's place below
  up_works : (one : Operand) (code : List DataInstruction) → IsUpToPlaceCode items tables one code
      → (next : ItemPlace) (s : Scratch) → newest_place tables s.places ≡ Some next
      → works tables code s ≡ step_with (text_of items one s.storage)
      (λ text. append_step (delimited_characters (part_of s.storage next) text) s)
  up_works (operand.Item reference) code is next s below =
      taking_works items tables order (i.Gather g.UpToPlace) (λ place t. step_at (newest_place tables t.places)
      (λ next. append_step (delimited_characters (part_of t.storage next) (part_of t.storage place)) t)) (λ t. refl)
      reference code is s
      ∙ with_same (place_of items reference s.storage) _ _ (λ place. ap (λ o. step_at o
      (λ next. append_step (delimited_characters (part_of s.storage next) (part_of s.storage place)) s)) below)
      ∙ sym (with_bind (place_of items reference s.storage) (λ place. Ok (part_of s.storage place))
      (λ text. append_step (delimited_characters (part_of s.storage next) text) s))
  up_works (operand.Literal one) code (text, has, is) next s below =
      ap (λ c. works tables c s) is
      ∙ nothing_more tables (work tables (i.Gather (g.TextUpToPlace text)) s)
      ∙ ap (λ o. step_at o (λ bytes. step_at (newest_place tables s.places)
      (λ next. append_step (delimited_characters (part_of s.storage next) bytes) s))) has
      ∙ ap (λ o.
      step_at o (λ next. append_step (delimited_characters (part_of s.storage next) (shown_literal one.value)) s)) below

  each_up : (senders : List Operand) (code : List DataInstruction) → AreUpToPlaceCode items tables senders code
      → (next : ItemPlace) (bytes : List ℕ) (s : Scratch) → newest_place tables s.places ≡ Some next
      → part_of s.storage next ≡ bytes
      → works tables code s
      ≡ step_with (texts_of items senders s.storage) (λ texts. append_step (sent_of_each (Some bytes) texts) s)
  each_up [] code is next bytes s below holds = nothing_put code is s
  each_up (one ∷ more) code (front, is_front, back, is_back, is) next bytes s below holds =
      ap (λ c. works tables c s) is
      ∙ works_append tables front back s
      ∙ ap (λ step. go_on step (works tables back)) (up_works one front is_front next s below)
      ∙ ap (λ d. go_on (step_with (text_of items one s.storage) (λ text. append_step (delimited_characters d text) s))
      (works tables back)) holds
      ∙ both_put (Some bytes) one more back s (λ t storage places.
      each_up more back is_back next bytes t (ap (newest_place tables) places ∙ below)
      (ap (λ (x : Storage). part_of x next) storage ∙ holds))

  -- a delimiter that is an item, and what is sent up to its bytes
  delimiter_works : (delimiter : Reference) (code : List DataInstruction) → IsReferenceCode items tables delimiter code
      → (senders : List Operand) (parts : List DataInstruction) → AreUpToPlaceCode items tables senders parts
      → (s : Scratch)
      → works tables (code ++ (parts ++ (i.DropPlace ∷ []))) s
      ≡ step_with (place_of items delimiter s.storage) (λ place. step_with (texts_of items senders s.storage)
      (λ texts. append_step (sent_of_each (Some (part_of s.storage place)) texts) s))
  delimiter_works delimiter code r senders parts are s =
      works_append tables code later s
      ∙ ap (λ step. go_on step (works tables later)) (reference_works items tables order delimiter code r s)
      ∙ go_with there (λ place. Continues (stands place)) (works tables later)
      ∙ with_known there _ _ below
      ∙ ap (λ o. step_with (evaluation_of o >>= (λ found. referred_place items delimiter found s.storage)) puts)
      (sym r.named)
    where
      later : List DataInstruction
      later = parts ++ (i.DropPlace ∷ [])

      there : Evaluation ItemPlace
      there = referred_place items delimiter r.found s.storage

      stands : ItemPlace → Scratch
      stands place = at r.index place.item.length place.offset s

      puts : ItemPlace → Step
      puts place = step_with (texts_of items senders s.storage)
          (λ texts. append_step (sent_of_each (Some (part_of s.storage place)) texts) s)

      below : (place : ItemPlace) → there ≡ Ok place → works tables later (stands place) ≡ puts place
      below place is =
          let bytes : List ℕ = part_of s.storage place in
          works_append tables parts (i.DropPlace ∷ []) (stands place)
          ∙ ap (λ step. go_on step (works tables (i.DropPlace ∷ [])))
          (each_up senders parts are place bytes (stands place) (ap (place_at
          (record { item = r.index; offset = place.offset; length = place.item.length })) r.entry
          ∙ ap Some (place_shown items tables order delimiter code r s.storage place is)) refl)
          ∙ go_with (texts_of items senders s.storage)
          (λ texts. append_step (sent_of_each (Some bytes) texts) (stands place)) (works tables (i.DropPlace ∷ []))
          ∙ with_same (texts_of items senders s.storage) _ _ (λ texts. ap (λ o. go_on (step_at o (λ one.
          Continues (record s { line = s.line ++ sent_of_each (Some bytes) texts }))) (works tables [])) r.entry)

  sending_by : (senders : List Operand) (delimiter : Option Operand) (code : List DataInstruction)
      → IsSendingBy items tables senders delimiter code → (s : Scratch)
      → works tables code s ≡ step_with (texts_of items senders s.storage >>= (λ texts.
      delimiter_of items delimiter s.storage >>= (λ by. Ok (sent_of_each by texts)))) (λ text. append_step text s)
  sending_by senders None code is s =
      each_sent None senders code is s ∙ sym (with_bind (texts_of items senders s.storage)
      (λ texts. Ok (sent_of_each None texts)) (λ text. append_step text s))
  sending_by senders (Some (operand.Literal delimiter)) code is s =
      let by : Option (List ℕ) = Some (shown_literal delimiter.value) in
      each_sent by senders code is s ∙ sym
      (with_bind (texts_of items senders s.storage) (λ texts. Ok (sent_of_each by texts)) (λ text. append_step text s))
  sending_by senders (Some (operand.Item delimiter)) code (front, is_front, delimiting, r, parts, are, is) s =
      let texts_there : Evaluation (List (List ℕ)) = texts_of items senders s.storage in
      let place_there : Evaluation ItemPlace = place_of items delimiter s.storage in
      let delimiter_there : Evaluation (List ℕ) = text_of items (operand.Item delimiter) s.storage in
      let later : List DataInstruction = delimiting ++ (parts ++ (i.DropPlace ∷ [])) in
      let put : List ℕ → Step = λ text. append_step text s in
      ap (λ c. works tables c s) is
      ∙ works_append tables front later s
      ∙ ap (λ step. go_on step (works tables later)) (each_found senders front is_front s)
      ∙ go_with texts_there (λ texts. Continues s) (works tables later)
      ∙ with_same texts_there _ _ (λ texts. delimiter_works delimiter delimiting r senders parts are s)
      ∙ again texts_there place_there (λ place texts. put (sent_of_each (Some (part_of s.storage place)) texts))
      ∙ with_same texts_there _ _ (λ texts.
      sym (with_bind place_there (λ place. Ok (part_of s.storage place)) (λ text. put (sent_of_each (Some text) texts)))
      ∙ sym (with_bind delimiter_there (λ text. Ok (Some text)) (λ by. put (sent_of_each by texts)))
      ∙ sym
      (with_bind (delimiter_of items (Some (operand.Item delimiter)) s.storage) (λ by. Ok (sent_of_each by texts)) put))
      ∙ sym (with_bind texts_there (λ texts.
      delimiter_of items (Some (operand.Item delimiter)) s.storage >>= (λ by. Ok (sent_of_each by texts))) put)

  pub sendings_work : (sendings : List Sending) (code : List DataInstruction)
      → AreSendingsCode items tables sendings code → (s : Scratch)
      → works tables code s ≡ step_with (all_sent items sendings s.storage) (λ text. append_step text s)
  sendings_work [] code is s = nothing_put code is s
  sendings_work (one ∷ more) code (front, is_front, back, is_back, is) s =
      ap (λ c. works tables c s) is
      ∙ works_append tables front back s
      ∙ ap (λ step. go_on step (works tables back)) (sending_by one.senders one.delimiter front is_front s)
      ∙ go_with (sent_bytes items one s.storage) (λ text. append_step text s) (works tables back)
      ∙ with_same (sent_bytes items one s.storage) _ _ (λ text.
      sendings_work more back is_back (record s { line = s.line ++ text })
      ∙ with_same (all_sent items more s.storage) _ _
      (λ others. ap (λ line. Continues (record s { line = line })) (append_assoc s.line text others))
      ∙ sym (with_bind (all_sent items more s.storage) (λ others. Ok (text ++ others)) (λ all. append_step all s)))
      ∙ sym (with_bind (sent_bytes items one s.storage)
      (λ text. all_sent items more s.storage >>= (λ others. Ok (text ++ others))) (λ all. append_step all s))

  -- the line, put into the receiver
  abbrev finished : Scratch → Strings → Step
  finished s after = Continues (record s { storage = after.storage; truth = after.overflow; line = [] })

  put_works : (receiver : Reference) (front : List DataInstruction) → IsReferenceCode items tables receiver front
      → (pointer : Option Reference) (back : List DataInstruction) → IsPutCode items tables pointer back → (s : Scratch)
      → works tables (front ++ back) s ≡ step_with (place_of items receiver s.storage) (λ place. step_with
      (pointer_of items pointer s.storage) (λ at. step_with (put_text place at.0 at.1 s.line s.storage) (finished s)))
  put_works receiver front r None back is s = taking_works items tables order (i.String false) (strung_to None 1)
      (λ t. refl) receiver (front ++ back) (front, r, ap (λ b. front ++ b) is) s
  put_works receiver front r (Some pointer) back is_back s =
      works_append tables front back s
      ∙ ap (λ step. go_on step (works tables back)) (reference_works items tables order receiver front r s)
      ∙ go_with there (λ place. Continues (stands place)) (works tables back)
      ∙ with_known there _ _ (λ to is.
      taking_works items tables order (i.String true) (λ place t. step_with (held_position t.storage place)
      (λ n. at_place tables (strung_to (Some place) n) t)) (λ t. refl) pointer back is_back (stands to)
      ∙ with_same (place_of items pointer s.storage) _ _ (λ place.
      with_same (held_position s.storage place) _ _ (λ n. ap (λ o. step_at o (λ one. strung_to (Some place) n
      (item_place (shortened_item one to.item.length) to.offset) s)) r.entry
      ∙ ap (λ p. strung_to (Some place) n p s) (place_shown items tables order receiver front r s.storage to is))
      ∙ sym (with_bind (held_position s.storage place) (λ n. Ok (Some place, n)) (put to)))
      ∙ sym (with_bind (place_of items pointer s.storage)
      (λ place. held_position s.storage place >>= (λ n. Ok (Some place, n))) (put to)))
      ∙ ap (λ o. step_with (evaluation_of o >>= (λ found. referred_place items receiver found s.storage)) puts)
      (sym r.named)
    where
      there : Evaluation ItemPlace
      there = referred_place items receiver r.found s.storage

      stands : ItemPlace → Scratch
      stands place = at r.index place.item.length place.offset s

      put : ItemPlace → Option ItemPlace × ℕ → Step
      put place at = step_with (put_text place at.0 at.1 s.line s.storage) (finished s)

      puts : ItemPlace → Step
      puts place = step_with (pointer_of items (Some pointer) s.storage) (put place)

  -- with nothing in the line
  string_from_nothing : {S : Type 0} (one : StringStatement S) (code : List DataInstruction)
      → IsStringCode items tables one code → (s : Scratch)
      → works tables code (record s { line = [] }) ≡ step_with (string_stores items one s.storage) (finished s)
  string_from_nothing one code (sendings, are, receiver, r, back, is_back, is) s =
      let u : Scratch = record s { line = [] } in
      let sends : Evaluation (List ℕ) = all_sent items one.sendings s.storage in
      let there : Evaluation ItemPlace = place_of items one.receiver s.storage in
      let points : Evaluation (Option ItemPlace × ℕ) = pointer_of items one.pointer s.storage in
      ap (λ c. works tables c u) is
      ∙ works_append tables sendings (receiver ++ back) u
      ∙ ap (λ step. go_on step (works tables (receiver ++ back))) (sendings_work one.sendings sendings are u)
      ∙ go_with sends (λ text. append_step text u) (works tables (receiver ++ back))
      ∙ with_same sends _ _ (λ text.
      put_works one.receiver receiver r one.pointer back is_back (record s { line = text })
      ∙ with_same there _ _
      (λ place. sym (with_bind points (λ at. put_text place at.0 at.1 text s.storage) (finished s)))
      ∙ sym (with_bind there (λ place. points >>= (λ at. put_text place at.0 at.1 text s.storage)) (finished s)))
      ∙ sym (with_bind sends (λ text. there >>= (λ place. points >>= (λ at. put_text place at.0 at.1 text s.storage)))
      (finished s))

  pub string_works : {S : Type 0} (one : StringStatement S) (code : List DataInstruction)
      → IsStringCode items tables one code → (s : Scratch) → s.line ≡ []
      → works tables code s ≡ step_with (string_stores items one s.storage)
      (λ after. Continues (record s { storage = after.storage; truth = after.overflow }))
  string_works one code is s empty =
      subst (λ (l : List ℕ). works tables code (record s { line = l }) ≡ step_with (string_stores items one s.storage)
      (λ after. Continues (record s { storage = after.storage; truth = after.overflow; line = l })))
      (sym empty) (string_from_nothing one code is s)
