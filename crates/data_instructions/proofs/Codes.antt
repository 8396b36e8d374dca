-- The code of references, MOVE, DISPLAY and ACCEPT does what they mean.
use Rattle.std.proofs.Common.{◌≡◌, ℕ, ◌+◌, List, [], ◌∷◌, ◌++◌, refl, sym, ◌∙◌, ap, Some}
use Rattle.std.specs.Prelude.{Bool, true, false, Ok}
use Rattle.std.proofs.lemmas.List.{append_assoc, append-nil}
use Rattle.items.specs.Texts.{padded_text}
use Rattle.text_ops.specs.Shown.{shown_bytes}
use Rattle.source_tree.specs.declared.reference.Reference.{Reference}
use Rattle.source_tree.specs.declared.expression.Operand.{Operand}
use Rattle.source_tree.specs.declared.expression.Operand.TheVariants as operand
use Rattle.source_tree.specs.Display.{shown_literal, line_end}
use Rattle.source_tree.specs.Parts.{seen_by}
use Rattle.source_tree.specs.Places.{LocatedItem}
use Rattle.source_tree.specs.Storage.{Storage}
use Rattle.source_tree.specs.Literals.{Sender, item_sender}
use Rattle.source_tree.specs.Evaluated.{Evaluation, ◌>>=◌, evaluation_of}
use Rattle.source_tree.specs.References.{ItemPlace, part_of, storage_with, place_after, place_of, occurrence}
use Rattle.source_tree.specs.References.{part_in, referred_place}
use Rattle.source_tree.specs.References as tree
use Rattle.source_tree.specs.Moving.{taken_of, move_to, move_to_each}
use Rattle.source_tree.specs.Showing.{shown_operand, shown_operands, displayed_bytes}
use Rattle.source_tree.specs.Accepting.{accept_line, accept_date, date_sender}
use Rattle.data_instructions.specs.declared.tables.DataTables.{DataTables}
use Rattle.data_instructions.specs.declared.instruction.DataInstruction.{DataInstruction}
use Rattle.data_instructions.specs.declared.instruction.DataInstruction.TheVariants as i
use Rattle.data_instructions.specs.Tables.{IsTables, shortened_item, item_place, sender_of}
use Rattle.data_instructions.specs.Scratch.{Scratch, Step, Continues, step_with, step_at}
use Rattle.data_instructions.specs.Table.{at_place, place_step, sender_step}
use Rattle.data_instructions.specs.Table.{take_step, storage_step, move_step, append_step, shown_at, work, accept_step}
use Rattle.data_instructions.specs.Table.{date_step}
use Rattle.data_instructions.specs.Codes.{go_on, works}
use Rattle.data_instructions.specs.Codes.{IsReferenceCode, IsTakingCode}
use Rattle.data_instructions.specs.Codes.{IsSenderCode, AreReceiversCode, IsMoveCode, IsTextCode, IsOperandCode}
use Rattle.data_instructions.specs.Codes.{AreOperandsCode, IsLineEndCode, IsDisplayCode}
use Rattle.data_instructions.specs.PartForms.{part_entry, first_offset}
use Rattle.data_instructions.proofs.Subscripts.{go_with, with_same, with_known, with_bind, bound, same_Ok, works_append}
use Rattle.data_instructions.proofs.Subscripts.{nothing_more, go_same, at, subscripts_works}
use Rattle.data_instructions.proofs.PartCodes.{part_works, part_shown}

module _ (items : List LocatedItem) (tables : DataTables) (order : IsTables tables) where
  pub reference_works : (reference : Reference) (code : List DataInstruction)
      (r : IsReferenceCode items tables reference code) (s : Scratch)
      → works tables code s ≡ step_with (referred_place items reference r.found s.storage)
      (λ place. Continues (at r.index place.item.length place.offset s))
  reference_works reference code r s =
      let size : ℕ = (seen_by reference.part r.found).item.length in
      let offset : ℕ = first_offset r.found reference.part in
      ap (λ c. works tables c s) r.is
      ∙ ap (λ o. go_on (step_at o (λ one. place_step r.index one s)) (works tables (r.subscripts ++ r.making))) r.entry
      ∙ works_append tables r.subscripts r.making (at r.index size offset s)
      ∙ ap (λ step. go_on step (works tables r.making)) (subscripts_works items tables order r.found.dimensions
      reference.subscripts r.subscripts r.each r.index size offset s)
      ∙ go_with found_bytes (λ more. Continues (at r.index size (offset + more) s)) (works tables r.making)
      ∙ with_same found_bytes _ _ (λ more.
      part_works items tables order r.found reference.part r.index r.making r.entry r.makes more s)
      ∙ sym (with_bind found_bytes (λ more. Ok (place_after r.found more)) (λ place. step_with
      (part_in items reference.part s.storage place) done))
      ∙ sym (with_bind (occurrence items reference.subscripts r.found s.storage)
      (part_in items reference.part s.storage) done)
    where
      found_bytes : Evaluation ℕ
      found_bytes = tree.bytes_before items r.found.dimensions reference.subscripts s.storage

      done : ItemPlace → Step
      done place = Continues (at r.index place.item.length place.offset s)

  -- The entry that a reference has in the table is that of its place.
  pub place_shown : (reference : Reference) (code : List DataInstruction)
      (r : IsReferenceCode items tables reference code) (storage : Storage) (place : ItemPlace)
      → referred_place items reference r.found storage ≡ Ok place
      → item_place (shortened_item (part_entry r.found reference.part) place.item.length) place.offset ≡ place
  place_shown reference code r storage place e =
      let whole = bound (occurrence items reference.subscripts r.found storage)
      (part_in items reference.part storage) place e in
      let behind = bound (tree.bytes_before items r.found.dimensions reference.subscripts storage)
      (λ more. Ok (place_after r.found more)) whole.0 whole.1 in
      part_shown items r.found reference.part storage behind.0 place
      (ap (part_in items reference.part storage) (same_Ok (place_after r.found behind.0) whole.0 behind.2) ∙ whole.2)

  -- what takes the place of a reference is told that place
  pub place_taken : (reference : Reference) (code : List DataInstruction) → IsReferenceCode items tables reference code
      → (f : ItemPlace → Scratch → Step) (s : Scratch)
      → go_on (works tables code s) (at_place tables f)
      ≡ step_with (place_of items reference s.storage) (λ place. f place s)
  place_taken reference code r f s =
      let there : Evaluation ItemPlace = referred_place items reference r.found s.storage in
      ap (λ step. go_on step (at_place tables f)) (reference_works reference code r s)
      ∙ go_with there (λ place. Continues (at r.index place.item.length place.offset s)) (at_place tables f)
      ∙ with_known there _ _ (λ place is.
      ap (λ o. step_at o (λ one. f (item_place (shortened_item one place.item.length) place.offset) s)) r.entry
      ∙ ap (λ p. f p s) (place_shown reference code r s.storage place is))
      ∙ ap (λ o. step_with (evaluation_of o >>= (λ found. referred_place items reference found s.storage))
      (λ place. f place s)) (sym r.named)

  pub taking_works : (taking : DataInstruction) (f : ItemPlace → Scratch → Step)
      → ((t : Scratch) → work tables taking t ≡ at_place tables f t)
      → (reference : Reference) (code : List DataInstruction) → IsTakingCode items tables taking reference code
      → (s : Scratch)
      → works tables code s ≡ step_with (place_of items reference s.storage) (λ place. f place s)
  taking_works taking f takes reference code (front, is_front, is) s =
      ap (λ c. works tables c s) is
      ∙ works_append tables front (taking ∷ []) s
      ∙ go_same (works tables front s) (works tables (taking ∷ [])) (at_place tables f)
      (λ t. nothing_more tables (work tables taking t) ∙ takes t)
      ∙ place_taken reference front is_front f s

  pub sender_works : (sender : Operand) (code : List DataInstruction) → IsSenderCode items tables sender code
      → (s : Scratch)
      → works tables code s
      ≡ step_with (taken_of items sender s.storage) (λ taken. Continues (record s { sender = Some taken }))
  sender_works (operand.Item reference) code is s =
      taking_works i.Take take_step (λ t. refl) reference code is s
      ∙ sym (with_bind (place_of items reference s.storage) (λ place.
      Ok (item_sender place.item (part_of s.storage place))) (λ taken. Continues (record s { sender = Some taken })))
  sender_works (operand.Literal literal) code (index, entry, here, sends, is) s =
      ap (λ c. works tables c s) is
      ∙ nothing_more tables (work tables (i.TakeLiteral index) s)
      ∙ ap (λ o. step_at o (λ one. sender_step (sender_of one) s)) here
      ∙ ap (λ taken. Continues (record s { sender = Some taken })) sends

  -- what is sent to each receiver in turn
  pub receivers_works : (receivers : List Reference) (code : List DataInstruction)
      → AreReceiversCode items tables receivers code → (sender : Sender) (s : Scratch)
      → works tables code (record s { sender = Some sender }) ≡ step_with (move_to_each items sender receivers
      s.storage) (λ after. Continues (record s { storage = after; sender = Some sender }))
  receivers_works [] code is sender s = ap (λ c. works tables c (record s { sender = Some sender })) is
  receivers_works (one ∷ more) code (front, is_front, back, is_back, is) sender s =
      let t : Scratch = record s { sender = Some sender } in
      ap (λ c. works tables c t) is
      ∙ works_append tables front back t
      ∙ ap (λ step. go_on step (works tables back)) (taking_works i.Move move_step (λ u. refl) one front is_front t)
      ∙ go_with (place_of items one s.storage) (λ place. storage_step (move_to sender place s.storage) t)
      (works tables back)
      ∙ with_same (place_of items one s.storage) _ _
      (stores (λ after. receivers_works more back is_back sender (record s { storage = after })))
      ∙ sym (with_bind (place_of items one s.storage)
      (λ place. move_to sender place s.storage >>= (λ after. move_to_each items sender more after)) done)
    where
      done : Storage → Step
      done after = Continues (record s { storage = after; sender = Some sender })

      stores : ((after : Storage) → works tables back (record s { storage = after; sender = Some sender }) ≡ step_with
          (move_to_each items sender more after) done) → (place : ItemPlace)
          → go_on (storage_step (move_to sender place s.storage) (record s { sender = Some sender })) (works tables
          back) ≡ step_with (move_to sender place s.storage >>= (λ after. move_to_each items sender more after)) done
      stores each place =
          go_with (move_to sender place s.storage)
          (λ after. Continues (record s { storage = after; sender = Some sender })) (works tables back)
          ∙ with_same (move_to sender place s.storage) _ _ each
          ∙ sym (with_bind (move_to sender place s.storage) (λ after. move_to_each items sender more after) done)

  pub move_works : (sender : Operand) (receivers : List Reference) (code : List DataInstruction)
      → IsMoveCode items tables sender receivers code → (s : Scratch)
      → works tables code s ≡ step_with (taken_of items sender s.storage) (λ taken. step_with (move_to_each items taken
      receivers s.storage) (λ after. Continues (record s { storage = after; sender = Some taken })))
  move_works sender receivers code (front, is_front, back, is_back, is) s =
      ap (λ c. works tables c s) is
      ∙ works_append tables front back s
      ∙ ap (λ step. go_on step (works tables back)) (sender_works sender front is_front s)
      ∙ go_with (taken_of items sender s.storage) (λ taken. Continues (record s { sender = Some taken }))
      (works tables back)
      ∙ with_same (taken_of items sender s.storage) _ _ (λ taken. receivers_works receivers back is_back taken s)

  pub text_works : (bytes : List ℕ) (code : List DataInstruction) → IsTextCode items tables bytes code → (s : Scratch)
      → works tables code s ≡ Continues (record s { line = s.line ++ bytes })
  text_works bytes code (index, here, is) s =
      ap (λ c. works tables c s) is ∙ nothing_more tables (work tables (i.AppendLiteral index) s)
      ∙ ap (λ o. step_at o (λ text. append_step text s)) here

  operand_works : (one : Operand) (code : List DataInstruction) → IsOperandCode items tables one code → (s : Scratch)
      → works tables code s ≡ step_with (shown_operand items one s.storage) (λ bytes. append_step bytes s)
  operand_works (operand.Item reference) code is s =
      taking_works i.Append shown_at (λ t. refl) reference code is s
      ∙ sym (with_bind (place_of items reference s.storage)
      (λ place. evaluation_of (shown_bytes place.item.kind (part_of s.storage place))) (λ bytes. append_step bytes s))
  operand_works (operand.Literal literal) code is s = text_works (shown_literal literal.value) code is s

  operands_works : (operands : List Operand) (code : List DataInstruction) → AreOperandsCode items tables operands code
      → (s : Scratch)
      → works tables code s ≡ step_with (shown_operands items operands s.storage) (λ bytes. append_step bytes s)
  operands_works [] code is s =
      ap (λ c. works tables c s) is ∙ ap (λ line. Continues (record s { line = line })) (sym (append-nil s.line))
  operands_works (one ∷ more) code (front, is_front, back, is_back, is) s =
      ap (λ c. works tables c s) is
      ∙ works_append tables front back s
      ∙ ap (λ step. go_on step (works tables back)) (operand_works one front is_front s)
      ∙ go_with (shown_operand items one s.storage) (λ bytes. append_step bytes s) (works tables back)
      ∙ with_same (shown_operand items one s.storage) _ _ (λ bytes.
      operands_works more back is_back (record s { line = s.line ++ bytes })
      ∙ with_same (shown_operands items more s.storage) _ _
      (λ others. ap (λ line. Continues (record s { line = line })) (append_assoc s.line bytes others))
      ∙ sym
      (with_bind (shown_operands items more s.storage) (λ others. Ok (bytes ++ others)) (λ all. append_step all s)))
      ∙ sym (with_bind (shown_operand items one s.storage)
      (λ bytes. shown_operands items more s.storage >>= (λ others. Ok (bytes ++ others))) (λ all. append_step all s))

  line_end_works : (advancing : Bool) (code : List DataInstruction) → IsLineEndCode items tables advancing code
      → (s : Scratch) → works tables code s ≡ append_step (line_end advancing) s
  line_end_works true code is s = text_works (line_end true) code is s
  line_end_works false code is s =
      ap (λ c. works tables c s) is ∙ ap (λ line. Continues (record s { line = line })) (sym (append-nil s.line))

  pub display_works : (operands : List Operand) (advancing : Bool) (code : List DataInstruction)
      → IsDisplayCode items tables operands advancing code → (s : Scratch)
      → works tables code s ≡ step_with (displayed_bytes items operands advancing s.storage)
      (λ bytes. Continues (record s { line = s.line ++ bytes }))
  display_works operands advancing code (front, is_front, back, is_back, is) s =
      ap (λ c. works tables c s) is
      ∙ works_append tables front back s
      ∙ ap (λ step. go_on step (works tables back)) (operands_works operands front is_front s)
      ∙ go_with (shown_operands items operands s.storage) (λ bytes. append_step bytes s) (works tables back)
      ∙ with_same (shown_operands items operands s.storage) _ _ (λ bytes.
      line_end_works advancing back is_back (record s { line = s.line ++ bytes })
      ∙ ap (λ line. Continues (record s { line = line })) (append_assoc s.line bytes (line_end advancing)))
      ∙ sym (with_bind (shown_operands items operands s.storage) (λ bytes. Ok (bytes ++ line_end advancing))
      (λ all. append_step all s))

  pub accept_works : (line : List ℕ) (receiver : Reference) (code : List DataInstruction)
      → IsReferenceCode items tables receiver code → (s : Scratch)
      → go_on (works tables code s) (accept_step tables line)
      ≡ step_with (accept_line items line receiver s.storage) (λ after. Continues (record s { storage = after }))
  accept_works line receiver code is s =
      place_taken receiver code is (λ place t.
      Continues (record t { storage = storage_with place (padded_text place.item.length line) t.storage })) s
      ∙ sym (with_bind (place_of items receiver s.storage) (λ place. Ok (storage_with place
      (padded_text place.item.length line) s.storage)) (λ after. Continues (record s { storage = after })))

  pub date_works : (day : List ℕ) (receiver : Reference) (code : List DataInstruction)
      → IsReferenceCode items tables receiver code → (s : Scratch)
      → go_on (works tables code s) (date_step tables day)
      ≡ step_with (accept_date items day receiver s.storage) (λ after. Continues (record s { storage = after }))
  date_works day receiver code is s =
      place_taken receiver code is (λ place t. storage_step (move_to (date_sender day) place t.storage) t) s
      ∙ sym (with_bind (place_of items receiver s.storage) (λ place. move_to (date_sender day) place s.storage)
      (λ after. Continues (record s { storage = after })))
