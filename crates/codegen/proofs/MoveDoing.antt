-- What the code of MOVE does, and that of the move of READ INTO.
use Rattle.std.proofs.Common.{◌≡◌, ℕ, List, [], ◌∷◌, ◌++◌, length, map, Option, Some, None, ap, ◌∙◌}
use Rattle.std.proofs.Common.{subst}
use Rattle.std.specs.Prelude.{slice_get}
use Rattle.items.specs.declared.taken.Taken.TheVariants as taken
use Rattle.source_tree.specs.declared.reference.Reference.{Reference}
use Rattle.source_tree.specs.declared.expression.Operand.{Operand}
use Rattle.source_tree.specs.Filing.{move_record, into_item}
use Rattle.source_tree.specs.FilingRules.{into_rules}
use Rattle.source_tree.specs.Literals.{Sender, item_sender}
use Rattle.source_tree.specs.MoveRules.{receives, move_rules}
use Rattle.source_tree.specs.Moving.{taken_of, move_to_each, move}
use Rattle.source_tree.specs.Places.{LocatedItem}
use Rattle.source_tree.specs.ProgramFiles.{ProgramFile}
use Rattle.source_tree.specs.State.{State, change_outcome}
use Rattle.source_tree.specs.Storage.{Storage, bytes_at}
use Rattle.data_instructions.specs.declared.instruction.DataInstruction.{DataInstruction}
use Rattle.data_instructions.specs.declared.instruction.DataInstruction.TheVariants as i
use Rattle.data_instructions.specs.declared.tables.DataItem.{DataItem}
use Rattle.data_instructions.specs.Codes.{data_item, go_on, works, AreReceiversCode}
use Rattle.data_instructions.specs.Scratch.{Scratch, step_at}
use Rattle.data_instructions.specs.Table.{place_step, take_step as take_at}
use Rattle.data_instructions.specs.Tables.{shortened_item, IsTables, item_place}
use Rattle.data_instructions.proofs.Codes.{move_works, receivers_works}
use Rattle.code_image.specs.declared.code.Code.{Code}
use Rattle.code_image.specs.declared.instruction.Instruction.TheVariants.{Data}
use Rattle.code_image.specs.Points.{Own, scratch_of}
use Rattle.condition_codegen.specs.Fragments.{append}
use Rattle.condition_codegen.specs.DataCode.{works_fragment, receivers_fragment, move_fragment}
use Rattle.statement_codegen.specs.FileCode.{sent_entry, sent_index, into_fragment}
use Rattle.codegen.proofs.Codes.{receivers_coded, move_coded}
use Rattle.codegen.proofs.DataDoing.{behind_code, stored_does, moved_does}
use Rattle.codegen.proofs.Doing.{end_of, PartDoes, nothing_does}
use Rattle.codegen.proofs.HasFiles.{IsFiled}
use Rattle.codegen.proofs.Running.{WorksFrom, works_from}
use Rattle.codegen.proofs.Standing.{Stands, back, code_stands}

module _ (whole : Code) (kept : ℕ → Type 0) (items : List LocatedItem)
    (entries : (n : ℕ) (one : LocatedItem) → slice_get items n ≡ Some one
    → slice_get whole.tables.items n ≡ Some (data_item one))
    (order : IsTables whole.tables) where
  pub move_does : (sender : Operand) (receivers : List Reference) (before : Code) (cs : Own) (s : State)
      → move_rules items sender receivers ≡ []
      → Stands whole before (move_fragment items sender receivers before)
      → PartDoes whole kept before (move_fragment items sender receivers before) cs s
      (change_outcome (move items sender receivers) s)
  move_does sender receivers before cs s keep st =
      let part = move_fragment items sender receivers before in
      let coded = move_coded items whole entries sender receivers before keep st in
      let works_as = move_works items whole.tables order sender receivers coded.code coded.holds (scratch_of s cs) in
      let to = end_of (append before part) in
      moved_does whole kept (end_of before) to (end_of before) to cs s (length coded.code)
      (behind_code whole before part coded.code coded.is)
      (taken_of items sender s.storage)
      (λ taken. move_to_each items taken receivers s.storage)
      (subst (WorksFrom whole (end_of before) cs s (length coded.code)) works_as
      (works_from whole coded.code (end_of before) cs s (code_stands whole before part coded.code coded.is st)))

  module _ (files : List ProgramFile) (file : ProgramFile) (filed : IsFiled whole items file) where
    -- the record, taken whole
    abbrev pub record_sender : Storage → Sender
    record_sender storage = item_sender file.sent (bytes_at storage file.places.area 0 file.sent.length)

    abbrev taking : List DataInstruction
    taking = i.Place (sent_index items file) ∷ i.Take ∷ []

    -- the record is taken, and then the rest
    taking_works : (more : List DataInstruction) (s : Scratch)
        → works whole.tables (taking ++ more) s
        ≡ works whole.tables more (record s { sender = Some (record_sender s.storage) })
    taking_works more s =
        let index = sent_index items file in
        let rest = works whole.tables more in
        ap (λ (entry : Option DataItem).
        go_on (step_at entry (λ one. place_step index one s)) (works whole.tables (i.Take ∷ more))) filed.sent
        ∙ ap (λ (entry : Option DataItem). go_on (step_at entry
        (λ one. take_at (item_place (shortened_item one (sent_entry items file).item.length) 0) s)) rest) filed.sent

    pub record IntoCoded (into : Reference) (before : Code) : Type 0 where
      pub more : List DataInstruction
      pub holds : AreReceiversCode items whole.tables (into ∷ []) more
      pub is : (into_fragment items (Some into) file before).instructions ≡ map Data (taking ++ more)

    pub into_coded : (into : Reference) (before : Code) → into_rules items files file (Some into) ≡ []
        → Stands whole before (into_fragment items (Some into) file before)
        → IntoCoded into before
    into_coded into before keep st =
        let a = works_fragment taking before in
        let b = receivers_fragment items (into ∷ []) (append before a) in
        let coded =
        receivers_coded items whole entries (receives (Some (taken.Item file.sent))) (into ∷ []) (append before a)
        (ap (λ l. l ++ []) keep) (back whole before a b st) in
        record {
          more = coded.code;
          holds = coded.holds;
          is = ap (λ l. map Data taking ++ l) coded.is;
        }

    pub into_does : (into : Option Reference) (before : Code) (cs : Own) (s : State)
        → into_rules items files file into ≡ []
        → Stands whole before (into_fragment items into file before)
        → PartDoes whole kept before (into_fragment items into file before) cs s (into_item items into file s)
    into_does None before cs s keep st = nothing_does whole kept before cs s
    into_does (Some into) before cs s keep st =
        let part = into_fragment items (Some into) file before in
        let coded = into_coded into before keep st in
        let code = taking ++ coded.more in
        let sender = record_sender s.storage in
        let works_as = taking_works coded.more (scratch_of s cs)
        ∙ receivers_works items whole.tables order (into ∷ []) coded.more coded.holds sender (scratch_of s cs) in
        let from = end_of before in
        let to = end_of (append before part) in
        stored_does whole kept from to from to cs s (length code) (behind_code whole before part code coded.is) sender
        (move_record items file into s.storage)
        (subst (WorksFrom whole from cs s (length code)) works_as
        (works_from whole code from cs s (code_stands whole before part code coded.is st)))
