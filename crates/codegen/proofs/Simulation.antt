-- The machine follows the meaning, where the rules are kept.
use Rattle.std.proofs.Common.{◌≡◌, ℕ, suc, ◌+◌, ◌≤◌, ◌<◌, Bool, true, false, List, [], ◌∷◌, ◌++◌, length, Option, Some}
use Rattle.std.proofs.Common.{None, Ok, Err, refl, ap, sym, subst, ◌∙◌, arith, length-append}
use Rattle.std.specs.Prelude.{nat_lt, not, slice_get}
use Rattle.std.proofs.lemmas.Bool.{ltb-false, not-false}
use Rattle.lexical.specs.declared.place.Place.{Place}
use Rattle.source_tree.specs.declared.conditional_statement.ConditionalStatement.{ConditionalStatement}
use Rattle.source_tree.specs.declared.conditional_statement.ConditionalStatement.TheVariants as branch
use Rattle.source_tree.specs.declared.evaluate_statement.Subject.{Subject}
use Rattle.source_tree.specs.declared.evaluate_statement.Selected.{Selected}
use Rattle.source_tree.specs.declared.evaluate_statement.Evaluate.{Evaluate}
use Rattle.source_tree.specs.declared.condition.Condition.{Condition}
use Rattle.source_tree.specs.declared.data_statement.DataStatement.{DataStatement}
use Rattle.source_tree.specs.declared.name.Name.{Name}
use Rattle.source_tree.specs.declared.data_statement.DataStatement.TheVariants.{Move, Initialize, Set}
use Rattle.source_tree.specs.declared.reference.Reference.{Reference}
use Rattle.source_tree.specs.declared.text_statement.TextStatement.{TextStatement}
use Rattle.source_tree.specs.declared.text_statement.TextStatement.TheVariants as text
use Rattle.source_tree.specs.declared.arithmetic.Arithmetic.{Arithmetic}
use Rattle.source_tree.specs.declared.perform_statement.Performed.{Performed}
use Rattle.source_tree.specs.declared.perform_statement.Performed.TheVariants.{Procedures, Statements}
use Rattle.source_tree.specs.declared.perform_statement.Repetition.{Repetition}
use Rattle.source_tree.specs.declared.perform_statement.Repetition.TheVariants.{Once, Times, CountedBy, Until}
use Rattle.source_tree.specs.declared.until.Until as until
use Rattle.source_tree.specs.declared.until.Varying.{Varying}
use Rattle.source_tree.specs.declared.string_statement.StringStatement.{StringStatement}
use Rattle.source_tree.specs.declared.statement.Verb.{Verb}
use Rattle.source_tree.specs.declared.statement.Verb.TheVariants as verb
use Rattle.source_tree.specs.Accepting.{next_line, later_lines, accept_line, accept_date}
use Rattle.source_tree.specs.Arithmetic.{StoreResult, operation, is_there, in_phrase, phrase_for, arithmetic_outcome}
use Rattle.source_tree.specs.ArithmeticRules.{number_rules, operation_rules}
use Rattle.source_tree.specs.Branching.{way, conditional_outcome}
use Rattle.source_tree.specs.Broken.{RuleBreach, where_so, each}
use Rattle.source_tree.specs.ConditionRules.{condition_rules, varying_rules, until_rules}
use Rattle.source_tree.specs.Conditions.{holds}
use Rattle.source_tree.specs.Evaluate.{one_of, selected_condition, selection_outcome, evaluate_outcome}
use Rattle.source_tree.specs.EvaluateRules.{selected_rules}
use Rattle.source_tree.specs.Evaluated.{Fault, Evaluation, ◌>>=◌}
use Rattle.source_tree.specs.Filing.{phrases_of, file_outcome}
use Rattle.source_tree.specs.FilingRules.{filing_rules}
use Rattle.source_tree.specs.Initializing.{initialize, storage_after_set}
use Rattle.source_tree.specs.MoveRules.{move_rules}
use Rattle.source_tree.specs.PerformRules.{procedure_named, last_named, last_place, found_rules, range_rules}
use Rattle.source_tree.specs.Places.{LocatedItem}
use Rattle.source_tree.specs.Procedures.{Range, range_of}
use Rattle.source_tree.specs.Showing.{displayed_bytes}
use Rattle.source_tree.specs.Storage.{Storage}
use Rattle.source_tree.specs.StringRules.{string_rules}
use Rattle.source_tree.specs.Stringing.{string_stores, string_outcome}
use Rattle.source_tree.specs.Rules.{moving_rules, text_rules, phrase_rules, phrases_rules, arithmetic_rules}
use Rattle.source_tree.specs.Rules.{stringing_rules, performed_rules, turns_rules, evaluate_rules, branching_rules}
use Rattle.source_tree.specs.Rules.{file_phrases_rules, verb_rules}
use Rattle.source_tree.specs.State.{State, Outcome, Done, state_after_output, in_turn, spend, with_value}
use Rattle.source_tree.specs.State.{change_outcome}
use Rattle.source_tree.specs.Setting.{Scope}
use Rattle.source_tree.specs.Texts.{texts}
use Rattle.source_tree.specs.Inspecting.{inspect}
use Rattle.source_tree.specs.Converting.{convert}
use Rattle.source_tree.specs.Performing.{turns_of, turns_in, turns, performed_range, repeat, body}
use Rattle.source_tree.specs.Until as meant
use Rattle.source_tree.specs.Until.{vary_operation, vary_begin, vary_on, until_from}
use Rattle.source_tree.specs.Meaning.{data_storage, step}
use Rattle.source_tree.proofs.Runs.{IsRun, body_runs}
use Rattle.source_tree.proofs.InspectKept.{inspected_alike}
use Rattle.source_tree.proofs.InspectConverting.{converted_alike}
use Rattle.data_instructions.specs.declared.instruction.DataInstruction.{DataInstruction}
use Rattle.data_instructions.specs.declared.instruction.DataInstruction.TheVariants as i
use Rattle.data_instructions.specs.Tables.{IsTables}
use Rattle.data_instructions.specs.Scratch as scratch
use Rattle.data_instructions.specs.Scratch.{Scratch}
use Rattle.data_instructions.specs.Table.{accept_step, date_step}
use Rattle.data_instructions.specs.Chains.{LiesWhole}
use Rattle.data_instructions.specs.Codes.{data_item, go_on, works, IsReferenceCode}
use Rattle.data_instructions.proofs.Codes.{display_works, accept_works, date_works}
use Rattle.data_instructions.proofs.ArithmeticCodes.{arithmetic_works}
use Rattle.data_instructions.proofs.TextCodes.{initialize_works, set_works, string_works}
use Rattle.data_instructions.proofs.InspectCodes.{inspect_does, convert_does}
use Rattle.code_image.specs.declared.code.Code.{Code}
use Rattle.code_image.specs.declared.instruction.Instruction.{Instruction}
use Rattle.code_image.specs.declared.instruction.Instruction.TheVariants.{Show, Accept, Date}
use Rattle.code_image.specs.Points.{Own, scratch_of, state_with, own_with}
use Rattle.code_image.specs.Table.{data_from, exec_code}
use Rattle.initial_storage.proofs.Pictures.{some_bytes}
use Rattle.condition_codegen.specs.Fragments.{Fragment, empty_code, append, sequence, in_order, plain_code}
use Rattle.condition_codegen.specs.DataCode.{reference_fragment, take_fragment, operands_fragment, line_end_fragment}
use Rattle.condition_codegen.specs.DataCode.{show_fragment}
use Rattle.condition_codegen.specs.ArithmeticCode.{arithmetic_fragment}
use Rattle.condition_codegen.specs.PatternCode.{initializes_fragment, sets_fragment}
use Rattle.statement_codegen.specs.InspectCode.{inspect_fragment, convert_fragment}
use Rattle.statement_codegen.specs.StringCode.{string_fragment}
use Rattle.condition_codegen.specs.Meeting.{either_fragment}
use Rattle.condition_codegen.specs.ConditionCode.{condition_fragment}
use Rattle.codegen.specs.UntilCode.{tick_fragment, until_from_fragment, vary_begin_fragment, vary_on_fragment}
use Rattle.codegen.specs.UntilCode.{until_fragment}
use Rattle.statement_codegen.specs.SubjectCode.{first_object, is_asked_first, subjects_fragment}
use Rattle.codegen.specs.Layout.{data_fragment, texts_fragment, times_fragment, counted_fragment, turns_fragment}
use Rattle.codegen.specs.Layout.{range_fragment, turn_fragment, phrase_fragment, phrases_from, phrases_fragment}
use Rattle.codegen.specs.Layout.{selection_fragment, evaluate_fragment, conditional_fragment, file_statement_fragment}
use Rattle.codegen.specs.Layout.{verb_fragment}
use Rattle.condition_codegen.proofs.Fragments.{joined_assoc}
use Rattle.codegen.proofs.Blind.{Blind, in_order_blind}
use Rattle.codegen.proofs.ConditionBlind.{condition_blind}
use Rattle.codegen.proofs.UntilBlind.{vary_on_blind}
use Rattle.condition_codegen.proofs.EvaluateKept.{statements_of, selected_kept, first_group, other_groups, subjects_of}
use Rattle.condition_codegen.proofs.EvaluateKept.{groups_of, other_of}
use Rattle.codegen.proofs.BlindStatements.{turn_blind, phrase_blind, selecting_blind}
use Rattle.codegen.proofs.Standing.{Stands, front, back, first_stands, code_stands}
use Rattle.codegen.proofs.Running.{at, one_step, WorksFrom, works_from}
use Rattle.condition_codegen.proofs.Lists.{left_none, right_none}
use Rattle.codegen.proofs.Codes.{Coded, display_coded, accept_coded, date_coded}
use Rattle.codegen.proofs.ArithmeticCodes.{arithmetic_coded}
use Rattle.codegen.proofs.PatternCodes.{initializes_codes, sets_codes}
use Rattle.codegen.proofs.InspectCodes.{inspect_codes, convert_codes}
use Rattle.codegen.proofs.StringCodes.{string_codes}
use Rattle.codegen.proofs.Doing.{end_of, Does, PartDoes, Sits, front_sits, back_sits, IsRoom, still_room, moved, stays}
use Rattle.codegen.proofs.Doing.{behind, parts_do, tick_part, ticks_alone, ending_does, nothing_does, Follows}
use Rattle.codegen.proofs.Doing.{in_order_does, Repeats, fewer_does}
use Rattle.codegen.proofs.FilingDoes.{filing_does}
use Rattle.codegen.proofs.HasFiles.{HasFiles}
use Rattle.codegen.proofs.MoveDoing.{move_does}
use Rattle.codegen.proofs.Turning.{times_does}
use Rattle.codegen.proofs.Counting.{said_does}
use Rattle.codegen.proofs.TextDoing.{changed_does, strung_does}
use Rattle.codegen.proofs.ConditionDoes.{condition_does}
use Rattle.codegen.proofs.Evaluating.{evaluated_does}
use Rattle.statement_codegen.proofs.SubjectLooks.{looks_value, looks_are}
use Rattle.codegen.proofs.SubjectsDo.{taking, taking_then, subjects_do}
use Rattle.codegen.proofs.UntilTurns.{Tests, until_from_does}
use Rattle.codegen.proofs.Branching.{either_does}
use Rattle.codegen.proofs.DataDoing.{behind_code, shown_does, calculated_does, taken_does, accepted_faultless}

-- a rule that isn't broken
not_broken : (test : Bool) (rule : ℕ) (place : Place) → where_so test rule place ≡ [] → test ≡ false
not_broken true rule place e = absurd cc
not_broken false rule place e = refl

module _ (whole : Code) (kept : ℕ → Type 0) (IsThere : Range → Type 0) where
  -- What is known of the ranges that may be performed, where not more than so much of the budget
  -- is left.
  pub record Performs (depth : ℕ) (permits : Range → Bool) (ranges : Range → State → Outcome) : Type 0 where
    pub by : (line : ℕ) (one : Range) → permits one ≡ true → one.first ≤ one.last → IsThere one
        → (before : Code) (cs : Own) (s : State)
        → s.budget ≤ depth → IsRoom whole cs
        → Stands whole before (range_fragment line (Some one) before)
        → PartDoes whole kept before (range_fragment line (Some one) before) cs s (spend line s (ranges one))

module _ (whole : Code) (kept : ℕ → Type 0) (scope : Scope) (has : HasFiles whole scope)
    (entries : (n : ℕ) (one : LocatedItem) → slice_get scope.items n ≡ Some one
    → slice_get whole.tables.items n ≡ Some (data_item one))
    (order : IsTables whole.tables)
    (lie : (n : ℕ) (one : LocatedItem) → slice_get scope.items n ≡ Some one → LiesWhole whole.tables one)
    (IsThere : Range → Type 0)
    (found_there : (permits : Range → Bool) (first : Name) (last : Option Name) (one : Range)
    → range_rules permits scope.procedures first last ≡ []
    → range_of scope.procedures first last ≡ Some one → IsThere one) where
  -- each item has a byte or more
  items_sized : (n : ℕ) (one : LocatedItem) → slice_get scope.items n ≡ Some one → 1 ≤ one.item.length
  items_sized n one here = some_bytes one.item (order.items n (data_item one) (entries n one here)).form

  moving_does : (one : DataStatement) (before : Code) (cs : Own) (s : State) → moving_rules scope.items one ≡ []
      → Stands whole before (data_fragment scope.items one before)
      → PartDoes whole kept before (data_fragment scope.items one before) cs s
      (change_outcome (data_storage scope.items one) s)
  moving_does (Move sender receivers) before cs s keep st =
      move_does whole kept scope.items entries order sender receivers before cs s keep st
  moving_does (Initialize receivers) before cs s keep st =
      let part = initializes_fragment scope.items receivers before in
      let coded = (initializes_codes scope.items whole entries receivers keep).by before st in
      let works_as =
      initialize_works scope.items whole.tables order receivers coded.code coded.holds (scratch_of s cs) in
      let from = end_of before in
      let to = end_of (append before part) in
      changed_does whole kept from to from to cs s (length coded.code)
      (behind_code whole before part coded.code coded.is)
      (initialize scope.items receivers s.storage)
      (subst (WorksFrom whole from cs s (length coded.code)) works_as
      (works_from whole coded.code from cs s (code_stands whole before part coded.code coded.is st)))
  moving_does (Set conditions) before cs s keep st =
      let part = sets_fragment scope.items conditions before in
      let coded = (sets_codes scope.items whole entries conditions keep).by before st in
      let works_as = set_works scope.items whole.tables order conditions coded.code coded.holds (scratch_of s cs) in
      let from = end_of before in
      let to = end_of (append before part) in
      changed_does whole kept from to from to cs s (length coded.code)
      (behind_code whole before part coded.code coded.is)
      (storage_after_set scope.items conditions s.storage)
      (subst (WorksFrom whole from cs s (length coded.code)) works_as
      (works_from whole coded.code from cs s (code_stands whole before part coded.code coded.is st)))

  -- a reference's code, and an instruction after it that takes its place
  placed_does :
      (receiver : Reference) (one : Instruction) (before : Code) (cs : Own) (s : State) (lines : List (List ℕ))
      (taking : Scratch → scratch.Step) (e : Evaluation Storage)
      → Coded (IsReferenceCode scope.items whole.tables receiver) (reference_fragment scope.items receiver before)
      → ((code : List DataInstruction) → IsReferenceCode scope.items whole.tables receiver code
      → go_on (works whole.tables code (scratch_of s cs)) taking ≡ scratch.step_with e
      (λ after. scratch.Continues (record (scratch_of s cs) { storage = after })))
      → ((next : ℕ) → slice_get whole.instructions next ≡ Some one
      → (t : Scratch) (k : ℕ)
      → exec_code whole (suc k) (at next (own_with t cs) (state_with t s)) ≡ data_from (taking t) (exec_code whole k)
      (at next (own_with t cs) (record (state_with t s) { lines = lines })))
      → ((t : Scratch) (fault : Fault) → taking t ≡ scratch.Faulted fault → lines ≡ s.lines)
      → Stands whole before (append (reference_fragment scope.items receiver before) (plain_code (one ∷ [])))
      → PartDoes whole kept before (append (reference_fragment scope.items receiver before) (plain_code (one ∷ []))) cs
      s
      (with_value e s (λ after. Done (record s { storage = after; lines = lines })))
  placed_does receiver one before cs s lines taking e coded works_as acts none st =
      let part = reference_fragment scope.items receiver before in
      let last = plain_code (one ∷ []) in
      let from = end_of before in
      let next = end_of (append before part) in
      let to = end_of (append before (append part last)) in
      let single : length (one ∷ []) ≡ 1 = refl in
      moved whole kept from to from (next + 1) to cs s
      (with_value e s (λ after. Done (record s { storage = after; lines = lines })))
      (omega (
        arith,
        single,
        ap end_of (joined_assoc before part last),
        length-append (append before part).instructions (one ∷ []),
      ))
      (taken_does whole kept from to from next cs s (length coded.code)
      (behind_code whole before part coded.code coded.is) lines taking
      (works whole.tables coded.code (scratch_of s cs)) e
      (works_from whole coded.code from cs s
      (code_stands whole before part coded.code coded.is (front whole before part last st)))
      (works_as coded.code coded.holds)
      (acts next (first_stands whole (append before part) last one [] refl (back whole before part last st))) none)

  texts_do : (one : TextStatement) (before : Code) (cs : Own) (s : State) → text_rules scope.items one ≡ []
      → IsRoom whole cs
      → Stands whole before (texts_fragment scope.items one before)
      → PartDoes whole kept before (texts_fragment scope.items one before) cs s (texts scope.items one s)
  texts_do (text.Display operands advancing) before cs s keep room st =
      let part = sequence (operands_fragment scope.items operands) (line_end_fragment advancing) before in
      let last = show_fragment (append before part) in
      let coded =
      display_coded scope.items whole entries operands advancing before keep (front whole before part last st) in
      let works_as =
      display_works scope.items whole.tables order operands advancing coded.code coded.holds (scratch_of s cs) in
      let to = end_of (append before (append part last)) in
      let one : length (Show ∷ []) ≡ 1 = refl in
      moved whole kept (end_of before) to (end_of before) (end_of (append before part) + 1) to cs s
      (with_value (displayed_bytes scope.items operands advancing s.storage) s
      (λ bytes. Done (state_after_output bytes s)))
      (omega (
        arith,
        one,
        ap end_of (joined_assoc before part last),
        length-append (append before part).instructions (Show ∷ []),
      ))
      (shown_does whole kept (end_of before) to (end_of before) (end_of (append before part)) cs s (length coded.code)
      (behind_code whole before part coded.code coded.is)
      (displayed_bytes scope.items operands advancing s.storage) room
      (first_stands whole (append before part) last Show [] refl (back whole before part last st))
      (subst (WorksFrom whole (end_of before) cs s (length coded.code)) works_as
      (works_from whole coded.code (end_of before) cs s
      (code_stands whole before part coded.code coded.is (front whole before part last st)))))
  texts_do (text.Accept receiver) before cs s keep room st =
      placed_does receiver Accept before cs s (later_lines s.lines) (accept_step whole.tables (next_line s.lines))
      (accept_line scope.items (next_line s.lines) receiver s.storage)
      (accept_coded scope.items whole entries receiver before keep st)
      (λ code is. accept_works scope.items whole.tables order (next_line s.lines) receiver code is (scratch_of s cs))
      (λ next here t k. one_step whole next (own_with t cs) (state_with t s) Accept here k)
      (λ t fault e. absurd (accepted_faultless whole.tables (next_line s.lines) t fault e)) st
  texts_do (text.AcceptDate receiver) before cs s keep room st =
      placed_does receiver Date before cs s s.lines (date_step whole.tables s.day)
      (accept_date scope.items s.day receiver s.storage)
      (date_coded scope.items whole entries receiver before keep st)
      (λ code is. date_works scope.items whole.tables order s.day receiver code is (scratch_of s cs))
      (λ next here t k. one_step whole next (own_with t cs) (state_with t s) Date here k) (λ t fault e. refl) st
  texts_do (text.Inspect one) before cs s keep room st =
      let part = inspect_fragment scope.items one before in
      let coded = (inspect_codes scope.items whole entries one keep).by before st in
      let means = inspected_alike scope.items items_sized one s.storage keep in
      let works_as =
      inspect_does scope.items whole.tables order one coded.code coded.holds (scratch_of s cs) room.line
      ∙ ap (λ (e : Evaluation Storage).
      scratch.step_with e (λ after. scratch.Continues (record (scratch_of s cs) { storage = after }))) (sym means) in
      let from = end_of before in
      let to = end_of (append before part) in
      changed_does whole kept from to from to cs s (length coded.code)
      (behind_code whole before part coded.code coded.is)
      (inspect scope.items one s.storage)
      (subst (WorksFrom whole from cs s (length coded.code)) works_as
      (works_from whole coded.code from cs s (code_stands whole before part coded.code coded.is st)))
  texts_do (text.Convert one) before cs s keep room st =
      let part = convert_fragment scope.items one before in
      let coded = (convert_codes scope.items whole entries one keep).by before st in
      let means = converted_alike scope.items items_sized one s.storage keep in
      let works_as =
      convert_does scope.items whole.tables order one coded.code coded.holds (scratch_of s cs) room.line
      ∙ ap (λ (e : Evaluation Storage).
      scratch.step_with e (λ after. scratch.Continues (record (scratch_of s cs) { storage = after }))) (sym means) in
      let from = end_of before in
      let to = end_of (append before part) in
      changed_does whole kept from to from to cs s (length coded.code)
      (behind_code whole before part coded.code coded.is)
      (convert scope.items one s.storage)
      (subst (WorksFrom whole from cs s (length coded.code)) works_as
      (works_from whole coded.code from cs s (code_stands whole before part coded.code coded.is st)))

  -- ---- turns up to where a condition is true

  tests_do : (one : Condition) → condition_rules scope.items one ≡ []
      → Tests whole kept (holds scope.items one) (condition_fragment scope.items one)
  tests_do one keep =
      record { by = λ before cs s st. condition_does scope.items whole entries order lie one before cs s keep st }

  -- an operation without phrases only changes storage
  added_does : (from to address next : ℕ) (cs : Own) (s : State) (e : Evaluation StoreResult)
      → Does whole kept from to address cs s next
      (with_value e s (λ after. Done (record s { storage = after.storage })))
      → Does whole kept from to address cs s next
      (with_value (e >>= (λ after. Ok after.storage)) s (λ after. Done (record s { storage = after })))
  added_does from to address next cs s (Ok after) d = d
  added_does from to address next cs s (Err fault) d = d

  vary_begin_does : (one : Option Varying) (before : Code) (cs : Own) (s : State) → varying_rules scope.items one ≡ []
      → Stands whole before (vary_begin_fragment scope.items one before)
      → PartDoes whole kept before (vary_begin_fragment scope.items one before) cs s
      (change_outcome (vary_begin scope.items one) s)
  vary_begin_does None before cs s keep st = nothing_does whole kept before cs s
  vary_begin_does (Some one) before cs s keep st =
      let moves = move_rules scope.items one.from (one.item ∷ []) in
      let numbers = number_rules scope.items one.from in
      moving_does (Move one.from (one.item ∷ [])) before cs s
      (left_none moves numbers (left_none (moves ++ numbers) (operation_rules scope.items (vary_operation one)) keep))
      st

  vary_on_does : (one : Option Varying) (before : Code) (cs : Own) (s : State) → varying_rules scope.items one ≡ []
      → Stands whole before (vary_on_fragment scope.items one before)
      → PartDoes whole kept before (vary_on_fragment scope.items one before) cs s
      (change_outcome (vary_on scope.items one) s)
  vary_on_does None before cs s keep st = nothing_does whole kept before cs s
  vary_on_does (Some one) before cs s keep st =
      let add = vary_operation one in
      let part = arithmetic_fragment scope.items false add before in
      let adding = right_none (move_rules scope.items one.from (one.item ∷ []) ++ number_rules scope.items one.from)
      (operation_rules scope.items add) keep in
      let coded = arithmetic_coded scope.items whole entries order lie false add before adding st in
      let works_as =
      arithmetic_works scope.items whole.tables order false add coded.code coded.holds (scratch_of s cs) in
      let from = end_of before in
      let to = end_of (append before part) in
      added_does from to from to cs s (operation scope.items false add s.storage)
      (calculated_does whole kept from to from to cs s (length coded.code)
      (behind_code whole before part coded.code coded.is) to
      (operation scope.items false add s.storage) (λ size_error t. Done t)
      (subst (WorksFrom whole from cs s (length coded.code)) works_as
      (works_from whole coded.code from cs s (code_stands whole before part coded.code coded.is st)))
      (λ after. stays whole kept from to to to (record cs { truth = after.size_error })
      (record s { storage = after.storage }) refl))

  until_does : (line depth : ℕ) (one : until.Until) (go : State → Outcome) (turn : Fragment)
      → until_rules scope.items one ≡ [] → IsRun go → Blind turn
      → Repeats whole kept depth (λ s. spend line s go) turn
      → Repeats whole kept depth (meant.until scope.items line depth one go) (until_fragment scope.items one turn)
  until_does line depth one go turn keep runs blind each_one =
      let varying =
      left_none (varying_rules scope.items one.varying) (condition_rules scope.items one.condition) keep in
      let asked = right_none (varying_rules scope.items one.varying) (condition_rules scope.items one.condition) keep in
      let test = condition_fragment scope.items one.condition in
      let onward = vary_on_fragment scope.items one.varying in
      let turns = until_from_does whole kept line depth (holds scope.items one.condition)
      (change_outcome (vary_on scope.items one.varying)) go runs test onward turn (tests_do one.condition asked)
      (record { by = λ before cs s below room sits. vary_on_does one.varying before cs s varying sits.stands }) each_one
      (condition_blind scope.items one.condition) (vary_on_blind scope.items one.varying) blind one.test in
      record {
        by = λ before cs s below room sits.
            let a = vary_begin_fragment scope.items one.varying before in
            let b = until_from_fragment one.test test onward turn (append before a) in
            parts_do whole kept before a b cs s (change_outcome (vary_begin scope.items one.varying) s)
            (until_from one.test line depth (holds scope.items one.condition)
            (change_outcome (vary_on scope.items one.varying)) go)
            (vary_begin_does one.varying before cs s varying (front whole before a b sits.stands)) (λ t ds falls still.
            turns.by (append before a) ds t (omega arith) (still room) (back_sits whole kept before a b sits));
      }

  -- ---- the statements that stand in one

  module _ {S : Type 0} (depth : ℕ) (permits : Range → Bool) (rules : S → List RuleBreach) (run : S → State → Outcome)
      (ranges : Range → State → Outcome)
      (inside : S → Fragment)
      (f : Follows whole kept depth rules run inside) (performs : Performs whole kept IsThere depth permits ranges)
      (blind : (one : S) → Blind (inside one)) (runs : (one : S) → IsRun (run one))
      (ranges_run : (one : Range) → IsRun (ranges one)) where
    -- where names name nothing, nothing is performed
    range_does : (line : ℕ) (first : Name) (last : Option Name) (found : Option Range)
        → found_rules permits first last found ≡ []
        → ((one : Range) → found ≡ Some one → IsThere one)
        → Repeats whole kept (suc depth) (λ s. spend line s (performed_range ranges found)) (range_fragment line found)
    range_does line first last None keep there =
        record { by = λ before cs s below room sits. ticks_alone whole kept line before cs s sits.stands }
    range_does line first last (Some one) keep there =
        let forwards = where_so (nat_lt one.last one.first) 55 (last_place first last) in
        let permitted = where_so (not (permits one)) 54 first.place in
        record {
          by = λ before cs s below room sits.
              performs.by line one (not-false (permits one)
              (not_broken (not (permits one)) 54 first.place (right_none forwards permitted keep)))
              (ltb-false one.last one.first (not_broken (nat_lt one.last one.first) 55 (last_place first last)
              (left_none forwards permitted keep)))
              (there one refl) before cs s (omega arith) room sits.stands;
        }

    -- one turn, with what uses one of the budget
    turn_does : (line : ℕ) (one : Performed S) → performed_rules scope.procedures permits rules one ≡ []
        → Repeats whole kept (suc depth) (λ s. spend line s (body run ranges scope.procedures one))
        (turn_fragment scope inside line one)
    turn_does line (Procedures first last) keep =
        let named = procedure_named scope.procedures first in
        let other = last_named scope.procedures last in
        let found = range_of scope.procedures first last in
        range_does line first last found (right_none (named ++ other) (found_rules permits first last found) keep)
        (λ one is. found_there permits first last one keep is)
    turn_does line (Statements statements) keep = record {
      by = λ before cs s below room sits.
          let a = tick_fragment line before in
          let b = in_order inside statements (append before a) in
          tick_part whole kept line before b cs s (in_turn run statements) sits.stands (λ t lt.
          in_order_does whole kept depth rules run inside f statements (append before a) cs t keep (omega arith) room
          (back_sits whole kept before a b sits));
    }

    performing_does : (line : ℕ) (often : Repetition) (what : Performed S) (before : Code) (cs : Own) (s : State)
        → turns_rules scope.items often ≡ []
        → performed_rules scope.procedures permits rules what ≡ []
        → s.budget ≤ depth → IsRoom whole cs
        → Sits whole kept before (turns_fragment scope.items line often (turn_fragment scope inside line what) before)
        → PartDoes whole kept before
        (turns_fragment scope.items line often (turn_fragment scope inside line what) before) cs s
        (spend line s (repeat scope.items depth line often (body run ranges scope.procedures what)))
    performing_does line Once what before cs s asked keep le room sits =
        (turn_does line what keep).by before cs s (omega arith) room sits
    performing_does line (Times count) what before cs s asked keep le room sits =
        let go = body run ranges scope.procedures what in
        let turn = turn_fragment scope inside line what in
        let a = tick_fragment line before in
        let b = times_fragment (turns_of count) turn (append before a) in
        tick_part whole kept line before b cs s (turns line (turns_of count) go) sits.stands (λ t lt.
        times_does whole kept line depth (turns_of count) go turn
        (fewer_does whole kept depth (λ s. spend line s go) turn (turn_does line what keep))
        (append before a) cs t (omega arith) room
        (back_sits whole kept before a b sits))
    performing_does line (CountedBy one) what before cs s asked keep le room sits =
        let go = body run ranges scope.procedures what in
        let turn = turn_fragment scope inside line what in
        let a = tick_fragment line before in
        let b = sequence (take_fragment scope.items i.Push one) (counted_fragment turn) (append before a) in
        tick_part whole kept line before b cs s
        (λ t. with_value (turns_in scope.items one t.storage) t (λ count. turns line count go t)) sits.stands
        (λ t lt.
        (said_does whole kept scope.items entries order line depth one go turn asked
        (turn_blind scope inside blind line what)
        (fewer_does whole kept depth (λ s. spend line s go) turn (turn_does line what keep))).by (append before a) cs t
        (omega arith) room
        (back_sits whole kept before a b sits))
    performing_does line (Until one) what before cs s asked keep le room sits =
        let go = body run ranges scope.procedures what in
        let turn = turn_fragment scope inside line what in
        let a = tick_fragment line before in
        let b = until_fragment scope.items one turn (append before a) in
        tick_part whole kept line before b cs s (meant.until scope.items line depth one go) sits.stands (λ t lt.
        (until_does line depth one go turn asked (body_runs run ranges runs ranges_run scope.procedures what)
        (turn_blind scope inside blind line what)
        (fewer_does whole kept depth (λ s. spend line s go) turn (turn_does line what keep))).by (append before a) cs t
        (omega arith) room
        (back_sits whole kept before a b sits))

    phrase_does : (phrase : Option (List S)) → phrase_rules rules phrase ≡ []
        → Repeats whole kept depth (in_phrase run phrase) (phrase_fragment scope inside phrase)
    phrase_does None keep = record { by = λ before cs s below room sits. nothing_does whole kept before cs s }
    phrase_does (Some statements) keep =
        record {
          by = λ before cs s below room sits.
              in_order_does whole kept depth rules run inside f statements before cs s keep below room sits;
        }

    -- the phrase that fits, by the truth
    phrases_do : (arose did_not : Option (List S)) (before : Code) (cs : Own) (s : State)
        → phrase_rules rules arose ++ phrase_rules rules did_not ≡ [] → s.budget < depth → IsRoom whole cs
        → Sits whole kept before (phrases_from scope inside arose did_not before)
        → PartDoes whole kept before (phrases_from scope inside arose did_not before) cs s
        (phrase_for run (record { arose = arose; did_not = did_not }) cs.truth s)
    phrases_do None None before cs s keep below room sits = none cs.truth
      where
        none : (truth : Bool) → PartDoes whole kept before empty_code cs s
            (phrase_for run (record { arose = None; did_not = None }) truth s)
        none true = nothing_does whole kept before cs s
        none false = nothing_does whole kept before cs s
    phrases_do (Some statements) other before cs s keep below room sits =
        either_does whole kept depth (phrase_fragment scope inside (Some statements))
        (phrase_fragment scope inside other)
        (phrase_for run (record { arose = Some statements; did_not = other }))
        (phrase_does (Some statements) (left_none (each rules statements) (phrase_rules rules other) keep))
        (phrase_does other (right_none (each rules statements) (phrase_rules rules other) keep))
        (phrase_blind scope inside blind (Some statements)) (phrase_blind scope inside blind other) before cs s below
        room sits
    phrases_do None (Some statements) before cs s keep below room sits =
        either_does whole kept depth (phrase_fragment scope inside None)
        (phrase_fragment scope inside (Some statements))
        (phrase_for run (record { arose = None; did_not = Some statements }))
        (phrase_does None refl) (phrase_does (Some statements) keep)
        (phrase_blind scope inside blind None) (phrase_blind scope inside blind (Some statements)) before cs s below
        room sits

    -- an arithmetic statement, after its `tick`
    computing_does : (one : Arithmetic S) (before : Code) (cs : Own) (s : State)
        → arithmetic_rules scope.items rules one ≡ [] → s.budget < depth
        → IsRoom whole cs
        → Sits whole kept before
        (sequence (arithmetic_fragment scope.items (is_there one.phrases.arose) one.operation)
        (phrases_fragment scope inside one.phrases) before)
        → PartDoes whole kept before
        (sequence (arithmetic_fragment scope.items (is_there one.phrases.arose) one.operation)
        (phrases_fragment scope inside one.phrases) before) cs s
        (arithmetic_outcome scope.items run one s)
    computing_does one before cs s keep below room sits =
        let keeps = is_there one.phrases.arose in
        let part = arithmetic_fragment scope.items keeps one.operation before in
        let phrases = phrases_fragment scope inside one.phrases (append before part) in
        let here = front whole before part phrases sits.stands in
        let operation_keeps =
        left_none (operation_rules scope.items one.operation) (phrases_rules rules one.phrases) keep in
        let phrases_keep =
        right_none (operation_rules scope.items one.operation) (phrases_rules rules one.phrases) keep in
        let coded =
        arithmetic_coded scope.items whole entries order lie keeps one.operation before operation_keeps here in
        let works_as =
        arithmetic_works scope.items whole.tables order keeps one.operation coded.code coded.holds (scratch_of s cs) in
        let from = end_of before in
        let to = end_of (append before (append part phrases)) in
        calculated_does whole kept from to from (end_of (append before part)) cs s (length coded.code)
        (behind_code whole before part coded.code coded.is) to
        (operation scope.items keeps one.operation s.storage) (phrase_for run one.phrases)
        (subst (WorksFrom whole from cs s (length coded.code)) works_as
        (works_from whole coded.code from cs s (code_stands whole before part coded.code coded.is here)))
        (λ after.
        let ds = record cs { truth = after.size_error } in
        let t : State = record s { storage = after.storage } in
        behind whole kept before part phrases ds t (phrase_for run one.phrases after.size_error t)
        (phrases_do one.phrases.arose one.phrases.did_not (append before part) ds t phrases_keep (omega arith)
        (record { counters = room.counters; line = room.line }) (back_sits whole kept before part phrases sits)))

    -- STRING, after its `tick`
    strings_do : (one : StringStatement S) (before : Code) (cs : Own) (s : State)
        → stringing_rules scope.items rules one ≡ [] → s.budget < depth
        → IsRoom whole cs
        → Sits whole kept before (sequence (string_fragment scope.items one.sendings one.receiver one.pointer)
        (phrases_fragment scope inside one.phrases) before)
        → PartDoes whole kept before
        (sequence (string_fragment scope.items one.sendings one.receiver one.pointer)
        (phrases_fragment scope inside one.phrases) before) cs s
        (string_outcome scope.items run one s)
    strings_do one before cs s keep below room sits =
        let part = string_fragment scope.items one.sendings one.receiver one.pointer before in
        let phrases = phrases_fragment scope inside one.phrases (append before part) in
        let here = front whole before part phrases sits.stands in
        let string_keeps = left_none (string_rules scope.items one) (phrases_rules rules one.phrases) keep in
        let phrases_keep = right_none (string_rules scope.items one) (phrases_rules rules one.phrases) keep in
        let coded = (string_codes scope.items whole entries one string_keeps).by before here in
        let works_as =
        string_works scope.items whole.tables order one coded.code coded.holds (scratch_of s cs) room.line in
        let from = end_of before in
        let to = end_of (append before (append part phrases)) in
        strung_does whole kept from to from (end_of (append before part)) cs s (length coded.code)
        (behind_code whole before part coded.code coded.is) to
        (string_stores scope.items one s.storage) (phrase_for run one.phrases)
        (subst (WorksFrom whole from cs s (length coded.code)) works_as
        (works_from whole coded.code from cs s (code_stands whole before part coded.code coded.is here)))
        (λ after.
        let ds = record cs { truth = after.overflow } in
        let t : State = record s { storage = after.storage } in
        behind whole kept before part phrases ds t (phrase_for run one.phrases after.overflow t)
        (phrases_do one.phrases.arose one.phrases.did_not (append before part) ds t phrases_keep (omega arith)
        (record { counters = room.counters; line = room.line }) (back_sits whole kept before part phrases sits)))

    each_does : (statements : List S) → each rules statements ≡ []
        → Repeats whole kept depth (in_turn run statements) (in_order inside statements)
    each_does statements keep =
        record {
          by = λ before cs s below room sits.
              in_order_does whole kept depth rules run inside f statements before cs s keep below room sits;
        }

    -- a condition, and the way that fits
    tested_does : (condition : Condition) (first second : Fragment) (go : Bool → State → Outcome)
        → condition_rules scope.items condition ≡ []
        → Blind first → Blind second → Repeats whole kept depth (go true) first
        → Repeats whole kept depth (go false) second
        → Repeats whole kept depth (λ s. with_value (holds scope.items condition s.storage) s (λ truth. go truth s))
        (sequence (condition_fragment scope.items condition) (either_fragment first second))
    tested_does condition first second go keep blind_first blind_second one two = record {
      by = λ before cs s below room sits.
          let a = condition_fragment scope.items condition before in
          let middle = append before a in
          let b = either_fragment first second middle in
          let from = end_of before in
          let to = end_of (append before (append a b)) in
          let l2 = length-append middle.instructions b.instructions in
          evaluated_does whole kept from (end_of middle) from to from (end_of middle) to cs s
          (holds scope.items condition s.storage)
          (λ truth. go truth s) (omega arith) (omega (arith, l2, ap end_of (joined_assoc before a b)))
          ((tests_do condition keep).by before cs s (front whole before a b sits.stands)) (λ truth ds keeps is.
          behind whole kept before a b ds s (go truth s)
          (subst (λ (now : Bool). PartDoes whole kept middle b ds s (go now s)) is
          (either_does whole kept depth first second go one two blind_first blind_second middle ds s below
          (still_room whole kept from (end_of middle) cs ds keeps room) (back_sits whole kept before a b sits))));
    }

    -- EVALUATE, after its `tick`
    selecting_does : (subjects : List Subject) (selected : List (Selected S)) (other : Option (List S))
        → each (selected_rules scope.items rules subjects) selected ≡ [] → phrase_rules rules other ≡ []
        → Repeats whole kept depth (selection_outcome scope.items run subjects selected other)
        (selection_fragment scope inside subjects selected other)
    selecting_does subjects [] other keep otherwise =
        record { by = λ before cs s below room sits. (phrase_does other otherwise).by before cs s below room sits }
    selecting_does subjects (one ∷ more) other keep otherwise =
        let first = first_group scope.items rules subjects one more keep in
        let here = each_does one.statements (statements_of scope.items rules subjects one first) in
        let later =
        selecting_does subjects more other (other_groups scope.items rules subjects one more keep) otherwise in
        let both_ways = tested_does (selected_condition scope.items subjects one) (in_order inside one.statements)
        (selection_fragment scope inside subjects more other)
        (one_of (in_turn run one.statements) (selection_outcome scope.items run subjects more other))
        (selected_kept scope.items rules subjects one first) (in_order_blind inside blind one.statements)
        (selecting_blind scope inside blind subjects more other)
        (record { by = λ before cs s below room sits. here.by before cs s below room sits })
        (record { by = λ before cs s below room sits. later.by before cs s below room sits }) in
        record { by = λ before cs s below room sits. both_ways.by before cs s below room sits }

    evaluate_does : (one : Evaluate S) → evaluate_rules scope.items rules one ≡ []
        → Repeats whole kept depth (evaluate_outcome scope.items run one) (evaluate_fragment scope inside one)
    evaluate_does one keep =
        let object = first_object one.selected in
        let once = is_asked_first scope.items one.subjects object in
        let kept_groups = groups_of scope.items rules one keep in
        let groups =
        selecting_does one.subjects one.selected one.other kept_groups (other_of scope.items rules one keep) in
        let looks = subjects_do whole kept scope.items entries order lie depth one.subjects object
        (subjects_of scope.items rules one keep) in
        let go = selection_outcome scope.items run one.subjects one.selected one.other in
        record {
          by = λ before cs s below room sits.
              let a = subjects_fragment scope.items one.subjects object before in
              let b = selection_fragment scope inside one.subjects one.selected one.other (append before a) in
              let found = looks_value scope.items once one.subjects s.storage in
              subst (PartDoes whole kept before (append a b) cs s)
              (taking_then found s go
              ∙ looks_are scope.items rules run one.other one.subjects one.selected s once refl kept_groups)
              (parts_do whole kept before a b cs s (taking found s) go
              (looks.by before cs s below room (front_sits whole kept before a b sits))
              (λ t ds falls still.
              groups.by (append before a) ds t (omega arith) (still room) (back_sits whole kept before a b sits)));
        }

    branching_does : (line : ℕ) (one : ConditionalStatement S) (before : Code) (cs : Own) (s : State)
        → branching_rules scope.items rules one ≡ []
        → s.budget ≤ depth → IsRoom whole cs
        → Sits whole kept before (conditional_fragment scope inside line one before)
        → PartDoes whole kept before (conditional_fragment scope inside line one before) cs s
        (spend line s (conditional_outcome scope.items run one))
    branching_does line (branch.If condition statements otherwise) before cs s keep le room sits =
        let asks = condition_rules scope.items condition in
        let fine = left_none (asks ++ each rules statements) (phrase_rules rules otherwise) keep in
        let first = in_order inside statements in
        let second = phrase_fragment scope inside otherwise in
        let here = each_does statements (right_none asks (each rules statements) fine) in
        let there =
        phrase_does otherwise (right_none (asks ++ each rules statements) (phrase_rules rules otherwise) keep) in
        let a = tick_fragment line before in
        let b = sequence (condition_fragment scope.items condition) (either_fragment first second) (append before a) in
        let ways =
        tested_does condition first second (way run statements otherwise) (left_none asks (each rules statements) fine)
        (in_order_blind inside blind statements) (phrase_blind scope inside blind otherwise)
        (record { by = λ now ds t less wide lies. here.by now ds t less wide lies })
        (record { by = λ now ds t less wide lies. there.by now ds t less wide lies }) in
        tick_part whole kept line before b cs s
        (conditional_outcome scope.items run (branch.If condition statements otherwise)) sits.stands
        (λ t lt. ways.by (append before a) cs t (omega arith) room (back_sits whole kept before a b sits))
    branching_does line (branch.Evaluate one) before cs s keep le room sits =
        let a = tick_fragment line before in
        let b = evaluate_fragment scope inside one (append before a) in
        let groups = evaluate_does one keep in
        tick_part whole kept line before b cs s (conditional_outcome scope.items run (branch.Evaluate one)) sits.stands
        (λ t lt. groups.by (append before a) cs t (omega arith) room (back_sits whole kept before a b sits))

    pub verb_does : (line : ℕ) (one : Verb S) (before : Code) (cs : Own) (s : State)
        → verb_rules scope permits rules one ≡ [] → s.budget ≤ depth
        → IsRoom whole cs
        → Sits whole kept before (verb_fragment scope inside line one before)
        → PartDoes whole kept before (verb_fragment scope inside line one before) cs s
        (spend line s (step scope run ranges depth line one))
    verb_does line (verb.DataStatement one) before cs s keep le room sits =
        let a = tick_fragment line before in
        let b = data_fragment scope.items one (append before a) in
        tick_part whole kept line before b cs s (change_outcome (data_storage scope.items one)) sits.stands
        (λ t lt. moving_does one (append before a) cs t keep (back whole before a b sits.stands))
    verb_does line (verb.Arithmetic one) before cs s keep le room sits =
        let a = tick_fragment line before in
        let b = sequence (arithmetic_fragment scope.items (is_there one.phrases.arose) one.operation)
        (phrases_fragment scope inside one.phrases)
        (append before a) in
        tick_part whole kept line before b cs s (arithmetic_outcome scope.items run one) sits.stands
        (λ t lt.
        computing_does one (append before a) cs t keep (omega arith) room (back_sits whole kept before a b sits))
    verb_does line (verb.ConditionalStatement one) before cs s keep le room sits =
        branching_does line one before cs s keep le room sits
    verb_does line (verb.PerformStatement one) before cs s keep le room sits =
        let asks = turns_rules scope.items one.turns in
        let performed = performed_rules scope.procedures permits rules one.performed in
        performing_does line one.turns one.performed before cs s (left_none asks performed keep)
        (right_none asks performed keep) le room sits
    verb_does line (verb.TextStatement one) before cs s keep le room sits =
        let a = tick_fragment line before in
        let b = texts_fragment scope.items one (append before a) in
        tick_part whole kept line before b cs s (texts scope.items one) sits.stands
        (λ t lt. texts_do one (append before a) cs t keep room (back whole before a b sits.stands))
    verb_does line (verb.StringStatement one) before cs s keep le room sits =
        let a = tick_fragment line before in
        let b = sequence (string_fragment scope.items one.sendings one.receiver one.pointer)
        (phrases_fragment scope inside one.phrases) (append before a) in
        tick_part whole kept line before b cs s (string_outcome scope.items run one) sits.stands
        (λ t lt. strings_do one (append before a) cs t keep (omega arith) room (back_sits whole kept before a b sits))
    verb_does line (verb.FileStatement one) before cs s keep le room sits =
        let own = filing_rules scope.items scope.files one in
        let inner = file_phrases_rules rules (phrases_of one) in
        let does = filing_does whole kept scope entries order has depth rules run inside
        (phrase_blind scope inside blind) phrase_does one
        (left_none own inner keep) (right_none own inner keep) in
        let a = tick_fragment line before in
        let b = file_statement_fragment scope inside one (append before a) in
        tick_part whole kept line before b cs s (file_outcome scope.items scope.files run one) sits.stands
        (λ t lt. does.by (append before a) cs t (omega arith) room (back_sits whole kept before a b sits))
    verb_does line (verb.ControlStatement one) before cs s keep le room sits =
        ending_does whole kept line before cs s one sits.stands
