-- The code of a program finds what it needs, where the rules are kept: each statement begins and ends at rest.
use Rattle.std.proofs.Common.{◌≡◌, ℕ, zero, suc, List, [], ◌∷◌, ◌++◌, length, map, Option, Some, None, Bool, true}
use Rattle.std.proofs.Common.{false, refl, sym, ap, subst, ◌∙◌}
use Rattle.std.specs.Prelude.{slice_get}
use Rattle.items.specs.declared.taken.Taken.{Taken}
use Rattle.source_tree.specs.declared.data_statement.DataStatement.{DataStatement}
use Rattle.source_tree.specs.declared.data_statement.DataStatement.TheVariants.{Move, Initialize, Set}
use Rattle.source_tree.specs.declared.text_statement.TextStatement.{TextStatement}
use Rattle.source_tree.specs.declared.text_statement.TextStatement.TheVariants.{Display, Accept, AcceptDate, Inspect}
use Rattle.source_tree.specs.declared.text_statement.TextStatement.TheVariants.{Convert}
use Rattle.source_tree.specs.declared.reference.Reference.{Reference}
use Rattle.source_tree.specs.declared.expression.Operand.TheVariants as operand
use Rattle.source_tree.specs.declared.arithmetic.Operation.{Operation}
use Rattle.source_tree.specs.declared.conditional_statement.ConditionalStatement.{ConditionalStatement}
use Rattle.source_tree.specs.declared.conditional_statement.ConditionalStatement.TheVariants as branch
use Rattle.source_tree.specs.declared.evaluate_statement.Subject.{Subject}
use Rattle.source_tree.specs.declared.evaluate_statement.Selected.{Selected}
use Rattle.source_tree.specs.declared.evaluate_statement.Evaluate.{Evaluate}
use Rattle.source_tree.specs.declared.condition.Condition.{Condition}
use Rattle.source_tree.specs.declared.control_statement.ControlStatement.TheVariants as ending
use Rattle.source_tree.specs.declared.perform_statement.Performed.{Performed}
use Rattle.source_tree.specs.declared.perform_statement.Performed.TheVariants.{Procedures, Statements}
use Rattle.source_tree.specs.declared.perform_statement.Repetition.{Repetition}
use Rattle.source_tree.specs.declared.perform_statement.Repetition.TheVariants.{Once, Times, CountedBy, Until}
use Rattle.source_tree.specs.declared.until.TestTime.{TestTime}
use Rattle.source_tree.specs.declared.until.TestTime.TheVariants.{Before, After}
use Rattle.source_tree.specs.declared.until.Until as until
use Rattle.source_tree.specs.declared.until.Varying.{Varying}
use Rattle.source_tree.specs.declared.string_statement.StringStatement.{StringStatement}
use Rattle.source_tree.specs.declared.statement.Verb.{Verb}
use Rattle.source_tree.specs.declared.statement.Verb.TheVariants as verb
use Rattle.source_tree.specs.declared.statement.Statement.{Statement, roll-Statement}
use Rattle.source_tree.specs.declared.statement.Statement.TheOpen.{Statement-F}
use Rattle.source_tree.specs.declared.statement.Statement.TheFolds.{map-Statement, ind-Statement}
use Rattle.source_tree.specs.declared.program.Paragraph.{Paragraph}
use Rattle.source_tree.specs.Accepting.{date_sender}
use Rattle.source_tree.specs.Arithmetic.{is_there}
use Rattle.source_tree.specs.ArithmeticRules.{number_rules, operation_rules}
use Rattle.source_tree.specs.Broken.{RuleBreach, each}
use Rattle.source_tree.specs.ConditionRules.{condition_rules, varying_rules, until_rules}
use Rattle.source_tree.specs.Evaluate.{resolved_subject, selected_condition}
use Rattle.source_tree.specs.EvaluateRules.{subject_rules, selected_rules}
use Rattle.source_tree.specs.Filing.{phrases_of}
use Rattle.source_tree.specs.FilingRules.{filing_rules}
use Rattle.source_tree.specs.MoveRules.{sent_by, receives, move_rules}
use Rattle.source_tree.specs.NameRules.{reference_rules, any_item, operand_rules}
use Rattle.source_tree.specs.Performing.{turns_of}
use Rattle.source_tree.specs.Converting.{as_replacing}
use Rattle.source_tree.specs.Places.{LocatedItem}
use Rattle.source_tree.proofs.InspectConverting.{as_replacing_rules}
use Rattle.source_tree.specs.Procedures.{Range, range_of}
use Rattle.source_tree.specs.Setting.{Scope}
use Rattle.source_tree.specs.StringRules.{string_rules}
use Rattle.source_tree.specs.Until.{vary_operation}
use Rattle.source_tree.specs.Rules.{integer_item, moving_rules, text_rules, phrase_rules, phrases_rules}
use Rattle.source_tree.specs.Rules.{performed_rules, turns_rules, evaluate_rules, branching_rules, file_phrases_rules}
use Rattle.source_tree.specs.Rules.{verb_rules, statement_rules, sentence_rules, paragraph_rules}
use Rattle.data_instructions.specs.declared.tables.DataTables.{DataTables}
use Rattle.data_instructions.specs.declared.instruction.DataInstruction.{DataInstruction}
use Rattle.data_instructions.specs.declared.instruction.DataInstruction.TheVariants as i
use Rattle.data_instructions.specs.Tables.{IsTables}
use Rattle.data_instructions.specs.Codes.{data_item}
use Rattle.data_instructions.specs.Shapes.{and_then}
use Rattle.data_instructions.specs.Chains.{effects, LiesWhole}
use Rattle.data_instructions.proofs.Chains.{move_known, display_known, accept_known, date_known}
use Rattle.data_instructions.proofs.Expressions.{value_known}
use Rattle.data_instructions.proofs.ArithmeticChains.{arithmetic_known}
use Rattle.data_instructions.proofs.TextChains.{initialize_known, set_known, string_known}
use Rattle.data_instructions.proofs.InspectChains.{inspect_leaves, convert_leaves}
use Rattle.code_image.specs.declared.code.Code.{Code}
use Rattle.code_image.specs.declared.instruction.Instruction.{Instruction}
use Rattle.code_image.specs.declared.instruction.Instruction.TheVariants as instruction
use Rattle.code_image.specs.Known.{known_after, known_along}
use Rattle.declarations.proofs.RuleLayers.{mapped_rules}
use Rattle.condition_codegen.specs.Fragments.{Fragment, append, sequence, in_order, plain_code}
use Rattle.condition_codegen.specs.Meeting.{branch_code, either_fragment, nothing_fragment}
use Rattle.condition_codegen.specs.DataCode.{work_fragment, take_fragment, reference_fragment, operands_fragment}
use Rattle.condition_codegen.specs.DataCode.{line_end_fragment, show_fragment}
use Rattle.condition_codegen.specs.ArithmeticCode.{arithmetic_fragment}
use Rattle.condition_codegen.specs.ConditionCode.{condition_fragment}
use Rattle.statement_codegen.specs.StringCode.{string_fragment}
use Rattle.codegen.specs.UntilCode.{tick_fragment, repetition_fragment, until_before_fragment, until_after_fragment}
use Rattle.codegen.specs.UntilCode.{until_from_fragment, vary_begin_fragment, vary_on_fragment, until_fragment}
use Rattle.statement_codegen.specs.SubjectCode.{first_object, look, look_fragment, subject_fragment, is_asked_first}
use Rattle.statement_codegen.specs.SubjectCode.{taken_from, subjects_fragment}
use Rattle.codegen.specs.Layout.{loop_begin, count_begin, turn_end, counted_turn, times_fragment, counted_fragment}
use Rattle.codegen.specs.Layout.{turns_fragment, range_fragment, turn_fragment, data_fragment, texts_fragment}
use Rattle.codegen.specs.Layout.{phrase_fragment, phrases_from, phrases_fragment, selection_fragment, evaluate_fragment}
use Rattle.codegen.specs.Layout.{conditional_fragment, file_statement_fragment, verb_fragment, statement_fragment}
use Rattle.codegen.specs.Layout.{sentence_fragment, start_fragment, back_fragment, paragraph_fragment}
use Rattle.condition_codegen.proofs.Lists.{left_none, right_none}
use Rattle.codegen.proofs.Codes.{taking_coded, move_coded, display_coded, accept_coded, date_coded}
use Rattle.codegen.proofs.ArithmeticCodes.{arithmetic_coded}
use Rattle.codegen.proofs.PatternCodes.{initializes_codes, sets_codes, lie_each, lie_conditions}
use Rattle.codegen.proofs.StringCodes.{string_codes, lies_string}
use Rattle.codegen.proofs.InspectCodes.{inspect_codes, convert_codes, lies_inspect}
use Rattle.codegen.proofs.Lying.{lies_all, shows_all, sends, receives_one, receive_each, lies_operation}
use Rattle.codegen.proofs.Layers.{verb_map, rolled_is}
use Rattle.codegen.proofs.Standing.{Stands, front, back}
use Rattle.condition_codegen.proofs.Fragments.{joined_assoc}
use Rattle.codegen.proofs.Blind.{Blind, in_order_blind}
use Rattle.codegen.proofs.FilingFlows.{filing_flows}
use Rattle.codegen.proofs.HasFiles.{HasFiles}
use Rattle.codegen.proofs.Flowing.{rest, along_append, along_data, only_one, Flows, both_flow, nothing_flows}
use Rattle.codegen.proofs.Flowing.{branch_flows, AllFlow, in_order_flows, BodyFlows, either_flows}
use Rattle.codegen.proofs.ConditionBlind.{nothing_blind, condition_blind}
use Rattle.codegen.proofs.ConditionFlows.{condition_flows}
use Rattle.codegen.proofs.UntilBlind.{turn_before_blind, onward_blind, vary_on_blind}
use Rattle.statement_codegen.proofs.SubjectLooks.{look_rules, look_kept}
use Rattle.condition_codegen.proofs.EvaluateKept.{statements_of, selected_kept, first_group, other_groups, subjects_of}
use Rattle.condition_codegen.proofs.EvaluateKept.{groups_of, other_of}
use Rattle.codegen.proofs.BlindStatements.{counted_turn_blind, turn_blind, phrase_blind, selecting_blind}
use Rattle.codegen.proofs.BlindStatements.{statement_blind}

module _ (tables : DataTables) where
  pub start_flows : (before : Code) → Flows tables (start_fragment before)
  start_flows before = record { by = λ sender. (sender, refl) }

  tick_flows : (line : ℕ) (before : Code) → Flows tables (tick_fragment line before)
  tick_flows line before = record { by = λ sender. (None, refl) }

  begin_flows : (more : ℕ) (before : Code) → Flows tables (loop_begin more before)
  begin_flows more before = record { by = λ sender. (sender, refl) }

  end_flows : (begin to : ℕ) → Flows tables (turn_end begin to)
  end_flows begin to = record { by = λ sender. (None, refl) }

  range_flows : (line : ℕ) (range : Option Range) (before : Code) → Flows tables (range_fragment line range before)
  range_flows line None before = record { by = λ sender. (None, refl) }
  range_flows line (Some range) before = record { by = λ sender. (None, refl) }

  back_flows : (number : ℕ) (before : Code) → Flows tables (back_fragment number before)
  back_flows number before = record { by = λ sender. (None, refl) }

module _ (items : List LocatedItem) (whole : Code)
    (entries : (n : ℕ) (one : LocatedItem) → slice_get items n ≡ Some one
    → slice_get whole.tables.items n ≡ Some (data_item one))
    (order : IsTables whole.tables) (lie : (n : ℕ) (one : LocatedItem) → slice_get items n ≡ Some one
    → LiesWhole whole.tables one) where
  -- ---- statements on data

  moving_flows : (one : DataStatement) (before : Code) → moving_rules items one ≡ []
      → Stands whole before (data_fragment items one before)
      → Flows whole.tables (data_fragment items one before)
  moving_flows (Move sender receivers) before e st =
      let s = sends items whole entries lie sender
      (left_none (operand_rules items sender) (each (reference_rules items (receives (sent_by items sender))) receivers)
      e) in
      let asks = right_none (operand_rules items sender)
      (each (reference_rules items (receives (sent_by items sender))) receivers) e in
      let may = receive_each items whole entries lie s.sent receivers
      (subst (λ o. each (reference_rules items (receives o)) receivers ≡ []) s.is asks) in
      let coded = move_coded items whole entries sender receivers before e st in
      let known = move_known items whole.tables sender receivers coded.code coded.holds s.sent s.sends_as may in
      record {
        by = λ before_it. (
          Some s.sent,
          ap (λ l. known_along whole.tables l (rest before_it)) coded.is
              ∙ along_data whole.tables coded.code (rest before_it)
              ∙ known (rest before_it),
        );
      }
  moving_flows (Initialize receivers) before e st =
      let coded = (initializes_codes items whole entries receivers e).by before st in
      let known = initialize_known items whole.tables receivers coded.code coded.holds
      (lie_each items whole entries lie receivers e) in
      record {
        by = λ sender. (
          sender,
          ap (λ l. known_along whole.tables l (rest sender)) coded.is ∙ along_data whole.tables coded.code (rest sender)
              ∙ known (rest sender),
        );
      }
  moving_flows (Set conditions) before e st =
      let coded = (sets_codes items whole entries conditions e).by before st in
      let known = set_known items whole.tables conditions coded.code coded.holds
      (lie_conditions items whole entries lie conditions e) in
      record {
        by = λ sender. (
          sender,
          ap (λ l. known_along whole.tables l (rest sender)) coded.is ∙ along_data whole.tables coded.code (rest sender)
              ∙ known (rest sender),
        );
      }

  -- a reference's code, and an instruction after it that takes its place
  placed_flows : (one : Instruction) (part : Code) (code : List DataInstruction)
      → part.instructions ≡ map instruction.Data code
      → ((sender : Option Taken)
      → and_then (effects whole.tables code (rest sender)) (known_after whole.tables one) ≡ Some
      (rest sender)) → Flows whole.tables (append part (plain_code (one ∷ [])))
  placed_flows one part code is known = record {
    by = λ sender. (
      sender,
      along_append whole.tables part.instructions (one ∷ []) (rest sender)
          ∙ ap (λ o. and_then o (known_along whole.tables (one ∷ [])))
          (ap (λ l. known_along whole.tables l (rest sender)) is ∙ along_data whole.tables code (rest sender))
          ∙ only_one whole.tables one (effects whole.tables code (rest sender))
          ∙ known sender,
    );
  }

  texts_flow : (one : TextStatement) (before : Code) → text_rules items one ≡ []
      → Stands whole before (texts_fragment items one before)
      → Flows whole.tables (texts_fragment items one before)
  texts_flow (Display operands advancing) before e st =
      let part = sequence (operands_fragment items operands) (line_end_fragment advancing) before in
      let last = show_fragment (append before part) in
      let coded = display_coded items whole entries operands advancing before e (front whole before part last st) in
      let known = display_known items whole.tables operands advancing coded.code coded.holds
      (shows_all items whole entries lie operands e) in
      record {
        by = λ sender. (
          sender,
          along_append whole.tables part.instructions last.instructions (rest sender)
              ∙ ap (λ o. and_then o (known_along whole.tables (instruction.Show ∷ [])))
              (ap (λ l. known_along whole.tables l (rest sender)) coded.is
              ∙ along_data whole.tables coded.code (rest sender)
              ∙ (known (rest sender)).1),
        );
      }
  texts_flow (Accept receiver) before e st =
      let coded = accept_coded items whole entries receiver before e st in
      let known = accept_known items whole.tables receiver coded.code coded.holds
      (lies_all items whole entries lie any_item receiver e) in
      placed_flows instruction.Accept (reference_fragment items receiver before) coded.code coded.is
      (λ sender. known (rest sender))
  texts_flow (AcceptDate receiver) before e st =
      let coded = date_coded items whole entries receiver before e st in
      let known = date_known items whole.tables receiver coded.code coded.holds
      (receives_one items whole entries lie (date_sender []).taken receiver e) in
      placed_flows instruction.Date (reference_fragment items receiver before) coded.code coded.is
      (λ sender. known (rest sender))
  texts_flow (Inspect one) before e st =
      let coded = (inspect_codes items whole entries one e).by before st in
      let known =
      inspect_leaves items whole.tables one coded.code coded.holds (lies_inspect items whole entries lie one e) in
      record {
        by = λ sender. (
          sender,
          ap (λ l. known_along whole.tables l (rest sender)) coded.is ∙ along_data whole.tables coded.code (rest sender)
              ∙ known (rest sender) refl,
        );
      }
  texts_flow (Convert one) before e st =
      let coded = (convert_codes items whole entries one e).by before st in
      let known =
      convert_leaves items whole.tables one coded.code coded.holds
      (lies_inspect items whole entries lie (as_replacing one) (as_replacing_rules items one e)) in
      record {
        by = λ sender. (
          sender,
          ap (λ l. known_along whole.tables l (rest sender)) coded.is ∙ along_data whole.tables coded.code (rest sender)
              ∙ known (rest sender) refl,
        );
      }

  arithmetic_flows : (keep : Bool) (one : Operation) (before : Code) → operation_rules items one ≡ []
      → Stands whole before (arithmetic_fragment items keep one before)
      → Flows whole.tables (arithmetic_fragment items keep one before)
  arithmetic_flows keep one before e st =
      let coded = arithmetic_coded items whole entries order lie keep one before e st in
      let known = arithmetic_known items whole.tables keep one coded.code coded.holds
      (lies_operation items whole entries lie one e) in
      record {
        by = λ sender. (
          sender,
          ap (λ l. known_along whole.tables l (rest sender)) coded.is ∙ along_data whole.tables coded.code (rest sender)
              ∙ known (rest sender),
        );
      }

  string_flows : {S : Type 0} (one : StringStatement S) (before : Code) → string_rules items one ≡ []
      → Stands whole before (string_fragment items one.sendings one.receiver one.pointer before)
      → Flows whole.tables (string_fragment items one.sendings one.receiver one.pointer before)
  string_flows one before e st =
      let coded = (string_codes items whole entries one e).by before st in
      let known =
      string_known items whole.tables one coded.code coded.holds (lies_string items whole entries lie one e) in
      record {
        by = λ sender. (
          sender,
          ap (λ l. known_along whole.tables l (rest sender)) coded.is ∙ along_data whole.tables coded.code (rest sender)
              ∙ known (rest sender) refl,
        );
      }

  -- ---- pieces

  both_flows : (first second : Fragment) → BodyFlows whole first → BodyFlows whole second
      → BodyFlows whole (sequence first second)
  both_flows first second f g = record {
    by = λ before st.
        let a = first before in
        let b = second (append before a) in
        both_flow whole.tables a b (f.by before (front whole before a b st))
        (g.by (append before a) (back whole before a b st));
  }

  nothing_flows_always : BodyFlows whole nothing_fragment
  nothing_flows_always = record { by = λ before st. nothing_flows whole.tables }

  ways_flow : (first second : Fragment) → Blind first → Blind second → BodyFlows whole first → BodyFlows whole second
      → BodyFlows whole (either_fragment first second)
  ways_flow first second f g one two =
      record { by = λ before st. either_flows whole first second f g one two before st }

  ticks_flow : (line : ℕ) → BodyFlows whole (tick_fragment line)
  ticks_flow line = record { by = λ before st. tick_flows whole.tables line before }

  -- ---- turns

  counted_turn_flows : (begin : ℕ) (turn : Fragment) → BodyFlows whole turn → BodyFlows whole (counted_turn begin turn)
  counted_turn_flows begin turn f = record {
    by = λ before st.
        let part = turn before in
        let last = turn_end begin (length before.instructions) in
        both_flow whole.tables part last (f.by before (front whole before part last st))
        (end_flows whole.tables begin (length before.instructions));
  }

  times_flow : (count : ℕ) (turn : Fragment) → BodyFlows whole turn → BodyFlows whole (times_fragment count turn)
  times_flow zero turn f = nothing_flows_always
  times_flow (suc more) turn f = record {
    by = λ before st.
        let begin = loop_begin more before in
        let inner = counted_turn (length before.instructions) turn (append before begin) in
        both_flow whole.tables begin inner (begin_flows whole.tables more before)
        ((counted_turn_flows (length before.instructions) turn f).by (append before begin)
        (back whole before begin inner st));
  }

  -- The number of turns is pushed, and taken.
  number_flows : (one : Reference) (before : Code) → reference_rules items integer_item one ≡ []
      → Stands whole before (take_fragment items i.Push one before)
      → Flows whole.tables (append (take_fragment items i.Push one before)
      (count_begin (append before (take_fragment items i.Push one before))))
  number_flows one before e st =
      let part = take_fragment items i.Push one before in
      let coded = taking_coded items whole entries i.Push integer_item one before e st in
      let known = value_known items whole.tables (operand.Item one) coded.code coded.holds
      (lies_all items whole entries lie integer_item one e) in
      let count = instruction.CountNumber (record { number = length (append before part).instructions }) in
      placed_flows count part coded.code coded.is
      (λ sender. ap (λ o. and_then o (known_after whole.tables count)) (known (rest sender)))

  counted_flows : (one : Reference) (turn : Fragment) → Blind turn → reference_rules items integer_item one ≡ []
      → BodyFlows whole turn
      → BodyFlows whole (sequence (take_fragment items i.Push one) (counted_fragment turn))
  counted_flows one turn blind e f = record {
    by = λ before st.
        let a = take_fragment items i.Push one before in
        let middle = append before a in
        let begin = count_begin middle in
        let n : ℕ = length middle.instructions in
        let ways = either_fragment (counted_turn n turn) nothing_fragment (append middle begin) in
        subst (Flows whole.tables) (joined_assoc a begin ways)
        (both_flow whole.tables (append a begin) ways
        (number_flows one before e (front whole before a (append begin ways) st))
        ((ways_flow (counted_turn n turn) nothing_fragment (counted_turn_blind n turn blind) nothing_blind
        (counted_turn_flows n turn f)
        nothing_flows_always).by (append middle begin)
        (back whole middle begin ways (back whole before a (append begin ways) st))));
  }

  -- ---- turns up to where a condition is true

  clear_flows : BodyFlows whole (work_fragment i.ClearTruth)
  clear_flows = record { by = λ before st. record { by = λ sender. (sender, refl) } }

  turning_flows : (turn behind : Fragment) → BodyFlows whole turn → BodyFlows whole behind
      → BodyFlows whole (repetition_fragment turn behind)
  turning_flows turn behind f g = record {
    by = λ before st.
        let last = branch_code (length before.instructions) in
        both_flow whole.tables (sequence turn behind before) last
        ((both_flows turn behind f g).by before (front whole before (sequence turn behind before) last st))
        (branch_flows whole.tables (length before.instructions));
  }

  module _ (test onward turn : Fragment) (blind_test : Blind test) (blind_onward : Blind onward)
      (blind_turn : Blind turn)
      (tests : BodyFlows whole test) (goes : BodyFlows whole onward) (flows : BodyFlows whole turn) where
    until_before_flows : BodyFlows whole (until_before_fragment test onward turn)
    until_before_flows =
        let behind = sequence onward test in
        both_flows test (either_fragment nothing_fragment (repetition_fragment turn behind)) tests
        (ways_flow nothing_fragment (repetition_fragment turn behind) nothing_blind
        (turn_before_blind test onward turn blind_test blind_onward blind_turn) nothing_flows_always
        (turning_flows turn behind flows (both_flows onward test goes tests)))

    until_after_flows : BodyFlows whole (until_after_fragment test onward turn)
    until_after_flows =
        let clear = work_fragment i.ClearTruth in
        let ways = either_fragment nothing_fragment (sequence onward clear) in
        turning_flows turn (sequence test ways) flows
        (both_flows test ways tests
        (ways_flow nothing_fragment (sequence onward clear) nothing_blind
        (onward_blind test onward turn blind_test blind_onward blind_turn) nothing_flows_always
        (both_flows onward clear goes clear_flows)))

    until_from_flows : (when : TestTime) → BodyFlows whole (until_from_fragment when test onward turn)
    until_from_flows Before = until_before_flows
    until_from_flows After = until_after_flows

  tests_flow : (one : Condition) → condition_rules items one ≡ [] → BodyFlows whole (condition_fragment items one)
  tests_flow one e = record { by = λ before st. condition_flows items whole entries order lie one before e st }

  vary_begin_flows : (one : Option Varying) → varying_rules items one ≡ []
      → BodyFlows whole (vary_begin_fragment items one)
  vary_begin_flows None e = nothing_flows_always
  vary_begin_flows (Some one) e =
      let moves = move_rules items one.from (one.item ∷ []) in
      let numbers = number_rules items one.from in
      let moving =
      left_none moves numbers (left_none (moves ++ numbers) (operation_rules items (vary_operation one)) e) in
      record { by = λ before st. moving_flows (Move one.from (one.item ∷ [])) before moving st }

  vary_on_flows : (one : Option Varying) → varying_rules items one ≡ [] → BodyFlows whole (vary_on_fragment items one)
  vary_on_flows None e = nothing_flows_always
  vary_on_flows (Some one) e =
      let adding = right_none (move_rules items one.from (one.item ∷ []) ++ number_rules items one.from)
      (operation_rules items (vary_operation one)) e in
      record { by = λ before st. arithmetic_flows false (vary_operation one) before adding st }

  until_flows : (one : until.Until) (turn : Fragment) → Blind turn → until_rules items one ≡ [] → BodyFlows whole turn
      → BodyFlows whole (until_fragment items one turn)
  until_flows one turn blind e f =
      let test = condition_fragment items one.condition in
      let onward = vary_on_fragment items one.varying in
      let varies = left_none (varying_rules items one.varying) (condition_rules items one.condition) e in
      let tests = right_none (varying_rules items one.varying) (condition_rules items one.condition) e in
      both_flows (vary_begin_fragment items one.varying) (until_from_fragment one.test test onward turn)
      (vary_begin_flows one.varying varies)
      (until_from_flows test onward turn (condition_blind items one.condition) (vary_on_blind items one.varying) blind
      (tests_flow one.condition tests) (vary_on_flows one.varying varies) f one.test)

  turns_flow : (line : ℕ) (often : Repetition) (turn : Fragment) → Blind turn → turns_rules items often ≡ []
      → BodyFlows whole turn
      → BodyFlows whole (turns_fragment items line often turn)
  turns_flow line Once turn blind e f = f
  turns_flow line (Times count) turn blind e f =
      both_flows (tick_fragment line) (times_fragment (turns_of count) turn) (ticks_flow line)
      (times_flow (turns_of count) turn f)
  turns_flow line (CountedBy one) turn blind e f =
      both_flows (tick_fragment line) (sequence (take_fragment items i.Push one) (counted_fragment turn))
      (ticks_flow line) (counted_flows one turn blind e f)
  turns_flow line (Until one) turn blind e f =
      both_flows (tick_fragment line) (until_fragment items one turn) (ticks_flow line) (until_flows one turn blind e f)

-- ---- statements

module _ (scope : Scope) (permits : Range → Bool) (whole : Code) (has : HasFiles whole scope)
    (entries : (n : ℕ) (one : LocatedItem) → slice_get scope.items n ≡ Some one
    → slice_get whole.tables.items n ≡ Some (data_item one))
    (order : IsTables whole.tables) (lie : (n : ℕ) (one : LocatedItem) → slice_get scope.items n ≡ Some one
    → LiesWhole whole.tables one) where
  abbrev items : List LocatedItem
  items = scope.items

  -- two pieces, one after the other
  pair_flows : (first second : Fragment) → BodyFlows whole first → BodyFlows whole second
      → BodyFlows whole (sequence first second)
  pair_flows first second f g = both_flows items whole entries order lie first second f g

  behind_tick : (line : ℕ) (piece : Fragment) → BodyFlows whole piece
      → BodyFlows whole (sequence (tick_fragment line) piece)
  behind_tick line piece f = pair_flows (tick_fragment line) piece (ticks_flow items whole entries order lie line) f

  module _ {S : Type 0} (rules : S → List RuleBreach) (inside : S → Fragment) (f : AllFlow whole rules inside)
      (blind : (one : S) → Blind (inside one)) where
    each_flows : (statements : List S) → each rules statements ≡ [] → BodyFlows whole (in_order inside statements)
    each_flows statements e = record { by = λ before st. in_order_flows whole rules inside f statements before e st }

    turn_flows : (line : ℕ) (one : Performed S) → performed_rules scope.procedures permits rules one ≡ []
        → BodyFlows whole (turn_fragment scope inside line one)
    turn_flows line (Procedures first last) e =
        record { by = λ before st. range_flows whole.tables line (range_of scope.procedures first last) before }
    turn_flows line (Statements statements) e = behind_tick line (in_order inside statements) (each_flows statements e)

    phrase_flows : (phrase : Option (List S)) → phrase_rules rules phrase ≡ []
        → BodyFlows whole (phrase_fragment scope inside phrase)
    phrase_flows None e = record { by = λ before st. nothing_flows whole.tables }
    phrase_flows (Some statements) e = each_flows statements e

    two_flow : (arose did_not : Option (List S)) → phrase_rules rules arose ++ phrase_rules rules did_not ≡ []
        → BodyFlows whole (either_fragment (phrase_fragment scope inside arose) (phrase_fragment scope inside did_not))
    two_flow arose did_not e = record {
      by = λ before st.
          either_flows whole (phrase_fragment scope inside arose) (phrase_fragment scope inside did_not)
          (phrase_blind scope inside blind arose)
          (phrase_blind scope inside blind did_not)
          (phrase_flows arose (left_none (phrase_rules rules arose) (phrase_rules rules did_not) e))
          (phrase_flows did_not (right_none (phrase_rules rules arose) (phrase_rules rules did_not) e)) before st;
    }

    phrases_flow : (arose did_not : Option (List S)) → phrase_rules rules arose ++ phrase_rules rules did_not ≡ []
        → BodyFlows whole (phrases_from scope inside arose did_not)
    phrases_flow None None e = record { by = λ before st. nothing_flows whole.tables }
    phrases_flow (Some statements) other e =
        record { by = λ before st. (two_flow (Some statements) other e).by before st }
    phrases_flow None (Some statements) e =
        record { by = λ before st. (two_flow None (Some statements) e).by before st }

    -- a condition, and the two ways after it
    tested_flows : (condition : Condition) (first second : Fragment) → condition_rules items condition ≡ []
        → Blind first → Blind second
        → BodyFlows whole first → BodyFlows whole second
        → BodyFlows whole (sequence (condition_fragment items condition) (either_fragment first second))
    tested_flows condition first second e blind_first blind_second one two =
        pair_flows (condition_fragment items condition) (either_fragment first second)
        (tests_flow items whole entries order lie condition e)
        (ways_flow items whole entries order lie first second blind_first blind_second one two)

    selecting_flows : (subjects : List Subject) (selected : List (Selected S)) (other : Option (List S))
        → each (selected_rules items rules subjects) selected ≡ [] → phrase_rules rules other ≡ []
        → BodyFlows whole (selection_fragment scope inside subjects selected other)
    selecting_flows subjects [] other e others = phrase_flows other others
    selecting_flows subjects (one ∷ more) other e others =
        let first = first_group items rules subjects one more e in
        tested_flows (selected_condition items subjects one) (in_order inside one.statements)
        (selection_fragment scope inside subjects more other)
        (selected_kept items rules subjects one first) (in_order_blind inside blind one.statements)
        (selecting_blind scope inside blind subjects more other)
        (each_flows one.statements (statements_of items rules subjects one first))
        (selecting_flows subjects more other (other_groups items rules subjects one more e) others)

    look_flows : (one : Option Condition) → look_rules items one ≡ [] → BodyFlows whole (look_fragment items one)
    look_flows None e = nothing_flows_always items whole entries order lie
    look_flows (Some one) e = tests_flow items whole entries order lie one e

    subject_flows : AllFlow whole (subject_rules items) (subject_fragment items)
    subject_flows = record {
      by = λ one before e st.
          let l = resolved_subject items one in (look_flows (look items l) (look_kept items l e)).by before st;
    }

    taken_flow : (once : Bool) (subjects : List Subject) → each (subject_rules items) subjects ≡ []
        → BodyFlows whole (taken_from items once subjects)
    taken_flow true subjects e = nothing_flows_always items whole entries order lie
    taken_flow false subjects e =
        record {
          by = λ before st.
              in_order_flows whole (subject_rules items) (subject_fragment items) subject_flows subjects before e st;
        }

    evaluate_flows : (one : Evaluate S) → evaluate_rules items rules one ≡ []
        → BodyFlows whole (evaluate_fragment scope inside one)
    evaluate_flows one e =
        let object = first_object one.selected in
        pair_flows (subjects_fragment items one.subjects object)
        (selection_fragment scope inside one.subjects one.selected one.other)
        (taken_flow (is_asked_first items one.subjects object) one.subjects (subjects_of items rules one e))
        (selecting_flows one.subjects one.selected one.other (groups_of items rules one e) (other_of items rules one e))

    branching_flows : (line : ℕ) (one : ConditionalStatement S) → branching_rules items rules one ≡ []
        → BodyFlows whole (conditional_fragment scope inside line one)
    branching_flows line (branch.If condition statements otherwise) e =
        let first = in_order inside statements in
        let second = phrase_fragment scope inside otherwise in
        let asks = condition_rules items condition in
        let kept = left_none (asks ++ each rules statements) (phrase_rules rules otherwise) e in
        let tests = left_none asks (each rules statements) kept in
        let firsts = right_none asks (each rules statements) kept in
        let others = right_none (asks ++ each rules statements) (phrase_rules rules otherwise) e in
        behind_tick line (sequence (condition_fragment items condition) (either_fragment first second))
        (tested_flows condition first second tests (in_order_blind inside blind statements)
        (phrase_blind scope inside blind otherwise)
        (each_flows statements firsts) (phrase_flows otherwise others))
    branching_flows line (branch.Evaluate one) e =
        behind_tick line (evaluate_fragment scope inside one) (evaluate_flows one e)

    verb_flows : (line : ℕ) (one : Verb S) → verb_rules scope permits rules one ≡ []
        → BodyFlows whole (verb_fragment scope inside line one)
    verb_flows line (verb.DataStatement one) e =
        behind_tick line (data_fragment items one)
        (record { by = λ before st. moving_flows items whole entries order lie one before e st })
    verb_flows line (verb.Arithmetic one) e =
        let keep = is_there one.phrases.arose in
        let part = arithmetic_fragment items keep one.operation in
        let phrases = phrases_fragment scope inside one.phrases in
        let operation_keeps = left_none (operation_rules items one.operation) (phrases_rules rules one.phrases) e in
        let phrases_keep = right_none (operation_rules items one.operation) (phrases_rules rules one.phrases) e in
        behind_tick line (sequence part phrases)
        (pair_flows part phrases
        (record {
          by = λ before st. arithmetic_flows items whole entries order lie keep one.operation before operation_keeps st;
        })
        (phrases_flow one.phrases.arose one.phrases.did_not phrases_keep))
    verb_flows line (verb.ConditionalStatement one) e = branching_flows line one e
    verb_flows line (verb.PerformStatement one) e =
        let turn = turn_fragment scope inside line one.performed in
        let often =
        left_none (turns_rules items one.turns) (performed_rules scope.procedures permits rules one.performed) e in
        let performed =
        right_none (turns_rules items one.turns) (performed_rules scope.procedures permits rules one.performed) e in
        turns_flow items whole entries order lie line one.turns turn (turn_blind scope inside blind line one.performed)
        often
        (turn_flows line one.performed performed)
    verb_flows line (verb.TextStatement one) e =
        behind_tick line (texts_fragment items one)
        (record { by = λ before st. texts_flow items whole entries order lie one before e st })
    verb_flows line (verb.StringStatement one) e =
        let part = string_fragment items one.sendings one.receiver one.pointer in
        let phrases = phrases_fragment scope inside one.phrases in
        let string_keeps = left_none (string_rules items one) (phrases_rules rules one.phrases) e in
        let phrases_keep = right_none (string_rules items one) (phrases_rules rules one.phrases) e in
        behind_tick line (sequence part phrases)
        (pair_flows part phrases
        (record { by = λ before st. string_flows items whole entries order lie one before string_keeps st })
        (phrases_flow one.phrases.arose one.phrases.did_not phrases_keep))
    verb_flows line (verb.FileStatement one) e =
        let own = filing_rules scope.items scope.files one in
        let inner = file_phrases_rules rules (phrases_of one) in
        behind_tick line (file_statement_fragment scope inside one)
        (filing_flows scope whole has entries order lie (λ sender receivers keep. record {
          by = λ before st. moving_flows items whole entries order lie (Move sender receivers) before keep st;
        }) rules inside (phrase_blind scope inside blind) phrase_flows one (left_none own inner e)
        (right_none own inner e))
    verb_flows line (verb.ControlStatement ending.StopRun) e =
        record { by = λ before st. record { by = λ sender. (None, refl) } }
    verb_flows line (verb.ControlStatement ending.Continue) e =
        record { by = λ before st. record { by = λ sender. (None, refl) } }
    verb_flows line (verb.ControlStatement ending.Exit) e =
        record { by = λ before st. record { by = λ sender. (None, refl) } }

  record IsFlowing (one : Statement) : Type 0 where
    by : (before : Code) → statement_rules scope permits one ≡ []
        → Stands whole before (statement_fragment scope one before)
        → Flows whole.tables (statement_fragment scope one before)

  abbrev Flowing : Type 0
  Flowing = (one : Statement) × IsFlowing one

  flowing_inside : (l : Statement-F Flowing) → IsFlowing (roll-Statement (map-Statement Flowing Statement (λ m. m.0) l))
  flowing_inside l = record {
    by = λ before e st.
        let is = rolled_is scope (map-Statement Flowing Statement (λ m. m.0) l) before
        ∙ verb_map scope (λ m. m.0) (statement_fragment scope) l.place l.verb before in
        subst (Flows whole.tables) (sym is)
        ((verb_flows (λ (m : Flowing). statement_rules scope permits m.0)
        (λ (m : Flowing). statement_fragment scope m.0)
        (record { by = λ m now keep here. m.1.by now keep here }) (λ m. statement_blind scope m.0) l.place.line l.verb
        (sym (mapped_rules scope permits (λ (m : Flowing). m.0) l) ∙ e)).by before (subst (Stands whole before) is st));
  }

  statement_flows : (one : Statement) → IsFlowing one
  statement_flows =
      ind-Statement IsFlowing (λ one l is. subst (λ k. IsFlowing (roll-Statement k)) is (flowing_inside l))

  sentences_flow : AllFlow whole (sentence_rules scope permits) (sentence_fragment scope)
  sentences_flow = record {
    by = λ one before e st. in_order_flows whole (statement_rules scope permits) (statement_fragment scope)
        (record { by = λ inner now keep here. (statement_flows inner).by now keep here }) one.statements before e st;
  }

  paragraphs_flow : AllFlow whole (paragraph_rules scope permits) (paragraph_fragment scope)
  paragraphs_flow = record {
    by = λ one before e st.
        let a = start_fragment before in
        let b = in_order (sentence_fragment scope) one.sentences (append before a) in
        let c = back_fragment (length before.starts) (append (append before a) b) in
        let here = back whole before a (append b c) st in
        both_flow whole.tables a (append b c) (start_flows whole.tables before)
        (both_flow whole.tables b c
        (in_order_flows whole (sentence_rules scope permits) (sentence_fragment scope) sentences_flow one.sentences
        (append before a) e
        (front whole (append before a) b c here))
        (back_flows whole.tables (length before.starts) (append (append before a) b)));
  }

  -- the paragraphs of a program
  pub paragraphs_flows : (all : List Paragraph) (before : Code) → each (paragraph_rules scope permits) all ≡ []
      → Stands whole before (in_order (paragraph_fragment scope) all before)
      → Flows whole.tables (in_order (paragraph_fragment scope) all before)
  paragraphs_flows all before e st =
      in_order_flows whole (paragraph_rules scope permits) (paragraph_fragment scope) paragraphs_flow all before e st
