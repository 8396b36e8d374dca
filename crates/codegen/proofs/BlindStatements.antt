-- The code of a statement doesn't depend on the instructions before it, but on how many there are.
use Rattle.std.proofs.Common.{ℕ, zero, suc, Bool, true, false, List, [], ◌∷◌, length, Option, Some, None, ap, ◌∙◌}
use Rattle.std.proofs.Common.{subst}
use Rattle.source_tree.specs.declared.condition.Condition.{Condition}
use Rattle.source_tree.specs.declared.conditional_statement.ConditionalStatement.{ConditionalStatement}
use Rattle.source_tree.specs.declared.conditional_statement.ConditionalStatement.TheVariants as branch
use Rattle.source_tree.specs.declared.evaluate_statement.Subject.{Subject}
use Rattle.source_tree.specs.declared.evaluate_statement.Object.{Object}
use Rattle.source_tree.specs.declared.evaluate_statement.Selected.{Selected}
use Rattle.source_tree.specs.declared.evaluate_statement.Evaluate.{Evaluate}
use Rattle.source_tree.specs.declared.control_statement.ControlStatement.{ControlStatement}
use Rattle.source_tree.specs.declared.control_statement.ControlStatement.TheVariants as ending
use Rattle.source_tree.specs.declared.perform_statement.Performed.{Performed}
use Rattle.source_tree.specs.declared.perform_statement.Performed.TheVariants.{Procedures, Statements}
use Rattle.source_tree.specs.declared.perform_statement.Repetition.{Repetition}
use Rattle.source_tree.specs.declared.perform_statement.Repetition.TheVariants.{Once, Times, CountedBy, Until}
use Rattle.source_tree.specs.declared.statement.Verb.{Verb}
use Rattle.source_tree.specs.declared.statement.Verb.TheVariants as verb
use Rattle.source_tree.specs.declared.statement.Statement.{Statement, roll-Statement}
use Rattle.source_tree.specs.declared.statement.Statement.TheOpen.{Statement-F}
use Rattle.source_tree.specs.declared.statement.Statement.TheFolds.{map-Statement, ind-Statement}
use Rattle.source_tree.specs.Arithmetic.{is_there}
use Rattle.source_tree.specs.Evaluate.{resolved_subject, selected_condition}
use Rattle.source_tree.specs.Performing.{turns_of}
use Rattle.source_tree.specs.Places.{LocatedItem}
use Rattle.source_tree.specs.Procedures.{Range, range_of}
use Rattle.source_tree.specs.Setting.{Scope}
use Rattle.data_instructions.specs.declared.instruction.DataInstruction.TheVariants as i
use Rattle.code_image.specs.declared.code.Code.{Code}
use Rattle.code_image.specs.declared.instruction.Instruction.TheVariants.{Tick, Stop, Count, CountNumber}
use Rattle.condition_codegen.specs.Fragments.{Fragment, empty_code, append, sequence, in_order, plain_code}
use Rattle.condition_codegen.specs.DataCode.{take_fragment}
use Rattle.condition_codegen.specs.ArithmeticCode.{arithmetic_fragment}
use Rattle.condition_codegen.specs.Meeting.{either_fragment, nothing_fragment}
use Rattle.condition_codegen.specs.ConditionCode.{condition_fragment}
use Rattle.statement_codegen.specs.StringCode.{string_fragment}
use Rattle.statement_codegen.specs.SubjectCode.{first_object, look, look_fragment, subject_fragment, is_asked_first}
use Rattle.statement_codegen.specs.SubjectCode.{taken_from, subjects_fragment}
use Rattle.codegen.specs.UntilCode.{tick_fragment, until_fragment}
use Rattle.codegen.specs.Layout.{control_fragment, loop_begin, count_begin, turn_end, counted_turn, times_fragment}
use Rattle.codegen.specs.Layout.{counted_fragment, turns_fragment, data_fragment, texts_fragment, range_fragment}
use Rattle.codegen.specs.Layout.{turn_fragment, phrase_fragment, phrases_from, selection_fragment, evaluate_fragment}
use Rattle.codegen.specs.Layout.{conditional_fragment, file_statement_fragment, verb_fragment, statement_fragment}
use Rattle.codegen.proofs.Blind.{Blind, blind_as, constant_blind, count_blind, both_blind, in_order_blind, taking_blind}
use Rattle.codegen.proofs.Blind.{moving_blind, texts_blind}
use Rattle.codegen.proofs.BlindArithmetic.{arithmetic_blind}
use Rattle.codegen.proofs.BlindFiling.{filing_blind}
use Rattle.codegen.proofs.BlindStrings.{string_blind}
use Rattle.codegen.proofs.ConditionBlind.{nothing_blind, condition_blind}
use Rattle.codegen.proofs.Either.{either_blind}
use Rattle.codegen.proofs.Layers.{verb_map, rolled_is}
use Rattle.codegen.proofs.UntilBlind.{tick_blind, until_blind}

ending_blind : (line : ℕ) (one : ControlStatement) → Blind (control_fragment line one)
ending_blind line ending.StopRun = constant_blind (plain_code (Tick line ∷ Stop ∷ []))
ending_blind line ending.Continue = tick_blind line
ending_blind line ending.Exit = tick_blind line

-- ---- turns

begin_blind : (more : ℕ) → Blind (loop_begin more)
begin_blind more = count_blind (λ (n : ℕ). plain_code (Count (record { number = n }) more ∷ []))

count_begin_blind : Blind count_begin
count_begin_blind = count_blind (λ (n : ℕ). plain_code (CountNumber (record { number = n }) ∷ []))

-- the way back knows how many instructions stand before the turn
pub counted_turn_blind : (begin : ℕ) (turn : Fragment) → Blind turn → Blind (counted_turn begin turn)
counted_turn_blind begin turn f = record {
  by = λ a b alike.
      ap (λ (c : Code). append c (turn_end begin (length a.instructions))) (f.by a b alike)
      ∙ ap (λ (n : ℕ). append (turn b) (turn_end begin n)) alike.count;
}

-- what begins a loop, and what follows it, which knows where that is
loop_blind : (begin : Fragment) (inner : ℕ → Fragment) → Blind begin → ((n : ℕ) → Blind (inner n))
    → Blind (λ before. sequence begin (inner (length before.instructions)) before)
loop_blind begin inner f g = record {
  by = λ a b alike.
      (both_blind begin (inner (length a.instructions)) f (g (length a.instructions))).by a b alike
      ∙ ap (λ (n : ℕ). sequence begin (inner n) b) alike.count;
}

times_blind : (count : ℕ) (turn : Fragment) → Blind turn → Blind (times_fragment count turn)
times_blind zero turn f = constant_blind empty_code
times_blind (suc more) turn f =
    loop_blind (loop_begin more) (λ n. counted_turn n turn) (begin_blind more) (λ n. counted_turn_blind n turn f)

counted_blind : (turn : Fragment) → Blind turn → Blind (counted_fragment turn)
counted_blind turn f =
    loop_blind count_begin (λ n. either_fragment (counted_turn n turn) nothing_fragment) count_begin_blind
    (λ n. either_blind (counted_turn n turn) nothing_fragment (counted_turn_blind n turn f) nothing_blind)

-- the paragraphs of a range
range_blind : (line : ℕ) (range : Option Range) → Blind (range_fragment line range)
range_blind line None = tick_blind line
range_blind line (Some range) = constant_blind (range_fragment line (Some range) empty_code)

-- ---- statements that hold statements

turns_blind : (items : List LocatedItem) (line : ℕ) (often : Repetition) (turn : Fragment) → Blind turn
    → Blind (turns_fragment items line often turn)
turns_blind items line Once turn f = f
turns_blind items line (Times count) turn f =
    both_blind (tick_fragment line) (times_fragment (turns_of count) turn) (tick_blind line)
    (times_blind (turns_of count) turn f)
turns_blind items line (CountedBy one) turn f =
    let number = take_fragment items i.Push one in
    both_blind (tick_fragment line) (sequence number (counted_fragment turn)) (tick_blind line)
    (both_blind number (counted_fragment turn) (taking_blind items i.Push one) (counted_blind turn f))
turns_blind items line (Until one) turn f =
    both_blind (tick_fragment line) (until_fragment items one turn) (tick_blind line) (until_blind items one turn f)

-- the looks at subjects
module _ (items : List LocatedItem) where
  look_blind : (one : Option Condition) → Blind (look_fragment items one)
  look_blind None = nothing_blind
  look_blind (Some one) = condition_blind items one

  taken_blind : (once : Bool) (subjects : List Subject) → Blind (taken_from items once subjects)
  taken_blind true subjects = nothing_blind
  taken_blind false subjects =
      in_order_blind (subject_fragment items) (λ one. look_blind (look items (resolved_subject items one))) subjects

  subjects_blind : (subjects : List Subject) (object : Option Object) → Blind (subjects_fragment items subjects object)
  subjects_blind subjects object = taken_blind (is_asked_first items subjects object) subjects

module _ (scope : Scope) where
  abbrev items : List LocatedItem
  items = scope.items

  module _ {S : Type 0} (inside : S → Fragment) (each_one : (one : S) → Blind (inside one)) where
    pub turn_blind : (line : ℕ) (one : Performed S) → Blind (turn_fragment scope inside line one)
    turn_blind line (Procedures first last) = range_blind line (range_of scope.procedures first last)
    turn_blind line (Statements statements) =
        both_blind (tick_fragment line) (in_order inside statements) (tick_blind line)
        (in_order_blind inside each_one statements)

    pub phrase_blind : (phrase : Option (List S)) → Blind (phrase_fragment scope inside phrase)
    phrase_blind None = constant_blind empty_code
    phrase_blind (Some statements) = in_order_blind inside each_one statements

    phrases_blind : (arose did_not : Option (List S)) → Blind (phrases_from scope inside arose did_not)
    phrases_blind None None = constant_blind empty_code
    phrases_blind (Some statements) other =
        either_blind (phrase_fragment scope inside (Some statements)) (phrase_fragment scope inside other)
        (phrase_blind (Some statements))
        (phrase_blind other)
    phrases_blind None (Some statements) =
        either_blind (phrase_fragment scope inside None) (phrase_fragment scope inside (Some statements))
        (phrase_blind None)
        (phrase_blind (Some statements))

    -- a condition, and the two ways after it
    tested_blind : (condition : Condition) (first second : Fragment) → Blind first → Blind second
        → Blind (sequence (condition_fragment items condition) (either_fragment first second))
    tested_blind condition first second f g =
        both_blind (condition_fragment items condition) (either_fragment first second) (condition_blind items condition)
        (either_blind first second f g)

    pub selecting_blind : (subjects : List Subject) (selected : List (Selected S)) (other : Option (List S))
        → Blind (selection_fragment scope inside subjects selected other)
    selecting_blind subjects [] other = phrase_blind other
    selecting_blind subjects (one ∷ more) other =
        tested_blind (selected_condition items subjects one) (in_order inside one.statements)
        (selection_fragment scope inside subjects more other)
        (in_order_blind inside each_one one.statements) (selecting_blind subjects more other)

    evaluate_blind : (one : Evaluate S) → Blind (evaluate_fragment scope inside one)
    evaluate_blind one =
        both_blind (subjects_fragment items one.subjects (first_object one.selected))
        (selection_fragment scope inside one.subjects one.selected one.other)
        (subjects_blind items one.subjects (first_object one.selected))
        (selecting_blind one.subjects one.selected one.other)

    branching_blind : (line : ℕ) (one : ConditionalStatement S) → Blind (conditional_fragment scope inside line one)
    branching_blind line (branch.If condition statements otherwise) =
        let first = in_order inside statements in
        let second = phrase_fragment scope inside otherwise in
        both_blind (tick_fragment line) (sequence (condition_fragment items condition) (either_fragment first second))
        (tick_blind line)
        (tested_blind condition first second (in_order_blind inside each_one statements) (phrase_blind otherwise))
    branching_blind line (branch.Evaluate one) =
        both_blind (tick_fragment line) (evaluate_fragment scope inside one) (tick_blind line) (evaluate_blind one)

    verb_blind : (line : ℕ) (one : Verb S) → Blind (verb_fragment scope inside line one)
    verb_blind line (verb.DataStatement one) =
        both_blind (tick_fragment line) (data_fragment items one) (tick_blind line) (moving_blind items one)
    verb_blind line (verb.Arithmetic one) =
        let part = arithmetic_fragment items (is_there one.phrases.arose) one.operation in
        let phrases = phrases_from scope inside one.phrases.arose one.phrases.did_not in
        both_blind (tick_fragment line) (sequence part phrases) (tick_blind line)
        (both_blind part phrases (arithmetic_blind items (is_there one.phrases.arose) one.operation)
        (phrases_blind one.phrases.arose one.phrases.did_not))
    verb_blind line (verb.ConditionalStatement one) = branching_blind line one
    verb_blind line (verb.PerformStatement one) =
        turns_blind items line one.turns (turn_fragment scope inside line one.performed) (turn_blind line one.performed)
    verb_blind line (verb.TextStatement one) =
        both_blind (tick_fragment line) (texts_fragment items one) (tick_blind line) (texts_blind items one)
    verb_blind line (verb.StringStatement one) =
        let part = string_fragment items one.sendings one.receiver one.pointer in
        let phrases = phrases_from scope inside one.phrases.arose one.phrases.did_not in
        both_blind (tick_fragment line) (sequence part phrases) (tick_blind line)
        (both_blind part phrases (string_blind items one.sendings one.receiver one.pointer)
        (phrases_blind one.phrases.arose one.phrases.did_not))
    verb_blind line (verb.FileStatement one) =
        both_blind (tick_fragment line) (file_statement_fragment scope inside one) (tick_blind line)
        (filing_blind scope inside phrase_blind one)
    verb_blind line (verb.ControlStatement one) = ending_blind line one

  -- a statement whose code is so
  abbrev Seen : Type 0
  Seen = (one : Statement) × Blind (statement_fragment scope one)

  rolled_blind : (l : Statement-F Seen)
      → Blind (statement_fragment scope (roll-Statement (map-Statement Seen Statement (λ m. m.0) l)))
  rolled_blind l =
      blind_as (statement_fragment scope (roll-Statement (map-Statement Seen Statement (λ m. m.0) l)))
      (verb_fragment scope (λ (m : Seen). statement_fragment scope m.0) l.place.line l.verb)
      (λ before. rolled_is scope (map-Statement Seen Statement (λ m. m.0) l) before
      ∙ verb_map scope (λ m. m.0) (statement_fragment scope) l.place l.verb before)
      (verb_blind (λ (m : Seen). statement_fragment scope m.0) (λ m. m.1) l.place.line l.verb)

  pub statement_blind : (one : Statement) → Blind (statement_fragment scope one)
  statement_blind =
      ind-Statement (λ one. Blind (statement_fragment scope one))
      (λ one l is. subst (λ k. Blind (statement_fragment scope (roll-Statement k))) is (rolled_blind l))
