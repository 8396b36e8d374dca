-- The code of a program names what is there, and its ways lead where they may, where the rules are kept.
use Rattle.std.proofs.Common.{◌≡◌, ℕ, zero, suc, ◌+◌, ◌<◌, List, [], ◌∷◌, ◌++◌, length, Option, Some, None, refl, sym}
use Rattle.std.proofs.Common.{ap, ◌∙◌, subst, inr, arith, append_assoc, length-append}
use Rattle.std.specs.Prelude.{Bool, true, false, slice_get}
use Rattle.std.specs.List.{AllByRecursion}
use Rattle.lexical.specs.declared.place.Place.{Place}
use Rattle.source_tree.specs.declared.conditional_statement.ConditionalStatement.{ConditionalStatement}
use Rattle.source_tree.specs.declared.conditional_statement.ConditionalStatement.TheVariants as branch
use Rattle.source_tree.specs.declared.condition.Condition.{Condition}
use Rattle.source_tree.specs.declared.evaluate_statement.Subject.{Subject}
use Rattle.source_tree.specs.declared.evaluate_statement.Selected.{Selected}
use Rattle.source_tree.specs.declared.control_statement.ControlStatement.TheVariants as ending
use Rattle.source_tree.specs.declared.data_statement.DataStatement.TheVariants.{Move}
use Rattle.source_tree.specs.declared.perform_statement.Performed.{Performed}
use Rattle.source_tree.specs.declared.perform_statement.Performed.TheVariants.{Procedures, Statements}
use Rattle.source_tree.specs.declared.perform_statement.Repetition.{Repetition}
use Rattle.source_tree.specs.declared.perform_statement.Repetition.TheVariants.{Once, Times, CountedBy, Until}
use Rattle.source_tree.specs.declared.until.TestTime.{TestTime}
use Rattle.source_tree.specs.declared.until.TestTime.TheVariants.{Before, After}
use Rattle.source_tree.specs.declared.until.Until as until
use Rattle.source_tree.specs.declared.until.Varying.{Varying}
use Rattle.source_tree.specs.declared.statement.Verb.{Verb}
use Rattle.source_tree.specs.declared.statement.Verb.TheVariants as verb
use Rattle.source_tree.specs.declared.statement.Statement.{Statement, roll-Statement}
use Rattle.source_tree.specs.declared.statement.Statement.TheOpen.{Statement-F}
use Rattle.source_tree.specs.declared.statement.Statement.TheFolds.{map-Statement, ind-Statement}
use Rattle.source_tree.specs.declared.program.Sentence.{Sentence}
use Rattle.source_tree.specs.Arithmetic.{is_there}
use Rattle.source_tree.specs.ArithmeticRules.{number_rules, operation_rules}
use Rattle.source_tree.specs.Broken.{RuleBreach, each}
use Rattle.source_tree.specs.ConditionRules.{condition_rules, varying_rules, until_rules}
use Rattle.source_tree.specs.Evaluate.{resolved_subject, selected_condition}
use Rattle.source_tree.specs.EvaluateRules.{subject_rules, selected_rules}
use Rattle.source_tree.specs.Filing.{phrases_of}
use Rattle.source_tree.specs.FilingRules.{filing_rules}
use Rattle.source_tree.specs.MoveRules.{move_rules}
use Rattle.source_tree.specs.ProgramFiles.{ProgramFile}
use Rattle.source_tree.specs.declared.phrases.FilePhrases.{FilePhrases}
use Rattle.source_tree.specs.declared.phrases.FilePhrases.TheVariants as file_phrases
use Rattle.source_tree.specs.Performing.{turns_of}
use Rattle.source_tree.specs.Procedures.{Range, range_of}
use Rattle.source_tree.specs.Recursion.{Performance, each_performs, phrase_performs, file_phrases_performs}
use Rattle.source_tree.specs.Recursion.{range_performs, performed_performs, selected_performs, branching_performs}
use Rattle.source_tree.specs.Recursion.{verb_performs, statement_performs, sentence_performs}
use Rattle.source_tree.specs.Setting.{Scope}
use Rattle.source_tree.specs.Places.{LocatedItem}
use Rattle.source_tree.specs.Until.{vary_operation}
use Rattle.source_tree.specs.StringRules.{string_rules}
use Rattle.source_tree.specs.Rules.{phrase_rules, phrases_rules, performed_rules, turns_rules, branching_rules}
use Rattle.source_tree.specs.Rules.{file_phrases_rules, verb_rules, statement_rules, sentence_rules}
use Rattle.data_instructions.specs.declared.instruction.DataInstruction.TheVariants as i
use Rattle.code_image.specs.declared.code.Code.{Code}
use Rattle.code_image.specs.declared.instruction.Instruction.{Instruction}
use Rattle.code_image.specs.declared.instruction.Instruction.TheVariants.{Tick, Stop, Turn, Branch, Perform}
use Rattle.code_image.specs.Demands.{UsesBudget, ends_in, JumpsBack}
use Rattle.declarations.proofs.RuleLayers.{mapped_rules}
use Rattle.declarations.proofs.PerformLayers.{mapped_performs}
use Rattle.condition_codegen.specs.Fragments.{Fragment, append, sequence, in_order}
use Rattle.condition_codegen.specs.Meeting.{branch_code, either_fragment, nothing_fragment}
use Rattle.condition_codegen.specs.DataCode.{work_fragment, take_fragment}
use Rattle.condition_codegen.specs.ArithmeticCode.{arithmetic_fragment}
use Rattle.statement_codegen.specs.StringCode.{string_fragment}
use Rattle.condition_codegen.specs.ConditionCode.{condition_fragment}
use Rattle.codegen.specs.UntilCode.{tick_fragment, repetition_fragment, until_before_fragment, until_after_fragment}
use Rattle.codegen.specs.UntilCode.{until_from_fragment, vary_begin_fragment, vary_on_fragment, until_fragment}
use Rattle.statement_codegen.specs.SubjectCode.{first_object, look, look_fragment, subject_fragment}
use Rattle.statement_codegen.specs.SubjectCode.{each_subject_fragment, is_asked_first, taken_from, subjects_fragment}
use Rattle.codegen.specs.Layout.{loop_begin, count_begin, turn_end, counted_turn, times_fragment, counted_fragment}
use Rattle.codegen.specs.Layout.{range_fragment, turn_fragment, turns_fragment, data_fragment, texts_fragment}
use Rattle.codegen.specs.Layout.{phrase_fragment, phrases_from, phrases_fragment, selection_fragment, evaluate_fragment}
use Rattle.codegen.specs.Layout.{conditional_fragment, stop_run_fragment, file_statement_fragment, verb_fragment}
use Rattle.codegen.specs.Layout.{statement_fragment, sentence_fragment}
use Rattle.condition_codegen.proofs.Lists.{left_none, right_none}
use Rattle.codegen.proofs.Layers.{verb_map, rolled_is}
use Rattle.codegen.proofs.Standing.{at_seam}
use Rattle.codegen.proofs.Blind.{Blind, in_order_blind}
use Rattle.codegen.proofs.ConditionBlind.{nothing_blind, condition_blind}
use Rattle.codegen.proofs.UntilBlind.{turn_before_blind, onward_blind, vary_on_blind}
use Rattle.statement_codegen.proofs.SubjectLooks.{look_rules, look_kept}
use Rattle.condition_codegen.proofs.EvaluateKept.{statements_of, selected_kept, first_group, other_groups, subjects_of}
use Rattle.condition_codegen.proofs.EvaluateKept.{groups_of, other_of}
use Rattle.codegen.proofs.BlindStatements.{counted_turn_blind, turn_blind, phrase_blind, selecting_blind}
use Rattle.codegen.proofs.BlindStatements.{statement_blind}
use Rattle.codegen.proofs.Straight.{AlwaysStraight, work_straight, taking_straight, moving_straight}
use Rattle.codegen.proofs.ArithmeticStraight.{arithmetic_straight}
use Rattle.codegen.proofs.StringStraight.{string_straight}
use Rattle.codegen.proofs.Inspections.{AreSized}
use Rattle.codegen.proofs.TextStraight.{texts_straight}
use Rattle.codegen.proofs.Leading.{none_end, stays_within, plain_names, Asks, Meets, both_meet, nothing_meets}
use Rattle.codegen.proofs.Leading.{straight_meets, branch_meets, either_meets}
use Rattle.codegen.proofs.FileMeets.{PhrasesMeet, filing_meets}
use Rattle.codegen.proofs.HasFiles.{IsNumbered, IsSuited}
use Rattle.codegen.proofs.Ranges.{IsWithin, EndsWithin, FoundWithin, range_within}
use Rattle.condition_codegen.proofs.ConditionValues.{AreFormed}
use Rattle.codegen.proofs.ConditionMeets.{condition_meets}

-- ---- what begins with what uses one of the budget

pub record BeginsWith (part : Code) : Type 0 where
  pub one : Instruction
  pub more : List Instruction
  pub is : part.instructions ≡ one ∷ more
  pub budget : UsesBudget (Some one)

-- whatever follows it
begins_longer : (part behind : Code) → BeginsWith part → BeginsWith (append part behind)
begins_longer part behind b = record {
  one = b.one;
  more = b.more ++ behind.instructions;
  is = ap (λ (l : List Instruction). l ++ behind.instructions) b.is;
  budget = b.budget;
}

-- The last instruction of such a part may lead back to its begin.
leads_back : (before part : Code) (last : List Instruction) → BeginsWith part → ends_in part.instructions ≡ 0
    → ends_in last ≡ 0
    → JumpsBack ((before.instructions ++ part.instructions) ++ last) (length (before.instructions ++ part.instructions))
    (length before.instructions)
leads_back before part last b none ends =
    let front = before.instructions in
    let inner = part.instructions in
    let whole = (front ++ inner) ++ last in
    let n1 = length-append front inner in
    let n2 : length inner ≡ length (b.one ∷ b.more) = ap length b.is in
    let n3 : length (b.one ∷ b.more) ≡ 1 + length b.more = omega arith in
    let is : whole ≡ front ++ (inner ++ last) = append_assoc front inner last in
    let same : whole ≡ front ++ b.one ∷ (b.more ++ last) =
    is ∙ ap (λ (l : List Instruction). front ++ (l ++ last)) b.is in
    let here : slice_get whole (length front) ≡ Some b.one =
    ap (λ (l : List Instruction). slice_get l (length front)) same ∙ at_seam front b.one (b.more ++ last) in
    record {
      before = omega (arith, n1, n2, n3);
      budget = subst UsesBudget (sym here) b.budget;
      stays = stays_within whole front (inner ++ last) (length (front ++ inner)) (length front) is
          (none_end inner last none ends) (omega (arith, n1))
          (omega arith);
    }

-- a piece, after whatever code
abbrev pub Begins : Fragment → Type 0
Begins piece = (before : Code) → BeginsWith (piece before)

tick_begins : (line : ℕ) → Begins (tick_fragment line)
tick_begins line before = record { one = Tick line; more = []; is = refl; budget = tt }

range_begins : (line : ℕ) (range : Option Range) → Begins (range_fragment line range)
range_begins line None before = record { one = Tick line; more = []; is = refl; budget = tt }
range_begins line (Some range) before =
    record {
      one = Perform line (record { number = range.first }) (record { number = range.last });
      more = [];
      is = refl;
      budget = tt;
    }

turn_begins : (scope : Scope) {S : Type 0} (inside : S → Fragment) (line : ℕ) (one : Performed S)
    → Begins (turn_fragment scope inside line one)
turn_begins scope inside line (Procedures first last) before =
    range_begins line (range_of scope.procedures first last) before
turn_begins scope inside line (Statements statements) before =
    record {
      one = Tick line;
      more = (in_order inside statements (append before (tick_fragment line before))).instructions;
      is = refl;
      budget = tt;
    }

-- ---- lists of which each element is so

abbrev pub Asked : (Range → Type 0) → List Performance → Type 0
Asked asked = AllByRecursion (λ (one : Performance). asked one.range)

pub all_front : {X : Type 0} (P : X → Type 0) (xs ys : List X) → AllByRecursion P (xs ++ ys) → AllByRecursion P xs
all_front P [] ys h = tt
all_front P (x ∷ xs) ys h = (h.0, all_front P xs ys h.1)

pub all_back : {X : Type 0} (P : X → Type 0) (xs ys : List X) → AllByRecursion P (xs ++ ys) → AllByRecursion P ys
all_back P [] ys h = h
all_back P (x ∷ xs) ys h = all_back P xs ys h.1

-- A range that is performed lies in so many paragraphs, and is so.
pub record IsPerformed (count : ℕ) (wanted : Range → Type 0) (range : Range) : Type 0 where
  pub within : IsWithin count range
  pub asked : wanted range

-- what is asked of ranges and of verbs
abbrev pub asks_of : List LocatedItem → List ProgramFile → ℕ → (Range → Type 0) → Asks
asks_of items files count asked = record { items = items; ranges = IsPerformed count asked; verbs = IsSuited files }

module _ (Q : Asks) where
  -- a piece, after whatever code
  abbrev AlwaysMeets : Fragment → Type 0
  AlwaysMeets piece = (before : Code) → Meets Q before (piece before)

  pieces_meet : (first second : Fragment) → AlwaysMeets first → AlwaysMeets second → AlwaysMeets (sequence first second)
  pieces_meet first second f s before =
      both_meet Q before (first before) (second (append before (first before))) (f before)
      (s (append before (first before)))

  tick_meets : (line : ℕ) → AlwaysMeets (tick_fragment line)
  tick_meets line before =
      record {
        names = plain_names before (Tick line ∷ []) (tt, tt);
        leads = (tt, tt);
        starts = refl;
        none = refl;
        performs = (tt, tt);
      }

  stop_meets : (line : ℕ) → AlwaysMeets (stop_run_fragment line)
  stop_meets line before = record {
    names = plain_names before (Tick line ∷ Stop ∷ []) (tt, (tt, tt));
    leads = (tt, (tt, tt));
    starts = refl;
    none = refl;
    performs = (tt, (tt, tt));
  }

  -- ---- turns

  begin_meets : (more : ℕ) → AlwaysMeets (loop_begin more)
  begin_meets more before = record {
    names = plain_names before (loop_begin more before).instructions (omega arith, tt);
    leads = (tt, tt);
    starts = refl;
    none = refl;
    performs = (tt, tt);
  }

  count_begin_meets : AlwaysMeets count_begin
  count_begin_meets before = record {
    names = plain_names before (count_begin before).instructions (omega arith, tt);
    leads = (tt, tt);
    starts = refl;
    none = refl;
    performs = (tt, tt);
  }

  -- The end of a turn leads back to what the turn begins with, after the begin of its loop.
  turn_end_meets : (before part : Code) (begin : ℕ) → begin < length before.instructions → BeginsWith part
      → ends_in part.instructions ≡ 0
      → Meets Q (append before part) (turn_end begin (length before.instructions))
  turn_end_meets before part begin lt b none =
      let last : List Instruction = Turn (record { number = begin }) (length before.instructions) ∷ [] in
      let n = length-append before.instructions part.instructions in
      record {
        names = plain_names (append before part) last (omega (arith, lt, n), tt);
        leads = (leads_back before part last b none refl, tt);
        starts = refl;
        none = refl;
        performs = (tt, tt);
      }

  counted_turn_meets : (begin : ℕ) (turn : Fragment) → Begins turn → AlwaysMeets turn → (before : Code)
      → begin < length before.instructions
      → Meets Q before (counted_turn begin turn before)
  counted_turn_meets begin turn begins met before lt =
      let part = turn before in
      both_meet Q before part (turn_end begin (length before.instructions)) (met before)
      (turn_end_meets before part begin lt (begins before) (met before).none)

  times_meets : (count : ℕ) (turn : Fragment) → Begins turn → AlwaysMeets turn → AlwaysMeets (times_fragment count turn)
  times_meets zero turn begins met before = nothing_meets Q before
  times_meets (suc more) turn begins met before =
      let begin = loop_begin more before in
      let here = append before begin in
      let n : ℕ = length before.instructions in
      let l = length-append before.instructions begin.instructions in
      both_meet Q before begin (counted_turn n turn here) (begin_meets more before)
      (counted_turn_meets n turn begins met here (omega (arith, l)))

  counted_meets : (turn : Fragment) → Blind turn → Begins turn → AlwaysMeets turn → AlwaysMeets (counted_fragment turn)
  counted_meets turn blind begins met before =
      let begin = count_begin before in
      let here = append before begin in
      let n : ℕ = length before.instructions in
      let l = length-append before.instructions begin.instructions in
      both_meet Q before begin (either_fragment (counted_turn n turn) nothing_fragment here) (count_begin_meets before)
      (branch_meets Q (counted_turn n turn) nothing_fragment (counted_turn_blind n turn blind) nothing_blind here
      (λ now behind. counted_turn_meets n turn begins met now (omega (arith, l, behind))) (nothing_meets Q))

  -- ---- turns up to where a condition is true

  -- The branch at the end of a turn leads back to what the turn begins with.
  back_meets : (before part : Code) → BeginsWith part → ends_in part.instructions ≡ 0
      → Meets Q (append before part) (branch_code (length before.instructions))
  back_meets before part b none =
      let last : List Instruction = Branch (length before.instructions) ∷ [] in
      record {
        names = plain_names (append before part) last (tt, tt);
        leads = (inr (leads_back before part last b none refl), tt);
        starts = refl;
        none = refl;
        performs = (tt, tt);
      }

  turning_meets : (turn behind : Fragment) → Begins turn → AlwaysMeets turn → AlwaysMeets behind
      → AlwaysMeets (repetition_fragment turn behind)
  turning_meets turn behind begins met behind_met before =
      let part = turn before in
      let rest = behind (append before part) in
      let inner = both_meet Q before part rest (met before) (behind_met (append before part)) in
      both_meet Q before (append part rest) (branch_code (length before.instructions)) inner
      (back_meets before (append part rest) (begins_longer part rest (begins before)) inner.none)

  module _ (test onward turn : Fragment) (f : Blind test) (g : Blind onward) (h : Blind turn)
      (tests : AlwaysMeets test) (goes : AlwaysMeets onward) (begins : Begins turn) (met : AlwaysMeets turn) where
    until_before_meets : AlwaysMeets (until_before_fragment test onward turn)
    until_before_meets =
        let behind = sequence onward test in
        pieces_meet test (either_fragment nothing_fragment (repetition_fragment turn behind)) tests
        (either_meets Q nothing_fragment (repetition_fragment turn behind) nothing_blind
        (turn_before_blind test onward turn f g h) (nothing_meets Q)
        (turning_meets turn behind begins met (pieces_meet onward test goes tests)))

    until_after_meets : AlwaysMeets (until_after_fragment test onward turn)
    until_after_meets =
        let clear = work_fragment i.ClearTruth in
        let ways = either_fragment nothing_fragment (sequence onward clear) in
        turning_meets turn (sequence test ways) begins met
        (pieces_meet test ways tests
        (either_meets Q nothing_fragment (sequence onward clear) nothing_blind (onward_blind test onward turn f g h)
        (nothing_meets Q)
        (pieces_meet onward clear goes
        (λ before. straight_meets Q before (clear before) (work_straight i.ClearTruth before)))))

    until_from_meets : (when : TestTime) → AlwaysMeets (until_from_fragment when test onward turn)
    until_from_meets Before = until_before_meets
    until_from_meets After = until_after_meets

  -- `formed`: the literals of condition names have their form.
  module _ (formed : AreFormed Q.items) where
    abbrev asked_items : List LocatedItem
    asked_items = Q.items

    vary_begin_meets : (one : Option Varying) → varying_rules asked_items one ≡ []
        → AlwaysMeets (vary_begin_fragment asked_items one)
    vary_begin_meets None e before = nothing_meets Q before
    vary_begin_meets (Some one) e before =
        let moves = move_rules asked_items one.from (one.item ∷ []) in
        let numbers = number_rules asked_items one.from in
        let moving =
        left_none moves numbers (left_none (moves ++ numbers) (operation_rules asked_items (vary_operation one)) e) in
        straight_meets Q before (vary_begin_fragment asked_items (Some one) before)
        (moving_straight asked_items (Move one.from (one.item ∷ [])) moving before)

    vary_on_meets : (one : Option Varying) → AlwaysMeets (vary_on_fragment asked_items one)
    vary_on_meets None before = nothing_meets Q before
    vary_on_meets (Some one) before =
        straight_meets Q before (vary_on_fragment asked_items (Some one) before)
        (arithmetic_straight asked_items false (vary_operation one) before)

    until_meets : (one : until.Until) (turn : Fragment) → Blind turn → until_rules asked_items one ≡ [] → Begins turn
        → AlwaysMeets turn
        → AlwaysMeets (until_fragment asked_items one turn)
    until_meets one turn blind e begins met =
        let test = condition_fragment asked_items one.condition in
        let onward = vary_on_fragment asked_items one.varying in
        let varies = left_none (varying_rules asked_items one.varying) (condition_rules asked_items one.condition) e in
        let tests = right_none (varying_rules asked_items one.varying) (condition_rules asked_items one.condition) e in
        pieces_meet (vary_begin_fragment asked_items one.varying) (until_from_fragment one.test test onward turn)
        (vary_begin_meets one.varying varies)
        (until_from_meets test onward turn (condition_blind asked_items one.condition)
        (vary_on_blind asked_items one.varying) blind
        (condition_meets Q formed one.condition tests) (vary_on_meets one.varying) begins met one.test)

    turns_meet : (line : ℕ) (often : Repetition) (turn : Fragment) → Blind turn → turns_rules asked_items often ≡ []
        → Begins turn → AlwaysMeets turn
        → AlwaysMeets (turns_fragment asked_items line often turn)
    turns_meet line Once turn blind e begins met = met
    turns_meet line (Times count) turn blind e begins met =
        pieces_meet (tick_fragment line) (times_fragment (turns_of count) turn) (tick_meets line)
        (times_meets (turns_of count) turn begins met)
    turns_meet line (CountedBy one) turn blind e begins met =
        let number = take_fragment asked_items i.Push one in
        pieces_meet (tick_fragment line) (sequence number (counted_fragment turn)) (tick_meets line)
        (pieces_meet number (counted_fragment turn)
        (λ before. straight_meets Q before (number before) (taking_straight asked_items i.Push one before))
        (counted_meets turn blind begins met))
    turns_meet line (Until one) turn blind e begins met =
        pieces_meet (tick_fragment line) (until_fragment asked_items one turn) (tick_meets line)
        (until_meets one turn blind e begins met)

-- ---- statements

-- `permits` and `asked` are what is asked of a range that is performed; procedures lie in so many paragraphs.
module _ (scope : Scope) (permits : Range → Bool) (formed : AreFormed scope.items) (sized : AreSized scope.items)
    (count : ℕ)
    (within : AllByRecursion (EndsWithin count) scope.procedures)
    (numbered : AllByRecursion (IsNumbered scope.files) scope.files)
    (asked : Range → Type 0) where
  abbrev items : List LocatedItem
  items = scope.items

  abbrev Q : Asks
  Q = asks_of scope.items scope.files count asked

  -- parts that keep rules and perform such ranges
  pub record AllMeet {A : Type 0} (rules : A → List RuleBreach) (performs : A → List Performance) (piece : A → Fragment)
      : Type 0 where
    pub by : (one : A) (before : Code) → rules one ≡ [] → Asked asked (performs one) → Meets Q before (piece one before)

  pub in_order_meets : {A : Type 0} (rules : A → List RuleBreach) (performs : A → List Performance)
      (piece : A → Fragment) → AllMeet rules performs piece
      → (all : List A) → each rules all ≡ []
      → Asked asked (each_performs performs all) → AlwaysMeets Q (in_order piece all)
  in_order_meets rules performs piece f [] e q before = nothing_meets Q before
  in_order_meets rules performs piece f (one ∷ more) e q before =
      both_meet Q before (piece one before) (in_order piece more (append before (piece one before)))
      (f.by one before (left_none (rules one) (each rules more) e)
      (all_front (λ (p : Performance). asked p.range) (performs one) (each_performs performs more) q))
      (in_order_meets rules performs piece f more (right_none (rules one) (each rules more) e)
      (all_back (λ (p : Performance). asked p.range) (performs one) (each_performs performs more) q)
      (append before (piece one before)))

  range_meets : (line : ℕ) (place : Place) (range : Option Range) → FoundWithin count range
      → Asked asked (range_performs place range)
      → AlwaysMeets Q (range_fragment line range)
  range_meets line place None within q before = tick_meets Q line before
  range_meets line place (Some range) within q before = record {
    names = plain_names before (range_fragment line (Some range) before).instructions (tt, tt);
    leads = (tt, tt);
    starts = refl;
    none = refl;
    performs = (record { within = within; asked = q.0 }, tt);
  }

  module _ {S : Type 0} (rules : S → List RuleBreach) (performs : S → List Performance) (inside : S → Fragment)
      (each_one : AllMeet rules performs inside) (blind : (one : S) → Blind (inside one)) where
    turn_meets : (line : ℕ) (one : Performed S) → performed_rules scope.procedures permits rules one ≡ []
        → Asked asked (performed_performs scope.procedures performs one)
        → AlwaysMeets Q (turn_fragment scope inside line one)
    turn_meets line (Procedures first last) e q =
        range_meets line first.place (range_of scope.procedures first last)
        (range_within count scope.procedures within permits first last e) q
    turn_meets line (Statements statements) e q =
        pieces_meet Q (tick_fragment line) (in_order inside statements) (tick_meets Q line)
        (in_order_meets rules performs inside each_one statements e q)

    phrase_meets : (phrase : Option (List S)) → phrase_rules rules phrase ≡ []
        → Asked asked (phrase_performs performs phrase)
        → AlwaysMeets Q (phrase_fragment scope inside phrase)
    phrase_meets None e q before = nothing_meets Q before
    phrase_meets (Some statements) e q before = in_order_meets rules performs inside each_one statements e q before

    pair_meets : (arose did_not : Option (List S)) → phrase_rules rules arose ++ phrase_rules rules did_not ≡ []
        → Asked asked (phrase_performs performs arose ++ phrase_performs performs did_not)
        → AlwaysMeets Q (phrase_fragment scope inside arose) × AlwaysMeets Q (phrase_fragment scope inside did_not)
    pair_meets arose did_not e q =
        let P = λ (p : Performance). asked p.range in (
          phrase_meets arose (left_none (phrase_rules rules arose) (phrase_rules rules did_not) e)
              (all_front P (phrase_performs performs arose) (phrase_performs performs did_not) q),
          phrase_meets did_not (right_none (phrase_rules rules arose) (phrase_rules rules did_not) e)
              (all_back P (phrase_performs performs arose) (phrase_performs performs did_not) q),
        )

    -- either of two phrases
    two_meet : (arose did_not : Option (List S)) → phrase_rules rules arose ++ phrase_rules rules did_not ≡ []
        → Asked asked (phrase_performs performs arose ++ phrase_performs performs did_not)
        → AlwaysMeets Q (either_fragment (phrase_fragment scope inside arose) (phrase_fragment scope inside did_not))
    two_meet arose did_not e q =
        let met = pair_meets arose did_not e q in
        either_meets Q (phrase_fragment scope inside arose) (phrase_fragment scope inside did_not)
        (phrase_blind scope inside blind arose)
        (phrase_blind scope inside blind did_not) met.0 met.1

    phrases_meet : (arose did_not : Option (List S)) → phrase_rules rules arose ++ phrase_rules rules did_not ≡ []
        → Asked asked (phrase_performs performs arose ++ phrase_performs performs did_not)
        → AlwaysMeets Q (phrases_from scope inside arose did_not)
    phrases_meet None None e q before = nothing_meets Q before
    phrases_meet (Some statements) other e q before = two_meet (Some statements) other e q before
    phrases_meet None (Some statements) e q before = two_meet None (Some statements) e q before

    -- the phrases of a file statement
    file_phrases_meet : (all : FilePhrases S) → file_phrases_rules rules all ≡ []
        → Asked asked (file_phrases_performs performs all)
        → PhrasesMeet Q scope refl numbered (λ number on_file is. is) inside (phrase_blind scope inside blind) all
    file_phrases_meet file_phrases.Absent e q = tt
    file_phrases_meet (file_phrases.AtEnd pair) e q = pair_meets pair.arose pair.did_not e q
    file_phrases_meet (file_phrases.InvalidKey pair) e q = pair_meets pair.arose pair.did_not e q

    -- a condition, and the two ways after it
    tested_meets : (condition : Condition) (first second : Fragment) → condition_rules items condition ≡ []
        → Blind first → Blind second
        → AlwaysMeets Q first → AlwaysMeets Q second
        → AlwaysMeets Q (sequence (condition_fragment items condition) (either_fragment first second))
    tested_meets condition first second e f g one two =
        pieces_meet Q (condition_fragment items condition) (either_fragment first second)
        (condition_meets Q formed condition e)
        (either_meets Q first second f g one two)

    selecting_meets : (subjects : List Subject) (selected : List (Selected S)) (other : Option (List S))
        → each (selected_rules items rules subjects) selected ≡ [] → phrase_rules rules other ≡ []
        → Asked asked (each_performs (selected_performs performs) selected)
        → Asked asked (phrase_performs performs other)
        → AlwaysMeets Q (selection_fragment scope inside subjects selected other)
    selecting_meets subjects [] other e others q r = phrase_meets other others r
    selecting_meets subjects (one ∷ more) other e others q r =
        let P = λ (p : Performance). asked p.range in
        let first = first_group items rules subjects one more e in
        let here = each_performs performs one.statements in
        let later = each_performs (selected_performs performs) more in
        tested_meets (selected_condition items subjects one) (in_order inside one.statements)
        (selection_fragment scope inside subjects more other)
        (selected_kept items rules subjects one first) (in_order_blind inside blind one.statements)
        (selecting_blind scope inside blind subjects more other)
        (in_order_meets rules performs inside each_one one.statements (statements_of items rules subjects one first)
        (all_front P here later q))
        (selecting_meets subjects more other (other_groups items rules subjects one more e) others
        (all_back P here later q) r)

    look_meets : (one : Option Condition) → look_rules items one ≡ [] → AlwaysMeets Q (look_fragment items one)
    look_meets None e before = nothing_meets Q before
    look_meets (Some one) e before = condition_meets Q formed one e before

    each_subject_meets : (subjects : List Subject) → each (subject_rules items) subjects ≡ []
        → AlwaysMeets Q (each_subject_fragment items subjects)
    each_subject_meets [] e before = nothing_meets Q before
    each_subject_meets (one ∷ more) e before =
        let l = resolved_subject items one in
        let rest = each (subject_rules items) more in
        both_meet Q before (subject_fragment items one before)
        (each_subject_fragment items more (append before (subject_fragment items one before)))
        (look_meets (look items l) (look_kept items l (left_none (subject_rules items one) rest e)) before)
        (each_subject_meets more (right_none (subject_rules items one) rest e)
        (append before (subject_fragment items one before)))

    taken_meet : (once : Bool) (subjects : List Subject) → each (subject_rules items) subjects ≡ []
        → AlwaysMeets Q (taken_from items once subjects)
    taken_meet true subjects e before = nothing_meets Q before
    taken_meet false subjects e before = each_subject_meets subjects e before

    branching_meets : (line : ℕ) (one : ConditionalStatement S) → branching_rules items rules one ≡ []
        → Asked asked (branching_performs performs one)
        → AlwaysMeets Q (conditional_fragment scope inside line one)
    branching_meets line (branch.If condition statements otherwise) e q =
        let P = λ (p : Performance). asked p.range in
        let first = in_order inside statements in
        let second = phrase_fragment scope inside otherwise in
        let asks = condition_rules items condition in
        let front = left_none (asks ++ each rules statements) (phrase_rules rules otherwise) e in
        let back = right_none (asks ++ each rules statements) (phrase_rules rules otherwise) e in
        pieces_meet Q (tick_fragment line)
        (sequence (condition_fragment items condition) (either_fragment first second)) (tick_meets Q line)
        (tested_meets condition first second (left_none asks (each rules statements) front)
        (in_order_blind inside blind statements)
        (phrase_blind scope inside blind otherwise)
        (in_order_meets rules performs inside each_one statements (right_none asks (each rules statements) front)
        (all_front P (each_performs performs statements) (phrase_performs performs otherwise) q))
        (phrase_meets otherwise back
        (all_back P (each_performs performs statements) (phrase_performs performs otherwise) q)))
    branching_meets line (branch.Evaluate one) e q =
        let P = λ (p : Performance). asked p.range in
        let groups = each_performs (selected_performs performs) one.selected in
        let others = phrase_performs performs one.other in
        let object = first_object one.selected in
        pieces_meet Q (tick_fragment line) (evaluate_fragment scope inside one) (tick_meets Q line)
        (pieces_meet Q (subjects_fragment items one.subjects object)
        (selection_fragment scope inside one.subjects one.selected one.other)
        (taken_meet (is_asked_first items one.subjects object) one.subjects (subjects_of items rules one e))
        (selecting_meets one.subjects one.selected one.other (groups_of items rules one e) (other_of items rules one e)
        (all_front P groups others q) (all_back P groups others q)))

    -- straight code after what uses one of the budget
    ticked : (line : ℕ) (piece : Fragment) → AlwaysStraight items piece
        → AlwaysMeets Q (sequence (tick_fragment line) piece)
    ticked line piece straight =
        pieces_meet Q (tick_fragment line) piece (tick_meets Q line)
        (λ before. straight_meets Q before (piece before) (straight before))

    verb_meets : (line : ℕ) (one : Verb S) → verb_rules scope permits rules one ≡ []
        → Asked asked (verb_performs scope.procedures performs one)
        → AlwaysMeets Q (verb_fragment scope inside line one)
    verb_meets line (verb.DataStatement one) e q = ticked line (data_fragment items one) (moving_straight items one e)
    verb_meets line (verb.Arithmetic one) e q =
        let keep = is_there one.phrases.arose in
        let part = arithmetic_fragment items keep one.operation in
        let phrases = phrases_fragment scope inside one.phrases in
        pieces_meet Q (tick_fragment line) (sequence part phrases) (tick_meets Q line)
        (pieces_meet Q part phrases
        (λ before. straight_meets Q before (part before) (arithmetic_straight items keep one.operation before))
        (phrases_meet one.phrases.arose one.phrases.did_not
        (right_none (operation_rules items one.operation) (phrases_rules rules one.phrases) e) q))
    verb_meets line (verb.ConditionalStatement one) e q = branching_meets line one e q
    verb_meets line (verb.PerformStatement one) e q =
        let turn = turn_fragment scope inside line one.performed in
        let often =
        left_none (turns_rules items one.turns) (performed_rules scope.procedures permits rules one.performed) e in
        let performed =
        right_none (turns_rules items one.turns) (performed_rules scope.procedures permits rules one.performed) e in
        turns_meet Q formed line one.turns turn (turn_blind scope inside blind line one.performed) often
        (turn_begins scope inside line one.performed) (turn_meets line one.performed performed q)
    verb_meets line (verb.TextStatement one) e q =
        ticked line (texts_fragment items one) (texts_straight items sized one e)
    verb_meets line (verb.StringStatement one) e q =
        let part = string_fragment items one.sendings one.receiver one.pointer in
        let phrases = phrases_fragment scope inside one.phrases in
        pieces_meet Q (tick_fragment line) (sequence part phrases) (tick_meets Q line)
        (pieces_meet Q part phrases (λ before.
        straight_meets Q before (part before) (string_straight items one.sendings one.receiver one.pointer before))
        (phrases_meet one.phrases.arose one.phrases.did_not
        (right_none (string_rules items one) (phrases_rules rules one.phrases) e) q))
    verb_meets line (verb.FileStatement one) e q =
        pieces_meet Q (tick_fragment line) (file_statement_fragment scope inside one) (tick_meets Q line)
        (filing_meets Q scope refl numbered (λ number on_file is. is) inside (phrase_blind scope inside blind) one
        (file_phrases_meet (phrases_of one)
        (right_none (filing_rules scope.items scope.files one) (file_phrases_rules rules (phrases_of one)) e) q))
    verb_meets line (verb.ControlStatement ending.StopRun) e q = stop_meets Q line
    verb_meets line (verb.ControlStatement ending.Continue) e q = tick_meets Q line
    verb_meets line (verb.ControlStatement ending.Exit) e q = tick_meets Q line

  -- what is known of a statement's code
  record IsMet (one : Statement) : Type 0 where
    by : statement_rules scope permits one ≡ [] → Asked asked (statement_performs scope.procedures one)
        → AlwaysMeets Q (statement_fragment scope one)

  abbrev Met : Type 0
  Met = (one : Statement) × IsMet one

  met_inside : (l : Statement-F Met) → IsMet (roll-Statement (map-Statement Met Statement (λ m. m.0) l))
  met_inside l = record {
    by = λ e q before.
        let is = rolled_is scope (map-Statement Met Statement (λ m. m.0) l) before
        ∙ verb_map scope (λ m. m.0) (statement_fragment scope) l.place l.verb before in
        subst (Meets Q before) (sym is)
        (verb_meets (λ (m : Met). statement_rules scope permits m.0)
        (λ (m : Met). statement_performs scope.procedures m.0)
        (λ (m : Met). statement_fragment scope m.0) (record { by = λ m now keep given. m.1.by keep given now })
        (λ m. statement_blind scope m.0) l.place.line l.verb
        (sym (mapped_rules scope permits (λ (m : Met). m.0) l) ∙ e)
        (subst (Asked asked) (mapped_performs scope.procedures (λ (m : Met). m.0) l) q) before);
  }

  statement_met : (one : Statement) → IsMet one
  statement_met = ind-Statement IsMet (λ one l is. subst (λ k. IsMet (roll-Statement k)) is (met_inside l))

  statements_meet :
      AllMeet (statement_rules scope permits) (statement_performs scope.procedures) (statement_fragment scope)
  statements_meet = record { by = λ one now keep given. (statement_met one).by keep given now }

  sentences_meet : AllMeet (sentence_rules scope permits) (sentence_performs scope.procedures) (sentence_fragment scope)
  sentences_meet = record {
    by = λ one before e q. in_order_meets (statement_rules scope permits) (statement_performs scope.procedures)
        (statement_fragment scope) statements_meet one.statements e q before;
  }

  -- the sentences of a paragraph
  pub paragraph_meets : (sentences : List Sentence) → each (sentence_rules scope permits) sentences ≡ []
      → Asked asked (each_performs (sentence_performs scope.procedures) sentences)
      → AlwaysMeets Q (in_order (sentence_fragment scope) sentences)
  paragraph_meets sentences e q =
      in_order_meets (sentence_rules scope permits) (sentence_performs scope.procedures) (sentence_fragment scope)
      sentences_meet sentences e q
