-- The code of a statement, by that of the statements in it.
use Rattle.std.proofs.Common.{◌≡◌, ℕ, zero, suc, List, [], ◌∷◌, refl, ap, ◌∙◌}
use Rattle.std.specs.Prelude.{Bool, true, false, length, map, Option, Some, None}
use Rattle.lexical.specs.declared.place.Place.{Place}
use Rattle.source_tree.specs.declared.arithmetic.Operation.{Operation}
use Rattle.source_tree.specs.declared.perform_statement.Performed.{Performed}
use Rattle.source_tree.specs.declared.perform_statement.Performed.TheVariants.{Procedures, Statements}
use Rattle.source_tree.specs.declared.perform_statement.Repetition.{Repetition}
use Rattle.source_tree.specs.declared.perform_statement.Repetition.TheVariants.{Once, Times, CountedBy, Until}
use Rattle.source_tree.specs.declared.reference.Reference.{Reference}
use Rattle.source_tree.specs.declared.file_statement.FileStatement.{FileStatement}
use Rattle.source_tree.specs.declared.string_statement.Sending.{Sending}
use Rattle.source_tree.specs.declared.statement.Verb.{Verb}
use Rattle.source_tree.specs.declared.statement.Verb.TheVariants as verb
use Rattle.source_tree.specs.declared.statement.Statement.{Statement, out-Statement, roll-Statement}
use Rattle.source_tree.specs.declared.statement.Statement.TheOpen.{Statement-F}
use Rattle.source_tree.specs.declared.statement.Statement.TheFolds.{map-Statement, fold_out-Statement}
use Rattle.source_tree.specs.declared.statement.Statement.TheFolds.{fold-roll-Statement}
use Rattle.code_image.specs.declared.code.Code.{Code}
use Rattle.source_tree.specs.Evaluate.{selected_condition}
use Rattle.source_tree.specs.Performing.{turns_of}
use Rattle.source_tree.specs.Places.{LocatedItem}
use Rattle.source_tree.specs.Setting.{Scope}
use Rattle.declarations.proofs.FilingLayers.{filing_mapped}
use Rattle.condition_codegen.specs.Fragments.{Fragment, append, sequence, in_order}
use Rattle.condition_codegen.specs.ArithmeticCode.{arithmetic_fragment}
use Rattle.source_tree.specs.declared.conditional_statement.ConditionalStatement.{ConditionalStatement}
use Rattle.source_tree.specs.declared.conditional_statement.ConditionalStatement.TheVariants as branch
use Rattle.source_tree.specs.declared.evaluate_statement.Subject.{Subject}
use Rattle.source_tree.specs.declared.evaluate_statement.Object.{Object}
use Rattle.source_tree.specs.declared.evaluate_statement.Selected.{Selected}
use Rattle.source_tree.specs.declared.condition.Condition.{Condition}
use Rattle.source_tree.specs.declared.until.TestTime.{TestTime}
use Rattle.source_tree.specs.declared.until.TestTime.TheVariants.{Before, After}
use Rattle.source_tree.specs.declared.until.Until as until
use Rattle.data_instructions.specs.declared.instruction.DataInstruction.TheVariants as i
use Rattle.condition_codegen.specs.Meeting.{branch_code, either_fragment, nothing_fragment}
use Rattle.condition_codegen.specs.DataCode.{work_fragment, take_fragment}
use Rattle.condition_codegen.specs.ConditionCode.{condition_fragment}
use Rattle.statement_codegen.specs.StringCode.{string_fragment}
use Rattle.codegen.specs.UntilCode.{tick_fragment, repetition_fragment, until_from_fragment, vary_begin_fragment}
use Rattle.codegen.specs.UntilCode.{vary_on_fragment, until_fragment}
use Rattle.statement_codegen.specs.SubjectCode.{first_object, subjects_fragment}
use Rattle.codegen.specs.Layout.{loop_begin, count_begin, turn_end, counted_turn, times_fragment, counted_fragment}
use Rattle.codegen.specs.Layout.{turns_fragment, turn_fragment, phrase_fragment, phrases_from, selection_fragment}
use Rattle.codegen.specs.Layout.{verb_fragment, statement_layer, statement_fragment}
use Rattle.codegen.proofs.Either.{either_map}
use Rattle.codegen.proofs.FilingLayers.{filing_same}

-- turns of pieces that are the same
module _ (turn other : Fragment) (same : (before : Code) → turn before ≡ other before) where
  counted_turn_map : (begin : ℕ) (before : Code) → counted_turn begin turn before ≡ counted_turn begin other before
  counted_turn_map begin before =
      ap (λ (part : Code). append part (turn_end begin (length before.instructions))) (same before)

  times_map : (count : ℕ) (before : Code) → times_fragment count turn before ≡ times_fragment count other before
  times_map zero before = refl
  times_map (suc more) before =
      let begin =
      loop_begin more before in ap (append begin) (counted_turn_map (length before.instructions) (append before begin))

  counted_map : (before : Code) → counted_fragment turn before ≡ counted_fragment other before
  counted_map before =
      let n = length before.instructions in
      let begin = count_begin before in
      ap (append begin)
      (either_map (counted_turn n turn) (counted_turn n other) nothing_fragment nothing_fragment (counted_turn_map n)
      (λ now. refl) (append before begin))

  turning_map : (behind : Fragment) (before : Code)
      → repetition_fragment turn behind before ≡ repetition_fragment other behind before
  turning_map behind before =
      ap (λ (part : Code).
      append (append part (behind (append before part))) (branch_code (length before.instructions))) (same before)

  module _ (test onward : Fragment) where
    until_from_map : (when : TestTime) (before : Code)
        → until_from_fragment when test onward turn before ≡ until_from_fragment when test onward other before
    until_from_map Before before =
        let behind = sequence onward test in
        ap (append (test before))
        (either_map nothing_fragment nothing_fragment (repetition_fragment turn behind)
        (repetition_fragment other behind) (λ now. refl) (turning_map behind) (append before (test before)))
    until_from_map After before = turning_map
        (sequence test (either_fragment nothing_fragment (sequence onward (work_fragment i.ClearTruth)))) before

module _ (items : List LocatedItem) (line : ℕ) (turn other : Fragment)
    (same : (before : Code) → turn before ≡ other before) where
  until_map : (one : until.Until) (before : Code)
      → until_fragment items one turn before ≡ until_fragment items one other before
  until_map one before =
      let begin = vary_begin_fragment items one.varying before in
      ap (append begin) (until_from_map turn other same (condition_fragment items one.condition)
      (vary_on_fragment items one.varying) one.test (append before begin))

  turns_map : (often : Repetition) (before : Code)
      → turns_fragment items line often turn before ≡ turns_fragment items line often other before
  turns_map Once before = same before
  turns_map (Times count) before =
      let tick =
      tick_fragment line before in ap (append tick) (times_map turn other same (turns_of count) (append before tick))
  turns_map (CountedBy one) before =
      let tick = tick_fragment line before in
      let number = take_fragment items i.Push one (append before tick) in
      ap (λ (c : Code). append tick (append number c))
      (counted_map turn other same (append (append before tick) number))
  turns_map (Until one) before =
      let tick = tick_fragment line before in ap (append tick) (until_map one (append before tick))

module _ (scope : Scope) {A B : Type 0} (f : A → B) (g : B → Fragment) where
  abbrev items : List LocatedItem
  items = scope.items

  in_order_map : (all : List A) (before : Code) → in_order g (map f all) before ≡ in_order (λ a. g (f a)) all before
  in_order_map [] before = refl
  in_order_map (one ∷ more) before =
      ap (append (g (f one) before)) (in_order_map more (append before (g (f one) before)))

  performing_map : (place : Place) (often : Repetition) (what : Performed A) (before : Code)
      → verb_fragment scope g place.line (map-Statement A B f
      (record { place = place; verb = verb.PerformStatement (record { performed = what; turns = often }) })).verb before
      ≡ verb_fragment scope (λ a. g (f a)) place.line
      (verb.PerformStatement (record { performed = what; turns = often })) before
  performing_map place often (Procedures first last) before = refl
  performing_map place often (Statements inside) before =
      turns_map items place.line (turn_fragment scope g place.line (Statements (map f inside)))
      (turn_fragment scope (λ a. g (f a)) place.line (Statements inside))
      (λ now. ap (append (tick_fragment place.line now))
      (in_order_map inside (append now (tick_fragment place.line now)))) often before

  -- a phrase of others
  abbrev mapped : Option (List A) → Option (List B)
  mapped None = None
  mapped (Some inside) = Some (map f inside)

  phrase_map : (phrase : Option (List A)) (before : Code)
      → phrase_fragment scope g (mapped phrase) before ≡ phrase_fragment scope (λ a. g (f a)) phrase before
  phrase_map None before = refl
  phrase_map (Some inside) before = in_order_map inside before

  phrases_map : (arose did_not : Option (List A)) (before : Code) → phrases_from scope g (mapped arose) (mapped did_not)
      before ≡ phrases_from scope (λ a. g (f a)) arose did_not before
  phrases_map None None before = refl
  phrases_map (Some inside) other before =
      either_map (phrase_fragment scope g (Some (map f inside))) (phrase_fragment scope (λ a. g (f a)) (Some inside))
      (phrase_fragment scope g (mapped other)) (phrase_fragment scope (λ a. g (f a)) other)
      (phrase_map (Some inside)) (phrase_map other) before
  phrases_map None (Some inside) before =
      either_map (phrase_fragment scope g None) (phrase_fragment scope (λ a. g (f a)) None)
      (phrase_fragment scope g (Some (map f inside))) (phrase_fragment scope (λ a. g (f a)) (Some inside))
      (phrase_map None) (phrase_map (Some inside)) before

  -- after the same code
  behind_map : (line : ℕ) (keep : Bool) (operation : Operation) (arose did_not : Option (List A)) (before : Code)
      → sequence (tick_fragment line) (sequence (arithmetic_fragment items keep operation)
      (phrases_from scope g (mapped arose) (mapped did_not))) before
      ≡ sequence (tick_fragment line)
      (sequence (arithmetic_fragment items keep operation) (phrases_from scope (λ a. g (f a)) arose did_not)) before
  behind_map line keep operation arose did_not before =
      let tick = tick_fragment line before in
      let part = arithmetic_fragment items keep operation (append before tick) in
      ap (λ (c : Code). append tick (append part c)) (phrases_map arose did_not (append (append before tick) part))

  ways_map : (line : ℕ) (condition : Condition) (statements : List A) (otherwise : Option (List A)) (before : Code)
      → sequence (tick_fragment line) (sequence (condition_fragment items condition)
      (either_fragment (in_order g (map f statements)) (phrase_fragment scope g (mapped otherwise)))) before
      ≡ sequence (tick_fragment line) (sequence (condition_fragment items condition)
      (either_fragment (in_order (λ a. g (f a)) statements) (phrase_fragment scope (λ a. g (f a)) otherwise))) before
  ways_map line condition statements otherwise before =
      let tick = tick_fragment line before in
      let test = condition_fragment items condition (append before tick) in
      ap (λ (c : Code). append tick (append test c))
      (either_map (in_order g (map f statements)) (in_order (λ a. g (f a)) statements)
      (phrase_fragment scope g (mapped otherwise)) (phrase_fragment scope (λ a. g (f a)) otherwise)
      (in_order_map statements) (phrase_map otherwise) (append (append before tick) test))

  calculating_map : (place : Place) (operation : Operation) (arose did_not : Option (List A)) (before : Code)
      → verb_fragment scope g place.line (map-Statement A B f (record {
        place = place;
        verb =
            verb.Arithmetic (record { operation = operation; phrases = record { arose = arose; did_not = did_not } });
      })).verb before
      ≡ verb_fragment scope (λ a. g (f a)) place.line
      (verb.Arithmetic (record { operation = operation; phrases = record { arose = arose; did_not = did_not } })) before
  calculating_map place operation None None before = behind_map place.line false operation None None before
  calculating_map place operation (Some inside) None before =
      behind_map place.line true operation (Some inside) None before
  calculating_map place operation None (Some other) before =
      behind_map place.line false operation None (Some other) before
  calculating_map place operation (Some inside) (Some other) before =
      behind_map place.line true operation (Some inside) (Some other) before

  -- the same after what STRING stores
  stored_map : (line : ℕ) (sendings : List Sending) (receiver : Reference) (pointer : Option Reference)
      (arose did_not : Option (List A)) (before : Code)
      → sequence (tick_fragment line) (sequence (string_fragment items sendings receiver pointer)
      (phrases_from scope g (mapped arose) (mapped did_not))) before
      ≡ sequence (tick_fragment line) (sequence (string_fragment items sendings receiver pointer)
      (phrases_from scope (λ a. g (f a)) arose did_not)) before
  stored_map line sendings receiver pointer arose did_not before =
      let tick = tick_fragment line before in
      let part = string_fragment items sendings receiver pointer (append before tick) in
      ap (λ (c : Code). append tick (append part c)) (phrases_map arose did_not (append (append before tick) part))

  -- a STRING with these phrases
  abbrev strings : {S : Type 0} → List Sending → Reference → Option Reference → Option (List S) → Option (List S)
      → Verb S
  strings sendings receiver pointer arose did_not =
      verb.StringStatement (record {
        sendings = sendings;
        receiver = receiver;
        pointer = pointer;
        phrases = record { arose = arose; did_not = did_not };
      })

  stringing_map : (place : Place) (sendings : List Sending) (receiver : Reference) (pointer : Option Reference)
      (arose did_not : Option (List A)) (before : Code)
      → verb_fragment scope g place.line (map-Statement A B f
      (record { place = place; verb = strings sendings receiver pointer arose did_not })).verb before
      ≡ verb_fragment scope (λ a. g (f a)) place.line (strings sendings receiver pointer arose did_not) before
  stringing_map place sendings receiver pointer None None before =
      stored_map place.line sendings receiver pointer None None before
  stringing_map place sendings receiver pointer (Some inside) None before =
      stored_map place.line sendings receiver pointer (Some inside) None before
  stringing_map place sendings receiver pointer None (Some other) before =
      stored_map place.line sendings receiver pointer None (Some other) before
  stringing_map place sendings receiver pointer (Some inside) (Some other) before =
      stored_map place.line sendings receiver pointer (Some inside) (Some other) before

  if_map : (place : Place) (condition : Condition) (statements : List A) (otherwise : Option (List A)) (before : Code)
      → verb_fragment scope g place.line (map-Statement A
      B f (record { place = place; verb = verb.ConditionalStatement (branch.If condition statements otherwise) })).verb
      before
      ≡ verb_fragment scope (λ a. g (f a)) place.line
      (verb.ConditionalStatement (branch.If condition statements otherwise)) before
  if_map place condition statements None before = ways_map place.line condition statements None before
  if_map place condition statements (Some others) before = ways_map place.line condition statements (Some others) before

  -- a group of WHENs, with others of the statements
  abbrev mapped_group : Selected A → Selected B
  mapped_group one = record { whens = one.whens; statements = map f one.statements }

  selecting_map : (subjects : List Subject) (selected : List (Selected A)) (other : Option (List A)) (before : Code)
      → selection_fragment scope g subjects (map mapped_group selected) (mapped other) before
      ≡ selection_fragment scope (λ a. g (f a)) subjects selected other before
  selecting_map subjects [] other before = phrase_map other before
  selecting_map subjects (one ∷ more) other before =
      let test = condition_fragment items (selected_condition items subjects one) before in
      ap (append test)
      (either_map (in_order g (map f one.statements)) (in_order (λ a. g (f a)) one.statements)
      (selection_fragment scope g subjects (map mapped_group more) (mapped other))
      (selection_fragment scope (λ a. g (f a)) subjects more other) (in_order_map one.statements)
      (selecting_map subjects more other) (append before test))

  -- the same first object
  first_mapped : (selected : List (Selected A)) → first_object (map mapped_group selected) ≡ first_object selected
  first_mapped [] = refl
  first_mapped (one ∷ more) = refl

  -- after what uses one of the budget and the looks at the subjects
  groups_map :
      (line : ℕ) (subjects : List Subject) (selected : List (Selected A)) (other : Option (List A)) (before : Code)
      → sequence (tick_fragment line)
      (sequence (subjects_fragment items subjects (first_object (map mapped_group selected)))
      (selection_fragment scope g subjects (map mapped_group selected) (mapped other))) before
      ≡ sequence (tick_fragment line) (sequence (subjects_fragment items subjects (first_object selected))
      (selection_fragment scope (λ a. g (f a)) subjects selected other)) before
  groups_map line subjects selected other before =
      let tick = tick_fragment line before in
      let looks = subjects_fragment items subjects (first_object selected) (append before tick) in
      let groups = selection_fragment scope g subjects (map mapped_group selected) (mapped other) in
      ap (λ (object : Option Object). sequence (tick_fragment line)
      (sequence (subjects_fragment items subjects object) groups) before) (first_mapped selected)
      ∙ ap (λ (c : Code). append tick (append looks c))
      (selecting_map subjects selected other (append (append before tick) looks))

  evaluate_map :
      (place : Place) (subjects : List Subject) (selected : List (Selected A)) (other : Option (List A)) (before : Code)
      → verb_fragment scope g place.line
      (map-Statement A B f (record {
        place = place;
        verb = verb.ConditionalStatement
            (branch.Evaluate (record { subjects = subjects; selected = selected; other = other }));
      })).verb before
      ≡ verb_fragment scope (λ a. g (f a)) place.line (verb.ConditionalStatement
      (branch.Evaluate (record { subjects = subjects; selected = selected; other = other }))) before
  evaluate_map place subjects selected None before = groups_map place.line subjects selected None before
  evaluate_map place subjects selected (Some others) before =
      groups_map place.line subjects selected (Some others) before

  branching_map : (place : Place) (one : ConditionalStatement A) (before : Code)
      → verb_fragment scope g place.line
      (map-Statement A B f (record { place = place; verb = verb.ConditionalStatement one })).verb before
      ≡ verb_fragment scope (λ a. g (f a)) place.line (verb.ConditionalStatement one) before
  branching_map place (branch.If condition statements otherwise) before =
      if_map place condition statements otherwise before
  branching_map place (branch.Evaluate one) before = evaluate_map place one.subjects one.selected one.other before

  filing_map : (place : Place) (one : FileStatement A) (before : Code)
      → verb_fragment scope g place.line
      (map-Statement A B f (record { place = place; verb = verb.FileStatement one })).verb before
      ≡ verb_fragment scope (λ a. g (f a)) place.line (verb.FileStatement one) before
  filing_map place one before =
      let tick = tick_fragment place.line before in
      ap (λ (v : Verb B). verb_fragment scope g place.line v before) (filing_mapped f place one)
      ∙ ap (append tick) (filing_same scope f g one (append before tick))

  pub verb_map : (place : Place) (one : Verb A) (before : Code)
      → verb_fragment scope g place.line (map-Statement A B f (record { place = place; verb = one })).verb before
      ≡ verb_fragment scope (λ a. g (f a)) place.line one before
  verb_map place (verb.DataStatement one) before = refl
  verb_map place (verb.Arithmetic one) before =
      calculating_map place one.operation one.phrases.arose one.phrases.did_not before
  verb_map place (verb.ConditionalStatement one) before = branching_map place one before
  verb_map place (verb.PerformStatement one) before = performing_map place one.turns one.performed before
  verb_map place (verb.TextStatement one) before = refl
  verb_map place (verb.StringStatement one) before =
      stringing_map place one.sendings one.receiver one.pointer one.phrases.arose one.phrases.did_not before
  verb_map place (verb.FileStatement one) before = filing_map place one before
  verb_map place (verb.ControlStatement one) before = refl

-- one layer of a statement's code
pub statement_is : (scope : Scope) (one : Statement) (before : Code) → statement_fragment scope one before
    ≡ verb_fragment scope (statement_fragment scope) (out-Statement one).place.line (out-Statement one).verb before
unfolding statement_fragment
statement_is scope one before =
    ap (λ (p : Fragment). p before) (fold_out-Statement Fragment (statement_layer scope) one)
    ∙ verb_map scope (statement_fragment scope) (λ (p : Fragment). p) (out-Statement one).place (out-Statement one).verb
    before

pub rolled_is : (scope : Scope) (l : Statement-F Statement) (before : Code) → statement_fragment scope
    (roll-Statement l) before ≡ verb_fragment scope (statement_fragment scope) l.place.line l.verb before
unfolding statement_fragment
rolled_is scope l before =
    ap (λ (p : Fragment). p before) (fold-roll-Statement Fragment (statement_layer scope) l)
    ∙ verb_map scope (statement_fragment scope) (λ (p : Fragment). p) l.place l.verb before
