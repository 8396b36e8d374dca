use Rattle.std.proofs.Common.{rules, ◌≡◌, ℕ, ◌+◌, List, [], ◌++◌, length, Some, None, refl, sym, ap}
use Rattle.std.proofs.Common.{arith, ◌∙◌, length-append}
use Rattle.records.specs.declared.verb.Verb.{Verb}
use Rattle.records.specs.declared.verb.Verb.TheVariants as file_verb
use Rattle.source_tree.specs.declared.name.Name.{Name}
use Rattle.source_tree.specs.declared.statement.Verb.TheVariants as family
use Rattle.source_tree.specs.declared.statement.Statement.{Statement, out-Statement, the_lemmas}
use Rattle.source_tree.specs.declared.phrases.FilePhrases.TheVariants as file_phrases
use Rattle.source_tree.specs.declared.file_statement.Opening.{Opening}
use Rattle.source_tree.specs.declared.file_statement.FileStatement.{FileStatement}
use Rattle.source_tree.specs.declared.file_statement.FileStatement.TheVariants as filing
use Rattle.source_tree.specs.declared.conditional_statement.ConditionalStatement.{ConditionalStatement}
use Rattle.source_tree.specs.declared.conditional_statement.ConditionalStatement.TheVariants.{If, Evaluate}
use Rattle.source_tree.specs.declared.perform_statement.Performed.TheVariants.{Procedures, Statements}
use Rattle.source_tree.specs.declared.perform_statement.Repetition.{Repetition}
use Rattle.source_tree.specs.declared.perform_statement.Repetition.TheVariants as repeated
use Rattle.source_tree.specs.declared.until.TestTime.{TestTime}
use Rattle.source_tree.specs.declared.condition.Condition.TheVariants.{Any}
use Rattle.source_tree.specs.declared.evaluate_statement.Subject.{Subject}
use Rattle.source_tree.specs.declared.evaluate_statement.When.{When}
use Rattle.source_tree.specs.declared.evaluate_statement.Selected.{Selected}
use Rattle.source_tree.specs.declared.string_statement.Sending.{Sending}
use Rattle.source_tree.specs.Arithmetic.{is_there}
use Rattle.source_tree.specs.Broken.{each}
use Rattle.source_tree.specs.Evaluate.{object_conditions, when_conditions, selected_condition}
use Rattle.source_tree.specs.EvaluateRules.{when_rules, selected_rules}
use Rattle.source_tree.specs.Filing as meaning
use Rattle.source_tree.specs.Filing.{file_with_record, phrases_of}
use Rattle.source_tree.specs.FilingRules.{delete_rules, file_named_rules, filing_rules, read_rules, record_rules}
use Rattle.source_tree.specs.FilingRules.{start_rules}
use Rattle.source_tree.specs.NameRules.{reference_rules}
use Rattle.source_tree.specs.Performing.{turns_of}
use Rattle.source_tree.specs.ConditionRules.{varying_rules, condition_rules, until_rules}
use Rattle.source_tree.specs.Rules.{all_permitted, integer_item, verb_rules, arithmetic_rules, stringing_rules}
use Rattle.source_tree.specs.Rules.{branching_rules, performing_rules, phrases_rules, phrase_rules, file_phrases_rules}
use Rattle.source_tree.specs.Rules.{performed_rules, turns_rules, evaluate_rules, statement_rules}
use Rattle.source_tree.specs.ArithmeticRules.{operation_rules}
use Rattle.source_tree.specs.LookUp.{first, items_named}
use Rattle.source_tree.specs.Parts.{items_referred}
use Rattle.source_tree.specs.ProgramFiles.{ProgramFile, files_named}
use Rattle.source_tree.specs.StringRules.{sending_rules, receiver_item, only_length, string_rules}
use Rattle.file_descriptions.specs.Files.{file_in}
use Rattle.declarations.specs.Named.{scope_in}
use Rattle.declarations.proofs.RuleLayers as layers
use Rattle.data_instructions.specs.declared.instruction.DataInstruction.TheVariants as i
use Rattle.file_image.specs.declared.class.StatusClass.TheVariants.{Successful}
use Rattle.code_image.specs.declared.code.Code.{Code}
use Rattle.condition_codegen.specs.Fragments.{append, sequence, in_order}
use Rattle.condition_codegen.specs.Meeting.{either_fragment, nothing_fragment}
use Rattle.condition_codegen.specs.DataCode.{work_fragment, take_fragment}
use Rattle.condition_codegen.specs.ArithmeticCode.{arithmetic_fragment}
use Rattle.condition_codegen.specs.ConditionCode.{condition_fragment}
use Rattle.statement_codegen.specs.StringCode.{string_fragment}
use Rattle.codegen.specs.UntilCode.{tick_fragment, repetition_fragment, until_before_fragment, until_after_fragment}
use Rattle.codegen.specs.UntilCode.{until_from_fragment, until_fragment, vary_begin_fragment, vary_on_fragment}
use Rattle.statement_codegen.specs.FileCode.{file_fragment, test_fragment, unheard_fragment, on_file_fragment}
use Rattle.statement_codegen.specs.FileCode.{into_fragment, from_fragment, on_name_fragment}
use Rattle.statement_codegen.specs.SubjectCode.{first_object, subjects_fragment}
use Rattle.codegen.specs.Layout.{count_begin, counted_turn, counted_fragment, turns_fragment, turn_fragment}
use Rattle.codegen.specs.Layout.{times_fragment, evaluate_fragment}
use Rattle.codegen.specs.Layout.{phrase_fragment, phrases_fragment, selection_fragment, conditional_fragment}
use Rattle.codegen.specs.Layout.{taken_fragment, success_fragment, failure_fragment, status_fragment}
use Rattle.codegen.specs.Layout.{statement_on_fragment, alone_fragment, file_statement_fragment, statement_fragment}
use Rattle.codegen.specs.Phrases.{met_all}
use Rattle.condition_codegen.proofs.EvaluateKept.{subjects_of, groups_of, other_of}
use Rattle.codegen.proofs.Opening.{still_ways, ways_pushed, groups_pushed, groups_done}
use Rattle.condition_codegen.proofs.Questions.{whens_rules}
use Rattle.codegen.proofs.StringCodes.{keeps_string, pointer_kept}
use Rattle.condition_codegen.proofs.Fragments.{joined_nothing, is_done}
use Rattle.condition_codegen.proofs.Sequences.{then_piece, is_so, ends_so, on_ok, three_so}
use Rattle.codegen.proofs.ByCase.{case_so, case_after, case_without, statement_so, next_piece, phrases_absent}
use Rattle.codegen.proofs.ByCase.{same_there}
use Rattle.codegen.proofs.ByCase.{times_so}
use Rattle.codegen.proofs.Meeting.{phrases_stand}
use Rattle.condition_codegen.proofs.Kept.{front_kept, back_kept, phrases_kept, one_kept, item_kept}
use Rattle.statement_codegen.proofs.FilingKept.{first_kept, read_key_kept, read_into_kept, start_key_kept}
use Rattle.statement_codegen.proofs.FilingKept.{record_names_one, record_from_kept}
use Rattle.codegen.proofs.OnFiles.{none_found, one_found}
use Rattle.condition_codegen.proofs.WaysMet.{ways_met, head_met, heads_met, and_met, or_met}
use Rattle.codegen.proofs.WaysMet.{turn_met, way_opened, ends_within}
use Rattle.codegen.proofs.LoopTurns.{counted_is, counted_from, turn_repeats}
use Rattle.codegen.proofs.+statement.Goals as goal

pub emit::emit_statement-emit_moving-requires-clause-rules : goal.emit::emit_statement-emit_moving-requires-clause-rules
emit::emit_statement-emit_moving-requires-clause-rules t c =
    let scope = scope_in c.args.emitter.now.declarations.now in
    sym (ap (verb_rules scope all_permitted (statement_rules scope all_permitted)) c.in-DataStatement.is)
    ∙ sym (layers.statement_is scope all_permitted c.args.one.now) ∙ c.requires.rules

pub emit::emit_statement-emit_stringing-requires : goal.emit::emit_statement-emit_stringing-requires
emit::emit_statement-emit_stringing-requires t c =
    let scope = scope_in c.args.emitter.now.declarations.now in
    let one = c.in-StringStatement.stringing in
    let inside = statement_rules scope all_permitted in
    let r : stringing_rules scope.items inside one ≡ [] =
    sym (ap (verb_rules scope all_permitted inside) c.in-StringStatement.is)
    ∙ sym (layers.statement_is scope all_permitted c.args.one.now) ∙ c.requires.rules in
    let kept = phrases_kept (string_rules scope.items one) (phrase_rules inside one.phrases.arose)
    (phrase_rules inside one.phrases.did_not) r in (
      search (rules, the_lemmas),
      (c.requires.entries, (kept.0, (kept.1, kept.2))),
    )

pub emit::emit_statement-emit_filing-requires : goal.emit::emit_statement-emit_filing-requires
emit::emit_statement-emit_filing-requires t c =
    let scope = scope_in c.args.emitter.now.declarations.now in
    let one = c.in-FileStatement.filing in
    let own = filing_rules scope.items scope.files one in
    let inner = file_phrases_rules (statement_rules scope all_permitted) (phrases_of one) in
    let r : own ++ inner ≡ [] =
    sym (ap (verb_rules scope all_permitted (statement_rules scope all_permitted)) c.in-FileStatement.is)
    ∙ sym (layers.statement_is scope all_permitted c.args.one.now) ∙ c.requires.rules in (
      search (rules, the_lemmas),
      (c.requires.entries, (front_kept own inner r, back_kept own inner r)),
    )

pub emit::emit_statement-emit_branching-requires : goal.emit::emit_statement-emit_branching-requires
emit::emit_statement-emit_branching-requires t c =
    let scope = scope_in c.args.emitter.now.declarations.now in
    let r : branching_rules scope.items (statement_rules scope all_permitted) c.in-ConditionalStatement.branching ≡ [] =
    sym (ap (verb_rules scope all_permitted (statement_rules scope all_permitted)) c.in-ConditionalStatement.is)
    ∙ sym (layers.statement_is scope all_permitted c.args.one.now) ∙ c.requires.rules in
    (search (rules, the_lemmas), (c.requires.entries, r))

pub emit::emit_statement-returns-in-DataStatement : goal.emit::emit_statement-returns-in-DataStatement
emit::emit_statement-returns-in-DataStatement t c =
    statement_so c.emit_moving.result (scope_in c.args.emitter.now.declarations.now) c.args.one.now
    (family.DataStatement c.in-DataStatement.moving) c.args.code.now c.emit_moving.new.code c.in-DataStatement.is
    c.emit_moving.ensures

pub emit::emit_statement-returns-in-ConditionalStatement : goal.emit::emit_statement-returns-in-ConditionalStatement
emit::emit_statement-returns-in-ConditionalStatement t c =
    statement_so c.emit_branching.result (scope_in c.args.emitter.now.declarations.now) c.args.one.now
    (family.ConditionalStatement c.in-ConditionalStatement.branching) c.args.code.now c.emit_branching.new.code
    c.in-ConditionalStatement.is
    c.emit_branching.ensures

pub emit::emit_statement-returns-in-PerformStatement : goal.emit::emit_statement-returns-in-PerformStatement
emit::emit_statement-returns-in-PerformStatement t c =
    statement_so c.emit_performing.result (scope_in c.args.emitter.now.declarations.now) c.args.one.now
    (family.PerformStatement c.in-PerformStatement.performing) c.args.code.now c.emit_performing.new.code
    c.in-PerformStatement.is
    c.emit_performing.ensures

pub emit::emit_statement-returns-in-TextStatement : goal.emit::emit_statement-returns-in-TextStatement
emit::emit_statement-returns-in-TextStatement t c =
    statement_so c.emit_texts.result (scope_in c.args.emitter.now.declarations.now) c.args.one.now
    (family.TextStatement c.in-TextStatement.text) c.args.code.now c.emit_texts.new.code c.in-TextStatement.is
    c.emit_texts.ensures

pub emit::emit_statement-returns-in-StringStatement : goal.emit::emit_statement-returns-in-StringStatement
emit::emit_statement-returns-in-StringStatement t c =
    statement_so c.emit_stringing.result (scope_in c.args.emitter.now.declarations.now) c.args.one.now
    (family.StringStatement c.in-StringStatement.stringing) c.args.code.now c.emit_stringing.new.code
    c.in-StringStatement.is
    c.emit_stringing.ensures

pub emit::emit_statement-returns-in-FileStatement : goal.emit::emit_statement-returns-in-FileStatement
emit::emit_statement-returns-in-FileStatement t c =
    statement_so c.emit_filing.result (scope_in c.args.emitter.now.declarations.now) c.args.one.now
    (family.FileStatement c.in-FileStatement.filing) c.args.code.now c.emit_filing.new.code c.in-FileStatement.is
    c.emit_filing.ensures

pub emit::emit_statement-returns-in-ControlStatement : goal.emit::emit_statement-returns-in-ControlStatement
emit::emit_statement-returns-in-ControlStatement t c =
    statement_so c.emit_ending.result (scope_in c.args.emitter.now.declarations.now) c.args.one.now
    (family.ControlStatement c.in-ControlStatement.ending) c.args.code.now c.emit_ending.new.code
    c.in-ControlStatement.is
    c.emit_ending.ensures

pub emit::emit_phrases-returns-then-not-has_phrase : goal.emit::emit_phrases-returns-then-not-has_phrase
emit::emit_phrases-returns-then-not-has_phrase t c =
    let scope = scope_in c.args.emitter.now.declarations.now in
    let one = c.args.one.now in
    let old = c.args.code.now in
    sym (joined_nothing old) ∙ ap (append old)
    (phrases_absent scope (statement_fragment scope) one.arose one.did_not old
    (sym c.has_phrase.ensures ∙ c.if-not-has_phrase.true))

pub emit::emit_phrases-emit_phrase-requires : goal.emit::emit_phrases-emit_phrase-requires
emit::emit_phrases-emit_phrase-requires t c =
    (omega (arith, c.decreases), (c.requires.entries, c.requires.arose))

pub emit::emit_phrases-emit_phrase-requires-2 : goal.emit::emit_phrases-emit_phrase-requires-2
emit::emit_phrases-emit_phrase-requires-2 t c =
    (omega (arith, c.decreases), (c.requires.entries, c.requires.did_not))

pub emit::emit_phrases-emit_meeting-requires : goal.emit::emit_phrases-emit_meeting-requires
emit::emit_phrases-emit_meeting-requires t c =
    let scope = scope_in c.args.emitter.now.declarations.now in
    let phrase = phrase_fragment scope (statement_fragment scope) in
    let one = c.args.one.now in
    let way = ends_within (phrase one.arose) (phrase one.did_not) c.args.code.now c.emit_branch.new.code
    c.emit_phrase.new.code c.emit_jump.new.code c.emit_phrase-2.new.code c.in_ok-branch.branch c.in_ok-other.other
    c.in_ok-branch.ensures.code c.in_ok-branch.ensures.address c.in_ok-emit_phrase.ensures c.in_ok-other.ensures.code
    c.in_ok-other.ensures.other c.in_ok-emit_phrase-2.ensures in
    record { branch = way.branch; jump = way.jump; other = way.other }

pub emit::emit_phrases-returns : goal.emit::emit_phrases-returns
emit::emit_phrases-returns t c =
    let scope = scope_in c.args.emitter.now.declarations.now in
    let inside = statement_fragment scope in
    let old = c.args.code.now in
    let one = c.args.one.now in
    on_ok c.emit_meeting.result
    (ways_met c.emit_meeting.result (phrase_fragment scope inside one.arose) (phrase_fragment scope inside one.did_not)
    old c.emit_branch.new.code c.emit_phrase.new.code c.emit_jump.new.code c.emit_phrase-2.new.code
    c.emit_meeting.new.code c.in_ok-branch.branch c.in_ok-other.other c.in_ok-branch.ensures.code
    c.in_ok-branch.ensures.address c.in_ok-emit_phrase.ensures c.in_ok-other.ensures.code c.in_ok-other.ensures.other
    c.in_ok-emit_phrase-2.ensures c.emit_meeting.ensures)
    (λ e. e ∙ ap (append old)
    (phrases_stand scope inside one.arose one.did_not old (sym c.has_phrase.ensures ∙ c.if-not-has_phrase.false)))

pub emit::emit_phrase-emit_statements-requires : goal.emit::emit_phrase-emit_statements-requires
emit::emit_phrase-emit_statements-requires t c =
    let scope = scope_in c.args.emitter.now.declarations.now in
    let e : c.args.one.now ≡ Some c.as_slice.result.now =
    c.in-Some.is ∙ ap (λ (l : List Statement). Some l) (sym c.as_slice.ensures) in
    let d = rw e at c.decreases in (
      omega (arith, d),
      (c.requires.entries, sym (ap (phrase_rules (statement_rules scope all_permitted)) e) ∙ c.requires.rules),
    )

pub emit::emit_phrase-returns-in-None : goal.emit::emit_phrase-returns-in-None
emit::emit_phrase-returns-in-None t c =
    let scope = scope_in c.args.emitter.now.declarations.now in
    case_without (phrase_fragment scope (statement_fragment scope)) c.args.one.now None c.args.code.now c.in-None.is
    refl

pub emit::emit_phrase-returns-in-Some : goal.emit::emit_phrase-returns-in-Some
emit::emit_phrase-returns-in-Some t c =
    let scope = scope_in c.args.emitter.now.declarations.now in
    case_so c.emit_statements.result (phrase_fragment scope (statement_fragment scope)) c.args.one.now
    (Some c.as_slice.result.now) c.args.code.now c.emit_statements.new.code
    (c.in-Some.is ∙ ap (λ (l : List Statement). Some l) (sym c.as_slice.ensures)) c.emit_statements.ensures

pub emit::emit_turn-emit_statements-requires : goal.emit::emit_turn-emit_statements-requires
emit::emit_turn-emit_statements-requires t c =
    let scope = scope_in c.args.emitter.now.declarations.now in
    let e : c.args.one.now ≡ Statements c.as_slice.result.now =
    c.in-Statements.is ∙ ap (λ (l : List Statement). Statements l) (sym c.as_slice.ensures) in
    let d = rw e at c.decreases in (
      omega (arith, d),
      (
        c.requires.entries,
        sym (ap (performed_rules scope.procedures all_permitted (statement_rules scope all_permitted)) e)
            ∙ c.requires.rules,
      ),
    )

pub emit::emit_turn-returns-in-Procedures : goal.emit::emit_turn-returns-in-Procedures
emit::emit_turn-returns-in-Procedures t c =
    let scope = scope_in c.args.emitter.now.declarations.now in
    case_so c.emit_range.result (turn_fragment scope (statement_fragment scope) c.args.line) c.args.one.now
    (Procedures c.in-Procedures.first c.in-Procedures.last) c.args.code.now c.emit_range.new.code c.in-Procedures.is
    c.emit_range.ensures

pub emit::emit_turn-returns-in_ok-emit_tick-in-Statements : goal.emit::emit_turn-returns-in_ok-emit_tick-in-Statements
emit::emit_turn-returns-in_ok-emit_tick-in-Statements t c =
    let scope = scope_in c.args.emitter.now.declarations.now in
    let inside = statement_fragment scope in
    let old = c.args.code.now in
    let new = c.emit_statements.new.code in
    case_so c.emit_statements.result (turn_fragment scope inside c.args.line) c.args.one.now
    (Statements c.as_slice.result.now) old new
    (c.in-Statements.is ∙ ap (λ (l : List Statement). Statements l) (sym c.as_slice.ensures))
    (ends_so c.emit_statements.result (tick_fragment c.args.line) (in_order inside c.as_slice.result.now) old
    c.emit_tick.new.code new c.in_ok-emit_tick-in-Statements.ensures c.emit_statements.ensures)

pub emit::emit_statement-emit_performing-requires : goal.emit::emit_statement-emit_performing-requires
emit::emit_statement-emit_performing-requires t c =
    let scope = scope_in c.args.emitter.now.declarations.now in
    let r : performing_rules scope all_permitted (statement_rules scope all_permitted) c.in-PerformStatement.performing
    ≡ [] =
    sym (ap (verb_rules scope all_permitted (statement_rules scope all_permitted)) c.in-PerformStatement.is)
    ∙ sym (layers.statement_is scope all_permitted c.args.one.now) ∙ c.requires.rules in
    (search (rules, the_lemmas), (c.requires.entries, r))

pub emit::emit_performing-emit_turn-requires : goal.emit::emit_performing-emit_turn-requires
emit::emit_performing-emit_turn-requires t c =
    let scope = scope_in c.args.emitter.now.declarations.now in
    let one = c.args.one.now in
    let often = turns_rules scope.items one.turns in
    let behind = performed_rules scope.procedures all_permitted (statement_rules scope all_permitted) one.performed in
    (omega (arith, c.decreases), (c.requires.entries, back_kept often behind c.requires.rules))

pub emit::emit_performing-emit_times-requires : goal.emit::emit_performing-emit_times-requires
emit::emit_performing-emit_times-requires t c =
    let scope = scope_in c.args.emitter.now.declarations.now in
    let one = c.args.one.now in
    let often = turns_rules scope.items one.turns in
    let behind = performed_rules scope.procedures all_permitted (statement_rules scope all_permitted) one.performed in
    (omega (arith, c.decreases), (c.requires.entries, back_kept often behind c.requires.rules))

pub emit::emit_performing-emit_until-requires : goal.emit::emit_performing-emit_until-requires
emit::emit_performing-emit_until-requires t c =
    let scope = scope_in c.args.emitter.now.declarations.now in
    let one = c.args.one.now in
    let often = turns_rules scope.items one.turns in
    let behind = performed_rules scope.procedures all_permitted (statement_rules scope all_permitted) one.performed in
    let turns : until_rules scope.items c.in-Until.until ≡ [] =
    sym (ap (turns_rules scope.items) c.in-Until.is) ∙ front_kept often behind c.requires.rules in (
      search (rules, the_lemmas),
      (c.requires.entries, (turns, back_kept often behind c.requires.rules)),
    )

pub emit::emit_performing-emit_counted-requires : goal.emit::emit_performing-emit_counted-requires
emit::emit_performing-emit_counted-requires t c =
    let scope = scope_in c.args.emitter.now.declarations.now in
    let one = c.args.one.now in
    let often = turns_rules scope.items one.turns in
    let behind = performed_rules scope.procedures all_permitted (statement_rules scope all_permitted) one.performed in
    let item : reference_rules scope.items integer_item c.in-CountedBy.item ≡ [] =
    sym (ap (turns_rules scope.items) c.in-CountedBy.is) ∙ front_kept often behind c.requires.rules in (
      search (rules, the_lemmas),
      (c.requires.entries, (item, back_kept often behind c.requires.rules)),
    )

pub emit::emit_performing-returns-in-Once : goal.emit::emit_performing-returns-in-Once
emit::emit_performing-returns-in-Once t c =
    let scope = scope_in c.args.emitter.now.declarations.now in
    let one = c.args.one.now in
    let turn = turn_fragment scope (statement_fragment scope) c.args.line one.performed in
    case_so c.emit_turn.result (λ (often : Repetition). turns_fragment scope.items c.args.line often turn) one.turns
    repeated.Once c.args.code.now c.emit_turn.new.code c.in-Once.is c.emit_turn.ensures

pub emit::emit_performing-returns-in_ok-emit_tick-in-Times : goal.emit::emit_performing-returns-in_ok-emit_tick-in-Times
emit::emit_performing-returns-in_ok-emit_tick-in-Times t c =
    let scope = scope_in c.args.emitter.now.declarations.now in
    let one = c.args.one.now in
    let line = c.args.line in
    let old = c.args.code.now in
    let ticked = c.emit_tick.new.code in
    let new = c.emit_times.new.code in
    let turn = turn_fragment scope (statement_fragment scope) line one.performed in
    let times = turns_of c.in-Times.count in
    case_so c.emit_times.result (λ (often : Repetition). turns_fragment scope.items line often turn) one.turns
    (repeated.Times c.in-Times.count) old new c.in-Times.is
    (case_after c.emit_times.result (λ (n : ℕ). times_fragment n turn) times c.count_of.result (tick_fragment line) old
    ticked new (sym c.count_of.ensures) c.in_ok-emit_tick-in-Times.ensures c.emit_times.ensures)

pub emit::emit_performing-returns-in_ok-emit_tick-in-CountedBy :
    goal.emit::emit_performing-returns-in_ok-emit_tick-in-CountedBy
emit::emit_performing-returns-in_ok-emit_tick-in-CountedBy t c =
    let scope = scope_in c.args.emitter.now.declarations.now in
    let old = c.args.code.now in
    let line = c.args.line in
    let tick = tick_fragment line in
    let turn = turn_fragment scope (statement_fragment scope) line c.args.one.now.performed in
    let counted = sequence (take_fragment scope.items i.Push c.in-CountedBy.item) (counted_fragment turn) in
    let new = c.emit_counted.new.code in
    is_so c.emit_counted.result new (append old (sequence tick counted old))
    (append old (turns_fragment scope.items line c.args.one.now.turns turn old))
    (ends_so c.emit_counted.result tick counted old c.emit_tick-in-CountedBy.new.code new
    c.in_ok-emit_tick-in-CountedBy.ensures c.emit_counted.ensures)
    (sym (ap (λ (often : Repetition). append old (turns_fragment scope.items line often turn old)) c.in-CountedBy.is))

pub emit::emit_performing-returns-in_ok-emit_tick-in-Until : goal.emit::emit_performing-returns-in_ok-emit_tick-in-Until
emit::emit_performing-returns-in_ok-emit_tick-in-Until t c =
    let scope = scope_in c.args.emitter.now.declarations.now in
    let one = c.args.one.now in
    let line = c.args.line in
    let old = c.args.code.now in
    let new = c.emit_until.new.code in
    let turn = turn_fragment scope (statement_fragment scope) line one.performed in
    case_so c.emit_until.result (λ (often : Repetition). turns_fragment scope.items line often turn) one.turns
    (repeated.Until c.in-Until.until) old new c.in-Until.is
    (ends_so c.emit_until.result (tick_fragment line) (until_fragment scope.items c.in-Until.until turn) old
    c.emit_tick-in-Until.new.code new c.in_ok-emit_tick-in-Until.ensures c.emit_until.ensures)

pub times::emit_times-returns-then-count-eq0 : goal.times::emit_times-returns-then-count-eq0
times::emit_times-returns-then-count-eq0 t c =
    let scope = scope_in c.args.emitter.now.declarations.now in
    let turn = turn_fragment scope (statement_fragment scope) c.args.line c.args.one.now in
    case_without (λ (n : ℕ). times_fragment n turn) c.args.count 0 c.args.code.now c.if-count-eq0.true refl

pub times::emit_counted-emit_taking-requires : goal.times::emit_counted-emit_taking-requires
times::emit_counted-emit_taking-requires t c =
    record {
      rules =
          item_kept (scope_in c.args.emitter.now.declarations.now).items integer_item c.args.item.now c.requires.item;
    }

pub emit::emit_statement-emit_texts-requires : goal.emit::emit_statement-emit_texts-requires
emit::emit_statement-emit_texts-requires t c =
    let scope = scope_in c.args.emitter.now.declarations.now in
    record {
      rules = sym (ap (verb_rules scope all_permitted (statement_rules scope all_permitted)) c.in-TextStatement.is)
          ∙ sym (layers.statement_is scope all_permitted c.args.one.now) ∙ c.requires.rules;
    }

pub emit::emit_statements-emit_statement-requires : goal.emit::emit_statements-emit_statement-requires
emit::emit_statements-emit_statement-requires t c =
    let scope = scope_in c.args.emitter.now.declarations.now in
    let r : statement_rules scope all_permitted c.one-item.result ≡ [] =
    ap (statement_rules scope all_permitted) c.one-item.is ∙ one_kept (statement_rules scope all_permitted)
    c.args.all.now c.loop-one.one-index c.one-item.result c.loop-one-test.true c.requires.rules in
    (search (rules, the_lemmas), (c.requires.entries, r))

pub emit::emit_statements-loop-one-preserved : goal.emit::emit_statements-loop-one-preserved
emit::emit_statements-loop-one-preserved t c =
    let scope = scope_in c.args.emitter.now.declarations.now in
    next_piece (statement_fragment scope) c.args.all.now c.loop-one.one-index c.one-item.result c.loop-one.code
    c.emit_statement.new.code _ c.loop-one-test.true c.one-item.is c.in_ok-emit_statement.ensures c.loop-one.invariant

pub emit::emit_statements-returns : goal.emit::emit_statements-returns
emit::emit_statements-returns t c =
    let scope = scope_in c.args.emitter.now.declarations.now in
    is_done (statement_fragment scope) c.args.all.now c.loop-one.one-index c.loop-one.code _ c.loop-one-test.false
    c.loop-one.invariant

pub emit::emit_branching-emit_condition-requires-clause-rules :
    goal.emit::emit_branching-emit_condition-requires-clause-rules
emit::emit_branching-emit_condition-requires-clause-rules t c =
    let scope = scope_in c.args.emitter.now.declarations.now in
    let test = condition_rules scope.items c.in-If.condition in
    let first = each (statement_rules scope all_permitted) c.in-If.statements in
    let second = phrase_rules (statement_rules scope all_permitted) c.in-If.otherwise in
    let r : test ++ first ++ second ≡ [] =
    sym (ap (branching_rules scope.items (statement_rules scope all_permitted)) c.in-If.is) ∙ c.requires.rules in
    front_kept test first (front_kept (test ++ first) second r)

pub emit::emit_branching-emit_statements-requires : goal.emit::emit_branching-emit_statements-requires
emit::emit_branching-emit_statements-requires t c =
    let scope = scope_in c.args.emitter.now.declarations.now in
    let test = condition_rules scope.items c.in-If.condition in
    let first = each (statement_rules scope all_permitted) c.as_slice.result.now in
    let second = phrase_rules (statement_rules scope all_permitted) c.in-If.otherwise in
    let e : c.args.one.now ≡ If c.in-If.condition c.as_slice.result.now c.in-If.otherwise =
    c.in-If.is ∙ ap (λ (l : List Statement). If c.in-If.condition l c.in-If.otherwise) (sym c.as_slice.ensures) in
    let r : test ++ first ++ second ≡ [] =
    sym (ap (branching_rules scope.items (statement_rules scope all_permitted)) e) ∙ c.requires.rules in
    let d = rw e at c.decreases in (
      omega (arith, d),
      (c.requires.entries, back_kept test first (front_kept (test ++ first) second r)),
    )

pub emit::emit_branching-emit_phrase-requires : goal.emit::emit_branching-emit_phrase-requires
emit::emit_branching-emit_phrase-requires t c =
    let scope = scope_in c.args.emitter.now.declarations.now in
    let test = condition_rules scope.items c.in-If.condition in
    let first = each (statement_rules scope all_permitted) c.in-If.statements in
    let second = phrase_rules (statement_rules scope all_permitted) c.in-If.otherwise in
    let r : test ++ first ++ second ≡ [] =
    sym (ap (branching_rules scope.items (statement_rules scope all_permitted)) c.in-If.is) ∙ c.requires.rules in
    let d = rw c.in-If.is at c.decreases in
    (omega (arith, d), (c.requires.entries, back_kept (test ++ first) second r))

pub emit::emit_branching-emit_evaluate-requires : goal.emit::emit_branching-emit_evaluate-requires
emit::emit_branching-emit_evaluate-requires t c =
    let scope = scope_in c.args.emitter.now.declarations.now in
    let r : evaluate_rules scope.items (statement_rules scope all_permitted) c.in-Evaluate.evaluate ≡ [] =
    sym (ap (branching_rules scope.items (statement_rules scope all_permitted)) c.in-Evaluate.is) ∙ c.requires.rules in
    let d = rw c.in-Evaluate.is at c.decreases in
    (omega (arith, d), (c.requires.entries, r))

pub emit::emit_branching-emit_meeting-requires : goal.emit::emit_branching-emit_meeting-requires
emit::emit_branching-emit_meeting-requires t c =
    let scope = scope_in c.args.emitter.now.declarations.now in
    let inside = statement_fragment scope in
    let way = ends_within (in_order inside c.as_slice.result.now) (phrase_fragment scope inside c.in-If.otherwise)
    c.emit_condition.new.code c.emit_branch.new.code c.emit_statements.new.code c.emit_jump.new.code
    c.emit_phrase.new.code c.in_ok-branch-in-If.branch c.in_ok-other-in-If.other c.in_ok-branch-in-If.ensures.code
    c.in_ok-branch-in-If.ensures.address c.in_ok-emit_statements-in-If.ensures c.in_ok-other-in-If.ensures.code
    c.in_ok-other-in-If.ensures.other c.in_ok-emit_phrase-in-If.ensures in
    record { branch = way.branch; jump = way.jump; other = way.other }

pub emit::emit_branching-returns-in_ok-emit_phrase-in-If : goal.emit::emit_branching-returns-in_ok-emit_phrase-in-If
emit::emit_branching-returns-in_ok-emit_phrase-in-If t c =
    let scope = scope_in c.args.emitter.now.declarations.now in
    let inside = statement_fragment scope in
    let e : c.args.one.now ≡ If c.in-If.condition c.as_slice.result.now c.in-If.otherwise =
    c.in-If.is ∙ ap (λ (l : List Statement). If c.in-If.condition l c.in-If.otherwise) (sym c.as_slice.ensures) in
    on_ok c.emit_meeting.result (heads_met c.emit_meeting.result (tick_fragment c.args.line)
    (condition_fragment scope.items c.in-If.condition) (in_order inside c.as_slice.result.now)
    (phrase_fragment scope inside c.in-If.otherwise) c.args.code.now c.emit_tick.new.code c.emit_condition.new.code
    c.emit_branch.new.code c.emit_statements.new.code c.emit_jump.new.code c.emit_phrase.new.code
    c.emit_meeting.new.code c.in_ok-branch-in-If.branch c.in_ok-other-in-If.other c.in_ok-emit_tick.ensures
    c.in_ok-emit_condition-in-If.ensures c.in_ok-branch-in-If.ensures.code c.in_ok-branch-in-If.ensures.address
    c.in_ok-emit_statements-in-If.ensures c.in_ok-other-in-If.ensures.code c.in_ok-other-in-If.ensures.other
    c.in_ok-emit_phrase-in-If.ensures c.emit_meeting.ensures) (λ m. m ∙ sym (ap (λ (b : ConditionalStatement Statement).
    append c.args.code.now (conditional_fragment scope inside c.args.line b c.args.code.now)) e))

pub emit::emit_branching-returns-in-Evaluate : goal.emit::emit_branching-returns-in-Evaluate
emit::emit_branching-returns-in-Evaluate t c =
    let scope = scope_in c.args.emitter.now.declarations.now in
    let inside = statement_fragment scope in
    let old = c.args.code.now in
    let new = c.emit_evaluate.new.code in
    let one = c.in-Evaluate.evaluate in
    case_so c.emit_evaluate.result (conditional_fragment scope inside c.args.line) c.args.one.now (Evaluate one) old
    new c.in-Evaluate.is
    (ends_so c.emit_evaluate.result (tick_fragment c.args.line) (evaluate_fragment scope inside one) old
    c.emit_tick.new.code new c.in_ok-emit_tick.ensures c.emit_evaluate.ensures)

pub evaluate_statement::emit_selected-emit_whens-requires-clause-rules :
    goal.evaluate_statement::emit_selected-emit_whens-requires-clause-rules
evaluate_statement::emit_selected-emit_whens-requires-clause-rules t c =
    let scope = scope_in c.args.emitter.now.declarations.now in
    let subjects = c.args.subjects.now in
    let whens = c.args.one.now.whens in
    let kept =
    λ (one : When). each (condition_rules scope.items) (object_conditions scope.items subjects one.objects) in
    ap (each kept) c.as_slice.ensures
    ∙ whens_rules scope.items subjects whens
    (front_kept (each (when_rules scope.items subjects) whens)
    (each (statement_rules scope all_permitted) c.args.one.now.statements) c.requires.rules)

pub evaluate_statement::emit_selected-emit_statements-requires :
    goal.evaluate_statement::emit_selected-emit_statements-requires
evaluate_statement::emit_selected-emit_statements-requires t c =
    let scope = scope_in c.args.emitter.now.declarations.now in
    let inside = each (statement_rules scope all_permitted) in
    let one = c.args.one.now in
    let r : inside c.as_slice-2.result.now ≡ [] =
    ap inside c.as_slice-2.ensures ∙ back_kept (each (when_rules scope.items c.args.subjects.now) one.whens)
    (inside one.statements) c.requires.rules in
    (search (rules, the_lemmas), (c.requires.entries, r))

pub evaluate_statement::emit_selected-returns : goal.evaluate_statement::emit_selected-returns
evaluate_statement::emit_selected-returns t c =
    let scope = scope_in c.args.emitter.now.declarations.now in
    let old = c.args.code.now in
    let one = c.args.one.now in
    let branched = c.emit_branch.new.code in
    way_opened (condition_fragment scope.items (selected_condition scope.items c.args.subjects.now one))
    (in_order (statement_fragment scope) one.statements) old c.emit_whens.new.code branched c.emit_statements.new.code
    c.emit_jump.new.code c.in_ok-branch.branch c.in_ok-other.other
    (c.in_ok-emit_whens.ensures ∙ ap (λ (l : List When). append old (condition_fragment scope.items
    (Any (when_conditions scope.items c.args.subjects.now l)) old)) c.as_slice.ensures)
    c.in_ok-branch.ensures.code (c.in_ok-emit_statements.ensures ∙ ap (λ (l : List Statement).
    append branched (in_order (statement_fragment scope) l branched)) c.as_slice-2.ensures)
    c.in_ok-other.ensures.code c.in_ok-branch.ensures.address c.in_ok-other.ensures.other

pub evaluate_statement::emit_groups-emit_selected-requires : goal.evaluate_statement::emit_groups-emit_selected-requires
evaluate_statement::emit_groups-emit_selected-requires t c =
    let scope = scope_in c.args.emitter.now.declarations.now in
    let kept = selected_rules scope.items (statement_rules scope all_permitted) c.args.subjects.now in
    let r : kept c.one-item.result ≡ [] = ap kept c.one-item.is
    ∙ one_kept kept c.args.selected.now c.loop-one.one-index c.one-item.result c.loop-one-test.true c.requires.rules in
    (search (rules, the_lemmas), (c.requires.entries, r))

pub evaluate_statement::emit_groups-loop-one-preserved : goal.evaluate_statement::emit_groups-loop-one-preserved
evaluate_statement::emit_groups-loop-one-preserved t c =
    let scope = scope_in c.args.emitter.now.declarations.now in
    let one = c.one-item.result in
    let test = condition_fragment scope.items (selected_condition scope.items c.args.subjects.now one) in
    record {
      same = λ other.
          groups_pushed scope (statement_fragment scope) c.args.subjects.now other c.loop-one.ways.items
          c.push.new.self.items c.args.selected.now c.loop-one.one-index one c.loop-one.code c.emit_selected.new.code _
          c.in_ok-way.way c.loop-one-test.true c.one-item.is c.in_ok-push.ensures.items c.in_ok-way.ensures
          (c.loop-one.invariant.same other);
      within = ways_pushed test (in_order (statement_fragment scope) one.statements) c.loop-one.code
          c.emit_selected.new.code c.loop-one.ways.items c.push.new.self.items c.in_ok-way.way
          c.in_ok-push.ensures.items c.in_ok-way.ensures c.loop-one.invariant.within;
    }

pub evaluate_statement::emit_groups-returns : goal.evaluate_statement::emit_groups-returns
evaluate_statement::emit_groups-returns t c =
    let scope = scope_in c.args.emitter.now.declarations.now in
    let inside = statement_fragment scope in
    let now = c.loop-one.code in
    record {
      same = λ other.
          groups_done scope inside c.args.subjects.now other c.loop-one.ways.items c.args.selected.now
          c.loop-one.one-index now
          (append now (phrase_fragment scope inside other now)) _ c.loop-one-test.false refl
          (c.loop-one.invariant.same other);
      within = c.loop-one.invariant.within;
    }

pub evaluate_statement::emit_evaluate-emit_subjects-requires-clause-rules :
    goal.evaluate_statement::emit_evaluate-emit_subjects-requires-clause-rules
evaluate_statement::emit_evaluate-emit_subjects-requires-clause-rules t c =
    let scope = scope_in c.args.emitter.now.declarations.now in
    subjects_of scope.items (statement_rules scope all_permitted) c.args.one.now c.requires.rules

pub evaluate_statement::emit_evaluate-emit_groups-requires : goal.evaluate_statement::emit_evaluate-emit_groups-requires
evaluate_statement::emit_evaluate-emit_groups-requires t c =
    let scope = scope_in c.args.emitter.now.declarations.now in
    let inside = statement_rules scope all_permitted in
    let one = c.args.one.now in
    let r : each (selected_rules scope.items inside c.as_slice.result.now) c.as_slice-2.result.now ≡ [] =
    ap (λ (l : List Subject). each (selected_rules scope.items inside l) c.as_slice-2.result.now) c.as_slice.ensures
    ∙ ap (each (selected_rules scope.items inside one.subjects)) c.as_slice-2.ensures
    ∙ groups_of scope.items inside one c.requires.rules in
    (search (rules, the_lemmas), (c.requires.entries, r))

pub evaluate_statement::emit_evaluate-emit_phrase-requires : goal.evaluate_statement::emit_evaluate-emit_phrase-requires
evaluate_statement::emit_evaluate-emit_phrase-requires t c =
    let scope = scope_in c.args.emitter.now.declarations.now in (
      search (rules, the_lemmas),
      (
        c.requires.entries,
        other_of scope.items (statement_rules scope all_permitted) c.args.one.now c.requires.rules,
      ),
    )

pub evaluate_statement::emit_evaluate-emit_meetings-requires :
    goal.evaluate_statement::emit_evaluate-emit_meetings-requires
evaluate_statement::emit_evaluate-emit_meetings-requires t c =
    let scope = scope_in c.args.emitter.now.declarations.now in
    let now = c.emit_groups.new.code in
    let new = c.emit_phrase.new.code in
    let part = phrase_fragment scope (statement_fragment scope) c.args.one.now.other now in
    let longer : length new.instructions ≡ length now.instructions + length part.instructions =
    ap (λ (k : Code). length k.instructions) c.in_ok-emit_phrase.ensures
    ∙ length-append now.instructions part.instructions in
    still_ways c.in_ok-ways.ways.items (length now.instructions) (length new.instructions) (omega (arith, longer))
    c.in_ok-ways.ensures.within

pub evaluate_statement::emit_evaluate-returns : goal.evaluate_statement::emit_evaluate-returns
evaluate_statement::emit_evaluate-returns t c =
    let scope = scope_in c.args.emitter.now.declarations.now in
    let inside = statement_fragment scope in
    let one = c.args.one.now in
    let now = c.emit_subjects.new.code in
    on_ok c.emit_meetings.result c.emit_meetings.ensures
    (λ e. then_piece (subjects_fragment scope.items one.subjects (first_object one.selected))
    (selection_fragment scope inside one.subjects one.selected one.other) c.args.code.now now
    c.emit_meetings.new.code c.in_ok-emit_subjects.ensures
    (e ∙ ap (met_all c.in_ok-ways.ways.items) c.in_ok-emit_phrase.ensures ∙ c.in_ok-ways.ensures.same one.other
    ∙ ap (λ (l : List Subject). append now (selection_fragment scope inside l c.as_slice-2.result.now one.other now))
    c.as_slice.ensures
    ∙ ap (λ (l : List (Selected Statement)). append now (selection_fragment scope inside one.subjects l one.other now))
    c.as_slice-2.ensures))

pub until::emit_until-emit_vary_begin-requires : goal.until::emit_until-emit_vary_begin-requires
until::emit_until-emit_vary_begin-requires t c =
    let scope = scope_in c.args.emitter.now.declarations.now in
    record {
      rules = front_kept (varying_rules scope.items c.args.one.now.varying)
          (condition_rules scope.items c.args.one.now.condition)
          c.requires.turns;
    }

pub until::emit_until-emit_until_before-requires : goal.until::emit_until-emit_until_before-requires
until::emit_until-emit_until_before-requires t c =
    (omega (arith, c.decreases), (c.requires.entries, (c.requires.turns, c.requires.rules)))

pub until::emit_until-emit_until_after-requires : goal.until::emit_until-emit_until_after-requires
until::emit_until-emit_until_after-requires t c =
    (omega (arith, c.decreases), (c.requires.entries, (c.requires.turns, c.requires.rules)))

pub until::emit_until-returns-in-Before : goal.until::emit_until-returns-in-Before
until::emit_until-returns-in-Before t c =
    let scope = scope_in c.args.emitter.now.declarations.now in
    let one = c.args.one.now in
    let old = c.args.code.now in
    let begin = vary_begin_fragment scope.items one.varying in
    let test = condition_fragment scope.items one.condition in
    let onward = vary_on_fragment scope.items one.varying in
    let turn = turn_fragment scope (statement_fragment scope) c.args.line c.args.performed.now in
    on_ok c.emit_until_before.result
    (ends_so c.emit_until_before.result begin (until_before_fragment test onward turn) old c.emit_vary_begin.new.code
    c.emit_until_before.new.code c.in_ok-emit_vary_begin.ensures c.emit_until_before.ensures)
    (λ e. e ∙ sym (ap (λ (w : TestTime).
    append old (sequence begin (until_from_fragment w test onward turn) old)) c.in-Before.is))

pub until::emit_until-returns-in-After : goal.until::emit_until-returns-in-After
until::emit_until-returns-in-After t c =
    let scope = scope_in c.args.emitter.now.declarations.now in
    let one = c.args.one.now in
    let old = c.args.code.now in
    let begin = vary_begin_fragment scope.items one.varying in
    let test = condition_fragment scope.items one.condition in
    let onward = vary_on_fragment scope.items one.varying in
    let turn = turn_fragment scope (statement_fragment scope) c.args.line c.args.performed.now in
    on_ok c.emit_until_after.result
    (ends_so c.emit_until_after.result begin (until_after_fragment test onward turn) old c.emit_vary_begin.new.code
    c.emit_until_after.new.code c.in_ok-emit_vary_begin.ensures c.emit_until_after.ensures)
    (λ e. e ∙ sym (ap (λ (w : TestTime).
    append old (sequence begin (until_from_fragment w test onward turn) old)) c.in-After.is))

pub until::emit_until_before-emit_condition-requires-clause-rules :
    goal.until::emit_until_before-emit_condition-requires-clause-rules
until::emit_until_before-emit_condition-requires-clause-rules t c =
    let scope = scope_in c.args.emitter.now.declarations.now in
    back_kept (varying_rules scope.items c.args.one.now.varying) (condition_rules scope.items c.args.one.now.condition)
    c.requires.turns

pub until::emit_until_after-emit_turn-requires : goal.until::emit_until_after-emit_turn-requires
until::emit_until_after-emit_turn-requires t c =
    (omega (arith, c.decreases), (c.requires.entries, c.requires.rules))

pub until::emit_until_after-emit_condition-requires-clause-rules :
    goal.until::emit_until_after-emit_condition-requires-clause-rules
until::emit_until_after-emit_condition-requires-clause-rules t c =
    let scope = scope_in c.args.emitter.now.declarations.now in
    back_kept (varying_rules scope.items c.args.one.now.varying) (condition_rules scope.items c.args.one.now.condition)
    c.requires.turns

pub until::emit_until_after-emit_onward-requires : goal.until::emit_until_after-emit_onward-requires
until::emit_until_after-emit_onward-requires t c =
    let scope = scope_in c.args.emitter.now.declarations.now in
    record {
      rules = front_kept (varying_rules scope.items c.args.one.now.varying)
          (condition_rules scope.items c.args.one.now.condition)
          c.requires.turns;
    }

pub until::emit_until_after-returns : goal.until::emit_until_after-returns
until::emit_until_after-returns t c =
    let scope = scope_in c.args.emitter.now.declarations.now in
    let one = c.args.one.now in
    let way = either_fragment nothing_fragment
    (sequence (vary_on_fragment scope.items one.varying) (work_fragment i.ClearTruth)) in
    turn_met c.emit_way_back.result
    (turn_fragment scope (statement_fragment scope) c.args.line c.args.performed.now)
    (condition_fragment scope.items one.condition) way c.len-begin.result c.args.code.now c.emit_turn.new.code
    c.emit_condition.new.code c.emit_onward.new.code c.emit_way_back.new.code c.len-begin.ensures
    c.in_ok-emit_turn.ensures c.in_ok-emit_condition.ensures c.in_ok-emit_onward.ensures c.emit_way_back.ensures

pub string_statement::emit_stringing-emit_string-requires-clause-sendings :
    goal.string_statement::emit_stringing-emit_string-requires-clause-sendings
string_statement::emit_stringing-emit_string-requires-clause-sendings t c =
    let items = (scope_in c.args.emitter.now.declarations.now).items in
    ap (each (sending_rules items)) c.as_slice.ensures ∙ (keeps_string items c.args.one.now c.requires.string).sendings

pub string_statement::emit_stringing-emit_string-requires-clause-receiver :
    goal.string_statement::emit_stringing-emit_string-requires-clause-receiver
string_statement::emit_stringing-emit_string-requires-clause-receiver t c =
    let items = (scope_in c.args.emitter.now.declarations.now).items in
    item_kept items receiver_item c.args.one.now.receiver (keeps_string items c.args.one.now c.requires.string).receiver

pub string_statement::emit_stringing-emit_string-requires-clause-pointer :
    goal.string_statement::emit_stringing-emit_string-requires-clause-pointer
string_statement::emit_stringing-emit_string-requires-clause-pointer t c =
    let items = (scope_in c.args.emitter.now.declarations.now).items in
    pointer_kept items (only_length (items_referred items c.args.one.now.receiver)) c.args.one.now.pointer
    (keeps_string items c.args.one.now c.requires.string).pointer

pub file_statement::emit_filing-emit_read-requires : goal.file_statement::emit_filing-emit_read-requires
file_statement::emit_filing-emit_read-requires t c =
    let scope = scope_in c.args.emitter.now.declarations.now in
    let phrases = c.in-Read.phrases in
    let d = rw c.in-Read.is at c.decreases in
    let own : file_named_rules scope.items scope.files c.in-Read.file
    (read_rules scope.items scope.files c.in-Read.file.place c.in-Read.next c.in-Read.into c.in-Read.key phrases) ≡ [] =
    sym (ap (filing_rules scope.items scope.files) c.in-Read.is) ∙ c.requires.rules in
    let inner : file_phrases_rules (statement_rules scope all_permitted) phrases ≡ [] =
    sym (ap (λ (f : FileStatement Statement). file_phrases_rules (statement_rules scope all_permitted) (phrases_of f))
    c.in-Read.is) ∙ c.requires.phrases in
    (omega (arith, d), (c.requires.entries, (own, inner)))

pub file_statement::emit_filing-emit_record-requires : goal.file_statement::emit_filing-emit_record-requires
file_statement::emit_filing-emit_record-requires t c =
    let scope = scope_in c.args.emitter.now.declarations.now in
    let phrases = c.in-Write.phrases in
    let d = rw c.in-Write.is at c.decreases in
    let own : record_rules scope.items scope.files c.in-Write.record c.in-Write.from phrases ≡ [] =
    sym (ap (filing_rules scope.items scope.files) c.in-Write.is) ∙ c.requires.rules in
    let inner : file_phrases_rules (statement_rules scope all_permitted) phrases ≡ [] =
    sym (ap (λ (f : FileStatement Statement). file_phrases_rules (statement_rules scope all_permitted) (phrases_of f))
    c.in-Write.is) ∙ c.requires.phrases in
    (omega (arith, d), (c.requires.entries, (own, inner)))

pub file_statement::emit_filing-emit_record-requires-in-Rewrite :
    goal.file_statement::emit_filing-emit_record-requires-in-Rewrite
file_statement::emit_filing-emit_record-requires-in-Rewrite t c =
    let scope = scope_in c.args.emitter.now.declarations.now in
    let phrases = c.in-Rewrite.phrases in
    let d = rw c.in-Rewrite.is at c.decreases in
    let own : record_rules scope.items scope.files c.in-Rewrite.record c.in-Rewrite.from phrases ≡ [] =
    sym (ap (filing_rules scope.items scope.files) c.in-Rewrite.is) ∙ c.requires.rules in
    let inner : file_phrases_rules (statement_rules scope all_permitted) phrases ≡ [] =
    sym (ap (λ (f : FileStatement Statement). file_phrases_rules (statement_rules scope all_permitted) (phrases_of f))
    c.in-Rewrite.is) ∙ c.requires.phrases in
    (omega (arith, d), (c.requires.entries, (own, inner)))

pub file_statement::emit_filing-emit_delete-requires : goal.file_statement::emit_filing-emit_delete-requires
file_statement::emit_filing-emit_delete-requires t c =
    let scope = scope_in c.args.emitter.now.declarations.now in
    let phrases = c.in-Delete.phrases in
    let d = rw c.in-Delete.is at c.decreases in
    let own : file_named_rules scope.items
    scope.files c.in-Delete.file (delete_rules scope.items scope.files c.in-Delete.file.place phrases) ≡ [] =
    sym (ap (filing_rules scope.items scope.files) c.in-Delete.is) ∙ c.requires.rules in
    let inner : file_phrases_rules (statement_rules scope all_permitted) phrases ≡ [] =
    sym (ap (λ (f : FileStatement Statement). file_phrases_rules (statement_rules scope all_permitted) (phrases_of f))
    c.in-Delete.is) ∙ c.requires.phrases in
    (omega (arith, d), (c.requires.entries, inner))

pub file_statement::emit_filing-emit_starting-requires : goal.file_statement::emit_filing-emit_starting-requires
file_statement::emit_filing-emit_starting-requires t c =
    let scope = scope_in c.args.emitter.now.declarations.now in
    let phrases = c.in-Start.phrases in
    let d = rw c.in-Start.is at c.decreases in
    let own : file_named_rules scope.items scope.files
    c.in-Start.file (start_rules scope.items scope.files c.in-Start.file.place c.in-Start.key phrases) ≡ [] =
    sym (ap (filing_rules scope.items scope.files) c.in-Start.is) ∙ c.requires.rules in
    let inner : file_phrases_rules (statement_rules scope all_permitted) phrases ≡ [] =
    sym (ap (λ (f : FileStatement Statement). file_phrases_rules (statement_rules scope all_permitted) (phrases_of f))
    c.in-Start.is) ∙ c.requires.phrases in
    (omega (arith, d), (c.requires.entries, (own, inner)))

pub file_statement::emit_filing-returns-in-Open : goal.file_statement::emit_filing-returns-in-Open
file_statement::emit_filing-returns-in-Open t c =
    let scope = scope_in c.args.emitter.now.declarations.now in
    case_after c.emit_opens.result (file_statement_fragment scope (statement_fragment scope)) c.args.one.now
    (filing.Open c.as_slice.result.now)
    (tick_fragment c.args.line) c.args.code.now c.emit_tick.new.code c.emit_opens.new.code
    (c.in-Open.is ∙ ap (λ (l : List Opening). filing.Open l) (sym c.as_slice.ensures)) c.in_ok-emit_tick.ensures
    c.emit_opens.ensures

pub file_statement::emit_filing-returns-in-Close : goal.file_statement::emit_filing-returns-in-Close
file_statement::emit_filing-returns-in-Close t c =
    let scope = scope_in c.args.emitter.now.declarations.now in
    case_after c.emit_closes.result (file_statement_fragment scope (statement_fragment scope)) c.args.one.now
    (filing.Close c.as_slice-in-Close.result.now)
    (tick_fragment c.args.line) c.args.code.now c.emit_tick.new.code c.emit_closes.new.code
    (c.in-Close.is ∙ ap (λ (l : List Name). filing.Close l) (sym c.as_slice-in-Close.ensures)) c.in_ok-emit_tick.ensures
    c.emit_closes.ensures

pub file_statement::emit_filing-returns-in-Read : goal.file_statement::emit_filing-returns-in-Read
file_statement::emit_filing-returns-in-Read t c =
    let scope = scope_in c.args.emitter.now.declarations.now in
    let inside = statement_fragment scope in
    let old = c.args.code.now in
    let tick = tick_fragment c.args.line in
    let piece = on_name_fragment scope.items scope.files c.in-Read.file
    (statement_on_fragment scope inside c.in-Read.phrases (into_fragment scope.items c.in-Read.into)
    (λ (file : ProgramFile). meaning.read_verb scope.items file c.in-Read.next c.in-Read.key)) in
    on_ok c.emit_read.result
    (ends_so c.emit_read.result tick piece old c.emit_tick.new.code c.emit_read.new.code c.in_ok-emit_tick.ensures
    c.emit_read.ensures)
    (λ e. e ∙ sym (ap (λ (one : FileStatement Statement).
    append old (sequence tick (file_statement_fragment scope inside one) old)) c.in-Read.is))

pub file_statement::emit_filing-returns-in-Write : goal.file_statement::emit_filing-returns-in-Write
file_statement::emit_filing-returns-in-Write t c =
    let scope = scope_in c.args.emitter.now.declarations.now in
    case_after c.emit_record.result (file_statement_fragment scope (statement_fragment scope)) c.args.one.now
    (filing.Write c.in-Write.record c.in-Write.from c.in-Write.phrases)
    (tick_fragment c.args.line) c.args.code.now c.emit_tick.new.code c.emit_record.new.code
    c.in-Write.is c.in_ok-emit_tick.ensures
    c.emit_record.ensures

pub file_statement::emit_filing-returns-in-Rewrite : goal.file_statement::emit_filing-returns-in-Rewrite
file_statement::emit_filing-returns-in-Rewrite t c =
    let scope = scope_in c.args.emitter.now.declarations.now in
    case_after c.emit_record-in-Rewrite.result (file_statement_fragment scope (statement_fragment scope)) c.args.one.now
    (filing.Rewrite c.in-Rewrite.record c.in-Rewrite.from c.in-Rewrite.phrases)
    (tick_fragment c.args.line) c.args.code.now c.emit_tick.new.code c.emit_record-in-Rewrite.new.code
    c.in-Rewrite.is c.in_ok-emit_tick.ensures
    c.emit_record-in-Rewrite.ensures

pub file_statement::emit_filing-returns-in-Delete : goal.file_statement::emit_filing-returns-in-Delete
file_statement::emit_filing-returns-in-Delete t c =
    let scope = scope_in c.args.emitter.now.declarations.now in
    case_after c.emit_delete.result (file_statement_fragment scope (statement_fragment scope)) c.args.one.now
    (filing.Delete c.in-Delete.file c.in-Delete.phrases)
    (tick_fragment c.args.line) c.args.code.now c.emit_tick.new.code c.emit_delete.new.code
    c.in-Delete.is c.in_ok-emit_tick.ensures
    c.emit_delete.ensures

pub file_statement::emit_filing-returns-in-Start : goal.file_statement::emit_filing-returns-in-Start
file_statement::emit_filing-returns-in-Start t c =
    let scope = scope_in c.args.emitter.now.declarations.now in
    case_after c.emit_starting.result (file_statement_fragment scope (statement_fragment scope)) c.args.one.now
    (filing.Start c.in-Start.file c.in-Start.key c.in-Start.phrases)
    (tick_fragment c.args.line) c.args.code.now c.emit_tick.new.code c.emit_starting.new.code
    c.in-Start.is c.in_ok-emit_tick.ensures
    c.emit_starting.ensures

pub file_statement::emit_read-read_verb-requires : goal.file_statement::emit_read-read_verb-requires
file_statement::emit_read-read_verb-requires t c =
    let scope = scope_in c.args.emitter.now.declarations.now in
    let name = c.args.name.now in
    let known = file_in scope.items c.in-Some.file.now in
    let asked =
    read_rules scope.items scope.files name.place c.args.next c.args.into.now c.args.key.now c.args.phrases.now in
    record {
      rules = read_key_kept scope.items scope.files name.place c.args.next c.args.into.now c.args.key.now
          c.args.phrases.now known
          (first_kept name.place asked (files_named scope.files name) known c.requires.rules c.in-Some.ensures);
    }

pub file_statement::emit_read-emit_on_file-requires : goal.file_statement::emit_read-emit_on_file-requires
file_statement::emit_read-emit_on_file-requires t c =
    let scope = scope_in c.args.emitter.now.declarations.now in
    let name = c.args.name.now in
    let known = file_in scope.items c.in-Some.file.now in
    let asked =
    read_rules scope.items scope.files name.place c.args.next c.args.into.now c.args.key.now c.args.phrases.now in
    let into = read_into_kept scope.items scope.files name.place c.args.next c.args.into.now c.args.key.now
    c.args.phrases.now known
    (first_kept name.place asked (files_named scope.files name) known c.requires.rules c.in-Some.ensures) in
    (omega (arith, c.decreases), (c.requires.entries, (into, c.requires.phrases)))

pub file_statement::emit_read-returns-in_default : goal.file_statement::emit_read-returns-in_default
file_statement::emit_read-returns-in_default t c =
    let scope = scope_in c.args.emitter.now.declarations.now in
    let verb = λ (file : ProgramFile). meaning.read_verb scope.items file c.args.next c.args.key.now in
    none_found (first (files_named scope.files c.args.name.now)) (statement_on_fragment scope (statement_fragment scope)
    c.args.phrases.now (into_fragment scope.items c.args.into.now) verb)
    c.args.code.now c.in_default.ensures

pub file_statement::emit_read-returns : goal.file_statement::emit_read-returns
file_statement::emit_read-returns t c =
    let scope = scope_in c.args.emitter.now.declarations.now in
    let inside = statement_fragment scope in
    let phrases = c.args.phrases.now in
    let known = file_in scope.items c.in-Some.file.now in
    let piece = statement_on_fragment scope inside phrases (into_fragment scope.items c.args.into.now)
    (λ (file : ProgramFile). meaning.read_verb scope.items file c.args.next c.args.key.now) in
    let behind =
    status_fragment scope inside known.places.status phrases (into_fragment scope.items c.args.into.now known) in
    on_ok c.emit_on_file.result c.emit_on_file.ensures
    (λ e. e ∙ one_found (first (files_named scope.files c.args.name.now)) piece known
    (sequence (file_fragment c.in_ok-verb.verb known) behind) c.args.code.now c.in-Some.ensures
    (ap (λ (verb : Verb). sequence (file_fragment verb known) behind c.args.code.now) c.in_ok-verb.ensures))

pub file_statement::emit_record-emit_from-requires : goal.file_statement::emit_record-emit_from-requires
file_statement::emit_record-emit_from-requires t c =
    let scope = scope_in c.args.emitter.now.declarations.now in
    record {
      rules =
          record_from_kept scope.items scope.files c.args.one.now c.args.from.now c.args.phrases.now c.requires.rules;
    }

pub file_statement::emit_record-file_of_record-requires : goal.file_statement::emit_record-file_of_record-requires
file_statement::emit_record-file_of_record-requires t c =
    let scope = scope_in c.args.emitter.now.declarations.now in
    record {
      named =
          record_names_one scope.items scope.files c.args.one.now c.args.from.now c.args.phrases.now c.requires.rules;
    }

pub file_statement::emit_record-emit_on_file-requires : goal.file_statement::emit_record-emit_on_file-requires
file_statement::emit_record-emit_on_file-requires t c =
    (omega (arith, c.decreases), (c.requires.entries, (refl, c.requires.phrases)))

pub file_statement::emit_record-returns-in_default : goal.file_statement::emit_record-returns-in_default
file_statement::emit_record-returns-in_default t c =
    let scope = scope_in c.args.emitter.now.declarations.now in
    let one = c.args.one.now in
    let now = c.emit_from.new.code in
    let found = file_with_record scope.files (first (items_named scope.items one.item)) in
    let piece =
    alone_fragment scope (statement_fragment scope) c.args.phrases.now (λ (file : ProgramFile). c.args.verb) in
    then_piece (from_fragment scope.items one c.args.from.now) (on_file_fragment found piece) c.args.code.now now now
    c.in_ok-emit_from.ensures
    (none_found found piece now c.in_default.ensures)

pub file_statement::emit_record-returns : goal.file_statement::emit_record-returns
file_statement::emit_record-returns t c =
    let scope = scope_in c.args.emitter.now.declarations.now in
    let now = c.emit_from.new.code in
    let one = c.args.one.now in
    let known = file_in scope.items c.in-Some.file.now in
    let found = file_with_record scope.files (first (items_named scope.items one.item)) in
    let piece =
    alone_fragment scope (statement_fragment scope) c.args.phrases.now (λ (file : ProgramFile). c.args.verb) in
    ends_so c.emit_on_file.result (from_fragment scope.items one c.args.from.now) (on_file_fragment found piece)
    c.args.code.now now c.emit_on_file.new.code c.in_ok-emit_from.ensures
    (on_ok c.emit_on_file.result c.emit_on_file.ensures
    (λ e. e ∙ one_found found piece known (piece known) now c.in-Some.ensures refl))

pub file_statement::emit_delete-emit_on_file-requires : goal.file_statement::emit_delete-emit_on_file-requires
file_statement::emit_delete-emit_on_file-requires t c =
    (omega (arith, c.decreases), (c.requires.entries, (refl, c.requires.phrases)))

pub file_statement::emit_delete-returns-in_default : goal.file_statement::emit_delete-returns-in_default
file_statement::emit_delete-returns-in_default t c =
    let scope = scope_in c.args.emitter.now.declarations.now in
    none_found (first (files_named scope.files c.args.name.now))
    (alone_fragment scope (statement_fragment scope) c.args.phrases.now (λ (file : ProgramFile). file_verb.Delete))
    c.args.code.now c.in_default.ensures

pub file_statement::emit_delete-returns : goal.file_statement::emit_delete-returns
file_statement::emit_delete-returns t c =
    let scope = scope_in c.args.emitter.now.declarations.now in
    let old = c.args.code.now in
    let known = file_in scope.items c.in-Some.file.now in
    let found = first (files_named scope.files c.args.name.now) in
    let piece =
    alone_fragment scope (statement_fragment scope) c.args.phrases.now (λ (file : ProgramFile). file_verb.Delete) in
    is_so c.emit_on_file.result c.emit_on_file.new.code (append old (piece known old))
    (append old (on_file_fragment found piece old)) c.emit_on_file.ensures
    (one_found found piece known (piece known) old c.in-Some.ensures refl)

pub file_statement::emit_starting-start_verb-requires : goal.file_statement::emit_starting-start_verb-requires
file_statement::emit_starting-start_verb-requires t c =
    let scope = scope_in c.args.emitter.now.declarations.now in
    let name = c.args.name.now in
    let known = file_in scope.items c.in-Some.file.now in
    let asked = start_rules scope.items scope.files name.place c.args.key.now c.args.phrases.now in
    record {
      rules = start_key_kept scope.items scope.files name.place c.args.key.now c.args.phrases.now known
          (first_kept name.place asked (files_named scope.files name) known c.requires.rules c.in-Some.ensures);
    }

pub file_statement::emit_starting-emit_on_file-requires : goal.file_statement::emit_starting-emit_on_file-requires
file_statement::emit_starting-emit_on_file-requires t c =
    (omega (arith, c.decreases), (c.requires.entries, (refl, c.requires.phrases)))

pub file_statement::emit_starting-returns-in_default : goal.file_statement::emit_starting-returns-in_default
file_statement::emit_starting-returns-in_default t c =
    let scope = scope_in c.args.emitter.now.declarations.now in
    let verb = λ (file : ProgramFile). meaning.start_verb scope.items file c.args.key.now in
    none_found (first (files_named scope.files c.args.name.now))
    (alone_fragment scope (statement_fragment scope) c.args.phrases.now verb) c.args.code.now c.in_default.ensures

pub file_statement::emit_starting-returns : goal.file_statement::emit_starting-returns
file_statement::emit_starting-returns t c =
    let scope = scope_in c.args.emitter.now.declarations.now in
    let inside = statement_fragment scope in
    let phrases = c.args.phrases.now in
    let known = file_in scope.items c.in-Some.file.now in
    let piece =
    alone_fragment scope inside phrases (λ (file : ProgramFile). meaning.start_verb scope.items file c.args.key.now) in
    let behind = status_fragment scope inside known.places.status phrases nothing_fragment in
    on_ok c.emit_on_file.result c.emit_on_file.ensures
    (λ e. e ∙ one_found (first (files_named scope.files c.args.name.now)) piece known
    (sequence (file_fragment c.in_ok-verb.verb known) behind) c.args.code.now c.in-Some.ensures
    (ap (λ (verb : Verb). sequence (file_fragment verb known) behind c.args.code.now) c.in_ok-verb.ensures))

pub file_statement::emit_on_file-emit_success-requires : goal.file_statement::emit_on_file-emit_success-requires
file_statement::emit_on_file-emit_success-requires t c =
    (omega (arith, c.decreases), (c.requires.entries, c.requires.phrases))

pub file_statement::emit_on_file-emit_failure-requires : goal.file_statement::emit_on_file-emit_failure-requires
file_statement::emit_on_file-emit_failure-requires t c =
    (omega (arith, c.decreases), (c.requires.entries, c.requires.phrases))

pub file_statement::emit_on_file-emit_meeting-requires : goal.file_statement::emit_on_file-emit_meeting-requires
file_statement::emit_on_file-emit_meeting-requires t c =
    let scope = scope_in c.args.emitter.now.declarations.now in
    let inside = statement_fragment scope in
    let known = file_in scope.items c.args.file.now in
    let into = into_fragment scope.items c.args.into.now known in
    let success = success_fragment scope inside c.args.phrases.now in
    let way = ends_within (sequence into success)
    (failure_fragment scope inside known.places.status c.args.phrases.now) c.emit_test.new.code c.emit_branch.new.code
    c.emit_success.new.code c.emit_jump.new.code c.emit_failure.new.code c.in_ok-branch.branch c.in_ok-other.other
    c.in_ok-branch.ensures.code c.in_ok-branch.ensures.address (then_piece into success c.emit_branch.new.code
    c.emit_into.new.code c.emit_success.new.code c.in_ok-emit_into.ensures c.in_ok-emit_success.ensures)
    c.in_ok-other.ensures.code c.in_ok-other.ensures.other c.in_ok-emit_failure.ensures in
    record { branch = way.branch; jump = way.jump; other = way.other }

pub file_statement::emit_on_file-returns : goal.file_statement::emit_on_file-returns
file_statement::emit_on_file-returns t c =
    let scope = scope_in c.args.emitter.now.declarations.now in
    let inside = statement_fragment scope in
    let known = file_in scope.items c.args.file.now in
    let into = into_fragment scope.items c.args.into.now known in
    let success = success_fragment scope inside c.args.phrases.now in
    heads_met c.emit_meeting.result (file_fragment c.args.verb known) (test_fragment Successful)
    (sequence into success) (failure_fragment scope inside known.places.status c.args.phrases.now) c.args.code.now
    c.emit_file.new.code c.emit_test.new.code c.emit_branch.new.code c.emit_success.new.code c.emit_jump.new.code
    c.emit_failure.new.code c.emit_meeting.new.code c.in_ok-branch.branch c.in_ok-other.other
    c.in_ok-emit_file.ensures c.in_ok-emit_test.ensures c.in_ok-branch.ensures.code c.in_ok-branch.ensures.address
    (then_piece into success c.emit_branch.new.code c.emit_into.new.code c.emit_success.new.code
    c.in_ok-emit_into.ensures c.in_ok-emit_success.ensures)
    c.in_ok-other.ensures.code c.in_ok-other.ensures.other c.in_ok-emit_failure.ensures c.emit_meeting.ensures

pub file_statement::emit_success-emit_phrase-requires : goal.file_statement::emit_success-emit_phrase-requires
file_statement::emit_success-emit_phrase-requires t c =
    let inside = statement_rules (scope_in c.args.emitter.now.declarations.now) all_permitted in
    let pair = c.in-AtEnd.pair in
    let d = rw c.in-AtEnd.is at c.decreases in
    let r : phrases_rules inside pair ≡ [] =
    sym (ap (file_phrases_rules inside) c.in-AtEnd.is) ∙ c.requires.phrases in (
      omega (arith, d),
      (c.requires.entries, back_kept (phrase_rules inside pair.arose) (phrase_rules inside pair.did_not) r),
    )

pub file_statement::emit_success-emit_phrase-requires-in-InvalidKey :
    goal.file_statement::emit_success-emit_phrase-requires-in-InvalidKey
file_statement::emit_success-emit_phrase-requires-in-InvalidKey t c =
    let inside = statement_rules (scope_in c.args.emitter.now.declarations.now) all_permitted in
    let pair = c.in-InvalidKey.pair in
    let d = rw c.in-InvalidKey.is at c.decreases in
    let r : phrases_rules inside pair ≡ [] =
    sym (ap (file_phrases_rules inside) c.in-InvalidKey.is) ∙ c.requires.phrases in (
      omega (arith, d),
      (c.requires.entries, back_kept (phrase_rules inside pair.arose) (phrase_rules inside pair.did_not) r),
    )

pub file_statement::emit_success-returns-in-Absent : goal.file_statement::emit_success-returns-in-Absent
file_statement::emit_success-returns-in-Absent t c =
    let scope = scope_in c.args.emitter.now.declarations.now in
    case_without (success_fragment scope (statement_fragment scope)) c.args.phrases.now file_phrases.Absent
    c.args.code.now c.in-Absent.is refl

pub file_statement::emit_success-returns-in-AtEnd : goal.file_statement::emit_success-returns-in-AtEnd
file_statement::emit_success-returns-in-AtEnd t c =
    let scope = scope_in c.args.emitter.now.declarations.now in
    case_so c.emit_phrase.result (success_fragment scope (statement_fragment scope)) c.args.phrases.now
    (file_phrases.AtEnd c.in-AtEnd.pair) c.args.code.now c.emit_phrase.new.code c.in-AtEnd.is c.emit_phrase.ensures

pub file_statement::emit_success-returns-in-InvalidKey : goal.file_statement::emit_success-returns-in-InvalidKey
file_statement::emit_success-returns-in-InvalidKey t c =
    let scope = scope_in c.args.emitter.now.declarations.now in
    case_so c.emit_phrase-in-InvalidKey.result (success_fragment scope (statement_fragment scope)) c.args.phrases.now
    (file_phrases.InvalidKey c.in-InvalidKey.pair) c.args.code.now c.emit_phrase-in-InvalidKey.new.code
    c.in-InvalidKey.is c.emit_phrase-in-InvalidKey.ensures

pub file_statement::emit_failure-emit_class_phrase-requires :
    goal.file_statement::emit_failure-emit_class_phrase-requires
file_statement::emit_failure-emit_class_phrase-requires t c =
    let inside = statement_rules (scope_in c.args.emitter.now.declarations.now) all_permitted in
    let pair = c.in-AtEnd.pair in
    let d = rw c.in-AtEnd.is at c.decreases in
    let r : phrases_rules inside pair ≡ [] =
    sym (ap (file_phrases_rules inside) c.in-AtEnd.is) ∙ c.requires.phrases in (
      omega (arith, d),
      (c.requires.entries, front_kept (phrase_rules inside pair.arose) (phrase_rules inside pair.did_not) r),
    )

pub file_statement::emit_failure-emit_class_phrase-requires-in-InvalidKey :
    goal.file_statement::emit_failure-emit_class_phrase-requires-in-InvalidKey
file_statement::emit_failure-emit_class_phrase-requires-in-InvalidKey t c =
    let inside = statement_rules (scope_in c.args.emitter.now.declarations.now) all_permitted in
    let pair = c.in-InvalidKey.pair in
    let d = rw c.in-InvalidKey.is at c.decreases in
    let r : phrases_rules inside pair ≡ [] =
    sym (ap (file_phrases_rules inside) c.in-InvalidKey.is) ∙ c.requires.phrases in (
      omega (arith, d),
      (c.requires.entries, front_kept (phrase_rules inside pair.arose) (phrase_rules inside pair.did_not) r),
    )

pub file_statement::emit_failure-returns-in-Absent : goal.file_statement::emit_failure-returns-in-Absent
file_statement::emit_failure-returns-in-Absent t c =
    let scope = scope_in c.args.emitter.now.declarations.now in
    let status = (file_in scope.items c.args.file.now).places.status in
    case_so c.emit_unheard.result (failure_fragment scope (statement_fragment scope) status) c.args.phrases.now
    file_phrases.Absent c.args.code.now c.emit_unheard.new.code c.in-Absent.is
    c.emit_unheard.ensures

pub file_statement::emit_failure-returns-in-AtEnd : goal.file_statement::emit_failure-returns-in-AtEnd
file_statement::emit_failure-returns-in-AtEnd t c =
    let scope = scope_in c.args.emitter.now.declarations.now in
    let status = (file_in scope.items c.args.file.now).places.status in
    case_so c.emit_class_phrase.result (failure_fragment scope (statement_fragment scope) status) c.args.phrases.now
    (file_phrases.AtEnd c.in-AtEnd.pair) c.args.code.now c.emit_class_phrase.new.code c.in-AtEnd.is
    c.emit_class_phrase.ensures

pub file_statement::emit_failure-returns-in-InvalidKey : goal.file_statement::emit_failure-returns-in-InvalidKey
file_statement::emit_failure-returns-in-InvalidKey t c =
    let scope = scope_in c.args.emitter.now.declarations.now in
    let status = (file_in scope.items c.args.file.now).places.status in
    case_so c.emit_class_phrase-in-InvalidKey.result (failure_fragment scope (statement_fragment scope) status)
    c.args.phrases.now
    (file_phrases.InvalidKey c.in-InvalidKey.pair) c.args.code.now c.emit_class_phrase-in-InvalidKey.new.code
    c.in-InvalidKey.is
    c.emit_class_phrase-in-InvalidKey.ensures

pub file_statement::emit_class_phrase-emit_phrase_taken-requires :
    goal.file_statement::emit_class_phrase-emit_phrase_taken-requires
file_statement::emit_class_phrase-emit_phrase_taken-requires t c =
    (omega (arith, c.decreases), (c.requires.entries, c.requires.rules))

pub file_statement::emit_class_phrase-emit_meeting-requires :
    goal.file_statement::emit_class_phrase-emit_meeting-requires
file_statement::emit_class_phrase-emit_meeting-requires t c =
    let scope = scope_in c.args.emitter.now.declarations.now in
    let status = (file_in scope.items c.args.file.now).places.status in
    let way = ends_within (taken_fragment scope (statement_fragment scope) status c.args.arose.now)
    (unheard_fragment status) c.emit_test.new.code c.emit_branch.new.code c.emit_phrase_taken.new.code
    c.emit_jump.new.code c.emit_unheard.new.code c.in_ok-branch.branch c.in_ok-other.other
    c.in_ok-branch.ensures.code c.in_ok-branch.ensures.address c.in_ok-emit_phrase_taken.ensures
    c.in_ok-other.ensures.code c.in_ok-other.ensures.other c.in_ok-emit_unheard.ensures in
    record { branch = way.branch; jump = way.jump; other = way.other }

pub file_statement::emit_class_phrase-returns : goal.file_statement::emit_class_phrase-returns
file_statement::emit_class_phrase-returns t c =
    let scope = scope_in c.args.emitter.now.declarations.now in
    let status = (file_in scope.items c.args.file.now).places.status in
    head_met c.emit_meeting.result (test_fragment c.args.class)
    (taken_fragment scope (statement_fragment scope) status c.args.arose.now) (unheard_fragment status)
    c.args.code.now c.emit_test.new.code c.emit_branch.new.code c.emit_phrase_taken.new.code c.emit_jump.new.code
    c.emit_unheard.new.code c.emit_meeting.new.code c.in_ok-branch.branch c.in_ok-other.other
    c.in_ok-emit_test.ensures c.in_ok-branch.ensures.code c.in_ok-branch.ensures.address
    c.in_ok-emit_phrase_taken.ensures c.in_ok-other.ensures.code c.in_ok-other.ensures.other
    c.in_ok-emit_unheard.ensures c.emit_meeting.ensures

pub file_statement::emit_phrase_taken-emit_statements-requires :
    goal.file_statement::emit_phrase_taken-emit_statements-requires
file_statement::emit_phrase_taken-emit_statements-requires t c =
    let scope = scope_in c.args.emitter.now.declarations.now in
    let e : c.args.phrase.now ≡ Some c.as_slice.result.now =
    c.in-Some.is ∙ ap (λ (l : List Statement). Some l) (sym c.as_slice.ensures) in
    let d = rw e at c.decreases in (
      omega (arith, d),
      (c.requires.entries, sym (ap (phrase_rules (statement_rules scope all_permitted)) e) ∙ c.requires.rules),
    )

pub file_statement::emit_phrase_taken-returns-in-None : goal.file_statement::emit_phrase_taken-returns-in-None
file_statement::emit_phrase_taken-returns-in-None t c =
    let scope = scope_in c.args.emitter.now.declarations.now in
    let status = (file_in scope.items c.args.file.now).places.status in
    case_so c.emit_unheard.result (taken_fragment scope (statement_fragment scope) status) c.args.phrase.now None
    c.args.code.now c.emit_unheard.new.code c.in-None.is c.emit_unheard.ensures

pub file_statement::emit_phrase_taken-returns-in-Some : goal.file_statement::emit_phrase_taken-returns-in-Some
file_statement::emit_phrase_taken-returns-in-Some t c =
    let scope = scope_in c.args.emitter.now.declarations.now in
    let status = (file_in scope.items c.args.file.now).places.status in
    case_so c.emit_statements.result (taken_fragment scope (statement_fragment scope) status) c.args.phrase.now
    (Some c.as_slice.result.now) c.args.code.now c.emit_statements.new.code
    (c.in-Some.is ∙ ap (λ (l : List Statement). Some l) (sym c.as_slice.ensures)) c.emit_statements.ensures

pub string_statement::emit_stringing-emit_phrases-requires : goal.string_statement::emit_stringing-emit_phrases-requires
string_statement::emit_stringing-emit_phrases-requires t c =
    (omega (arith, c.decreases), (c.requires.entries, (c.requires.arose, c.requires.did_not)))

pub string_statement::emit_stringing-returns : goal.string_statement::emit_stringing-returns
string_statement::emit_stringing-returns t c =
    let scope = scope_in c.args.emitter.now.declarations.now in
    let one = c.args.one.now in
    let ticked = c.emit_tick.new.code in
    three_so c.emit_phrases.result (tick_fragment c.args.line)
    (string_fragment scope.items one.sendings one.receiver one.pointer)
    (phrases_fragment scope (statement_fragment scope) one.phrases) c.args.code.now ticked c.emit_string.new.code
    c.emit_phrases.new.code c.in_ok-emit_tick.ensures
    (c.in_ok-emit_string.ensures ∙ ap (λ (all : List Sending).
    append ticked (string_fragment scope.items all one.receiver one.pointer ticked)) c.as_slice.ensures)
    c.emit_phrases.ensures

pub emit::emit_statement-emit_arithmetic-requires : goal.emit::emit_statement-emit_arithmetic-requires
emit::emit_statement-emit_arithmetic-requires t c =
    let scope = scope_in c.args.emitter.now.declarations.now in
    let one = c.in-Arithmetic.arithmetic in
    let inside = statement_rules scope all_permitted in
    let r : arithmetic_rules scope.items inside one ≡ [] =
    sym (ap (verb_rules scope all_permitted inside) c.in-Arithmetic.is)
    ∙ sym (layers.statement_is scope all_permitted c.args.one.now) ∙ c.requires.rules in
    let kept = phrases_kept (operation_rules scope.items one.operation) (phrase_rules inside one.phrases.arose)
    (phrase_rules inside one.phrases.did_not) r in
    record { rules = kept.0 }

pub emit::emit_statement-emit_phrases-requires : goal.emit::emit_statement-emit_phrases-requires
emit::emit_statement-emit_phrases-requires t c =
    let scope = scope_in c.args.emitter.now.declarations.now in
    let one = c.in-Arithmetic.arithmetic in
    let inside = statement_rules scope all_permitted in
    let r : arithmetic_rules scope.items inside one ≡ [] =
    sym (ap (verb_rules scope all_permitted inside) c.in-Arithmetic.is)
    ∙ sym (layers.statement_is scope all_permitted c.args.one.now) ∙ c.requires.rules in
    let kept = phrases_kept (operation_rules scope.items one.operation) (phrase_rules inside one.phrases.arose)
    (phrase_rules inside one.phrases.did_not) r in
    (search (rules, the_lemmas), (c.requires.entries, (kept.1, kept.2)))

pub emit::emit_statement-returns-in_ok-emit_arithmetic-in-Arithmetic :
    goal.emit::emit_statement-returns-in_ok-emit_arithmetic-in-Arithmetic
emit::emit_statement-returns-in_ok-emit_arithmetic-in-Arithmetic t c =
    let scope = scope_in c.args.emitter.now.declarations.now in
    let one = c.in-Arithmetic.arithmetic in
    let ticked = c.emit_tick.new.code in
    statement_so c.emit_phrases.result scope c.args.one.now (family.Arithmetic one) c.args.code.now
    c.emit_phrases.new.code c.in-Arithmetic.is (three_so c.emit_phrases.result (tick_fragment (out-Statement
    c.args.one.now).place.line) (arithmetic_fragment scope.items (is_there one.phrases.arose) one.operation)
    (phrases_fragment scope (statement_fragment scope) one.phrases) c.args.code.now ticked c.emit_arithmetic.new.code
    c.emit_phrases.new.code c.in_ok-emit_tick-in-Arithmetic.ensures (c.in_ok-emit_arithmetic-in-Arithmetic.ensures ∙ ap
    (λ keep. append ticked (arithmetic_fragment scope.items keep one.operation ticked)) (c.is_some-keep.ensures ∙
    same_there one.phrases.arose)) c.emit_phrases.ensures)

pub times::emit_times-emit_turn-requires : goal.times::emit_times-emit_turn-requires
times::emit_times-emit_turn-requires t c =
    (omega (arith, c.decreases), (c.requires.entries, c.requires.rules))

pub times::emit_times-returns : goal.times::emit_times-returns
times::emit_times-returns t c =
    let scope = scope_in c.args.emitter.now.declarations.now in
    let turn = turn_fragment scope (statement_fragment scope) c.args.line c.args.one.now in
    let begun = c.emit_loop_begin.new.code in
    let new = c.emit_turn_end.new.code in
    times_so c.emit_turn_end.result turn c.args.count c.in_ok-begin.begin c.args.code.now begun new (omega arith)
    c.in_ok-begin.ensures.code c.in_ok-begin.ensures.begin
    (on_ok c.emit_turn_end.result c.emit_turn_end.ensures
    (counted_is turn c.in_ok-begin.begin c.len-to.result begun c.emit_turn.new.code new c.len-to.ensures
    c.in_ok-emit_turn.ensures))

pub times::emit_counted-emit_turn-requires : goal.times::emit_counted-emit_turn-requires
times::emit_counted-emit_turn-requires t c =
    (omega (arith, c.decreases), (c.requires.entries, c.requires.rules))

pub times::emit_counted-emit_meeting-requires : goal.times::emit_counted-emit_meeting-requires
times::emit_counted-emit_meeting-requires t c =
    let scope = scope_in c.args.emitter.now.declarations.now in
    let turn = turn_fragment scope (statement_fragment scope) c.args.line c.args.one.now in
    let branched = c.emit_branch.new.code in
    let middle = c.emit_jump.new.code in
    let made =
    counted_is turn c.in_ok-begin.begin c.len-to.result branched c.emit_turn.new.code c.emit_turn_end.new.code
    c.len-to.ensures c.in_ok-emit_turn.ensures c.in_ok-emit_turn_end.ensures in
    let way = ends_within (counted_turn c.in_ok-begin.begin turn) nothing_fragment c.emit_count_begin.new.code
    branched c.emit_turn_end.new.code middle middle c.in_ok-branch.branch c.in_ok-other.other
    c.in_ok-branch.ensures.code c.in_ok-branch.ensures.address made
    c.in_ok-other.ensures.code c.in_ok-other.ensures.other (sym (joined_nothing middle)) in
    record { branch = way.branch; jump = way.jump; other = way.other }

pub times::emit_counted-returns : goal.times::emit_counted-returns
times::emit_counted-returns t c =
    let scope = scope_in c.args.emitter.now.declarations.now in
    let found = c.emit_taking.new.code in
    let begin = length found.instructions in
    let turn = turn_fragment scope (statement_fragment scope) c.args.line c.args.one.now in
    on_ok c.emit_meeting.result (and_met c.emit_meeting.result count_begin (counted_turn begin turn) found
    c.emit_count_begin.new.code c.emit_branch.new.code c.emit_turn_end.new.code c.emit_jump.new.code
    c.emit_meeting.new.code c.in_ok-branch.branch c.in_ok-other.other c.in_ok-begin.ensures.code
    c.in_ok-branch.ensures.code c.in_ok-branch.ensures.address (counted_from turn c.in_ok-begin.begin begin
    c.len-to.result c.emit_branch.new.code c.emit_turn.new.code c.emit_turn_end.new.code c.in_ok-begin.ensures.begin
    c.len-to.ensures c.in_ok-emit_turn.ensures c.in_ok-emit_turn_end.ensures) c.in_ok-other.ensures.code
    c.in_ok-other.ensures.other c.emit_meeting.ensures) (then_piece (take_fragment scope.items i.Push c.args.item.now)
    (counted_fragment turn) c.args.code.now found c.emit_meeting.new.code c.in_ok-emit_taking.ensures)

pub until::emit_until_before-emit_turn-requires : goal.until::emit_until_before-emit_turn-requires
until::emit_until_before-emit_turn-requires t c =
    (omega (arith, c.decreases), (c.requires.entries, c.requires.rules))

pub until::emit_until_before-emit_vary_on-requires : goal.until::emit_until_before-emit_vary_on-requires
until::emit_until_before-emit_vary_on-requires t c =
    let scope = scope_in c.args.emitter.now.declarations.now in
    record {
      rules = front_kept (varying_rules scope.items c.args.one.now.varying)
          (condition_rules scope.items c.args.one.now.condition)
          c.requires.turns;
    }

pub until::emit_until_before-emit_condition-requires-2-clause-rules :
    goal.until::emit_until_before-emit_condition-requires-2-clause-rules
until::emit_until_before-emit_condition-requires-2-clause-rules t c =
    let scope = scope_in c.args.emitter.now.declarations.now in
    back_kept (varying_rules scope.items c.args.one.now.varying) (condition_rules scope.items c.args.one.now.condition)
    c.requires.turns

pub until::emit_until_before-emit_meeting-requires : goal.until::emit_until_before-emit_meeting-requires
until::emit_until_before-emit_meeting-requires t c =
    let scope = scope_in c.args.emitter.now.declarations.now in
    let test = condition_fragment scope.items c.args.one.now.condition in
    let turn = turn_fragment scope (statement_fragment scope) c.args.line c.args.performed.now in
    let repeated = turn_repeats turn (vary_on_fragment scope.items c.args.one.now.varying) test c.len-begin.result
    c.emit_jump.new.code c.emit_turn.new.code c.emit_vary_on.new.code c.emit_condition-2.new.code
    c.emit_way_back.new.code c.len-begin.ensures c.in_ok-emit_turn.ensures c.in_ok-emit_vary_on.ensures
    c.in_ok-emit_condition-2.ensures c.in_ok-emit_way_back.ensures in
    let way = ends_within nothing_fragment (repetition_fragment turn (sequence (vary_on_fragment scope.items
    c.args.one.now.varying) test)) c.emit_condition.new.code c.emit_branch.new.code c.emit_branch.new.code
    c.emit_jump.new.code c.emit_way_back.new.code c.in_ok-branch.branch c.in_ok-other.other c.in_ok-branch.ensures.code
    c.in_ok-branch.ensures.address (sym (joined_nothing c.emit_branch.new.code)) c.in_ok-other.ensures.code
    c.in_ok-other.ensures.other repeated in
    record { branch = way.branch; jump = way.jump; other = way.other }

pub until::emit_until_before-returns : goal.until::emit_until_before-returns
until::emit_until_before-returns t c =
    let scope = scope_in c.args.emitter.now.declarations.now in
    let test = condition_fragment scope.items c.args.one.now.condition in
    let turn = turn_fragment scope (statement_fragment scope) c.args.line c.args.performed.now in
    let repeated = turn_repeats turn (vary_on_fragment scope.items c.args.one.now.varying) test c.len-begin.result
    c.emit_jump.new.code c.emit_turn.new.code c.emit_vary_on.new.code c.emit_condition-2.new.code
    c.emit_way_back.new.code c.len-begin.ensures c.in_ok-emit_turn.ensures c.in_ok-emit_vary_on.ensures
    c.in_ok-emit_condition-2.ensures c.in_ok-emit_way_back.ensures in
    or_met c.emit_meeting.result test
    (repetition_fragment turn (sequence (vary_on_fragment scope.items c.args.one.now.varying) test)) c.args.code.now
    c.emit_condition.new.code c.emit_branch.new.code c.emit_jump.new.code c.emit_way_back.new.code
    c.emit_meeting.new.code c.in_ok-branch.branch c.in_ok-other.other c.in_ok-emit_condition.ensures
    c.in_ok-branch.ensures.code c.in_ok-branch.ensures.address c.in_ok-other.ensures.code
    c.in_ok-other.ensures.other repeated c.emit_meeting.ensures
