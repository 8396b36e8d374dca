-- A statement by its verb: one line a verb.
use Rattle.std.proofs.Common.{◌≡◌, ℕ, true, false, List, length, Option, None, Some, sym, ap, ◌∙◌, subst, arith}
use Rattle.std.specs.Prelude.{Ok, is_some}
use Rattle.tokens.specs.declared.token.Token.{Token}
use Rattle.source_tree.specs.declared.data_statement.DataStatement.TheVariants.{Move, Initialize, Set}
use Rattle.source_tree.specs.declared.text_statement.TextStatement.TheVariants as text
use Rattle.source_tree.specs.declared.conditional_statement.ConditionalStatement.TheVariants.{If, Evaluate}
use Rattle.source_tree.specs.declared.control_statement.ControlStatement.TheVariants as ending
use Rattle.source_tree.specs.declared.statement.Verb.{Verb}
use Rattle.source_tree.specs.declared.statement.Verb.TheVariants as verb
use Rattle.source_tree.specs.declared.statement.Statement.{Statement, out-Statement, out-roll-Statement}
use Rattle.source_tree.specs.declared.statement.Statement.{roll-out-Statement}
use Rattle.grammar.specs.declared.fault.Halt.{Halt}
use Rattle.grammar.specs.Parts.{Part}
use Rattle.grammar.specs.Reading as read
use Rattle.grammar.specs.Reading.{Parser}
use Rattle.grammar.proofs.Outcomes.{Answers, Reached, step, unstep, value, last}
use Rattle.grammar.proofs.Lists.{Sound, Complete, Shrinks, Starts}
use Rattle.grammar.proofs.Parts.{here_sound, here_complete}
use Rattle.expressions.specs.Expressions.{expression, expression_reader}
use Rattle.conditions.specs.Conditions.{condition, condition_reader}
use Rattle.conditions.specs.Evaluate.{subject, subject_reader, object, object_reader}
use Rattle.statements.specs.declared.verb.VerbWord.{VerbWord}
use Rattle.statements.specs.declared.verb.VerbWord.TheVariants as v
use Rattle.statements.specs.Verbs.{verb_at, begins_statement}
use Rattle.statements.specs.Spelling as g
use Rattle.statements.specs.Reading as r
use Rattle.statements.proofs.Verbs.Accepting.{accepting_shrinks, accepting_stands, accepting_complete, accepting_sound}
use Rattle.statements.proofs.Verbs.Arithmetic.{verb_word, arithmetic_shrinks, arithmetic_stands, arithmetic_complete}
use Rattle.statements.proofs.Verbs.Arithmetic.{arithmetic_sound}
use Rattle.statements.proofs.Verbs.Branching.{branching_shrinks, branching_stands, branching_complete, branching_sound}
use Rattle.statements.proofs.Verbs.Continuing.{continuing_shrinks, continuing_stands, continuing_complete}
use Rattle.statements.proofs.Verbs.Continuing.{continuing_sound}
use Rattle.statements.proofs.Verbs.Display.{display_shrinks, display_stands, display_complete, display_sound}
use Rattle.statements.proofs.Verbs.Evaluate.{evaluating_shrinks, evaluating_stands, evaluating_complete}
use Rattle.statements.proofs.Verbs.Evaluate.{evaluating_sound}
use Rattle.statements.proofs.Verbs.Exiting.{exiting_shrinks, exiting_stands, exiting_complete, exiting_sound}
use Rattle.statements.proofs.Verbs.Filing.{file_verb, filing_shrinks, filing_stands, filing_complete, filing_sound}
use Rattle.statements.proofs.Verbs.Initializing.{initializing_shrinks, initializing_stands, initializing_complete}
use Rattle.statements.proofs.Verbs.Initializing.{initializing_sound}
use Rattle.statements.proofs.Verbs.Inspecting.{inspecting_shrinks, inspecting_stands, inspecting_complete}
use Rattle.statements.proofs.Verbs.Inspecting.{inspecting_sound, converting_shrinks, converting_stands}
use Rattle.statements.proofs.Verbs.Inspecting.{converting_complete}
use Rattle.statements.proofs.Verbs.Moving.{moving_shrinks, moving_stands, moving_complete, moving_sound}
use Rattle.statements.proofs.StatementLists.{statements_shrink, statements_start, statements_complete}
use Rattle.statements.proofs.Verbs.Performing.{performing_shrinks, performing_stands, performing_complete}
use Rattle.statements.proofs.Verbs.Performing.{performing_sound}
use Rattle.statements.proofs.Verbs.Setting.{setting_shrinks, setting_stands, setting_complete, setting_sound}
use Rattle.statements.proofs.Verbs.StopRun.{stop_run_shrinks, stop_run_stands, stop_run_complete, stop_run_sound}
use Rattle.statements.proofs.Verbs.Stringing.{stringing_shrinks, stringing_stands, stringing_complete, stringing_sound}

-- ---- each statement takes a token, and begins with its verb

module _ (depth : ℕ) (p : Statement → Part) where
  verb_shrinks : Shrinks p → Shrinks (g.verb_line depth p)
  verb_shrinks fewer (verb.DataStatement (Move sender receivers)) i rest s = moving_shrinks sender receivers i rest s
  verb_shrinks fewer (verb.DataStatement (Initialize receivers)) i rest s = initializing_shrinks receivers i rest s
  verb_shrinks fewer (verb.DataStatement (Set conditions)) i rest s = setting_shrinks conditions i rest s
  verb_shrinks fewer (verb.Arithmetic one) i rest s =
      arithmetic_shrinks depth (g.statements p) (statements_shrink p fewer) one i rest s
  verb_shrinks fewer (verb.ConditionalStatement (If asked done otherwise)) i rest s =
      branching_shrinks (g.statements p) depth (statements_shrink p fewer) asked done otherwise i rest s
  verb_shrinks fewer (verb.ConditionalStatement (Evaluate one)) i rest s =
      evaluating_shrinks (g.statements p) depth (statements_shrink p fewer) one i rest s
  verb_shrinks fewer (verb.PerformStatement one) i rest s =
      performing_shrinks (g.statements p) depth (statements_shrink p fewer) one i rest s
  verb_shrinks fewer (verb.TextStatement (text.Display operands advancing)) i rest s =
      display_shrinks operands advancing i rest s
  verb_shrinks fewer (verb.TextStatement (text.Accept receiver)) i rest s = accepting_shrinks receiver true i rest s
  verb_shrinks fewer (verb.TextStatement (text.AcceptDate receiver)) i rest s =
      accepting_shrinks receiver false i rest s
  verb_shrinks fewer (verb.TextStatement (text.Inspect one)) i rest s = inspecting_shrinks one i rest s
  verb_shrinks fewer (verb.TextStatement (text.Convert one)) i rest s = converting_shrinks one i rest s
  verb_shrinks fewer (verb.StringStatement one) i rest s =
      stringing_shrinks (g.statements p) (statements_shrink p fewer) one i rest s
  verb_shrinks fewer (verb.FileStatement one) i rest s =
      filing_shrinks (g.statements p) (statements_shrink p fewer) one i rest s
  verb_shrinks fewer (verb.ControlStatement ending.StopRun) i rest s = stop_run_shrinks i rest s
  verb_shrinks fewer (verb.ControlStatement ending.Continue) i rest s = continuing_shrinks i rest s
  verb_shrinks fewer (verb.ControlStatement ending.Exit) i rest s = exiting_shrinks i rest s

  pub line_shrinks : Shrinks p → Shrinks (g.line depth p)
  line_shrinks fewer x i rest (i1, at, s) = let l = ap length at.0 in let a =
      verb_shrinks fewer (out-Statement x).verb i1 rest s in omega arith

  -- the verb that a line begins with
  abbrev word_of : Verb Statement → VerbWord
  word_of (verb.DataStatement (Move sender receivers)) = v.Move
  word_of (verb.DataStatement (Initialize receivers)) = v.Initialize
  word_of (verb.DataStatement (Set conditions)) = v.Set
  word_of (verb.Arithmetic one) = v.Arithmetic (verb_word one.operation)
  word_of (verb.ConditionalStatement (If asked done otherwise)) = v.If
  word_of (verb.ConditionalStatement (Evaluate one)) = v.Evaluate
  word_of (verb.PerformStatement one) = v.Perform
  word_of (verb.TextStatement (text.Display operands advancing)) = v.Display
  word_of (verb.TextStatement (text.Accept receiver)) = v.Accept
  word_of (verb.TextStatement (text.AcceptDate receiver)) = v.Accept
  word_of (verb.TextStatement (text.Inspect one)) = v.Inspect
  word_of (verb.TextStatement (text.Convert one)) = v.Inspect
  word_of (verb.StringStatement one) = v.String
  word_of (verb.FileStatement one) = v.Filing (file_verb one)
  word_of (verb.ControlStatement ending.StopRun) = v.Stop
  word_of (verb.ControlStatement ending.Continue) = v.Continue
  word_of (verb.ControlStatement ending.Exit) = v.Exit

  verb_stands : (x : Verb Statement) (i rest : List Token) → g.verb_line depth p x i rest → verb_at i ≡ Some (word_of x)
  verb_stands (verb.DataStatement (Move sender receivers)) i rest s = moving_stands sender receivers i rest s
  verb_stands (verb.DataStatement (Initialize receivers)) i rest s = initializing_stands receivers i rest s
  verb_stands (verb.DataStatement (Set conditions)) i rest s = setting_stands conditions i rest s
  verb_stands (verb.Arithmetic one) i rest s = arithmetic_stands depth (g.statements p) one i rest s
  verb_stands (verb.ConditionalStatement (If asked done otherwise)) i rest s =
      branching_stands (g.statements p) depth asked done otherwise i rest s
  verb_stands (verb.ConditionalStatement (Evaluate one)) i rest s =
      evaluating_stands (g.statements p) depth one i rest s
  verb_stands (verb.PerformStatement one) i rest s = performing_stands (g.statements p) depth one i rest s
  verb_stands (verb.TextStatement (text.Display operands advancing)) i rest s =
      display_stands operands advancing i rest s
  verb_stands (verb.TextStatement (text.Accept receiver)) i rest s = accepting_stands receiver true i rest s
  verb_stands (verb.TextStatement (text.AcceptDate receiver)) i rest s = accepting_stands receiver false i rest s
  verb_stands (verb.TextStatement (text.Inspect one)) i rest s = inspecting_stands one i rest s
  verb_stands (verb.TextStatement (text.Convert one)) i rest s = converting_stands one i rest s
  verb_stands (verb.StringStatement one) i rest s = stringing_stands (g.statements p) one i rest s
  verb_stands (verb.FileStatement one) i rest s = filing_stands (g.statements p) one i rest s
  verb_stands (verb.ControlStatement ending.StopRun) i rest s = stop_run_stands i rest s
  verb_stands (verb.ControlStatement ending.Continue) i rest s = continuing_stands i rest s
  verb_stands (verb.ControlStatement ending.Exit) i rest s = exiting_stands i rest s

  pub line_starts : Starts begins_statement (g.line depth p)
  line_starts x i rest (i1, at, s) =
      ap begins_statement at.0 ∙ ap is_some (verb_stands (out-Statement x).verb i1 rest s)

  -- ---- what is read is spelled

  module _ (nested : Parser Statement) (each : Sound p nested) where
    by_verb_sound : (o : Option VerbWord) (x : Verb Statement) (i rest : List Token)
        → r.by_verb depth nested o i ≡ Ok (x, rest) → g.verb_line depth p x i rest
    by_verb_sound None x i rest e = cc
    by_verb_sound (Some v.Accept) x i rest e = accepting_sound depth p x i rest e
    by_verb_sound (Some (v.Arithmetic one)) x i rest e = arithmetic_sound depth p nested each one x i rest e
    by_verb_sound (Some v.Continue) x i rest e = continuing_sound depth p x i rest e
    by_verb_sound (Some v.Display) x i rest e = display_sound depth p x i rest e
    by_verb_sound (Some v.Evaluate) x i rest e = evaluating_sound depth p nested each x i rest e
    by_verb_sound (Some v.Exit) x i rest e = exiting_sound depth p x i rest e
    by_verb_sound (Some (v.Filing one)) x i rest e = filing_sound depth p nested each one x i rest e
    by_verb_sound (Some v.If) x i rest e = branching_sound depth p nested each x i rest e
    by_verb_sound (Some v.Initialize) x i rest e = initializing_sound depth p x i rest e
    by_verb_sound (Some v.Inspect) x i rest e = inspecting_sound depth p x i rest e
    by_verb_sound (Some v.Move) x i rest e = moving_sound depth p x i rest e
    by_verb_sound (Some v.Perform) x i rest e = performing_sound depth p nested each x i rest e
    by_verb_sound (Some v.Set) x i rest e = setting_sound depth p x i rest e
    by_verb_sound (Some v.Stop) x i rest e = stop_run_sound depth p x i rest e
    by_verb_sound (Some v.String) x i rest e = stringing_sound depth p nested each x i rest e

    verb_sound : Sound (g.verb_line depth p) (r.verb depth nested)
    unfolding r.verb
    verb_sound x i rest e = by_verb_sound (verb_at i) x i rest e

    pub line_sound : Sound (g.line depth p) (r.line depth nested)
    unfolding r.line
    line_sound x i rest e =
        unstep (read.here i) _ e (λ place i1 is1 e1.
        unstep (r.verb depth nested i1) _ e1 (λ one i2 is2 e2.
        subst (λ y. g.line depth p y i rest) (value e2)
        (rw (out-roll-Statement (record { place = place; verb = one }))
        (i1, here_sound place i i1 is1, verb_sound one i1 rest (last is2 e2)))))

-- ---- what is spelled is read

module _ (Allowed : Halt → Type 0) (depth depth' : ℕ) (computes : Complete Allowed (expression depth')
    (expression_reader depth)) (asks : Complete Allowed (condition depth') (condition_reader depth))
    (names : Complete Allowed (subject depth') (subject_reader depth))
    (compares : Complete Allowed (object depth') (object_reader depth))
    (p : Statement → Part) (nested : Parser Statement) (each : Complete Allowed p nested) (fewer : Shrinks p)
    (begins : Starts begins_statement p) where
  by_verb_complete : (x : Verb Statement) (i rest : List Token) → g.verb_line depth' p x i rest
      → Answers Allowed (r.by_verb depth nested (Some (word_of depth' p x)) i) x rest
  by_verb_complete (verb.DataStatement (Move sender receivers)) i rest s = moving_complete sender receivers i rest s
  by_verb_complete (verb.DataStatement (Initialize receivers)) i rest s = initializing_complete receivers i rest s
  by_verb_complete (verb.DataStatement (Set conditions)) i rest s = setting_complete conditions i rest s
  by_verb_complete (verb.Arithmetic one) i rest s =
      arithmetic_complete Allowed depth depth' computes (g.statements p) (r.statements nested)
      (statements_complete Allowed p nested each fewer begins) one.operation one.phrases i rest s
  by_verb_complete (verb.ConditionalStatement (If asked done otherwise)) i rest s =
      branching_complete (g.statements p) (r.statements nested) Allowed
      (statements_complete Allowed p nested each fewer begins) depth depth' asks asked done otherwise i rest s
  by_verb_complete (verb.ConditionalStatement (Evaluate one)) i rest s =
      evaluating_complete Allowed depth depth' compares (g.statements p) (r.statements nested)
      (statements_complete Allowed p nested each fewer begins) (statements_shrink p fewer) names one i rest s
  by_verb_complete (verb.PerformStatement one) i rest s =
      performing_complete (g.statements p) Allowed depth depth' asks (r.statements nested)
      (statements_complete Allowed p nested each fewer begins) (statements_start p begins)
      one.turns one.performed i rest s
  by_verb_complete (verb.TextStatement (text.Display operands advancing)) i rest s =
      display_complete operands advancing i rest s
  by_verb_complete (verb.TextStatement (text.Accept receiver)) i rest s = accepting_complete receiver true i rest s
  by_verb_complete (verb.TextStatement (text.AcceptDate receiver)) i rest s = accepting_complete receiver false i rest s
  by_verb_complete (verb.TextStatement (text.Inspect one)) i rest s = inspecting_complete one i rest s
  by_verb_complete (verb.TextStatement (text.Convert one)) i rest s = converting_complete one i rest s
  by_verb_complete (verb.StringStatement one) i rest s =
      stringing_complete (g.statements p) (r.statements nested) Allowed
      (statements_complete Allowed p nested each fewer begins) one i rest s
  by_verb_complete (verb.FileStatement one) i rest s =
      filing_complete (g.statements p) (r.statements nested) Allowed
      (statements_complete Allowed p nested each fewer begins) one i rest s
  by_verb_complete (verb.ControlStatement ending.StopRun) i rest s = stop_run_complete i rest s
  by_verb_complete (verb.ControlStatement ending.Continue) i rest s = continuing_complete i rest s
  by_verb_complete (verb.ControlStatement ending.Exit) i rest s = exiting_complete i rest s

  verb_complete : Complete Allowed (g.verb_line depth' p) (r.verb depth nested)
  unfolding r.verb
  verb_complete x i rest s =
      subst (λ o. Answers Allowed (r.by_verb depth nested o i) x rest) (sym (verb_stands depth' p x i rest s))
      (by_verb_complete x i rest s)

  pub line_complete : Complete Allowed (g.line depth' p) (r.line depth nested)
  unfolding r.line
  line_complete x i rest (i1, at, s) =
      step (read.here i) _ (here_complete (out-Statement x).place i i1 at)
      (step (r.verb depth nested i1) _ (verb_complete (out-Statement x).verb i1 rest s)
      (Reached (ap (λ y. Ok (y, rest)) (roll-out-Statement x))))
