-- The rules of a program: those that it breaks, and where. Its entries are first, then its files, the names of its procedures, its
-- statements in order, and then whether there is a procedure, and how many statements there are. Rule 54 looks at the whole
-- program, and is after these.
use Rattle.std.specs.Prelude.{Bool, true, false, not, ◌&&◌, List, [], ◌∷◌, ◌++◌, Option, Some, None}
use Rattle.lexical.specs.declared.place.Place.{Place}
use Rattle.source_tree.specs.declared.name.Name.{Name}
use Rattle.source_tree.specs.declared.data_statement.DataStatement.{DataStatement}
use Rattle.source_tree.specs.declared.data_statement.DataStatement.TheVariants.{Move, Initialize, Set}
use Rattle.source_tree.specs.declared.text_statement.TextStatement.{TextStatement}
use Rattle.source_tree.specs.declared.text_statement.TextStatement.TheVariants.{Display, Accept, AcceptDate, Inspect}
use Rattle.source_tree.specs.declared.text_statement.TextStatement.TheVariants.{Convert}
use Rattle.source_tree.specs.declared.phrases.Phrases.{Phrases}
use Rattle.source_tree.specs.declared.arithmetic.Arithmetic.{Arithmetic}
use Rattle.source_tree.specs.declared.perform_statement.Repetition.{Repetition}
use Rattle.source_tree.specs.declared.perform_statement.Repetition.TheVariants as often
use Rattle.source_tree.specs.declared.perform_statement.PerformStatement.{PerformStatement}
use Rattle.source_tree.specs.declared.perform_statement.Performed.{Performed}
use Rattle.source_tree.specs.declared.perform_statement.Performed.TheVariants.{Procedures, Statements}
use Rattle.source_tree.specs.declared.string_statement.StringStatement.{StringStatement}
use Rattle.source_tree.specs.declared.statement.Verb.{Verb}
use Rattle.source_tree.specs.declared.statement.Verb.TheVariants as verb
use Rattle.source_tree.specs.declared.statement.Statement.{Statement}
use Rattle.source_tree.specs.declared.statement.Statement.TheOpen.{Statement-F}
use Rattle.source_tree.specs.declared.statement.Statement.TheFolds.{fold-Statement}
use Rattle.source_tree.specs.declared.program.Sentence.{Sentence}
use Rattle.source_tree.specs.declared.program.Paragraph.{Paragraph}
use Rattle.source_tree.specs.declared.program.Section.{Section}
use Rattle.source_tree.specs.declared.program.Program.{Program}
use Rattle.source_tree.specs.Places.{LocatedItem}
use Rattle.source_tree.specs.Procedures.{Range, Procedure}
use Rattle.source_tree.specs.Setting.{Scope, scope}
use Rattle.source_tree.specs.Broken.{RuleBreach, where_so, each}
use Rattle.source_tree.specs.EntryRules.{entry_rules}
use Rattle.source_tree.specs.NameRules.{is_integer_kind, reference_rules}
use Rattle.source_tree.specs.PerformRules.{range_rules, procedure_name_rules}
use Rattle.source_tree.specs.MoveRules.{move_rules}
use Rattle.source_tree.specs.TextRules.{display_rules, accept_line_rules, accept_date_rules}
use Rattle.source_tree.specs.ArithmeticRules.{operation_rules}
use Rattle.source_tree.specs.ConditionRules.{condition_rules, until_rules}
use Rattle.source_tree.specs.SettingRules.{initialize_rules, set_rules}
use Rattle.source_tree.specs.StringRules.{string_rules}
use Rattle.source_tree.specs.InspectRules.{inspect_rules}
use Rattle.source_tree.specs.Converting.{convert_rules}
use Rattle.source_tree.specs.Records.{program_items}
use Rattle.source_tree.specs.FileRules.{program_file_rules}
use Rattle.source_tree.specs.FilingRules.{filing_rules}
use Rattle.source_tree.specs.Filing.{phrases_of}
use Rattle.source_tree.specs.declared.phrases.FilePhrases.{FilePhrases}
use Rattle.source_tree.specs.declared.phrases.FilePhrases.TheVariants.{Absent, AtEnd, InvalidKey}
use Rattle.source_tree.specs.EvaluateRules.{subject_rules, selected_rules}
use Rattle.source_tree.specs.StatementCount.{statement_count_rules}
use Rattle.source_tree.specs.declared.conditional_statement.ConditionalStatement.{ConditionalStatement}
use Rattle.source_tree.specs.declared.conditional_statement.ConditionalStatement.TheVariants as branch
use Rattle.source_tree.specs.declared.evaluate_statement.Evaluate.{Evaluate}

abbrev pub moving_rules : List LocatedItem → DataStatement → List RuleBreach
moving_rules items (Move sender receivers) = move_rules items sender receivers
moving_rules items (Initialize receivers) = initialize_rules items receivers
moving_rules items (Set conditions) = set_rules items conditions

abbrev pub text_rules : List LocatedItem → TextStatement → List RuleBreach
text_rules items (Display operands advancing) = display_rules items operands
text_rules items (Accept receiver) = accept_line_rules items receiver
text_rules items (AcceptDate receiver) = accept_date_rules items receiver
text_rules items (Inspect one) = inspect_rules items one
text_rules items (Convert one) = convert_rules items one

-- A phrase that is absent breaks none; `inside` has the rules of the statements in one.
abbrev pub phrase_rules : {S : Type 0} → (S → List RuleBreach) → Option (List S) → List RuleBreach
phrase_rules inside None = []
phrase_rules inside (Some statements) = each inside statements

abbrev pub phrases_rules : {S : Type 0} → (S → List RuleBreach) → Phrases S → List RuleBreach
phrases_rules inside phrases = phrase_rules inside phrases.arose ++ phrase_rules inside phrases.did_not

abbrev pub file_phrases_rules : {S : Type 0} → (S → List RuleBreach) → FilePhrases S → List RuleBreach
file_phrases_rules inside Absent = []
file_phrases_rules inside (AtEnd phrases) = phrases_rules inside phrases
file_phrases_rules inside (InvalidKey phrases) = phrases_rules inside phrases

abbrev pub arithmetic_rules : List LocatedItem → {S : Type 0} → (S → List RuleBreach) → Arithmetic S → List RuleBreach
arithmetic_rules items inside one = operation_rules items one.operation ++ phrases_rules inside one.phrases

abbrev pub stringing_rules : List LocatedItem → {S : Type 0} → (S → List RuleBreach) → StringStatement S
    → List RuleBreach
stringing_rules items inside one = string_rules items one ++ phrases_rules inside one.phrases

-- What is performed; `permits` says which ranges may be, where the PERFORM stands, and `inside` has the rules of the
-- statements in it.
abbrev pub performed_rules : List Procedure → (Range → Bool) → {S : Type 0} → (S → List RuleBreach) → Performed S
    → List RuleBreach
performed_rules procedures permits inside (Procedures first last) = range_rules permits procedures first last
performed_rules procedures permits inside (Statements statements) = each inside statements

-- an item that holds an integer
abbrev pub integer_item : Place → LocatedItem → List RuleBreach
integer_item place one = where_so (not (is_integer_kind one.item.kind)) 51 place

-- how often it is performed
abbrev pub turns_rules : List LocatedItem → Repetition → List RuleBreach
turns_rules items often.Once = []
turns_rules items (often.Times count) = []
turns_rules items (often.CountedBy one) = reference_rules items integer_item one
turns_rules items (often.Until one) = until_rules items one

abbrev pub performing_rules : Scope → (Range → Bool) → {S : Type 0} → (S → List RuleBreach) → PerformStatement S
    → List RuleBreach
performing_rules scope permits inside one =
    turns_rules scope.items one.turns ++ performed_rules scope.procedures permits inside one.performed

abbrev pub evaluate_rules : List LocatedItem → {S : Type 0} → (S → List RuleBreach) → Evaluate S → List RuleBreach
evaluate_rules items inside one =
    each (subject_rules items) one.subjects ++ each (selected_rules items inside one.subjects) one.selected
    ++ phrase_rules inside one.other

abbrev pub branching_rules : List LocatedItem → {S : Type 0} → (S → List RuleBreach) → ConditionalStatement S
    → List RuleBreach
branching_rules items inside (branch.If condition statements otherwise) =
    condition_rules items condition ++ each inside statements ++ phrase_rules inside otherwise
branching_rules items inside (branch.Evaluate one) = evaluate_rules items inside one

-- a statement, by its family
abbrev pub verb_rules : Scope → (Range → Bool) → {S : Type 0} → (S → List RuleBreach) → Verb S → List RuleBreach
verb_rules scope permits inside (verb.DataStatement one) = moving_rules scope.items one
verb_rules scope permits inside (verb.Arithmetic one) = arithmetic_rules scope.items inside one
verb_rules scope permits inside (verb.ConditionalStatement one) = branching_rules scope.items inside one
verb_rules scope permits inside (verb.PerformStatement one) = performing_rules scope permits inside one
verb_rules scope permits inside (verb.TextStatement one) = text_rules scope.items one
verb_rules scope permits inside (verb.StringStatement one) = stringing_rules scope.items inside one
verb_rules scope permits inside (verb.FileStatement one) =
    filing_rules scope.items scope.files one ++ file_phrases_rules inside (phrases_of one)
verb_rules scope permits inside (verb.ControlStatement one) = []

module _ (scope : Scope) (permits : Range → Bool) where
  abbrev pub statement_layer : Statement-F (List RuleBreach) → List RuleBreach
  statement_layer one = verb_rules scope permits (λ broken. broken) one.verb

  unfoldable pub statement_rules : Statement → List RuleBreach
  statement_rules = fold-Statement (List RuleBreach) statement_layer

  abbrev pub sentence_rules : Sentence → List RuleBreach
  sentence_rules one = each statement_rules one.statements

  abbrev pub paragraph_rules : Paragraph → List RuleBreach
  paragraph_rules one = each sentence_rules one.sentences

  abbrev pub section_rules : Section → List RuleBreach
  section_rules one = each paragraph_rules one.paragraphs

  abbrev pub sections_rules : List Section → List RuleBreach
  sections_rules sections = each section_rules sections

abbrev pub name_place : Place → Option Name → Place
name_place other None = other
name_place other (Some name) = name.place

-- where the first section's name stands
abbrev pub procedures_place : Place → List Section → Place
procedures_place other [] = other
procedures_place other (one ∷ more) = name_place other one.name

abbrev pub is_empty : List Paragraph → Bool
is_empty [] = true
is_empty (one ∷ more) = false

-- sections without any paragraph or sentence
abbrev pub are_empty : List Section → Bool
are_empty [] = true
are_empty (one ∷ more) = is_empty one.paragraphs && are_empty more

-- 56: sections without any paragraph or sentence are no procedure; 69: more statements than may be.
abbrev pub procedure_rules : Program → List RuleBreach
procedure_rules program =
    where_so (are_empty program.sections) 56 (procedures_place program.name.place program.sections)
    ++ statement_count_rules program

-- all ranges may be performed
abbrev pub all_permitted : Range → Bool
all_permitted range = true

abbrev pub program_rules : Program → List RuleBreach
program_rules program =
    entry_rules program.storage
    ++ program_file_rules (program_items program) program
    ++ procedure_name_rules program.sections
    ++ sections_rules (scope program) all_permitted program.sections
    ++ procedure_rules program
