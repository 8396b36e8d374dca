-- Rule 54: no paragraph performs itself, directly or through others (own choice; COBOL-85 leaves open what recursion does).
use Rattle.std.specs.Prelude.{◌≡◌, ℕ, ◌+◌, Bool, true, map, List, [], ◌∷◌, ◌++◌, length, slice_get, Option, Some, None}
use Rattle.lexical.specs.declared.place.Place.{Place}
use Rattle.perform_graph.specs.declared.performed.PerformedRange.{PerformedRange}
use Rattle.perform_graph.specs.Order.{IsIn, AreRanks, PerformOneAnother}
use Rattle.source_tree.specs.declared.conditional_statement.ConditionalStatement.{ConditionalStatement}
use Rattle.source_tree.specs.declared.conditional_statement.ConditionalStatement.TheVariants as branch
use Rattle.source_tree.specs.declared.evaluate_statement.Selected.{Selected}
use Rattle.source_tree.specs.declared.evaluate_statement.Evaluate.{Evaluate}
use Rattle.source_tree.specs.declared.phrases.Phrases.{Phrases}
use Rattle.source_tree.specs.declared.phrases.FilePhrases.{FilePhrases}
use Rattle.source_tree.specs.declared.phrases.FilePhrases.TheVariants.{Absent, AtEnd, InvalidKey}
use Rattle.source_tree.specs.declared.perform_statement.Performed.{Performed}
use Rattle.source_tree.specs.declared.perform_statement.Performed.TheVariants.{Procedures, Statements}
use Rattle.source_tree.specs.declared.statement.Verb.{Verb}
use Rattle.source_tree.specs.declared.statement.Verb.TheVariants as verb
use Rattle.source_tree.specs.declared.statement.Statement.{Statement}
use Rattle.source_tree.specs.declared.statement.Statement.TheOpen.{Statement-F}
use Rattle.source_tree.specs.declared.statement.Statement.TheFolds.{fold-Statement}
use Rattle.source_tree.specs.declared.program.Sentence.{Sentence}
use Rattle.source_tree.specs.declared.program.Paragraph.{Paragraph}
use Rattle.source_tree.specs.declared.program.Program.{Program}
use Rattle.source_tree.specs.Procedures.{Range, Procedure, procedures_of, range_of}
use Rattle.source_tree.specs.Setting.{paragraphs}
use Rattle.source_tree.specs.Filing.{phrases_of}

-- a range that a PERFORM performs, and where its first procedure is named
pub record Performance : Type 0 where
  pub place : Place
  pub range : Range

-- those of each
abbrev pub each_performs : {A : Type 0} → (A → List Performance) → List A → List Performance
each_performs performs [] = []
each_performs performs (one ∷ more) = performs one ++ each_performs performs more

abbrev pub phrase_performs : {S : Type 0} → (S → List Performance) → Option (List S) → List Performance
phrase_performs inside None = []
phrase_performs inside (Some statements) = each_performs inside statements

abbrev pub phrases_performs : {S : Type 0} → (S → List Performance) → Phrases S → List Performance
phrases_performs inside phrases = phrase_performs inside phrases.arose ++ phrase_performs inside phrases.did_not

abbrev pub file_phrases_performs : {S : Type 0} → (S → List Performance) → FilePhrases S → List Performance
file_phrases_performs inside Absent = []
file_phrases_performs inside (AtEnd phrases) = phrases_performs inside phrases
file_phrases_performs inside (InvalidKey phrases) = phrases_performs inside phrases

abbrev pub range_performs : Place → Option Range → List Performance
range_performs place None = []
range_performs place (Some range) = record { place = place; range = range } ∷ []

-- What is performed; `inside` has what the statements in it perform.
abbrev pub performed_performs : List Procedure → {S : Type 0} → (S → List Performance) → Performed S → List Performance
performed_performs procedures inside (Procedures first last) = range_performs first.place (range_of procedures first last)
performed_performs procedures inside (Statements statements) = each_performs inside statements

abbrev pub selected_performs : {S : Type 0} → (S → List Performance) → Selected S → List Performance
selected_performs inside one = each_performs inside one.statements

abbrev pub evaluate_performs : {S : Type 0} → (S → List Performance) → Evaluate S → List Performance
evaluate_performs inside one = each_performs (selected_performs inside) one.selected ++ phrase_performs inside one.other

abbrev pub branching_performs : {S : Type 0} → (S → List Performance) → ConditionalStatement S → List Performance
branching_performs inside (branch.If condition statements otherwise) = each_performs inside statements ++ phrase_performs inside otherwise
branching_performs inside (branch.Evaluate one) = evaluate_performs inside one

-- a statement, by its family
abbrev pub verb_performs : List Procedure → {S : Type 0} → (S → List Performance) → Verb S → List Performance
verb_performs procedures inside (verb.DataStatement one) = []
verb_performs procedures inside (verb.Arithmetic one) = phrases_performs inside one.phrases
verb_performs procedures inside (verb.ConditionalStatement one) = branching_performs inside one
verb_performs procedures inside (verb.PerformStatement one) = performed_performs procedures inside one.performed
verb_performs procedures inside (verb.TextStatement one) = []
verb_performs procedures inside (verb.StringStatement one) = phrases_performs inside one.phrases
verb_performs procedures inside (verb.FileStatement one) = file_phrases_performs inside (phrases_of one)
verb_performs procedures inside (verb.ControlStatement one) = []

abbrev pub performs_layer : List Procedure → Statement-F (List Performance) → List Performance
performs_layer procedures one = verb_performs procedures (λ performs. performs) one.verb

-- what the PERFORMs in a statement perform, itself among them
unfoldable pub statement_performs : List Procedure → Statement → List Performance
statement_performs procedures = fold-Statement (List Performance) (performs_layer procedures)

abbrev pub sentence_performs : List Procedure → Sentence → List Performance
sentence_performs procedures one = each_performs (statement_performs procedures) one.statements

abbrev pub paragraph_performs : List Procedure → Paragraph → List Performance
paragraph_performs procedures one = each_performs (sentence_performs procedures) one.sentences

-- what a PERFORM in the paragraph of this number performs
abbrev pub performed_in : ℕ → Performance → PerformedRange
performed_in number one = record { performer = number; first = one.range.first; last = one.range.last }

-- with where it is named
abbrev pub by_paragraph : ℕ → Performance → Place × PerformedRange
by_paragraph number one = (one.place, performed_in number one)

-- those of paragraphs of which the first has this number
abbrev pub performs_from : List Procedure → ℕ → List Paragraph → List (Place × PerformedRange)
performs_from procedures number [] = []
performs_from procedures number (one ∷ more) =
    map (by_paragraph number) (paragraph_performs procedures one) ++ performs_from procedures (number + 1) more

-- all that a program's PERFORMs perform, in the order of the text, and where that is named
abbrev pub performs : Program → List (Place × PerformedRange)
performs program = performs_from (procedures_of program.sections) 0 (paragraphs program)

abbrev pub performed_by_program : Program → List PerformedRange
performed_by_program program = map (λ one. one.1) (performs program)

-- Paragraphs have ranks that decrease along each PERFORM: none leads back.
abbrev pub HasOrder : Program → Type 0
HasOrder program = (heights : List ℕ) × AreRanks (length (paragraphs program)) (performed_by_program program) heights

-- A PERFORM that is named at this place performs one of some paragraphs of which each performs one of them, and stands in one of them.
pub record IsRecursivePerform (program : Program) (place : Place) : Type 0 where
  pub among : ℕ → Bool
  pub ring : PerformOneAnother among (performed_by_program program)
  pub at : ℕ
  pub one : PerformedRange
  pub stands : slice_get (performs program) at ≡ Some (place, one)
  pub performer : among one.performer ≡ true
  pub other : ℕ
  pub within : IsIn one other
  pub marked : among other ≡ true
