-- Rule 69 of statements: a program has at most 50,000 (own choice). Each counts, also one that stands in another.
use Rattle.std.specs.Prelude.{ℕ, List, [], ◌∷◌, ◌++◌, slice_get, Option, Some, None}
use Rattle.lexical.specs.declared.place.Place.{Place}
use Rattle.source_tree.specs.declared.conditional_statement.ConditionalStatement.{ConditionalStatement}
use Rattle.source_tree.specs.declared.conditional_statement.ConditionalStatement.TheVariants as branch
use Rattle.source_tree.specs.declared.evaluate_statement.Selected.{Selected}
use Rattle.source_tree.specs.declared.phrases.Phrases.{Phrases}
use Rattle.source_tree.specs.declared.phrases.FilePhrases.{FilePhrases}
use Rattle.source_tree.specs.declared.phrases.FilePhrases.TheVariants.{Absent, AtEnd, InvalidKey}
use Rattle.source_tree.specs.declared.perform_statement.Performed.{Performed}
use Rattle.source_tree.specs.declared.perform_statement.Performed.TheVariants.{Procedures, Statements}
use Rattle.source_tree.specs.declared.statement.Verb.{Verb}
use Rattle.source_tree.specs.declared.statement.Verb.TheVariants as verb
use Rattle.source_tree.specs.declared.statement.Statement.{Statement}
use Rattle.source_tree.specs.declared.statement.Statement.TheOpen.{Statement-F}
use Rattle.source_tree.specs.declared.statement.Statement.TheFolds.{fold-Statement}
use Rattle.source_tree.specs.declared.program.Sentence.{Sentence}
use Rattle.source_tree.specs.declared.program.Paragraph.{Paragraph}
use Rattle.source_tree.specs.declared.program.Section.{Section}
use Rattle.source_tree.specs.declared.program.Program.{Program}
use Rattle.source_tree.specs.Filing.{phrases_of}
use Rattle.source_tree.specs.Broken.{RuleBreach}

abbrev pub most_statements : ℕ
most_statements = 50000

-- ---- the statements that stand in another, in the order of the text

abbrev pub in_phrase : {S : Type 0} → Option (List S) → List S
in_phrase None = []
in_phrase (Some statements) = statements

abbrev pub in_phrases : {S : Type 0} → Phrases S → List S
in_phrases phrases = in_phrase phrases.arose ++ in_phrase phrases.did_not

abbrev pub in_file_phrases : {S : Type 0} → FilePhrases S → List S
in_file_phrases Absent = []
in_file_phrases (AtEnd phrases) = in_phrases phrases
in_file_phrases (InvalidKey phrases) = in_phrases phrases

abbrev pub in_performed : {S : Type 0} → Performed S → List S
in_performed (Procedures first last) = []
in_performed (Statements statements) = statements

-- after the WHENs of an EVALUATE
abbrev pub in_selected : {S : Type 0} → List (Selected S) → List S
in_selected [] = []
in_selected (one ∷ more) = one.statements ++ in_selected more

abbrev pub in_branching : {S : Type 0} → ConditionalStatement S → List S
in_branching (branch.If condition statements otherwise) = statements ++ in_phrase otherwise
in_branching (branch.Evaluate one) = in_selected one.selected ++ in_phrase one.other

-- by its family
abbrev pub inside : {S : Type 0} → Verb S → List S
inside (verb.DataStatement one) = []
inside (verb.Arithmetic one) = in_phrases one.phrases
inside (verb.ConditionalStatement one) = in_branching one
inside (verb.PerformStatement one) = in_performed one.performed
inside (verb.TextStatement one) = []
inside (verb.StringStatement one) = in_phrases one.phrases
inside (verb.FileStatement one) = in_file_phrases (phrases_of one)
inside (verb.ControlStatement one) = []

-- ---- where statements stand, in the order of the text

abbrev pub each_place : {A : Type 0} → (A → List Place) → List A → List Place
each_place places [] = []
each_place places (one ∷ more) = places one ++ each_place places more

abbrev pub places_layer : Statement-F (List Place) → List Place
places_layer one = one.place ∷ each_place (λ places. places) (inside one.verb)

-- of a statement and of those in it
unfoldable pub statement_places : Statement → List Place
statement_places = fold-Statement (List Place) places_layer

abbrev pub sentence_places : Sentence → List Place
sentence_places one = each_place statement_places one.statements

abbrev pub paragraph_places : Paragraph → List Place
paragraph_places one = each_place sentence_places one.sentences

abbrev pub section_places : Section → List Place
section_places one = each_place paragraph_places one.paragraphs

-- ---- 69: the first statement past the limit

abbrev pub excess_rules : Option Place → List RuleBreach
excess_rules None = []
excess_rules (Some place) = record { rule = 69; place = place } ∷ []

abbrev pub statement_count_rules : Program → List RuleBreach
statement_count_rules program = excess_rules (slice_get (each_place section_places program.sections) most_statements)
