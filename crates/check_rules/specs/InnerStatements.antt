-- The statements in a statement, as lists.
use Rattle.std.specs.Prelude.{List, []}
use Rattle.source_tree.specs.declared.conditional_statement.ConditionalStatement.{ConditionalStatement}
use Rattle.source_tree.specs.declared.conditional_statement.ConditionalStatement.TheVariants as branch
use Rattle.source_tree.specs.declared.evaluate_statement.Selected.{Selected}
use Rattle.source_tree.specs.declared.evaluate_statement.Subject.{Subject}
use Rattle.source_tree.specs.declared.perform_statement.Performed.{Performed}
use Rattle.source_tree.specs.declared.perform_statement.Performed.TheVariants.{Procedures, Statements}
use Rattle.source_tree.specs.declared.phrases.FilePhrases.{FilePhrases}
use Rattle.source_tree.specs.declared.phrases.FilePhrases.TheVariants.{Absent, AtEnd, InvalidKey}
use Rattle.source_tree.specs.declared.phrases.Phrases.{Phrases}
use Rattle.source_tree.specs.declared.statement.Verb.{Verb}
use Rattle.source_tree.specs.declared.statement.Verb.TheVariants as verb
use Rattle.source_tree.specs.Filing.{phrases_of}
use Rattle.source_tree.specs.StatementCount.{in_phrase}
use Rattle.check_rules.specs.declared.inner_statements.InnerStatements.{InnerStatements}

-- those after the WHENs of an EVALUATE, with its subjects, and then two lists
pub record InnerLists (S : Type 0) : Type 0 where
  pub subjects : List Subject
  pub selected : List (Selected S)
  pub first : List S
  pub second : List S

abbrev pub two_lists : {S : Type 0} → List S → List S → InnerLists S
two_lists first second = record { subjects = []; selected = []; first = first; second = second }

abbrev pub phrases_lists : {S : Type 0} → Phrases S → InnerLists S
phrases_lists pair = two_lists (in_phrase pair.arose) (in_phrase pair.did_not)

abbrev pub file_phrases_lists : {S : Type 0} → FilePhrases S → InnerLists S
file_phrases_lists Absent = two_lists [] []
file_phrases_lists (AtEnd pair) = phrases_lists pair
file_phrases_lists (InvalidKey pair) = phrases_lists pair

abbrev pub performed_lists : {S : Type 0} → Performed S → InnerLists S
performed_lists (Procedures first last) = two_lists [] []
performed_lists (Statements statements) = two_lists statements []

abbrev pub branching_lists : {S : Type 0} → ConditionalStatement S → InnerLists S
branching_lists (branch.If condition statements otherwise) = two_lists statements (in_phrase otherwise)
branching_lists (branch.Evaluate one) =
    record { subjects = one.subjects; selected = one.selected; first = []; second = in_phrase one.other }

-- by the family of the statement
abbrev pub inner_lists : {S : Type 0} → Verb S → InnerLists S
inner_lists (verb.DataStatement one) = two_lists [] []
inner_lists (verb.Arithmetic one) = phrases_lists one.phrases
inner_lists (verb.ConditionalStatement one) = branching_lists one
inner_lists (verb.PerformStatement one) = performed_lists one.performed
inner_lists (verb.TextStatement one) = two_lists [] []
inner_lists (verb.StringStatement one) = phrases_lists one.phrases
inner_lists (verb.FileStatement one) = file_phrases_lists (phrases_of one)
inner_lists (verb.ControlStatement one) = two_lists [] []

-- the lists that the code has
abbrev pub lists_in : {S : Type 0} → InnerStatements S → InnerLists S
lists_in all = record {
  subjects = all.subjects.now;
  selected = all.selected.now;
  first = all.first.now;
  second = all.second.now;
}
