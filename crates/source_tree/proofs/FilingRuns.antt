-- File statements are runs, whatever stands in their phrases, and two depths above the budget give the same.
use Rattle.std.proofs.Common.{ℕ, List, [], ◌∷◌, refl}
use Rattle.std.specs.Prelude.{Option, Some, None}
use Rattle.records.specs.declared.verb.Verb.{Verb}
use Rattle.records.specs.declared.verb.Verb.TheVariants as verb
use Rattle.records.specs.declared.status.Status.{Status}
use Rattle.records.specs.Connector.{Entry}
use Rattle.source_tree.specs.declared.name.Name.{Name}
use Rattle.source_tree.specs.declared.reference.Reference.{Reference}
use Rattle.source_tree.specs.declared.expression.Operand.TheVariants as operand
use Rattle.source_tree.specs.declared.phrases.FilePhrases.{FilePhrases}
use Rattle.source_tree.specs.declared.phrases.FilePhrases.TheVariants as phrases
use Rattle.source_tree.specs.declared.file_statement.Opening.{Opening}
use Rattle.source_tree.specs.declared.file_statement.FileStatement.{FileStatement}
use Rattle.source_tree.specs.declared.file_statement.FileStatement.TheVariants.{Open, Close, Read, Write, Rewrite}
use Rattle.source_tree.specs.declared.file_statement.FileStatement.TheVariants.{Delete, Start}
use Rattle.source_tree.specs.Places.{LocatedItem}
use Rattle.source_tree.specs.LookUp.{items_named, first}
use Rattle.source_tree.specs.References.{ItemPlace}
use Rattle.source_tree.specs.Moving.{move}
use Rattle.source_tree.specs.ProgramFiles.{FilePlaces, ProgramFile, entries_of, files_named}
use Rattle.source_tree.specs.FileStatements.{state_after_status, step_on, file_statement}
use Rattle.source_tree.specs.Filing.{Class, Successful, AtEnd, InvalidKey, Other, class_of, unheard_outcome}
use Rattle.source_tree.specs.Filing.{taken_phrase, by_class, by_status, read_verb, start_verb, move_record, into_item}
use Rattle.source_tree.specs.Filing.{from_item, on_file, file_with_record, statement_on, on_name, on_record, open_one}
use Rattle.source_tree.specs.Filing.{close_one, read_outcome, start, file_outcome}
use Rattle.source_tree.specs.State.{State, Outcome, Done, outcome_state, then_do}
use Rattle.source_tree.proofs.Telling.{itself, onward, noted_more}
use Rattle.source_tree.proofs.Runs.{IsRun, done_runs, then_runs, in_turn_runs, in_phrase_runs, changing_runs}
use Rattle.source_tree.proofs.Depth.{Agrees, then_agrees, in_turn_agrees, in_phrase_agrees}

-- ---- runs

unheard_runs : (item : Option ItemPlace) → IsRun (unheard_outcome item)
unheard_runs (Some place) = done_runs
unheard_runs None = record { falls = λ s. tt; grows = λ s. itself s; alike = λ k s. refl }

-- The step is one of files, connectors and storage, and not of the budget.
module _ (entries : List Entry) (file : FilePlaces) (verb : Verb) (go : Status → State → Outcome)
    (r : (status : Status) → IsRun (go status)) where
  file_statement_runs : IsRun (file_statement entries file verb go)
  file_statement_runs = record {
    falls =
        λ s. (r (step_on entries file verb s).status).falls (state_after_status file (step_on entries file verb s) s);
    grows = λ s.
        onward s (state_after_status file (step_on entries file verb s) s)
        (outcome_state (file_statement entries file verb go s))
        (noted_more file (step_on entries file verb s) s)
        ((r (step_on entries file verb s).status).grows (state_after_status file (step_on entries file verb s) s));
    alike = λ k s.
        (r (step_on entries file verb s).status).alike k (state_after_status file (step_on entries file verb s) s);
  }

on_file_runs : (found : Option ProgramFile) (go : ProgramFile → State → Outcome)
    → ((file : ProgramFile) → IsRun (go file)) → IsRun (on_file found go)
on_file_runs None go r = done_runs
on_file_runs (Some file) go r = r file

into_runs : (items : List LocatedItem) (into : Option Reference) (file : ProgramFile)
    → IsRun (into_item items into file)
into_runs items None file = done_runs
into_runs items (Some into) file = changing_runs (move_record items file into)

from_runs : (items : List LocatedItem) (to : Reference) (from : Option Reference) → IsRun (from_item items to from)
from_runs items to None = done_runs
from_runs items to (Some from) = changing_runs (move items (operand.Item from) (to ∷ []))

module _ {S : Type 0} (run : S → State → Outcome) (r : (one : S) → IsRun (run one)) where
  taken_runs : (item : Option ItemPlace) (phrase : Option (List S)) → IsRun (taken_phrase run item phrase)
  taken_runs item (Some statements) = in_turn_runs run r statements
  taken_runs item None = unheard_runs item

  by_class_runs : (item : Option ItemPlace) (phrases : FilePhrases S) (class : Class)
      → IsRun (by_class run item phrases class)
  by_class_runs item phrases.Absent Successful = done_runs
  by_class_runs item (phrases.AtEnd pair) Successful = in_phrase_runs run r pair.did_not
  by_class_runs item (phrases.InvalidKey pair) Successful = in_phrase_runs run r pair.did_not
  by_class_runs item phrases.Absent AtEnd = unheard_runs item
  by_class_runs item (phrases.AtEnd pair) AtEnd = taken_runs item pair.arose
  by_class_runs item (phrases.InvalidKey pair) AtEnd = unheard_runs item
  by_class_runs item phrases.Absent InvalidKey = unheard_runs item
  by_class_runs item (phrases.AtEnd pair) InvalidKey = unheard_runs item
  by_class_runs item (phrases.InvalidKey pair) InvalidKey = taken_runs item pair.arose
  by_class_runs item phrases.Absent Other = unheard_runs item
  by_class_runs item (phrases.AtEnd pair) Other = unheard_runs item
  by_class_runs item (phrases.InvalidKey pair) Other = unheard_runs item

  by_status_runs : (item : Option ItemPlace) (phrases : FilePhrases S) (next : State → Outcome) → IsRun next
      → (class : Class) → IsRun (by_status run item phrases next class)
  by_status_runs item phrases next n Successful =
      then_runs next (by_class run item phrases Successful) n (by_class_runs item phrases Successful)
  by_status_runs item phrases next n AtEnd = by_class_runs item phrases AtEnd
  by_status_runs item phrases next n InvalidKey = by_class_runs item phrases InvalidKey
  by_status_runs item phrases next n Other = by_class_runs item phrases Other

  module _ (items : List LocatedItem) (files : List ProgramFile) where
    statement_on_runs : (phrases : FilePhrases S) (next : State → Outcome) → IsRun next
        → (verb : Verb) (file : ProgramFile) → IsRun (statement_on items files run phrases next verb file)
    statement_on_runs phrases next n verb file =
        file_statement_runs (entries_of files) file.places verb (λ status. by_status run file.places.status phrases next
        (class_of status)) (λ status. by_status_runs file.places.status phrases next n (class_of status))

    on_name_runs : (name : Name) (go : ProgramFile → State → Outcome) → ((file : ProgramFile) → IsRun (go file))
        → IsRun (on_name items files run name go)
    on_name_runs name go g = on_file_runs (first (files_named files name)) go g

    on_record_runs : (one : Reference) (go : ProgramFile → State → Outcome) → ((file : ProgramFile) → IsRun (go file))
        → IsRun (on_record items files run one go)
    on_record_runs one go g = on_file_runs (file_with_record files (first (items_named items one.item))) go g

    changes_runs : (one : Reference) (from : Option Reference) (phrases : FilePhrases S) (verb : Verb)
        → IsRun (λ s. then_do (from_item items one from s)
        (on_record items files run one (statement_on items files run phrases Done verb)))
    changes_runs one from phrases verb =
        then_runs (from_item items one from)
        (on_record items files run one (statement_on items files run phrases Done verb)) (from_runs items one from)
        (on_record_runs one (statement_on items files run phrases Done verb)
        (statement_on_runs phrases Done done_runs verb))

    pub filing_runs : (one : FileStatement S) → IsRun (file_outcome items files run one)
    filing_runs (Open all) =
        in_turn_runs (open_one items files run) (λ (one : Opening).
        on_name_runs one.file (statement_on items files run phrases.Absent Done (verb.Open one.mode))
        (statement_on_runs phrases.Absent Done done_runs (verb.Open one.mode))) all
    filing_runs (Close all) =
        in_turn_runs (close_one items files run) (λ one. on_name_runs one (statement_on items files run phrases.Absent
        Done verb.Close) (statement_on_runs phrases.Absent Done done_runs verb.Close)) all
    filing_runs (Read file next into key phrases) =
        on_name_runs file (read_outcome items files run next into key phrases) (λ found. statement_on_runs phrases
        (into_item items into found) (into_runs items into found) (read_verb items found next key) found)
    filing_runs (Write one from phrases) = changes_runs one from phrases verb.Write
    filing_runs (Rewrite one from phrases) = changes_runs one from phrases verb.Rewrite
    filing_runs (Delete file phrases) = on_name_runs file (statement_on items files run phrases Done verb.Delete)
        (statement_on_runs phrases Done done_runs verb.Delete)
    filing_runs (Start file key phrases) = on_name_runs file (start items files run key phrases)
        (λ found. statement_on_runs phrases Done done_runs (start_verb items found key) found)

-- ---- two depths

same : (n : ℕ) (go : State → Outcome) → Agrees n go go
same n go = record { by = λ s le. refl }

on_file_agrees : (n : ℕ) (found : Option ProgramFile) (go other : ProgramFile → State → Outcome)
    → ((file : ProgramFile) → Agrees n (go file) (other file)) → Agrees n (on_file found go) (on_file found other)
on_file_agrees n None go other a = same n Done
on_file_agrees n (Some file) go other a = a file

module _ {S : Type 0} (n : ℕ) (run other : S → State → Outcome) (r : (one : S) → IsRun (run one))
    (a : (one : S) → Agrees n (run one) (other one)) where
  taken_agrees : (item : Option ItemPlace) (phrase : Option (List S))
      → Agrees n (taken_phrase run item phrase) (taken_phrase other item phrase)
  taken_agrees item (Some statements) = in_turn_agrees n run other r a statements
  taken_agrees item None = same n (unheard_outcome item)

  by_class_agrees : (item : Option ItemPlace) (phrases : FilePhrases S) (class : Class)
      → Agrees n (by_class run item phrases class) (by_class other item phrases class)
  by_class_agrees item phrases.Absent Successful = same n Done
  by_class_agrees item (phrases.AtEnd pair) Successful = in_phrase_agrees n run other r a pair.did_not
  by_class_agrees item (phrases.InvalidKey pair) Successful = in_phrase_agrees n run other r a pair.did_not
  by_class_agrees item phrases.Absent AtEnd = same n (unheard_outcome item)
  by_class_agrees item (phrases.AtEnd pair) AtEnd = taken_agrees item pair.arose
  by_class_agrees item (phrases.InvalidKey pair) AtEnd = same n (unheard_outcome item)
  by_class_agrees item phrases.Absent InvalidKey = same n (unheard_outcome item)
  by_class_agrees item (phrases.AtEnd pair) InvalidKey = same n (unheard_outcome item)
  by_class_agrees item (phrases.InvalidKey pair) InvalidKey = taken_agrees item pair.arose
  by_class_agrees item phrases.Absent Other = same n (unheard_outcome item)
  by_class_agrees item (phrases.AtEnd pair) Other = same n (unheard_outcome item)
  by_class_agrees item (phrases.InvalidKey pair) Other = same n (unheard_outcome item)

  by_status_agrees : (item : Option ItemPlace) (phrases : FilePhrases S) (next : State → Outcome) → IsRun next
      → (class : Class)
      → Agrees n (by_status run item phrases next class) (by_status other item phrases next class)
  by_status_agrees item phrases next r Successful =
      then_agrees n next next (by_class run item phrases Successful) (by_class other item phrases Successful) r
      (same n next) (by_class_agrees item phrases Successful)
  by_status_agrees item phrases next r AtEnd = by_class_agrees item phrases AtEnd
  by_status_agrees item phrases next r InvalidKey = by_class_agrees item phrases InvalidKey
  by_status_agrees item phrases next r Other = by_class_agrees item phrases Other

  module _ (items : List LocatedItem) (files : List ProgramFile) where
    statement_on_agrees : (phrases : FilePhrases S) (next : State → Outcome) → IsRun next
        → (verb : Verb) (file : ProgramFile)
        → Agrees n (statement_on items files run phrases next verb file)
        (statement_on items files other phrases next verb file)
    statement_on_agrees phrases next r verb file = record {
      by = λ s le. (by_status_agrees
          file.places.status phrases next r (class_of (step_on (entries_of files) file.places verb s).status)).by
          (state_after_status file.places (step_on (entries_of files) file.places verb s) s) le;
    }

    on_name_agrees : (name : Name) (go go' : ProgramFile → State → Outcome)
        → ((file : ProgramFile) → Agrees n (go file) (go' file))
        → Agrees n (on_name items files run name go) (on_name items files other name go')
    on_name_agrees name go go' h = on_file_agrees n (first (files_named files name)) go go' h

    changes_agree : (one : Reference) (from : Option Reference) (phrases : FilePhrases S) (verb : Verb)
        → Agrees n (λ s. then_do (from_item items one from s)
        (on_record items files run one (statement_on items files run phrases Done verb)))
        (λ s. then_do (from_item items one from s)
        (on_record items files other one (statement_on items files other phrases Done verb)))
    changes_agree one from phrases verb =
        then_agrees n (from_item items one from)
        (from_item items one from) (on_record items files run one (statement_on items files run phrases Done verb))
        (on_record items files other one (statement_on items files other phrases Done verb))
        (from_runs items one from) (same n (from_item items one from))
        (on_file_agrees n (file_with_record files (first (items_named items one.item)))
        (statement_on items files run phrases Done verb) (statement_on items files other phrases Done verb)
        (statement_on_agrees phrases Done done_runs verb))

    open_agrees : (one : Opening) → Agrees n (open_one items files run one) (open_one items files other one)
    open_agrees one =
        on_name_agrees one.file (statement_on items files run phrases.Absent Done (verb.Open one.mode))
        (statement_on items files other phrases.Absent Done (verb.Open one.mode))
        (statement_on_agrees phrases.Absent Done done_runs (verb.Open one.mode))

    close_agrees : (one : Name) → Agrees n (close_one items files run one) (close_one items files other one)
    close_agrees one =
        on_name_agrees one (statement_on items files run phrases.Absent Done verb.Close) (statement_on items files other
        phrases.Absent Done verb.Close) (statement_on_agrees phrases.Absent Done done_runs verb.Close)

    open_runs : (one : Opening) → IsRun (open_one items files run one)
    open_runs one =
        on_name_runs run r items files one.file (statement_on items files run phrases.Absent Done (verb.Open one.mode))
        (statement_on_runs run r items files phrases.Absent Done done_runs (verb.Open one.mode))

    close_runs : (one : Name) → IsRun (close_one items files run one)
    close_runs one = on_name_runs run r items files one (statement_on items files run phrases.Absent Done verb.Close)
        (statement_on_runs run r items files phrases.Absent Done done_runs verb.Close)

    pub filing_agrees : (one : FileStatement S)
        → Agrees n (file_outcome items files run one) (file_outcome items files other one)
    filing_agrees (Open all) =
        in_turn_agrees n (open_one items files run) (open_one items files other) open_runs open_agrees all
    filing_agrees (Close all) =
        in_turn_agrees n (close_one items files run) (close_one items files other) close_runs close_agrees all
    filing_agrees (Read file next into key phrases) =
        on_name_agrees file (read_outcome items files run next into key phrases)
        (read_outcome items files other next into key phrases)
        (λ found. statement_on_agrees phrases (into_item items into found) (into_runs items into found)
        (read_verb items found next key) found)
    filing_agrees (Write one from phrases) = changes_agree one from phrases verb.Write
    filing_agrees (Rewrite one from phrases) = changes_agree one from phrases verb.Rewrite
    filing_agrees (Delete file phrases) =
        on_name_agrees file (statement_on items files run phrases Done verb.Delete) (statement_on items files other
        phrases Done verb.Delete) (statement_on_agrees phrases Done done_runs verb.Delete)
    filing_agrees (Start file key phrases) =
        on_name_agrees file (start items files run key phrases) (start items files other key phrases)
        (λ found. statement_on_agrees phrases Done done_runs (start_verb items found key) found)
