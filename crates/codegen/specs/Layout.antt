-- The layout of a program's code (own choice).
use Rattle.std.specs.Prelude.{ℕ, zero, suc, List, [], ◌∷◌, ◌++◌, length, map, Option, Some, None}
use Rattle.source_tree.specs.declared.data_statement.DataStatement.{DataStatement}
use Rattle.source_tree.specs.declared.data_statement.DataStatement.TheVariants.{Move, Initialize, Set}
use Rattle.source_tree.specs.declared.text_statement.TextStatement.{TextStatement}
use Rattle.source_tree.specs.declared.text_statement.TextStatement.TheVariants.{Display, Accept, AcceptDate, Inspect}
use Rattle.source_tree.specs.declared.text_statement.TextStatement.TheVariants.{Convert}
use Rattle.records.specs.declared.verb.Verb as on_files
use Rattle.records.specs.declared.verb.Verb.TheVariants as file_verb
use Rattle.source_tree.specs.declared.name.Name.{Name}
use Rattle.source_tree.specs.declared.reference.Reference.{Reference}
use Rattle.source_tree.specs.declared.phrases.Phrases.{Phrases}
use Rattle.source_tree.specs.declared.phrases.FilePhrases.{FilePhrases}
use Rattle.source_tree.specs.declared.phrases.FilePhrases.TheVariants as file_phrases
use Rattle.source_tree.specs.declared.file_statement.Opening.{Opening}
use Rattle.source_tree.specs.declared.file_statement.FileStatement.{FileStatement}
use Rattle.source_tree.specs.declared.file_statement.FileStatement.TheVariants as filing
use Rattle.source_tree.specs.declared.arithmetic.Arithmetic.{Arithmetic}
use Rattle.source_tree.specs.declared.conditional_statement.ConditionalStatement.{ConditionalStatement}
use Rattle.source_tree.specs.declared.conditional_statement.ConditionalStatement.TheVariants as branch
use Rattle.source_tree.specs.declared.evaluate_statement.Subject.{Subject}
use Rattle.source_tree.specs.declared.evaluate_statement.Selected.{Selected}
use Rattle.source_tree.specs.declared.evaluate_statement.Evaluate.{Evaluate}
use Rattle.source_tree.specs.declared.control_statement.ControlStatement.{ControlStatement}
use Rattle.source_tree.specs.declared.control_statement.ControlStatement.TheVariants as ending
use Rattle.source_tree.specs.declared.perform_statement.Performed.{Performed}
use Rattle.source_tree.specs.declared.perform_statement.Performed.TheVariants.{Procedures, Statements}
use Rattle.source_tree.specs.declared.perform_statement.Repetition.{Repetition}
use Rattle.source_tree.specs.declared.perform_statement.Repetition.TheVariants.{Once, Times, CountedBy, Until}
use Rattle.source_tree.specs.declared.perform_statement.PerformStatement.{PerformStatement}
use Rattle.source_tree.specs.declared.string_statement.StringStatement.{StringStatement}
use Rattle.source_tree.specs.declared.statement.Verb.{Verb}
use Rattle.source_tree.specs.declared.statement.Verb.TheVariants as verb
use Rattle.source_tree.specs.declared.statement.Statement.{Statement}
use Rattle.source_tree.specs.declared.statement.Statement.TheOpen.{Statement-F}
use Rattle.source_tree.specs.declared.statement.Statement.TheFolds.{fold-Statement}
use Rattle.source_tree.specs.declared.program.Sentence.{Sentence}
use Rattle.source_tree.specs.declared.program.Paragraph.{Paragraph}
use Rattle.source_tree.specs.declared.program.Section.{Section}
use Rattle.source_tree.specs.declared.program.Program.{Program}
use Rattle.source_tree.specs.declared.select.Select.{Select}
use Rattle.source_tree.specs.Evaluate.{selected_condition}
use Rattle.source_tree.specs.Performing.{turns_of}
use Rattle.source_tree.specs.Places.{LocatedItem}
use Rattle.source_tree.specs.Procedures.{Range, paragraphs_or_one, range_of}
use Rattle.source_tree.specs.Setting.{Scope, scope}
use Rattle.source_tree.specs.Records.{program_areas}
use Rattle.source_tree.specs.ProgramFiles.{ProgramFile}
use Rattle.source_tree.specs.References.{ItemPlace}
use Rattle.source_tree.specs.Filing.{read_verb, start_verb}
use Rattle.data_instructions.specs.declared.tables.DataTables.{DataTables}
use Rattle.data_instructions.specs.declared.tables.DataItem.{DataItem}
use Rattle.data_instructions.specs.Codes.{data_item}
use Rattle.file_image.specs.declared.class.StatusClass.{StatusClass}
use Rattle.file_image.specs.declared.class.StatusClass.TheVariants.{Successful, AtEnd, InvalidKey}
use Rattle.code_image.specs.declared.code.Code.{Code}
use Rattle.code_image.specs.declared.instruction.Instruction.TheVariants.{Tick, Stop, Count, CountNumber, Turn, Perform}
use Rattle.code_image.specs.declared.instruction.Instruction.TheVariants.{Back}
use Rattle.data_instructions.specs.declared.instruction.DataInstruction.TheVariants as i
use Rattle.condition_codegen.specs.Fragments.{Fragment, no_tables, empty_code, append, sequence, in_order, plain_code}
use Rattle.condition_codegen.specs.Meeting.{either_fragment, nothing_fragment}
use Rattle.source_tree.specs.Arithmetic.{is_there}
use Rattle.condition_codegen.specs.DataCode.{take_fragment, move_fragment, display_fragment, accept_fragment}
use Rattle.condition_codegen.specs.DataCode.{date_fragment}
use Rattle.condition_codegen.specs.ArithmeticCode.{arithmetic_fragment}
use Rattle.condition_codegen.specs.ConditionCode.{condition_fragment}
use Rattle.condition_codegen.specs.PatternCode.{initializes_fragment, sets_fragment}
use Rattle.statement_codegen.specs.StringCode.{string_fragment}
use Rattle.statement_codegen.specs.InspectCode.{inspect_fragment, convert_fragment}
use Rattle.statement_codegen.specs.SubjectCode.{first_object, subjects_fragment}
use Rattle.codegen.specs.UntilCode.{tick_fragment, until_fragment}
use Rattle.statement_codegen.specs.FileCode.{code_files, sent_entry, file_fragment, test_fragment, unheard_fragment}
use Rattle.statement_codegen.specs.FileCode.{into_fragment, from_fragment, on_name_fragment, on_record_fragment}

abbrev pub stop_run_fragment : ℕ → Fragment
stop_run_fragment line before = plain_code (Tick line ∷ Stop ∷ [])

abbrev pub control_fragment : ℕ → ControlStatement → Fragment
control_fragment line ending.StopRun = stop_run_fragment line
control_fragment line ending.Continue = tick_fragment line
control_fragment line ending.Exit = tick_fragment line

-- A loop begins that counts the turns after the first: at its own address, as each loop does.
abbrev pub loop_begin : ℕ → Fragment
loop_begin more before = plain_code (Count (record { number = length before.instructions }) more ∷ [])

-- A loop begins whose turns the newest number counts; the truth says whether there is one.
abbrev pub count_begin : Fragment
count_begin before = plain_code (CountNumber (record { number = length before.instructions }) ∷ [])

-- the end of a turn of the loop that begins at an address, back to another
abbrev pub turn_end : ℕ → ℕ → Code
turn_end begin to = plain_code (Turn (record { number = begin }) to ∷ [])

-- The turns of the loop that begins at this address. A turn begins with what uses one of the budget, and each but the
-- last leads back there.
abbrev pub counted_turn : ℕ → Fragment → Fragment
counted_turn begin turn before = append (turn before) (turn_end begin (length before.instructions))

-- so many turns
abbrev pub times_fragment : ℕ → Fragment → Fragment
times_fragment zero turn before = empty_code
times_fragment (suc more) turn before =
    sequence (loop_begin more) (counted_turn (length before.instructions) turn) before

-- as many turns as the newest number says
abbrev pub counted_fragment : Fragment → Fragment
counted_fragment turn before =
    sequence count_begin (either_fragment (counted_turn (length before.instructions) turn) nothing_fragment) before

-- How often, as the phrase of a PERFORM at this line says. The PERFORM uses one of the budget, and so does each turn;
-- without a phrase they are the same.
abbrev pub turns_fragment : List LocatedItem → ℕ → Repetition → Fragment → Fragment
turns_fragment items line Once turn = turn
turns_fragment items line (Times count) turn = sequence (tick_fragment line) (times_fragment (turns_of count) turn)
turns_fragment items line (CountedBy one) turn =
    sequence (tick_fragment line) (sequence (take_fragment items i.Push one) (counted_fragment turn))
turns_fragment items line (Until one) turn = sequence (tick_fragment line) (until_fragment items one turn)

-- The paragraphs of a range are performed, at this line; where names name none, nothing is.
abbrev pub range_fragment : ℕ → Option Range → Fragment
range_fragment line None before = plain_code (Tick line ∷ [])
range_fragment line (Some range) before =
    plain_code (Perform line (record { number = range.first }) (record { number = range.last }) ∷ [])

abbrev pub data_fragment : List LocatedItem → DataStatement → Fragment
data_fragment items (Move sender receivers) = move_fragment items sender receivers
data_fragment items (Initialize receivers) = initializes_fragment items receivers
data_fragment items (Set conditions) = sets_fragment items conditions

abbrev pub texts_fragment : List LocatedItem → TextStatement → Fragment
texts_fragment items (Display operands advancing) = display_fragment items operands advancing
texts_fragment items (Accept receiver) = accept_fragment items receiver
texts_fragment items (AcceptDate receiver) = date_fragment items receiver
texts_fragment items (Inspect one) = inspect_fragment items one
texts_fragment items (Convert one) = convert_fragment items one

-- Statements that hold statements; `inside` is the code of those.
module _ (scope : Scope) {S : Type 0} (inside : S → Fragment) where
  -- one turn of a PERFORM at this line, which uses one of the budget
  abbrev pub turn_fragment : ℕ → Performed S → Fragment
  turn_fragment line (Procedures first last) = range_fragment line (range_of scope.procedures first last)
  turn_fragment line (Statements statements) = sequence (tick_fragment line) (in_order inside statements)

  abbrev pub perform_fragment : ℕ → PerformStatement S → Fragment
  perform_fragment line one = turns_fragment scope.items line one.turns (turn_fragment line one.performed)

  abbrev pub phrase_fragment : Option (List S) → Fragment
  phrase_fragment None before = empty_code
  phrase_fragment (Some statements) before = in_order inside statements before

  -- the phrases, where one stands
  abbrev pub phrases_from : Option (List S) → Option (List S) → Fragment
  phrases_from None None before = empty_code
  phrases_from (Some statements) other before =
      either_fragment (phrase_fragment (Some statements)) (phrase_fragment other) before
  phrases_from None (Some statements) before =
      either_fragment (phrase_fragment None) (phrase_fragment (Some statements)) before

  abbrev pub phrases_fragment : Phrases S → Fragment
  phrases_fragment phrases = phrases_from phrases.arose phrases.did_not

  abbrev pub arithmetic_statement_fragment : ℕ → Arithmetic S → Fragment
  arithmetic_statement_fragment line one =
      sequence (tick_fragment line) (sequence
      (arithmetic_fragment scope.items (is_there one.phrases.arose) one.operation) (phrases_fragment one.phrases))

  abbrev pub string_statement_fragment : ℕ → StringStatement S → Fragment
  string_statement_fragment line one =
      sequence (tick_fragment line)
      (sequence (string_fragment scope.items one.sendings one.receiver one.pointer) (phrases_fragment one.phrases))

  -- The condition of each group of WHENs in turn, and its statements where it is true; those of OTHER after the last
  -- one.
  abbrev pub selection_fragment : List Subject → List (Selected S) → Option (List S) → Fragment
  selection_fragment subjects [] other = phrase_fragment other
  selection_fragment subjects (one ∷ more) other =
      sequence (condition_fragment scope.items (selected_condition scope.items subjects one))
      (either_fragment (in_order inside one.statements) (selection_fragment subjects more other))

  -- EVALUATE, after its `tick`
  abbrev pub evaluate_fragment : Evaluate S → Fragment
  evaluate_fragment one =
      sequence (subjects_fragment scope.items one.subjects (first_object one.selected))
      (selection_fragment one.subjects one.selected one.other)

  abbrev pub conditional_fragment : ℕ → ConditionalStatement S → Fragment
  conditional_fragment line (branch.If condition statements otherwise) =
      sequence (tick_fragment line) (sequence (condition_fragment scope.items condition)
      (either_fragment (in_order inside statements) (phrase_fragment otherwise)))
  conditional_fragment line (branch.Evaluate one) = sequence (tick_fragment line) (evaluate_fragment one)

  -- ---- file statements

  -- the statements of a phrase for a status, or else what comes of a status that nothing takes
  abbrev pub taken_fragment : Option ItemPlace → Option (List S) → Fragment
  taken_fragment status None = unheard_fragment status
  taken_fragment status (Some statements) = phrase_fragment (Some statements)

  -- after a success
  abbrev pub success_fragment : FilePhrases S → Fragment
  success_fragment file_phrases.Absent = nothing_fragment
  success_fragment (file_phrases.AtEnd pair) = phrase_fragment pair.did_not
  success_fragment (file_phrases.InvalidKey pair) = phrase_fragment pair.did_not

  -- the phrase for statuses of a class
  abbrev pub class_fragment : Option ItemPlace → StatusClass → Option (List S) → Fragment
  class_fragment status class arose =
      sequence (test_fragment class) (either_fragment (taken_fragment status arose) (unheard_fragment status))

  -- after another status
  abbrev pub failure_fragment : Option ItemPlace → FilePhrases S → Fragment
  failure_fragment status file_phrases.Absent = unheard_fragment status
  failure_fragment status (file_phrases.AtEnd pair) = class_fragment status AtEnd pair.arose
  failure_fragment status (file_phrases.InvalidKey pair) = class_fragment status InvalidKey pair.arose

  -- what comes of the status; `onward` comes first after a success
  abbrev pub status_fragment : Option ItemPlace → FilePhrases S → Fragment → Fragment
  status_fragment status phrases onward =
      sequence (test_fragment Successful)
      (either_fragment (sequence onward (success_fragment phrases)) (failure_fragment status phrases))

  abbrev pub statement_on_fragment : FilePhrases S → (ProgramFile → Fragment) → (ProgramFile → on_files.Verb)
      → ProgramFile → Fragment
  statement_on_fragment phrases onward verb file =
      sequence (file_fragment (verb file) file) (status_fragment file.places.status phrases (onward file))

  -- nothing comes first
  abbrev pub alone_fragment : FilePhrases S → (ProgramFile → on_files.Verb) → ProgramFile → Fragment
  alone_fragment phrases verb = statement_on_fragment phrases (λ file. nothing_fragment) verb

  abbrev pub open_fragment : Opening → Fragment
  open_fragment one = on_name_fragment scope.items scope.files one.file
      (alone_fragment file_phrases.Absent (λ file. file_verb.Open one.mode))

  abbrev pub close_fragment : Name → Fragment
  close_fragment one =
      on_name_fragment scope.items scope.files one (alone_fragment file_phrases.Absent (λ file. file_verb.Close))

  abbrev pub record_fragment : on_files.Verb → Reference → Option Reference → FilePhrases S → Fragment
  record_fragment verb one from phrases =
      sequence (from_fragment scope.items one from)
      (on_record_fragment scope.items scope.files one (alone_fragment phrases (λ file. verb)))

  -- a file statement, after its `tick`; each file of OPEN and CLOSE in turn
  abbrev pub file_statement_fragment : FileStatement S → Fragment
  file_statement_fragment (filing.Open all) = in_order open_fragment all
  file_statement_fragment (filing.Close all) = in_order close_fragment all
  file_statement_fragment (filing.Read file next into key phrases) =
      on_name_fragment scope.items scope.files file
      (statement_on_fragment phrases (into_fragment scope.items into) (λ file. read_verb scope.items file next key))
  file_statement_fragment (filing.Write one from phrases) = record_fragment file_verb.Write one from phrases
  file_statement_fragment (filing.Rewrite one from phrases) = record_fragment file_verb.Rewrite one from phrases
  file_statement_fragment (filing.Delete file phrases) =
      on_name_fragment scope.items scope.files file (alone_fragment phrases (λ file. file_verb.Delete))
  file_statement_fragment (filing.Start file key phrases) =
      on_name_fragment scope.items scope.files file (alone_fragment phrases (λ file. start_verb scope.items file key))

  -- a statement at this line, by its family
  abbrev pub verb_fragment : ℕ → Verb S → Fragment
  verb_fragment line (verb.DataStatement one) = sequence (tick_fragment line) (data_fragment scope.items one)
  verb_fragment line (verb.Arithmetic one) = arithmetic_statement_fragment line one
  verb_fragment line (verb.ConditionalStatement one) = conditional_fragment line one
  verb_fragment line (verb.PerformStatement one) = perform_fragment line one
  verb_fragment line (verb.TextStatement one) = sequence (tick_fragment line) (texts_fragment scope.items one)
  verb_fragment line (verb.StringStatement one) = string_statement_fragment line one
  verb_fragment line (verb.FileStatement one) = sequence (tick_fragment line) (file_statement_fragment one)
  verb_fragment line (verb.ControlStatement one) = control_fragment line one

module _ (scope : Scope) where
  -- a statement, by the code of those that stand in it
  abbrev pub statement_layer : Statement-F Fragment → Fragment
  statement_layer one = verb_fragment scope (λ piece. piece) one.place.line one.verb

  unfoldable pub statement_fragment : Statement → Fragment
  statement_fragment = fold-Statement Fragment statement_layer

  abbrev pub sentence_fragment : Sentence → Fragment
  sentence_fragment sentence = in_order statement_fragment sentence.statements

-- a code paragraph starts
abbrev pub start_fragment : Fragment
start_fragment before =
    record { tables = no_tables; files = []; starts = length before.instructions ∷ []; instructions = [] }

-- the end of the code paragraph of this number
abbrev pub back_fragment : ℕ → Fragment
back_fragment number before = plain_code (Back (record { number = number }) ∷ [])

module _ (scope : Scope) where
  -- a paragraph, numbered by how many start before it
  abbrev pub paragraph_fragment : Paragraph → Fragment
  paragraph_fragment paragraph before =
      sequence start_fragment
      (sequence (in_order (sentence_fragment scope) paragraph.sentences) (back_fragment (length before.starts))) before

  abbrev pub section_fragment : Section → Fragment
  section_fragment section = in_order paragraph_fragment (paragraphs_or_one section.paragraphs)

-- the end of the last paragraph
abbrev pub end_fragment : Code
end_fragment = plain_code (Stop ∷ [])

-- the bytes of all areas at the start, and the items; after these what READ INTO sends of each file
abbrev pub storage_items : List LocatedItem → List ProgramFile → List DataItem
storage_items items files = map data_item items ++ map (sent_entry items) files

-- the tables before the first statement, by these
abbrev pub tables_with : List (List ℕ) → List LocatedItem → List ProgramFile → DataTables
tables_with areas items files = record no_tables { areas = areas; items = storage_items items files }

abbrev pub storage_with : List (List ℕ) → List LocatedItem → List Select → List ProgramFile → Code
storage_with areas items selects files =
    record empty_code { tables = tables_with areas items files; files = code_files items selects files }

abbrev pub storage_tables : Program → DataTables
storage_tables program = tables_with (program_areas program) (scope program).items (scope program).files

abbrev pub storage_code : Program → Code
storage_code program = storage_with (program_areas program) (scope program).items program.selects (scope program).files

abbrev pub code_of : Program → Code
code_of program =
    let storage = storage_code program in
    append (append storage (in_order (section_fragment (scope program)) program.sections storage)) end_fragment
