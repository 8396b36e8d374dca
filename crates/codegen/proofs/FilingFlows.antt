-- The code of file statements finds what it needs, where the rules are kept: each part begins and ends at rest.
use Rattle.std.proofs.Common.{◌≡◌, ℕ, List, [], ◌∷◌, ◌++◌, Option, Some, None, refl, ap, ◌∙◌}
use Rattle.std.specs.Prelude.{slice_get, if◌then◌else◌}
use Rattle.items.specs.declared.taken.Taken.{Taken}
use Rattle.items.specs.declared.taken.Taken.TheVariants as taken
use Rattle.records.specs.declared.verb.Verb as on_files
use Rattle.records.specs.declared.verb.Verb.TheVariants as verb
use Rattle.source_tree.specs.declared.name.Name.{Name}
use Rattle.source_tree.specs.declared.reference.Reference.{Reference}
use Rattle.source_tree.specs.declared.expression.Operand.{Operand}
use Rattle.source_tree.specs.declared.expression.Operand.TheVariants as operand
use Rattle.source_tree.specs.declared.phrases.FilePhrases.{FilePhrases}
use Rattle.source_tree.specs.declared.phrases.FilePhrases.TheVariants.{Absent, AtEnd, InvalidKey}
use Rattle.source_tree.specs.declared.file_statement.Opening.{Opening}
use Rattle.source_tree.specs.declared.file_statement.FileStatement.{FileStatement}
use Rattle.source_tree.specs.declared.file_statement.FileStatement.TheVariants.{Open, Close, Read, Write, Rewrite}
use Rattle.source_tree.specs.declared.file_statement.FileStatement.TheVariants.{Delete, Start}
use Rattle.source_tree.specs.Broken.{RuleBreach}
use Rattle.source_tree.specs.Filing.{file_with_record, read_verb, start_verb, phrases_of}
use Rattle.source_tree.specs.FilingRules.{read_rules, into_rules}
use Rattle.source_tree.specs.FilingRules.{from_rules, record_rules}
use Rattle.source_tree.specs.FilingRules.{filing_rules}
use Rattle.source_tree.specs.LookUp.{items_named, first}
use Rattle.source_tree.specs.MoveRules.{move_rules}
use Rattle.source_tree.specs.NameRules.{reference_rules}
use Rattle.source_tree.specs.Names.{same}
use Rattle.source_tree.specs.Places.{LocatedItem}
use Rattle.source_tree.specs.ProgramFiles.{ProgramFile, files_named}
use Rattle.source_tree.specs.References.{ItemPlace}
use Rattle.source_tree.specs.Rules.{phrase_rules, file_phrases_rules}
use Rattle.source_tree.specs.Setting.{Scope}
use Rattle.data_instructions.specs.declared.tables.DataItem.{DataItem}
use Rattle.data_instructions.specs.declared.shape.Shape.{Shape}
use Rattle.data_instructions.specs.declared.instruction.DataInstruction.{DataInstruction}
use Rattle.data_instructions.specs.declared.instruction.DataInstruction.TheVariants as i
use Rattle.data_instructions.specs.Chains.{effects, LiesWhole, MayReceiveEach}
use Rattle.data_instructions.specs.Codes.{data_item, AreReceiversCode}
use Rattle.data_instructions.specs.Shapes.{and_then, moving_to, stacks_with_place, shape_with}
use Rattle.data_instructions.specs.Tables.{IsTables}
use Rattle.data_instructions.proofs.Chains.{effects_append, taking_known}
use Rattle.file_image.specs.declared.class.StatusClass.{StatusClass}
use Rattle.file_image.specs.declared.class.StatusClass.TheVariants as class
use Rattle.code_image.specs.declared.code.Code.{Code}
use Rattle.code_image.specs.Known.{known_along}
use Rattle.condition_codegen.specs.Fragments.{Fragment, append, sequence, in_order}
use Rattle.condition_codegen.specs.DataCode.{move_fragment}
use Rattle.condition_codegen.specs.Meeting.{either_fragment, nothing_fragment}
use Rattle.statement_codegen.specs.FileCode.{sent_index, file_fragment, test_fragment, unheard_fragment}
use Rattle.statement_codegen.specs.FileCode.{on_file_fragment, into_fragment, from_fragment, on_record_fragment}
use Rattle.codegen.specs.Layout.{phrase_fragment, taken_fragment, success_fragment, class_fragment, failure_fragment}
use Rattle.codegen.specs.Layout.{status_fragment, statement_on_fragment, alone_fragment, open_fragment, close_fragment}
use Rattle.codegen.specs.Layout.{record_fragment, file_statement_fragment}
use Rattle.codegen.proofs.Blind.{Blind, both_blind}
use Rattle.codegen.proofs.BlindFiling.{unheard_blind, into_blind, taken_blind, success_blind, failure_blind}
use Rattle.codegen.proofs.ConditionBlind.{nothing_blind}
use Rattle.condition_codegen.proofs.Lists.{left_none, right_none}
use Rattle.codegen.proofs.Doing.{any}
use Rattle.codegen.proofs.FilingDoes.{first_asked, into_kept}
use Rattle.codegen.proofs.Flowing.{rest, along_data, Flows, both_flow, nothing_flows, BodyFlows, either_flows}
use Rattle.codegen.proofs.HasFiles.{IsFiled, HasFiles, first_so}
use Rattle.statement_codegen.proofs.FilingKept.{whole_record}
use Rattle.codegen.proofs.Lying.{receive_each}
use Rattle.codegen.proofs.MoveDoing.{into_coded}
use Rattle.codegen.proofs.Standing.{Stands, front, back}

module _ (scope : Scope) (whole : Code) (has : HasFiles whole scope)
    (entries : (n : ℕ) (one : LocatedItem) → slice_get scope.items n ≡ Some one
    → slice_get whole.tables.items n ≡ Some (data_item one))
    (order : IsTables whole.tables) (lie : (n : ℕ) (one : LocatedItem) → slice_get scope.items n ≡ Some one
    → LiesWhole whole.tables one)
    (moves : (sender : Operand) (receivers : List Reference) → move_rules scope.items sender receivers ≡ []
    → BodyFlows whole (move_fragment scope.items sender receivers)) where
  -- ---- the move of READ INTO

  receivers_known : (receivers : List Reference) (code : List DataInstruction)
      → AreReceiversCode scope.items whole.tables receivers code → (sent : Taken)
      → MayReceiveEach scope.items whole.tables sent receivers → (s : Shape)
      → effects whole.tables code (record s { sender = Some sent }) ≡ Some (record s { sender = Some sent })
  receivers_known [] code is sent may s = ap (λ c. effects whole.tables c (record s { sender = Some sent })) is
  receivers_known (one ∷ more) code (first, is_first, others, are_others, is) sent may s =
      let tables = whole.tables in
      let t : Shape = record s { sender = Some sent } in
      ap (λ c. effects tables c t) is
      ∙ effects_append tables first others t
      ∙ ap (λ o. and_then o (effects tables others)) (
      taking_known scope.items tables i.Move one first is_first may.0.0 t
      ∙ ap (λ o. and_then (shape_with (Some s.stacks) (Some s.line) (and_then o (moving_to sent))) (effects tables []))
      is_first.1.entry
      ∙ ap (λ b.
      and_then (shape_with (Some s.stacks) (Some s.line) (if b then Some (Some sent) else None)) (effects tables []))
      (may.0.1 is_first.1.found is_first.1.named))
      ∙ receivers_known more others are_others sent may.1 s

  -- the record is taken, from rest
  taken_known : (file : ProgramFile) → IsFiled whole scope.items file
      → (more : List DataInstruction) (sender : Option Taken)
      → effects whole.tables (i.Place (sent_index scope.items file) ∷ i.Take ∷ more) (rest sender)
      ≡ effects whole.tables more (rest (Some (taken.Item file.sent)))
  taken_known file filed more sender =
      let tables = whole.tables in
      let s = rest sender in
      let index = sent_index scope.items file in
      ap (λ (o : Option DataItem).
      and_then (shape_with (and_then o (λ one. stacks_with_place index one s.stacks)) (Some s.line) (Some s.sender))
      (effects tables (i.Take ∷ more))) filed.sent
      ∙ ap (λ (o : Option DataItem).
      and_then (shape_with (Some s.stacks) (Some s.line) (and_then o (λ one. Some (Some (taken.Item one.item)))))
      (effects tables more)) filed.sent

  into_flows : (file : ProgramFile) → IsFiled whole scope.items file → (into : Option Reference)
      → into_rules scope.items scope.files file into ≡ []
      → BodyFlows whole (into_fragment scope.items into file)
  into_flows file filed None e = record { by = λ before st. nothing_flows whole.tables }
  into_flows file filed (Some into) e = record {
    by = λ before st.
        let coded = into_coded whole any scope.items entries order scope.files file filed into before e st in
        let sent = taken.Item file.sent in
        let may = receive_each scope.items whole entries lie sent (into ∷ []) (ap (λ l. l ++ []) e) in
        record {
          by = λ sender. (
            Some sent,
            ap (λ l. known_along whole.tables l (rest sender)) coded.is
                ∙ along_data whole.tables (i.Place (sent_index scope.items file) ∷ i.Take ∷ coded.more) (rest sender)
                ∙ taken_known file filed coded.more sender
                ∙ receivers_known (into ∷ []) coded.more coded.holds sent may (rest None),
          );
        };
  }

  -- ---- pieces

  pair_flows : (one two : Fragment) → BodyFlows whole one → BodyFlows whole two → BodyFlows whole (sequence one two)
  pair_flows one two f g = record {
    by = λ before st.
        let a = one before in
        let b = two (append before a) in
        both_flow whole.tables a b (f.by before (front whole before a b st))
        (g.by (append before a) (back whole before a b st));
  }

  nothing_flow : BodyFlows whole nothing_fragment
  nothing_flow = record { by = λ before st. nothing_flows whole.tables }

  test_flows : (one : StatusClass) → BodyFlows whole (test_fragment one)
  test_flows one = record { by = λ before st. record { by = λ sender. (None, refl) } }

  file_flows : (one : on_files.Verb) (file : ProgramFile) → BodyFlows whole (file_fragment one file)
  file_flows one file = record { by = λ before st. record { by = λ sender. (None, refl) } }

  unheard_flows : (status : Option ItemPlace) → BodyFlows whole (unheard_fragment status)
  unheard_flows (Some item) = record { by = λ before st. nothing_flows whole.tables }
  unheard_flows None = record { by = λ before st. record { by = λ sender. (None, refl) } }

  ways_flow : (one two : Fragment) → Blind one → Blind two → BodyFlows whole one → BodyFlows whole two
      → BodyFlows whole (either_fragment one two)
  ways_flow one two f g h k = record { by = λ before st. either_flows whole one two f g h k before st }

  from_flows : (to : Reference) (from : Option Reference) → from_rules scope.items scope.files to from ≡ []
      → BodyFlows whole (from_fragment scope.items to from)
  from_flows to None e = record { by = λ before st. nothing_flows whole.tables }
  from_flows to (Some from) e = let move =
      moves (operand.Item from) (to ∷ []) e in record { by = λ before st. move.by before st }

  module _ {S : Type 0} (rules : S → List RuleBreach) (inside : S → Fragment)
      (stated : (phrase : Option (List S)) → Blind (phrase_fragment scope inside phrase))
      (phrase_flows : (phrase : Option (List S)) → phrase_rules rules phrase ≡ []
      → BodyFlows whole (phrase_fragment scope inside phrase)) where
    taken_flows : (status : Option ItemPlace) (phrase : Option (List S)) → phrase_rules rules phrase ≡ []
        → BodyFlows whole (taken_fragment scope inside status phrase)
    taken_flows status None e = record { by = λ before st. (unheard_flows status).by before st }
    taken_flows status (Some statements) e = let stands =
        phrase_flows (Some statements) e in record { by = λ before st. stands.by before st }

    success_flows : (phrases : FilePhrases S) → file_phrases_rules rules phrases ≡ []
        → BodyFlows whole (success_fragment scope inside phrases)
    success_flows Absent e = record { by = λ before st. nothing_flows whole.tables }
    success_flows (AtEnd pair) e =
        let other =
        phrase_flows pair.did_not (right_none (phrase_rules rules pair.arose) (phrase_rules rules pair.did_not) e) in
        record { by = λ before st. other.by before st }
    success_flows (InvalidKey pair) e =
        let other =
        phrase_flows pair.did_not (right_none (phrase_rules rules pair.arose) (phrase_rules rules pair.did_not) e) in
        record { by = λ before st. other.by before st }

    class_flows : (status : Option ItemPlace) (one : StatusClass) (arose : Option (List S))
        → phrase_rules rules arose ≡ []
        → BodyFlows whole (class_fragment scope inside status one arose)
    class_flows status one arose e =
        let here = taken_fragment scope inside status arose in
        pair_flows (test_fragment one) (either_fragment here (unheard_fragment status)) (test_flows one)
        (ways_flow here (unheard_fragment status) (taken_blind scope inside stated status arose) (unheard_blind status)
        (taken_flows status arose e)
        (unheard_flows status))

    failure_flows : (status : Option ItemPlace) (phrases : FilePhrases S) → file_phrases_rules rules phrases ≡ []
        → BodyFlows whole (failure_fragment scope inside status phrases)
    failure_flows status Absent e = record { by = λ before st. (unheard_flows status).by before st }
    failure_flows status (AtEnd pair) e =
        let fits = class_flows status class.AtEnd pair.arose
        (left_none (phrase_rules rules pair.arose) (phrase_rules rules pair.did_not) e) in
        record { by = λ before st. fits.by before st }
    failure_flows status (InvalidKey pair) e =
        let fits = class_flows status class.InvalidKey pair.arose
        (left_none (phrase_rules rules pair.arose) (phrase_rules rules pair.did_not) e) in
        record { by = λ before st. fits.by before st }

    status_flows : (status : Option ItemPlace) (phrases : FilePhrases S) (onward : Fragment)
        → file_phrases_rules rules phrases ≡ [] → Blind onward
        → BodyFlows whole onward → BodyFlows whole (status_fragment scope inside status phrases onward)
    status_flows status phrases onward e blind f =
        let success = success_fragment scope inside phrases in
        let failure = failure_fragment scope inside status phrases in
        pair_flows (test_fragment class.Successful) (either_fragment (sequence onward success) failure)
        (test_flows class.Successful)
        (ways_flow (sequence onward success) failure
        (both_blind onward success blind (success_blind scope inside stated phrases))
        (failure_blind scope inside stated status phrases) (pair_flows onward success f (success_flows phrases e))
        (failure_flows status phrases e))

    statement_flows : (phrases : FilePhrases S) (onward : ProgramFile → Fragment) (one : ProgramFile → on_files.Verb)
        → file_phrases_rules rules phrases ≡ []
        → (file : ProgramFile) → Blind (onward file) → BodyFlows whole (onward file)
        → BodyFlows whole (statement_on_fragment scope inside phrases onward one file)
    statement_flows phrases onward one e file blind f =
        pair_flows (file_fragment (one file) file)
        (status_fragment scope inside file.places.status phrases (onward file)) (file_flows (one file) file)
        (status_flows file.places.status phrases (onward file) e blind f)

    alone_flows : (phrases : FilePhrases S) (one : ProgramFile → on_files.Verb) → file_phrases_rules rules phrases ≡ []
        → (file : ProgramFile)
        → BodyFlows whole (alone_fragment scope inside phrases one file)
    alone_flows phrases one e file =
        statement_flows phrases (λ file. nothing_fragment) one e file nothing_blind nothing_flow

    found_flows : (found : Option ProgramFile) (piece : ProgramFile → Fragment)
        → ((file : ProgramFile) → found ≡ Some file → BodyFlows whole (piece file))
        → BodyFlows whole (on_file_fragment found piece)
    found_flows None piece each_one = record { by = λ before st. nothing_flows whole.tables }
    found_flows (Some file) piece each_one = record { by = λ before st. (each_one file refl).by before st }

    named_flows : (name : Name) (piece : ProgramFile → Fragment) → ((file : ProgramFile) → BodyFlows whole (piece file))
        → BodyFlows whole (on_file_fragment (first (files_named scope.files name)) piece)
    named_flows name piece each_one =
        found_flows (first (files_named scope.files name)) piece (λ file is. each_one file)

    record_flows : (one : on_files.Verb) (to : Reference) (from : Option Reference) (phrases : FilePhrases S)
        → record_rules scope.items scope.files to from phrases ≡ [] → file_phrases_rules rules phrases ≡ []
        → BodyFlows whole (record_fragment scope inside one to from phrases)
    record_flows one to from phrases e inner =
        let statement = alone_fragment scope inside phrases (λ file. one) in
        let asked = reference_rules scope.items (whole_record scope.items scope.files to phrases) to in
        pair_flows (from_fragment scope.items to from) (on_record_fragment scope.items scope.files to statement)
        (from_flows to from (right_none asked (from_rules scope.items scope.files to from) e))
        (found_flows (file_with_record scope.files (first (items_named scope.items to.item))) statement
        (λ file is. alone_flows phrases (λ file. one) inner file))

    -- each file of a list
    all_flow : {A : Type 0} (piece : A → Fragment) → ((one : A) → BodyFlows whole (piece one))
        → (all : List A) (before : Code)
        → Stands whole before (in_order piece all before) → Flows whole.tables (in_order piece all before)
    all_flow piece f [] before st = nothing_flows whole.tables
    all_flow piece f (one ∷ more) before st =
        let a = piece one before in
        let b = in_order piece more (append before a) in
        both_flow whole.tables a b ((f one).by before (front whole before a b st))
        (all_flow piece f more (append before a) (back whole before a b st))

    open_flows : (one : Opening) → BodyFlows whole (open_fragment scope inside one)
    open_flows one =
        named_flows one.file (alone_fragment scope inside Absent (λ file. verb.Open one.mode))
        (alone_flows Absent (λ file. verb.Open one.mode) refl)

    close_flows : (one : Name) → BodyFlows whole (close_fragment scope inside one)
    close_flows one = named_flows one (alone_fragment scope inside Absent (λ file. verb.Close))
        (alone_flows Absent (λ file. verb.Close) refl)

    pub filing_flows : (one : FileStatement S) → filing_rules scope.items scope.files one ≡ []
        → file_phrases_rules rules (phrases_of one) ≡ []
        → BodyFlows whole (file_statement_fragment scope inside one)
    filing_flows (Open all) e inner =
        record { by = λ before st. all_flow (open_fragment scope inside) open_flows all before st }
    filing_flows (Close all) e inner =
        record { by = λ before st. all_flow (close_fragment scope inside) close_flows all before st }
    filing_flows (Read file next into key phrases) e inner =
        let verb_of = λ (file : ProgramFile). read_verb scope.items file next key in
        let flows = found_flows (first (files_named scope.files file))
        (statement_on_fragment scope inside phrases (into_fragment scope.items into) verb_of)
        (λ one is.
        let filed = first_so (IsFiled whole scope.items) (λ other. same file other.name) scope.files one has.each is in
        let asked = first_asked file.place (read_rules scope.items scope.files file.place next into key phrases)
        (files_named scope.files file) one e is in
        statement_flows phrases (into_fragment scope.items into) verb_of inner one (into_blind scope into one)
        (into_flows one filed into (into_kept scope file.place next into key phrases one asked))) in
        record { by = λ before st. flows.by before st }
    filing_flows (Write one from phrases) e inner =
        let flows = record_flows verb.Write one from phrases e inner in record { by = λ before st. flows.by before st }
    filing_flows (Rewrite one from phrases) e inner =
        let flows =
        record_flows verb.Rewrite one from phrases e inner in record { by = λ before st. flows.by before st }
    filing_flows (Delete file phrases) e inner =
        let flows = named_flows file (alone_fragment scope inside phrases (λ file. verb.Delete))
        (alone_flows phrases (λ file. verb.Delete) inner) in
        record { by = λ before st. flows.by before st }
    filing_flows (Start file key phrases) e inner =
        let verb_of = λ (file : ProgramFile). start_verb scope.items file key in
        let flows =
        named_flows file (alone_fragment scope inside phrases verb_of) (alone_flows phrases verb_of inner) in
        record { by = λ before st. flows.by before st }
