-- The machine follows the meaning of file statements, where the rules are kept.
use Rattle.std.proofs.Common.{◌≡◌, ℕ, ◌<◌, Bool, true, false, List, [], ◌∷◌, ◌++◌, Option, Some, None, refl}
use Rattle.std.proofs.Common.{subst, arith}
use Rattle.std.specs.Prelude.{◌==◌, ◌&&◌, slice_get}
use Rattle.lexical.specs.declared.place.Place.{Place}
use Rattle.records.specs.declared.verb.Verb.{Verb}
use Rattle.records.specs.declared.verb.Verb.TheVariants as verb
use Rattle.source_tree.specs.declared.name.Name.{Name}
use Rattle.source_tree.specs.declared.reference.Reference.{Reference}
use Rattle.source_tree.specs.declared.expression.Operand.TheVariants as operand
use Rattle.source_tree.specs.declared.phrases.FilePhrases.{FilePhrases}
use Rattle.source_tree.specs.declared.phrases.FilePhrases.TheVariants as phrases
use Rattle.source_tree.specs.declared.file_statement.Opening.{Opening}
use Rattle.source_tree.specs.declared.file_statement.FileStatement.{FileStatement}
use Rattle.source_tree.specs.declared.file_statement.FileStatement.TheVariants.{Open, Close, Read, Write, Rewrite}
use Rattle.source_tree.specs.declared.file_statement.FileStatement.TheVariants.{Delete, Start}
use Rattle.source_tree.specs.Arithmetic.{in_phrase}
use Rattle.source_tree.specs.Broken.{RuleBreach, where_so}
use Rattle.source_tree.specs.Filing as meaning
use Rattle.source_tree.specs.Filing.{Class, class_of, unheard_outcome, taken_phrase, by_class, by_status, into_item}
use Rattle.source_tree.specs.Filing.{from_item, on_file, file_with_record, is_in_sequence, read_verb, start_verb}
use Rattle.source_tree.specs.Filing.{statement_on, on_name, open_one, close_one, phrases_of, file_outcome}
use Rattle.source_tree.specs.FilingRules.{open_rules, close_rules, read_rules}
use Rattle.source_tree.specs.FilingRules.{read_phrase_rules, read_key_rules, into_rules, from_rules}
use Rattle.statement_codegen.proofs.FilingKept.{whole_record}
use Rattle.source_tree.specs.FilingRules.{record_rules, delete_rules, start_rules, filing_rules, is_random}
use Rattle.source_tree.specs.LookUp.{items_named, first}
use Rattle.source_tree.specs.NameRules.{unique_name_rules, reference_rules}
use Rattle.source_tree.specs.Places.{LocatedItem}
use Rattle.source_tree.specs.ProgramFiles.{ProgramFile, files_named}
use Rattle.source_tree.specs.References.{ItemPlace}
use Rattle.source_tree.specs.Rules.{phrase_rules, file_phrases_rules}
use Rattle.source_tree.specs.Setting.{Scope}
use Rattle.source_tree.specs.State.{State, Outcome, Done, then_do}
use Rattle.source_tree.specs.Names.{same}
use Rattle.data_instructions.specs.Codes.{data_item}
use Rattle.data_instructions.specs.Tables.{IsTables}
use Rattle.file_image.specs.declared.class.StatusClass.{StatusClass}
use Rattle.file_image.specs.declared.class.StatusClass.TheVariants as class
use Rattle.file_image.specs.Classes.{is_of, has_class}
use Rattle.code_image.specs.declared.code.Code.{Code}
use Rattle.code_image.specs.Points.{Own}
use Rattle.condition_codegen.specs.Fragments.{Fragment, append, sequence}
use Rattle.condition_codegen.specs.Meeting.{either_fragment, nothing_fragment}
use Rattle.statement_codegen.specs.FileCode.{file_fragment, test_fragment, unheard_fragment, on_file_fragment}
use Rattle.statement_codegen.specs.FileCode.{into_fragment, from_fragment}
use Rattle.codegen.specs.Layout.{phrase_fragment, taken_fragment, success_fragment, class_fragment, failure_fragment}
use Rattle.codegen.specs.Layout.{status_fragment, statement_on_fragment, alone_fragment, open_fragment, close_fragment}
use Rattle.codegen.specs.Layout.{record_fragment, file_statement_fragment}
use Rattle.codegen.proofs.Blind.{Blind, both_blind}
use Rattle.codegen.proofs.BlindFiling.{unheard_blind, into_blind, taken_blind, success_blind, failure_blind}
use Rattle.codegen.proofs.ConditionBlind.{nothing_blind}
use Rattle.condition_codegen.proofs.Lists.{left_none, right_none}
use Rattle.codegen.proofs.Standing.{Stands}
use Rattle.codegen.proofs.Branching.{either_at, either_does}
use Rattle.codegen.proofs.Doing.{PartDoes, Sits, front_sits, back_sits, IsRoom, parts_do, nothing_does, in_order_does}
use Rattle.codegen.proofs.Doing.{Repeats}
use Rattle.codegen.proofs.FileDoing.{ended, tested, test_then, unheard_does, file_then}
use Rattle.codegen.proofs.HasFiles.{IsFiled, HasFiles, first_so}
use Rattle.codegen.proofs.MoveDoing.{move_does, into_does}

-- what is asked of the first that is named
pub first_asked : {A : Type 0} (place : Place) (asked : A → List RuleBreach) (all : List A) (one : A)
    → unique_name_rules place asked all ≡ [] → first all ≡ Some one
    → asked one ≡ []
first_asked place asked [] one e is = absurd cc
first_asked {A} place asked (x ∷ []) one e is = subst (λ y. asked y ≡ []) (of_some x one is) e
  where
    of_some : (x y : A) → Some x ≡ Some y → x ≡ y
    of_some x y e = cc
first_asked place asked (x ∷ y ∷ more) one e is = absurd cc

-- INTO of a READ that keeps the rules
pub into_kept : (scope : Scope) {S : Type 0} (place : Place) (next : Bool) (into key : Option Reference)
    (all : FilePhrases S) (file : ProgramFile)
    → read_rules scope.items scope.files place next into key all file ≡ []
    → into_rules scope.items scope.files file into ≡ []
into_kept scope place next into key all file e =
    let random = where_so (next && is_random file.entry.access) 62 place in
    let phrases = read_phrase_rules scope.items scope.files place (is_in_sequence file next) all in
    let keys = read_key_rules scope.items scope.files (is_in_sequence file next) file key in
    right_none (random ++ phrases ++ keys) (into_rules scope.items scope.files file into) e

module _ (whole : Code) (kept : ℕ → Type 0) (scope : Scope)
    (entries : (n : ℕ) (one : LocatedItem) → slice_get scope.items n ≡ Some one
    → slice_get whole.tables.items n ≡ Some (data_item one))
    (order : IsTables whole.tables) (has : HasFiles whole scope) where
  -- FROM
  from_does : (to : Reference) (from : Option Reference) (before : Code) (cs : Own) (s : State)
      → from_rules scope.items scope.files to from ≡ []
      → Stands whole before (from_fragment scope.items to from before)
      → PartDoes whole kept before (from_fragment scope.items to from before) cs s (from_item scope.items to from s)
  from_does to None before cs s keep st = nothing_does whole kept before cs s
  from_does to (Some from) before cs s keep st =
      move_does whole kept scope.items entries order (operand.Item from) (to ∷ []) before cs s keep st

  module _ {S : Type 0} (depth : ℕ) (rules : S → List RuleBreach) (run : S → State → Outcome) (inside : S → Fragment)
      (stated : (phrase : Option (List S)) → Blind (phrase_fragment scope inside phrase))
      (phrase_does : (phrase : Option (List S)) → phrase_rules rules phrase ≡ []
      → Repeats whole kept depth (in_phrase run phrase) (phrase_fragment scope inside phrase)) where
    -- ---- what comes of a status

    nothing_repeats : Repeats whole kept depth Done nothing_fragment
    nothing_repeats = record { by = λ before cs s below room sits. nothing_does whole kept before cs s }

    unheard_repeats : (status : Option ItemPlace)
        → Repeats whole kept depth (unheard_outcome status) (unheard_fragment status)
    unheard_repeats status =
        record { by = λ before cs s below room sits. unheard_does whole kept status before cs s sits.stands }

    taken_does : (status : Option ItemPlace) (phrase : Option (List S)) → phrase_rules rules phrase ≡ []
        → Repeats whole kept depth (taken_phrase run status phrase) (taken_fragment scope inside status phrase)
    taken_does status None keep =
        record { by = λ before cs s below room sits. unheard_does whole kept status before cs s sits.stands }
    taken_does status (Some statements) keep =
        record {
          by = λ before cs s below room sits. (phrase_does (Some statements) keep).by before cs s below room sits;
        }

    success_does : (status : Option ItemPlace) (all : FilePhrases S) → file_phrases_rules rules all ≡ []
        → Repeats whole kept depth (by_class run status all meaning.Successful) (success_fragment scope inside all)
    success_does status phrases.Absent keep =
        record { by = λ before cs s below room sits. nothing_does whole kept before cs s }
    success_does status (phrases.AtEnd pair) keep =
        let other =
        phrase_does pair.did_not (right_none (phrase_rules rules pair.arose) (phrase_rules rules pair.did_not) keep) in
        record { by = λ before cs s below room sits. other.by before cs s below room sits }
    success_does status (phrases.InvalidKey pair) keep =
        let other =
        phrase_does pair.did_not (right_none (phrase_rules rules pair.arose) (phrase_rules rules pair.did_not) keep) in
        record { by = λ before cs s below room sits. other.by before cs s below room sits }

    -- by whether the phrase is for the status
    abbrev failed : Option ItemPlace → Option (List S) → Bool → State → Outcome
    failed status arose true s = taken_phrase run status arose s
    failed status arose false s = unheard_outcome status s

    class_does :
        (status : Option ItemPlace) (one : StatusClass) (arose : Option (List S)) (before : Code) (cs : Own) (s : State)
        → phrase_rules rules arose ≡ [] → s.budget < depth → IsRoom whole cs
        → Sits whole kept before (class_fragment scope inside status one arose before)
        → PartDoes whole kept before (class_fragment scope inside status one arose before) cs s
        (failed status arose (has_class one cs.status) s)
    class_does status one arose before cs s keep below room sits =
        let a = test_fragment one before in
        let first = taken_fragment scope inside status arose in
        let second = unheard_fragment status in
        let b = either_fragment first second (append before a) in
        let here = taken_does status arose keep in
        let there = unheard_repeats status in
        test_then whole kept one before b cs s (failed status arose (has_class one cs.status) s) sits.stands
        (either_does whole kept depth first second (failed status arose)
        (record { by = λ now ds t less wide lies. here.by now ds t less wide lies })
        (record { by = λ now ds t less wide lies. there.by now ds t less wide lies })
        (taken_blind scope inside stated status arose) (unheard_blind status) (append before a) (tested one cs) s below
        (record { counters = room.counters; line = room.line }) (back_sits whole kept before a b sits))

    -- a status from 10 on
    absent_is : (status : Option ItemPlace) (one : Class) (s : State) → is_of class.Successful one ≡ false
        → unheard_outcome status s ≡ by_class run status phrases.Absent one s
    absent_is status meaning.Successful s e = absurd cc
    absent_is status meaning.AtEnd s e = refl
    absent_is status meaning.InvalidKey s e = refl
    absent_is status meaning.Other s e = refl

    at_end_is : (status : Option ItemPlace) (arose did_not : Option (List S)) (one : Class) (s : State)
        → is_of class.Successful one ≡ false
        → failed status arose (is_of class.AtEnd one) s
        ≡ by_class run status (phrases.AtEnd (record { arose = arose; did_not = did_not })) one s
    at_end_is status arose did_not meaning.Successful s e = absurd cc
    at_end_is status arose did_not meaning.AtEnd s e = refl
    at_end_is status arose did_not meaning.InvalidKey s e = refl
    at_end_is status arose did_not meaning.Other s e = refl

    invalid_key_is : (status : Option ItemPlace) (arose did_not : Option (List S)) (one : Class) (s : State)
        → is_of class.Successful one ≡ false
        → failed status arose (is_of class.InvalidKey one) s
        ≡ by_class run status (phrases.InvalidKey (record { arose = arose; did_not = did_not })) one s
    invalid_key_is status arose did_not meaning.Successful s e = absurd cc
    invalid_key_is status arose did_not meaning.AtEnd s e = refl
    invalid_key_is status arose did_not meaning.InvalidKey s e = refl
    invalid_key_is status arose did_not meaning.Other s e = refl

    failure_does : (status : Option ItemPlace) (all : FilePhrases S) (before : Code) (cs : Own) (s : State)
        → file_phrases_rules rules all ≡ []
        → has_class class.Successful cs.status ≡ false → s.budget < depth → IsRoom whole cs
        → Sits whole kept before (failure_fragment scope inside status all before)
        → PartDoes whole kept before (failure_fragment scope inside status all before) cs s
        (by_class run status all (class_of cs.status) s)
    unfolding has_class
    failure_does status phrases.Absent before cs s keep other below room sits =
        subst (PartDoes whole kept before (unheard_fragment status before) cs s)
        (absent_is status (class_of cs.status) s other)
        (unheard_does whole kept status before cs s sits.stands)
    failure_does status (phrases.AtEnd pair) before cs s keep other below room sits =
        subst (PartDoes whole kept before (class_fragment scope inside status class.AtEnd pair.arose before) cs s)
        (at_end_is status pair.arose pair.did_not (class_of cs.status) s other)
        (class_does status class.AtEnd pair.arose before cs s
        (left_none (phrase_rules rules pair.arose) (phrase_rules rules pair.did_not) keep)
        below room sits)
    failure_does status (phrases.InvalidKey pair) before cs s keep other below room sits =
        subst (PartDoes whole kept before (class_fragment scope inside status class.InvalidKey pair.arose before) cs s)
        (invalid_key_is status pair.arose pair.did_not (class_of cs.status) s other)
        (class_does status class.InvalidKey pair.arose before cs s
        (left_none (phrase_rules rules pair.arose) (phrase_rules rules pair.did_not) keep)
        below room sits)

    success_is : (status : Option ItemPlace) (all : FilePhrases S) (onward : State → Outcome) (one : Class) (s : State)
        → is_of class.Successful one ≡ true
        → then_do (onward s) (by_class run status all meaning.Successful) ≡ by_status run status all onward one s
    success_is status all onward meaning.Successful s e = refl
    success_is status all onward meaning.AtEnd s e = absurd cc
    success_is status all onward meaning.InvalidKey s e = absurd cc
    success_is status all onward meaning.Other s e = absurd cc

    failure_is : (status : Option ItemPlace) (all : FilePhrases S) (onward : State → Outcome) (one : Class) (s : State)
        → is_of class.Successful one ≡ false → by_class run status all one s ≡ by_status run status all onward one s
    failure_is status all onward meaning.Successful s e = absurd cc
    failure_is status all onward meaning.AtEnd s e = refl
    failure_is status all onward meaning.InvalidKey s e = refl
    failure_is status all onward meaning.Other s e = refl

    -- What comes first after a success, wherever it stands.
    pub record Onward (go : State → Outcome) (piece : Fragment) : Type 0 where
      pub blind : Blind piece
      pub by : (before : Code) (cs : Own) (s : State) → Stands whole before (piece before)
          → PartDoes whole kept before (piece before) cs s (go s)

    nothing_onward : Onward Done nothing_fragment
    nothing_onward = record { blind = nothing_blind; by = λ before cs s st. nothing_does whole kept before cs s }

    module _ (status : Option ItemPlace) (all : FilePhrases S) (keep : file_phrases_rules rules all ≡ [])
        (go : State → Outcome) (piece : Fragment)
        (onward : Onward go piece) where
      -- the way after a success
      way_on : (before : Code) (cs : Own) (s : State) → has_class class.Successful cs.status ≡ true → s.budget < depth
          → IsRoom whole cs
          → Sits whole kept before (sequence piece (success_fragment scope inside all) before)
          → PartDoes whole kept before (sequence piece (success_fragment scope inside all) before) cs s
          (by_status run status all go (class_of cs.status) s)
      unfolding has_class
      way_on before cs s is below room sits =
          let a = piece before in
          let b = success_fragment scope inside all (append before a) in
          subst (PartDoes whole kept before (append a b) cs s) (success_is status all go (class_of cs.status) s is)
          (parts_do whole kept before a b cs s (go s) (by_class run status all meaning.Successful)
          (onward.by before cs s (front_sits whole kept before a b sits).stands) (λ t ds falls still.
          (success_does status all keep).by (append before a) ds t (omega arith) (still room)
          (back_sits whole kept before a b sits)))

      way_off : (before : Code) (cs : Own) (s : State) → has_class class.Successful cs.status ≡ false → s.budget < depth
          → IsRoom whole cs
          → Sits whole kept before (failure_fragment scope inside status all before)
          → PartDoes whole kept before (failure_fragment scope inside status all before) cs s
          (by_status run status all go (class_of cs.status) s)
      unfolding has_class
      way_off before cs s is below room sits =
          subst (PartDoes whole kept before (failure_fragment scope inside status all before) cs s)
          (failure_is status all go (class_of cs.status) s is)
          (failure_does status all before cs s keep is below room sits)

      status_does : (before : Code) (cs : Own) (s : State) → s.budget < depth → IsRoom whole cs
          → Sits whole kept before (status_fragment scope inside status all piece before)
          → PartDoes whole kept before (status_fragment scope inside status all piece before) cs s
          (by_status run status all go (class_of cs.status) s)
      status_does before cs s below room sits =
          let a = test_fragment class.Successful before in
          let success = success_fragment scope inside all in
          let first = sequence piece success in
          let second = failure_fragment scope inside status all in
          let b = either_fragment first second (append before a) in
          let ds = tested class.Successful cs in
          let wide : IsRoom whole ds = record { counters = room.counters; line = room.line } in
          let o = by_status run status all go (class_of cs.status) s in
          test_then whole kept class.Successful before b cs s o sits.stands
          (either_at whole kept first second
          (both_blind piece success onward.blind (success_blind scope inside stated all))
          (failure_blind scope inside stated status all) (append before a) ds s o
          (λ is now lies. way_on now ds s is below wide lies)
          (λ is now lies. way_off now ds s is below wide lies) (back_sits whole kept before a b sits))

    -- ---- statements

    statement_does : (all : FilePhrases S) → file_phrases_rules rules all ≡ [] → (go : ProgramFile → State → Outcome)
        (piece : ProgramFile → Fragment) (verb : ProgramFile → Verb) (file : ProgramFile)
        → IsFiled whole scope.items file → Onward (go file) (piece file)
        → Repeats whole kept depth (statement_on scope.items scope.files run all (go file) (verb file) file)
        (statement_on_fragment scope inside all piece verb file)
    statement_does all keep go piece verb file filed onward = record {
      by = λ before cs s below room sits.
          let a = file_fragment (verb file) file before in
          let b = status_fragment scope inside file.places.status all (piece file) (append before a) in
          file_then whole kept scope has (verb file) file filed before b cs s
          (λ status. by_status run file.places.status all (go file) (class_of status)) sits.stands (λ status t same.
          status_does file.places.status all keep (go file) (piece file) onward (append before a) (ended status cs) t
          (omega (arith, same))
          (record { counters = room.counters; line = room.line }) (back_sits whole kept before a b sits));
    }

    -- nothing comes first
    alone_does : (all : FilePhrases S) → file_phrases_rules rules all ≡ []
        → (verb : ProgramFile → Verb) (file : ProgramFile) → IsFiled whole scope.items file
        → Repeats whole kept depth (statement_on scope.items scope.files run all Done (verb file) file)
        (alone_fragment scope inside all verb file)
    alone_does all keep verb file filed =
        let does = statement_does all keep (λ file. Done) (λ file. nothing_fragment) verb file filed nothing_onward in
        record { by = λ before cs s below room sits. does.by before cs s below room sits }

    -- a file that is found, if there is one
    found_does : (found : Option ProgramFile) (go : ProgramFile → State → Outcome) (piece : ProgramFile → Fragment)
        → ((file : ProgramFile) → found ≡ Some file → Repeats whole kept depth (go file) (piece file))
        → Repeats whole kept depth (on_file found go) (on_file_fragment found piece)
    found_does None go piece each_one =
        record { by = λ before cs s below room sits. nothing_does whole kept before cs s }
    found_does (Some file) go piece each_one =
        record { by = λ before cs s below room sits. (each_one file refl).by before cs s below room sits }

    named_does : (name : Name) (asked : ProgramFile → List RuleBreach) (go : ProgramFile → State → Outcome)
        (piece : ProgramFile → Fragment)
        → unique_name_rules name.place asked (files_named scope.files name) ≡ []
        → ((file : ProgramFile) → IsFiled whole scope.items file → asked file ≡ []
        → Repeats whole kept depth (go file) (piece file))
        → Repeats whole kept depth (on_file (first (files_named scope.files name)) go)
        (on_file_fragment (first (files_named scope.files name)) piece)
    named_does name asked go piece keep each_one =
        found_does (first (files_named scope.files name)) go piece (λ file is.
        each_one file (first_so (IsFiled whole scope.items) (λ one. same name one.name) scope.files file has.each is)
        (first_asked name.place asked (files_named scope.files name) file keep is))

    -- the file of a record
    with_record : (found : Option LocatedItem) (file : ProgramFile) → file_with_record scope.files found ≡ Some file
        → IsFiled whole scope.items file
    with_record None file e = absurd cc
    with_record (Some one) file e = first_so (IsFiled whole scope.items)
        (λ (other : ProgramFile). other.places.area == one.area) scope.files file has.each e

    record_does : (verb : Verb) (one : Reference) (from : Option Reference) (all : FilePhrases S)
        → record_rules scope.items scope.files one from all ≡ []
        → file_phrases_rules rules all ≡ []
        → Repeats whole kept depth
        (λ s. then_do (from_item scope.items one from s) (meaning.on_record scope.items scope.files run one
        (statement_on scope.items scope.files run all Done verb)))
        (record_fragment scope inside verb one from all)
    record_does verb one from all keep inner =
        let found = file_with_record scope.files (first (items_named scope.items one.item)) in
        let statement = alone_fragment scope inside all (λ file. verb) in
        let go = statement_on scope.items scope.files run all Done verb in
        let rest = found_does found go statement (λ file is.
        alone_does all inner (λ file. verb) file (with_record (first (items_named scope.items one.item)) file is)) in
        let asked = reference_rules scope.items (whole_record scope.items scope.files one all) one in
        record {
          by = λ before cs s below room sits.
              let a = from_fragment scope.items one from before in
              let b = on_file_fragment found statement (append before a) in
              parts_do whole kept before a b cs s (from_item scope.items one from s) (on_file found go)
              (from_does one from before cs s (right_none asked (from_rules scope.items scope.files one from) keep)
              (front_sits whole kept before a b sits).stands) (λ t ds falls still.
              rest.by (append before a) ds t (omega arith) (still room) (back_sits whole kept before a b sits));
        }

    open_does : (one : Opening) → open_rules scope.items scope.files one ≡ []
        → Repeats whole kept depth (open_one scope.items scope.files run one) (open_fragment scope inside one)
    open_does one keep =
        let does =
        named_does one.file _ (statement_on scope.items scope.files run phrases.Absent Done (verb.Open one.mode))
        (alone_fragment scope inside phrases.Absent (λ file. verb.Open one.mode)) keep
        (λ file filed asked. alone_does phrases.Absent refl (λ file. verb.Open one.mode) file filed) in
        record { by = λ before cs s below room sits. does.by before cs s below room sits }

    close_does : (one : Name) → close_rules scope.items scope.files one ≡ []
        → Repeats whole kept depth (close_one scope.items scope.files run one) (close_fragment scope inside one)
    close_does one keep =
        let does = named_does one _ (statement_on scope.items scope.files run phrases.Absent Done verb.Close)
        (alone_fragment scope inside phrases.Absent (λ file. verb.Close)) keep
        (λ file filed asked. alone_does phrases.Absent refl (λ file. verb.Close) file filed) in
        record { by = λ before cs s below room sits. does.by before cs s below room sits }

    into_onward : (into : Option Reference) (file : ProgramFile) → IsFiled whole scope.items file
        → into_rules scope.items scope.files file into ≡ []
        → Onward (into_item scope.items into file) (into_fragment scope.items into file)
    into_onward into file filed keep = record {
      blind = into_blind scope into file;
      by = λ before cs s st.
          into_does whole kept scope.items entries order scope.files file filed into before cs s keep st;
    }

    -- A file statement, after its `tick`.
    pub filing_does : (one : FileStatement S) → filing_rules scope.items scope.files one ≡ []
        → file_phrases_rules rules (phrases_of one) ≡ []
        → Repeats whole kept depth (file_outcome scope.items scope.files run one)
        (file_statement_fragment scope inside one)
    filing_does (Open all) keep inner = record {
      by = λ before cs s below room sits.
          in_order_does whole kept depth (open_rules scope.items scope.files) (open_one scope.items scope.files run)
          (open_fragment scope inside)
          (record { by = λ one now ds t kept_one less wide lies. (open_does one kept_one).by now ds t less wide lies })
          all before cs s keep below room sits;
    }
    filing_does (Close all) keep inner = record {
      by = λ before cs s below room sits.
          in_order_does whole kept depth (close_rules scope.items scope.files) (close_one scope.items scope.files run)
          (close_fragment scope inside)
          (record { by = λ one now ds t kept_one less wide lies. (close_does one kept_one).by now ds t less wide lies })
          all before cs s keep below room sits;
    }
    filing_does (Read file next into key all) keep inner =
        let verb_of = λ (file : ProgramFile). read_verb scope.items file next key in
        let does = named_does file (read_rules scope.items scope.files file.place next into key all)
        (meaning.read_outcome scope.items scope.files run next into key all)
        (statement_on_fragment scope inside all (into_fragment scope.items into) verb_of) keep (λ one filed asked.
        let onward = into_onward into one filed (into_kept scope file.place next into key all one asked) in
        let does = statement_does all inner (λ one. into_item scope.items into one) (into_fragment scope.items into)
        verb_of one filed onward in
        record { by = λ before cs s below room sits. does.by before cs s below room sits }) in
        record { by = λ before cs s below room sits. does.by before cs s below room sits }
    filing_does (Write one from all) keep inner =
        let does = record_does verb.Write one from all keep inner in
        record { by = λ before cs s below room sits. does.by before cs s below room sits }
    filing_does (Rewrite one from all) keep inner =
        let does = record_does verb.Rewrite one from all keep inner in
        record { by = λ before cs s below room sits. does.by before cs s below room sits }
    filing_does (Delete file all) keep inner =
        let does = named_does file (delete_rules scope.items scope.files file.place all)
        (statement_on scope.items scope.files run all Done verb.Delete)
        (alone_fragment scope inside all (λ file. verb.Delete)) keep
        (λ one filed asked. alone_does all inner (λ file. verb.Delete) one filed) in
        record { by = λ before cs s below room sits. does.by before cs s below room sits }
    filing_does (Start file key all) keep inner =
        let verb_of = λ (file : ProgramFile). start_verb scope.items file key in
        let does = named_does file (start_rules scope.items scope.files file.place key all)
        (meaning.start scope.items scope.files run key all)
        (alone_fragment scope inside all verb_of) keep (λ one filed asked. alone_does all inner verb_of one filed) in
        record { by = λ before cs s below room sits. does.by before cs s below room sits }
