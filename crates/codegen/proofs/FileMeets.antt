-- The code of file statements meets the demands on ways, files and ranges.
use Rattle.std.proofs.Common.{◌≡◌, ℕ, List, [], ◌∷◌, Option, Some, None, refl, subst}
use Rattle.std.specs.Prelude.{◌==◌}
use Rattle.std.specs.List.{AllByRecursion}
use Rattle.records.specs.declared.verb.Verb as on_files
use Rattle.records.specs.declared.verb.Verb.TheVariants as verb
use Rattle.records.specs.FileStep.{Suits}
use Rattle.source_tree.specs.declared.name.Name.{Name}
use Rattle.source_tree.specs.declared.reference.Reference.{Reference}
use Rattle.source_tree.specs.declared.phrases.FilePhrases.{FilePhrases}
use Rattle.source_tree.specs.declared.phrases.FilePhrases.TheVariants.{Absent, AtEnd, InvalidKey}
use Rattle.source_tree.specs.declared.file_statement.Opening.{Opening}
use Rattle.source_tree.specs.declared.file_statement.FileStatement.{FileStatement}
use Rattle.source_tree.specs.declared.file_statement.FileStatement.TheVariants.{Open, Close, Read, Write, Rewrite}
use Rattle.source_tree.specs.declared.file_statement.FileStatement.TheVariants.{Delete, Start}
use Rattle.source_tree.specs.Filing.{file_with_record, read_verb, start_verb, phrases_of}
use Rattle.source_tree.specs.LookUp.{items_named, first}
use Rattle.source_tree.specs.Names.{same}
use Rattle.source_tree.specs.Places.{LocatedItem}
use Rattle.source_tree.specs.ProgramFiles.{ProgramFile, files_named}
use Rattle.source_tree.specs.References.{ItemPlace}
use Rattle.source_tree.specs.Setting.{Scope}
use Rattle.source_tree.proofs.FileVerbs.{read_suits, start_suits}
use Rattle.data_instructions.specs.declared.instruction.DataInstruction.TheVariants as i
use Rattle.file_image.specs.declared.class.StatusClass.{StatusClass}
use Rattle.file_image.specs.declared.class.StatusClass.TheVariants as class
use Rattle.code_image.specs.declared.code.Code.{Code}
use Rattle.code_image.specs.declared.instruction.Instruction.TheVariants.{File, TestStatus, Unheard}
use Rattle.condition_codegen.specs.Fragments.{Fragment, append, sequence, in_order}
use Rattle.condition_codegen.specs.Meeting.{either_fragment, nothing_fragment}
use Rattle.condition_codegen.specs.DataCode.{works_fragment, take_fragment, receivers_fragment}
use Rattle.statement_codegen.specs.FileCode.{sent_index, file_fragment, test_fragment, unheard_fragment}
use Rattle.statement_codegen.specs.FileCode.{on_file_fragment, into_fragment, from_fragment, on_record_fragment}
use Rattle.codegen.specs.Layout.{phrase_fragment, taken_fragment, success_fragment, class_fragment, failure_fragment}
use Rattle.codegen.specs.Layout.{status_fragment, statement_on_fragment, alone_fragment, open_fragment, close_fragment}
use Rattle.codegen.specs.Layout.{record_fragment, file_statement_fragment}
use Rattle.codegen.proofs.Blind.{Blind, both_blind}
use Rattle.codegen.proofs.BlindFiling.{unheard_blind, into_blind, taken_blind, success_blind, failure_blind}
use Rattle.codegen.proofs.ConditionBlind.{nothing_blind}
use Rattle.codegen.proofs.HasFiles.{first_so, IsNumbered, IsSuited, suited}
use Rattle.codegen.proofs.Leading.{plain_names, Asks, Meets, both_meet, nothing_meets, straight_meets, either_meets}
use Rattle.codegen.proofs.Straight.{AlwaysStraight, both_straight, nothing_straight, in_order_straight, works_straight}
use Rattle.codegen.proofs.Straight.{taking_straight}

module _ (items : List LocatedItem) where
  receivers_straight : (all : List Reference) → AlwaysStraight items (receivers_fragment items all)
  receivers_straight = in_order_straight (take_fragment items i.Move) (taking_straight items i.Move)

  into_straight : (into : Option Reference) (file : ProgramFile) → AlwaysStraight items (into_fragment items into file)
  into_straight None file before = nothing_straight
  into_straight (Some into) file before =
      let taking = i.Place (sent_index items file) ∷ i.Take ∷ [] in
      both_straight (works_fragment taking) (receivers_fragment items (into ∷ [])) (works_straight taking)
      (receivers_straight (into ∷ [])) before

  from_straight : (to : Reference) (from : Option Reference) → AlwaysStraight items (from_fragment items to from)
  from_straight to None before = nothing_straight
  from_straight to (Some from) before =
      both_straight (take_fragment items i.Take from) (receivers_fragment items (to ∷ []))
      (taking_straight items i.Take from) (receivers_straight (to ∷ [])) before

module _ (Q : Asks) where
  -- a piece, after whatever code
  abbrev AlwaysMeets : Fragment → Type 0
  AlwaysMeets piece = (before : Code) → Meets Q before (piece before)

  pieces_meet : (one two : Fragment) → AlwaysMeets one → AlwaysMeets two → AlwaysMeets (sequence one two)
  pieces_meet one two f s before =
      both_meet Q before (one before) (two (append before (one before))) (f before) (s (append before (one before)))

  straight_so : (piece : Fragment) → AlwaysStraight Q.items piece → AlwaysMeets piece
  straight_so piece straight before = straight_meets Q before (piece before) (straight before)

  test_meets : (one : StatusClass) → AlwaysMeets (test_fragment one)
  test_meets one before =
      record {
        names = plain_names before (TestStatus one ∷ []) (tt, tt);
        leads = (tt, tt);
        starts = refl;
        none = refl;
        performs = (tt, tt);
      }

  unheard_meets : (status : Option ItemPlace) → AlwaysMeets (unheard_fragment status)
  unheard_meets (Some item) before = nothing_meets Q before
  unheard_meets None before =
      record {
        names = plain_names before (Unheard ∷ []) (tt, tt);
        leads = (tt, tt);
        starts = refl;
        none = refl;
        performs = (tt, tt);
      }

  in_order_meets : {A : Type 0} (piece : A → Fragment) → ((one : A) → AlwaysMeets (piece one)) → (all : List A)
      → AlwaysMeets (in_order piece all)
  in_order_meets piece f [] before = nothing_meets Q before
  in_order_meets piece f (one ∷ more) before =
      both_meet Q before (piece one before) (in_order piece more (append before (piece one before))) (f one before)
      (in_order_meets piece f more (append before (piece one before)))

  -- `numbered`: each file has its number; `gives`: what is asked of a verb is so where it suits its file.
  module _ (scope : Scope) (alike : scope.items ≡ Q.items)
      (numbered : AllByRecursion (IsNumbered scope.files) scope.files)
      (gives : (number : ℕ) (verb : on_files.Verb) → IsSuited scope.files number verb → Q.verbs number verb) where
    scope_straight : (piece : Fragment) → AlwaysStraight scope.items piece → AlwaysMeets piece
    scope_straight piece straight = straight_so piece (subst (λ l. AlwaysStraight l piece) alike straight)

    file_meets : (one : on_files.Verb) (file : ProgramFile) → IsNumbered scope.files file → Suits file.entry one
        → AlwaysMeets (file_fragment one file)
    file_meets one file is suits before = record {
      names = plain_names before (File (record { number = file.places.number }) one ∷ []) (tt, tt);
      leads = (tt, tt);
      starts = refl;
      none = refl;
      performs = (gives file.places.number one (suited scope.files file one is suits), tt);
    }

    module _ {S : Type 0} (inside : S → Fragment)
        (stated : (phrase : Option (List S)) → Blind (phrase_fragment scope inside phrase)) where
      -- its phrases meet them
      abbrev pub PhrasesMeet : FilePhrases S → Type 0
      PhrasesMeet Absent = Unit {0}
      PhrasesMeet (AtEnd pair) = AlwaysMeets (phrase_fragment scope inside pair.arose)
          × AlwaysMeets (phrase_fragment scope inside pair.did_not)
      PhrasesMeet (InvalidKey pair) = AlwaysMeets (phrase_fragment scope inside pair.arose)
          × AlwaysMeets (phrase_fragment scope inside pair.did_not)

      taken_meets : (status : Option ItemPlace) (phrase : Option (List S))
          → AlwaysMeets (phrase_fragment scope inside phrase)
          → AlwaysMeets (taken_fragment scope inside status phrase)
      taken_meets status None h before = unheard_meets status before
      taken_meets status (Some statements) h before = h before

      success_meets : (phrases : FilePhrases S) → PhrasesMeet phrases
          → AlwaysMeets (success_fragment scope inside phrases)
      success_meets Absent h before = nothing_meets Q before
      success_meets (AtEnd pair) h before = h.1 before
      success_meets (InvalidKey pair) h before = h.1 before

      class_meets : (status : Option ItemPlace) (one : StatusClass) (arose : Option (List S))
          → AlwaysMeets (phrase_fragment scope inside arose)
          → AlwaysMeets (class_fragment scope inside status one arose)
      class_meets status one arose h =
          let first = taken_fragment scope inside status arose in
          pieces_meet (test_fragment one) (either_fragment first (unheard_fragment status)) (test_meets one)
          (either_meets Q first (unheard_fragment status) (taken_blind scope inside stated status arose)
          (unheard_blind status) (taken_meets status arose h)
          (unheard_meets status))

      failure_meets : (status : Option ItemPlace) (phrases : FilePhrases S) → PhrasesMeet phrases
          → AlwaysMeets (failure_fragment scope inside status phrases)
      failure_meets status Absent h = unheard_meets status
      failure_meets status (AtEnd pair) h = class_meets status class.AtEnd pair.arose h.0
      failure_meets status (InvalidKey pair) h = class_meets status class.InvalidKey pair.arose h.0

      -- what comes first after a success
      record FirstMeets (piece : Fragment) : Type 0 where
        blind : Blind piece
        meets : AlwaysMeets piece

      nothing_first : FirstMeets nothing_fragment
      nothing_first = record { blind = nothing_blind; meets = nothing_meets Q }

      status_meets : (status : Option ItemPlace) (phrases : FilePhrases S) (onward : Fragment) → PhrasesMeet phrases
          → FirstMeets onward
          → AlwaysMeets (status_fragment scope inside status phrases onward)
      status_meets status phrases onward h f =
          let success = success_fragment scope inside phrases in
          let failure = failure_fragment scope inside status phrases in
          pieces_meet (test_fragment class.Successful) (either_fragment (sequence onward success) failure)
          (test_meets class.Successful)
          (either_meets Q (sequence onward success) failure
          (both_blind onward success f.blind (success_blind scope inside stated phrases))
          (failure_blind scope inside stated status phrases)
          (pieces_meet onward success f.meets (success_meets phrases h)) (failure_meets status phrases h))

      statement_meets : (phrases : FilePhrases S) (onward : ProgramFile → Fragment) (one : ProgramFile → on_files.Verb)
          → PhrasesMeet phrases
          → ((file : ProgramFile) → FirstMeets (onward file)) → ((file : ProgramFile) → Suits file.entry (one file))
          → (file : ProgramFile)
          → IsNumbered scope.files file → AlwaysMeets (statement_on_fragment scope inside phrases onward one file)
      statement_meets phrases onward one h f suits file is =
          pieces_meet (file_fragment (one file) file)
          (status_fragment scope inside file.places.status phrases (onward file))
          (file_meets (one file) file is (suits file))
          (status_meets file.places.status phrases (onward file) h (f file))

      found_meets : (found : Option ProgramFile) (piece : ProgramFile → Fragment)
          → ((file : ProgramFile) → found ≡ Some file → AlwaysMeets (piece file))
          → AlwaysMeets (on_file_fragment found piece)
      found_meets None piece h before = nothing_meets Q before
      found_meets (Some file) piece h before = h file refl before

      -- the file of a name
      named_meets : (name : Name) (phrases : FilePhrases S) (onward : ProgramFile → Fragment)
          (one : ProgramFile → on_files.Verb) → PhrasesMeet phrases
          → ((file : ProgramFile) → FirstMeets (onward file)) → ((file : ProgramFile) → Suits file.entry (one file))
          → AlwaysMeets (on_file_fragment (first (files_named scope.files name))
          (statement_on_fragment scope inside phrases onward one))
      named_meets name phrases onward one h f suits =
          found_meets (first (files_named scope.files name)) (statement_on_fragment scope inside phrases onward one)
          (λ file is.
          statement_meets phrases onward one h f suits file
          (first_so (IsNumbered scope.files) (λ other. same name other.name) scope.files file numbered is))

      alone_meets : (name : Name) (phrases : FilePhrases S) (one : ProgramFile → on_files.Verb) → PhrasesMeet phrases
          → ((file : ProgramFile) → Suits file.entry (one file))
          → AlwaysMeets
          (on_file_fragment (first (files_named scope.files name)) (alone_fragment scope inside phrases one))
      alone_meets name phrases one h suits =
          named_meets name phrases (λ file. nothing_fragment) one h (λ file. nothing_first) suits

      with_record : (found : Option LocatedItem) (file : ProgramFile) → file_with_record scope.files found ≡ Some file
          → IsNumbered scope.files file
      with_record None file e = absurd cc
      with_record (Some one) file e =
          first_so (IsNumbered scope.files) (λ (other : ProgramFile). other.places.area == one.area) scope.files file
          numbered e

      record_meets : (one : on_files.Verb) → ((file : ProgramFile) → Suits file.entry one)
          → (to : Reference) (from : Option Reference)
          (phrases : FilePhrases S) → PhrasesMeet phrases
          → AlwaysMeets (record_fragment scope inside one to from phrases)
      record_meets one suits to from phrases h =
          let found = first (items_named scope.items to.item) in
          let statement = alone_fragment scope inside phrases (λ file. one) in
          pieces_meet (from_fragment scope.items to from) (on_record_fragment scope.items scope.files to statement)
          (scope_straight (from_fragment scope.items to from) (from_straight scope.items to from))
          (found_meets (file_with_record scope.files found) statement (λ file is.
          statement_meets phrases (λ file. nothing_fragment) (λ file. one) h (λ file. nothing_first) suits file
          (with_record found file is)))

      open_meets : (one : Opening) → AlwaysMeets (open_fragment scope inside one)
      open_meets one = alone_meets one.file Absent (λ file. verb.Open one.mode) tt (λ file. tt)

      close_meets : (one : Name) → AlwaysMeets (close_fragment scope inside one)
      close_meets one = alone_meets one Absent (λ file. verb.Close) tt (λ file. tt)

      pub filing_meets : (one : FileStatement S) → PhrasesMeet (phrases_of one)
          → AlwaysMeets (file_statement_fragment scope inside one)
      filing_meets (Open all) h = in_order_meets (open_fragment scope inside) open_meets all
      filing_meets (Close all) h = in_order_meets (close_fragment scope inside) close_meets all
      filing_meets (Read file next into key phrases) h =
          named_meets file phrases (into_fragment scope.items into) (λ file. read_verb scope.items file next key) h
          (λ file. record {
            blind = into_blind scope into file;
            meets = scope_straight (into_fragment scope.items into file) (into_straight scope.items into file);
          }) (λ file. read_suits scope.items file next key)
      filing_meets (Write one from phrases) h = record_meets verb.Write (λ file. tt) one from phrases h
      filing_meets (Rewrite one from phrases) h = record_meets verb.Rewrite (λ file. tt) one from phrases h
      filing_meets (Delete file phrases) h = alone_meets file phrases (λ file. verb.Delete) h (λ file. tt)
      filing_meets (Start file key phrases) h =
          alone_meets file phrases (λ file. start_verb scope.items file key) h
          (λ file. start_suits scope.items file key)
