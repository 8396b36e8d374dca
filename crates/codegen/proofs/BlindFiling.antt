-- The code of file statements doesn't depend on the instructions before it, but on how many there are.
use Rattle.std.proofs.Common.{[], ◌∷◌, List, Option, Some, None}
use Rattle.records.specs.declared.verb.Verb as on_files
use Rattle.records.specs.declared.verb.Verb.TheVariants as file_verb
use Rattle.source_tree.specs.declared.name.Name.{Name}
use Rattle.source_tree.specs.declared.reference.Reference.{Reference}
use Rattle.source_tree.specs.declared.expression.Operand.TheVariants as operand
use Rattle.source_tree.specs.declared.data_statement.DataStatement.TheVariants.{Move}
use Rattle.source_tree.specs.declared.phrases.FilePhrases.{FilePhrases}
use Rattle.source_tree.specs.declared.phrases.FilePhrases.TheVariants.{Absent, AtEnd, InvalidKey}
use Rattle.source_tree.specs.declared.file_statement.Opening.{Opening}
use Rattle.source_tree.specs.declared.file_statement.FileStatement.{FileStatement}
use Rattle.source_tree.specs.declared.file_statement.FileStatement.TheVariants.{Open, Close, Read, Write, Rewrite}
use Rattle.source_tree.specs.declared.file_statement.FileStatement.TheVariants.{Delete, Start}
use Rattle.source_tree.specs.Filing.{file_with_record, read_verb, start_verb}
use Rattle.source_tree.specs.LookUp.{items_named, first}
use Rattle.source_tree.specs.ProgramFiles.{ProgramFile, files_named}
use Rattle.source_tree.specs.References.{ItemPlace}
use Rattle.source_tree.specs.Setting.{Scope}
use Rattle.data_instructions.specs.declared.instruction.DataInstruction.TheVariants as i
use Rattle.file_image.specs.declared.class.StatusClass.{StatusClass}
use Rattle.file_image.specs.declared.class.StatusClass.TheVariants as class
use Rattle.code_image.specs.declared.instruction.Instruction.TheVariants.{File, TestStatus, Unheard}
use Rattle.condition_codegen.specs.Fragments.{Fragment, sequence, plain_code}
use Rattle.condition_codegen.specs.Meeting.{either_fragment, nothing_fragment}
use Rattle.condition_codegen.specs.DataCode.{works_fragment, take_fragment, receivers_fragment}
use Rattle.statement_codegen.specs.FileCode.{sent_index, file_fragment, test_fragment, unheard_fragment}
use Rattle.statement_codegen.specs.FileCode.{on_file_fragment, into_fragment, from_fragment, on_record_fragment}
use Rattle.codegen.specs.Layout.{phrase_fragment, taken_fragment, success_fragment, class_fragment, failure_fragment}
use Rattle.codegen.specs.Layout.{status_fragment, statement_on_fragment, alone_fragment, open_fragment, close_fragment}
use Rattle.codegen.specs.Layout.{record_fragment, file_statement_fragment}
use Rattle.codegen.proofs.Blind.{Blind, constant_blind, both_blind, in_order_blind, works_blind, taking_blind}
use Rattle.codegen.proofs.Blind.{moving_blind}
use Rattle.codegen.proofs.ConditionBlind.{nothing_blind}
use Rattle.codegen.proofs.Either.{either_blind}

test_blind : (one : StatusClass) → Blind (test_fragment one)
test_blind one = constant_blind (plain_code (TestStatus one ∷ []))

pub unheard_blind : (status : Option ItemPlace) → Blind (unheard_fragment status)
unheard_blind (Some item) = nothing_blind
unheard_blind None = constant_blind (plain_code (Unheard ∷ []))

on_file_blind : (found : Option ProgramFile) (piece : ProgramFile → Fragment)
    → ((file : ProgramFile) → Blind (piece file)) → Blind (on_file_fragment found piece)
on_file_blind None piece f = nothing_blind
on_file_blind (Some file) piece f = f file

module _ (scope : Scope) where
  pub into_blind : (into : Option Reference) (file : ProgramFile) → Blind (into_fragment scope.items into file)
  into_blind None file = nothing_blind
  into_blind (Some into) file =
      let taking = i.Place (sent_index scope.items file) ∷ i.Take ∷ [] in
      both_blind (works_fragment taking) (receivers_fragment scope.items (into ∷ [])) (works_blind taking)
      (in_order_blind (take_fragment scope.items i.Move) (λ one. taking_blind scope.items i.Move one) (into ∷ []))

  from_blind : (to : Reference) (from : Option Reference) → Blind (from_fragment scope.items to from)
  from_blind to None = nothing_blind
  from_blind to (Some from) = moving_blind scope.items (Move (operand.Item from) (to ∷ []))

  module _ {S : Type 0} (inside : S → Fragment)
      (stated : (phrase : Option (List S)) → Blind (phrase_fragment scope inside phrase)) where
    pub taken_blind : (status : Option ItemPlace) (phrase : Option (List S))
        → Blind (taken_fragment scope inside status phrase)
    taken_blind status None = unheard_blind status
    taken_blind status (Some statements) = stated (Some statements)

    pub success_blind : (phrases : FilePhrases S) → Blind (success_fragment scope inside phrases)
    success_blind Absent = nothing_blind
    success_blind (AtEnd pair) = stated pair.did_not
    success_blind (InvalidKey pair) = stated pair.did_not

    class_blind : (status : Option ItemPlace) (one : StatusClass) (arose : Option (List S))
        → Blind (class_fragment scope inside status one arose)
    class_blind status one arose =
        let first = taken_fragment scope inside status arose in
        both_blind (test_fragment one) (either_fragment first (unheard_fragment status)) (test_blind one)
        (either_blind first (unheard_fragment status) (taken_blind status arose) (unheard_blind status))

    pub failure_blind : (status : Option ItemPlace) (phrases : FilePhrases S)
        → Blind (failure_fragment scope inside status phrases)
    failure_blind status Absent = unheard_blind status
    failure_blind status (AtEnd pair) = class_blind status class.AtEnd pair.arose
    failure_blind status (InvalidKey pair) = class_blind status class.InvalidKey pair.arose

    status_blind : (status : Option ItemPlace) (phrases : FilePhrases S) (onward : Fragment) → Blind onward
        → Blind (status_fragment scope inside status phrases onward)
    status_blind status phrases onward f =
        let success = success_fragment scope inside phrases in
        let failure = failure_fragment scope inside status phrases in
        both_blind (test_fragment class.Successful) (either_fragment (sequence onward success) failure)
        (test_blind class.Successful)
        (either_blind (sequence onward success) failure (both_blind onward success f (success_blind phrases))
        (failure_blind status phrases))

    statement_on_blind :
        (phrases : FilePhrases S) (onward : ProgramFile → Fragment) (verb : ProgramFile → on_files.Verb)
        → ((file : ProgramFile) → Blind (onward file)) → (file : ProgramFile)
        → Blind (statement_on_fragment scope inside phrases onward verb file)
    statement_on_blind phrases onward verb f file =
        both_blind (file_fragment (verb file) file)
        (status_fragment scope inside file.places.status phrases (onward file))
        (constant_blind (plain_code (File (record { number = file.places.number }) (verb file) ∷ [])))
        (status_blind file.places.status phrases (onward file) (f file))

    alone_blind : (phrases : FilePhrases S) (verb : ProgramFile → on_files.Verb) (file : ProgramFile)
        → Blind (alone_fragment scope inside phrases verb file)
    alone_blind phrases verb = statement_on_blind phrases (λ file. nothing_fragment) verb (λ file. nothing_blind)

    -- of the file of a name
    named_blind : (name : Name) (piece : ProgramFile → Fragment) → ((file : ProgramFile) → Blind (piece file))
        → Blind (on_file_fragment (first (files_named scope.files name)) piece)
    named_blind name piece f = on_file_blind (first (files_named scope.files name)) piece f

    record_blind : (verb : on_files.Verb) (one : Reference) (from : Option Reference) (phrases : FilePhrases S)
        → Blind (record_fragment scope inside verb one from phrases)
    record_blind verb one from phrases =
        let statement = alone_fragment scope inside phrases (λ file. verb) in
        both_blind (from_fragment scope.items one from) (on_record_fragment scope.items scope.files one statement)
        (from_blind one from)
        (on_file_blind (file_with_record scope.files (first (items_named scope.items one.item))) statement
        (alone_blind phrases (λ file. verb)))

    open_blind : (one : Opening) → Blind (open_fragment scope inside one)
    open_blind one =
        named_blind one.file (alone_fragment scope inside Absent (λ file. file_verb.Open one.mode))
        (alone_blind Absent (λ file. file_verb.Open one.mode))

    close_blind : (one : Name) → Blind (close_fragment scope inside one)
    close_blind one = named_blind one (alone_fragment scope inside Absent (λ file. file_verb.Close))
        (alone_blind Absent (λ file. file_verb.Close))

    pub filing_blind : (one : FileStatement S) → Blind (file_statement_fragment scope inside one)
    filing_blind (Open all) = in_order_blind (open_fragment scope inside) open_blind all
    filing_blind (Close all) = in_order_blind (close_fragment scope inside) close_blind all
    filing_blind (Read file next into key phrases) =
        let verb = λ (file : ProgramFile). read_verb scope.items file next key in
        named_blind file (statement_on_fragment scope inside phrases (into_fragment scope.items into) verb)
        (statement_on_blind phrases (into_fragment scope.items into) verb (into_blind into))
    filing_blind (Write one from phrases) = record_blind file_verb.Write one from phrases
    filing_blind (Rewrite one from phrases) = record_blind file_verb.Rewrite one from phrases
    filing_blind (Delete file phrases) =
        named_blind file (alone_fragment scope inside phrases (λ file. file_verb.Delete))
        (alone_blind phrases (λ file. file_verb.Delete))
    filing_blind (Start file key phrases) =
        let verb = λ (file : ProgramFile). start_verb scope.items file key in
        named_blind file (alone_fragment scope inside phrases verb) (alone_blind phrases verb)
