-- The code of a file statement, by that of the statements in its phrases.
use Rattle.std.proofs.Common.{◌≡◌, List, [], ◌∷◌, Option, Some, None, refl, ap}
use Rattle.std.specs.Prelude.{map}
use Rattle.std.specs.Option.{option_map}
use Rattle.records.specs.declared.verb.Verb as on_files
use Rattle.records.specs.declared.verb.Verb.TheVariants as file_verb
use Rattle.source_tree.specs.declared.name.Name.{Name}
use Rattle.source_tree.specs.declared.reference.Reference.{Reference}
use Rattle.source_tree.specs.declared.phrases.FilePhrases.{FilePhrases}
use Rattle.source_tree.specs.declared.phrases.FilePhrases.TheVariants.{Absent, AtEnd, InvalidKey}
use Rattle.source_tree.specs.declared.file_statement.FileStatement.{FileStatement}
use Rattle.source_tree.specs.declared.file_statement.FileStatement.TheVariants.{Open, Close, Read, Write, Rewrite}
use Rattle.source_tree.specs.declared.file_statement.FileStatement.TheVariants.{Delete, Start}
use Rattle.source_tree.specs.Filing.{file_with_record, read_verb, start_verb}
use Rattle.source_tree.specs.LookUp.{items_named, first}
use Rattle.source_tree.specs.ProgramFiles.{ProgramFile, files_named}
use Rattle.source_tree.specs.References.{ItemPlace}
use Rattle.source_tree.specs.Setting.{Scope}
use Rattle.file_image.specs.declared.class.StatusClass.{StatusClass}
use Rattle.file_image.specs.declared.class.StatusClass.TheVariants as class
use Rattle.code_image.specs.declared.code.Code.{Code}
use Rattle.declarations.proofs.FilingLayers.{mapped_phrases, mapped_filing}
use Rattle.condition_codegen.specs.Fragments.{Fragment, append, sequence, in_order}
use Rattle.condition_codegen.specs.Meeting.{nothing_fragment}
use Rattle.statement_codegen.specs.FileCode.{file_fragment, test_fragment, unheard_fragment, on_file_fragment}
use Rattle.statement_codegen.specs.FileCode.{into_fragment, from_fragment}
use Rattle.codegen.specs.Layout.{phrase_fragment, taken_fragment, success_fragment, class_fragment, failure_fragment}
use Rattle.codegen.specs.Layout.{status_fragment, statement_on_fragment, record_fragment}
use Rattle.codegen.specs.Layout.{file_statement_fragment}
use Rattle.codegen.proofs.Either.{either_map}

module _ (scope : Scope) {A B : Type 0} (f : A → B) (g : B → Fragment) where
  abbrev h : A → Fragment
  h one = g (f one)

  statements_same : (all : List A) (before : Code) → in_order g (map f all) before ≡ in_order h all before
  statements_same [] before = refl
  statements_same (one ∷ more) before = ap (append (h one before)) (statements_same more (append before (h one before)))

  phrase_same : (phrase : Option (List A)) (before : Code)
      → phrase_fragment scope g (option_map (map f) phrase) before ≡ phrase_fragment scope h phrase before
  phrase_same None before = refl
  phrase_same (Some inside) before = statements_same inside before

  taken_same : (status : Option ItemPlace) (phrase : Option (List A)) (before : Code)
      → taken_fragment scope g status (option_map (map f) phrase) before ≡ taken_fragment scope h status phrase before
  taken_same status None before = refl
  taken_same status (Some inside) before = statements_same inside before

  success_same : (phrases : FilePhrases A) (before : Code)
      → success_fragment scope g (mapped_phrases f phrases) before ≡ success_fragment scope h phrases before
  success_same Absent before = refl
  success_same (AtEnd pair) before = phrase_same pair.did_not before
  success_same (InvalidKey pair) before = phrase_same pair.did_not before

  class_same : (status : Option ItemPlace) (one : StatusClass) (arose : Option (List A)) (before : Code)
      → class_fragment scope g status one (option_map (map f) arose) before
      ≡ class_fragment scope h status one arose before
  class_same status one arose before =
      let a = test_fragment one before in
      ap (append a)
      (either_map (taken_fragment scope g status (option_map (map f) arose)) (taken_fragment scope h status arose)
      (unheard_fragment status) (unheard_fragment status)
      (taken_same status arose) (λ now. refl) (append before a))

  failure_same : (status : Option ItemPlace) (phrases : FilePhrases A) (before : Code)
      → failure_fragment scope g status (mapped_phrases f phrases) before
      ≡ failure_fragment scope h status phrases before
  failure_same status Absent before = refl
  failure_same status (AtEnd pair) before = class_same status class.AtEnd pair.arose before
  failure_same status (InvalidKey pair) before = class_same status class.InvalidKey pair.arose before

  status_same : (status : Option ItemPlace) (phrases : FilePhrases A) (onward : Fragment) (before : Code)
      → status_fragment scope g status (mapped_phrases f phrases) onward before
      ≡ status_fragment scope h status phrases onward before
  status_same status phrases onward before =
      let a = test_fragment class.Successful before in
      ap (append a)
      (either_map (sequence onward (success_fragment scope g (mapped_phrases f phrases)))
      (sequence onward (success_fragment scope h phrases))
      (failure_fragment scope g status (mapped_phrases f phrases)) (failure_fragment scope h status phrases)
      (λ now. ap (append (onward now)) (success_same phrases (append now (onward now)))) (failure_same status phrases)
      (append before a))

  statement_same : (phrases : FilePhrases A) (onward : ProgramFile → Fragment) (verb : ProgramFile → on_files.Verb)
      (file : ProgramFile) (before : Code)
      → statement_on_fragment scope g (mapped_phrases f phrases) onward verb file before
      ≡ statement_on_fragment scope h phrases onward verb file before
  statement_same phrases onward verb file before =
      let a = file_fragment (verb file) file before in
      ap (append a) (status_same file.places.status phrases (onward file) (append before a))

  found_same : (found : Option ProgramFile) (phrases : FilePhrases A) (onward : ProgramFile → Fragment)
      (verb : ProgramFile → on_files.Verb) (before : Code)
      → on_file_fragment found (statement_on_fragment scope g (mapped_phrases f phrases) onward verb) before
      ≡ on_file_fragment found (statement_on_fragment scope h phrases onward verb) before
  found_same None phrases onward verb before = refl
  found_same (Some file) phrases onward verb before = statement_same phrases onward verb file before

  named_same : (name : Name) (phrases : FilePhrases A) (onward : ProgramFile → Fragment)
      (verb : ProgramFile → on_files.Verb) (before : Code)
      → on_file_fragment (first (files_named scope.files name))
      (statement_on_fragment scope g (mapped_phrases f phrases) onward verb) before
      ≡ on_file_fragment (first (files_named scope.files name)) (statement_on_fragment scope h phrases onward verb)
      before
  named_same name phrases onward verb before =
      found_same (first (files_named scope.files name)) phrases onward verb before

  record_same :
      (verb : on_files.Verb) (one : Reference) (from : Option Reference) (phrases : FilePhrases A) (before : Code)
      → record_fragment scope g verb one from (mapped_phrases f phrases) before
      ≡ record_fragment scope h verb one from phrases before
  record_same verb one from phrases before =
      let a = from_fragment scope.items one from before in
      ap (append a)
      (found_same (file_with_record scope.files (first (items_named scope.items one.item))) phrases
      (λ file. nothing_fragment) (λ file. verb) (append before a))

  pub filing_same : (one : FileStatement A) (before : Code)
      → file_statement_fragment scope g (mapped_filing f one) before ≡ file_statement_fragment scope h one before
  filing_same (Open all) before = refl
  filing_same (Close all) before = refl
  filing_same (Read file next into key phrases) before =
      named_same file phrases (into_fragment scope.items into) (λ file. read_verb scope.items file next key) before
  filing_same (Write one from phrases) before = record_same file_verb.Write one from phrases before
  filing_same (Rewrite one from phrases) before = record_same file_verb.Rewrite one from phrases before
  filing_same (Delete file phrases) before =
      named_same file phrases (λ file. nothing_fragment) (λ file. file_verb.Delete) before
  filing_same (Start file key phrases) before =
      named_same file phrases (λ file. nothing_fragment) (λ file. start_verb scope.items file key) before
