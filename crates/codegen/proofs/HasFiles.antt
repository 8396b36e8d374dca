-- The files of a program, in its code.
use Rattle.std.proofs.Common.{◌≡◌, ℕ, zero, suc, ◌+◌, ◌<◌, Bool, true, false, List, [], ◌∷◌, length, map, Some, None}
use Rattle.std.proofs.Common.{refl, sym, ap, subst, if◌then◌else◌}
use Rattle.std.specs.Prelude.{filter, slice_get}
use Rattle.std.specs.List.{AllByRecursion}
use Rattle.std.proofs.lemmas.Option.{same_Some, slice_get_within, get_or_from_slice_get}
use Rattle.records.specs.declared.verb.Verb.{Verb}
use Rattle.records.specs.Connector.{Entry}
use Rattle.records.specs.FileStep.{no_entry, entry_at, Suits}
use Rattle.source_tree.specs.LookUp.{first}
use Rattle.source_tree.specs.Places.{LocatedItem}
use Rattle.source_tree.specs.ProgramFiles.{ProgramFile, entries_of}
use Rattle.source_tree.specs.Setting.{Scope}
use Rattle.file_image.specs.declared.file.CodeFile.{CodeFile}
use Rattle.file_image.specs.Files as table
use Rattle.file_image.specs.Files.{places_of}
use Rattle.code_image.specs.declared.code.Code.{Code}
use Rattle.statement_codegen.specs.FileCode.{sent_entry}

-- A file stands in the table, with its places, and after the items stands what READ INTO sends of it.
pub record IsFiled (whole : Code) (items : List LocatedItem) (file : ProgramFile) : Type 0 where
  pub code : CodeFile
  pub here : slice_get whole.files file.places.number ≡ Some code
  pub places : places_of whole.tables file.places.number code ≡ file.places
  pub sent : slice_get whole.tables.items (length items + file.places.number) ≡ Some (sent_entry items file)

pub record HasFiles (whole : Code) (scope : Scope) : Type 0 where
  pub entries : table.entries_of whole.tables whole.files ≡ entries_of scope.files
  pub each : AllByRecursion (IsFiled whole scope.items) scope.files

-- what is so of all is so of the first that passes
module _ {A : Type 0} (P : A → Type 0) (test : A → Bool) where
  of_two : (passes : Bool) (x one : A) (rest : List A) → P x → (first rest ≡ Some one → P one)
      → first (if passes then x ∷ rest else rest) ≡ Some one
      → P one
  of_two true x one rest h more e = subst P (same_Some x one e) h
  of_two false x one rest h more e = more e

  pub first_so : (all : List A) (one : A) → AllByRecursion P all → first (filter test all) ≡ Some one → P one
  first_so [] one h e = absurd cc
  first_so (x ∷ xs) one h e = of_two (test x) x one (filter test xs) h.0 (first_so xs one h.1) e

  of_false : (passes : Bool) (x : A) (rest : List A) → first (if passes then x ∷ rest else rest) ≡ None → passes ≡ false
  of_false true x rest e = absurd cc
  of_false false x rest e = refl

  of_rest : (passes : Bool) (x : A) (rest : List A) → first (if passes then x ∷ rest else rest) ≡ None
      → first rest ≡ None
  of_rest true x rest e = absurd cc
  of_rest false x rest e = e

  -- where none passes
  pub none_pass : (all : List A) → first (filter test all) ≡ None → AllByRecursion (λ (x : A). test x ≡ false) all
  none_pass [] e = tt
  none_pass (x ∷ xs) e = (of_false (test x) x (filter test xs) e, none_pass xs (of_rest (test x) x (filter test xs) e))

-- the first that passes does so
module _ {A : Type 0} (test : A → Bool) where
  by_first : (passes : Bool) (x one : A) (rest : List A) → test x ≡ passes → (first rest ≡ Some one → test one ≡ true)
      → first (if passes then x ∷ rest else rest) ≡ Some one → test one ≡ true
  by_first true x one rest is more e = subst (λ y. test y ≡ true) (same_Some x one e) is
  by_first false x one rest is more e = more e

  pub first_passes : (all : List A) (one : A) → first (filter test all) ≡ Some one → test one ≡ true
  first_passes [] one e = absurd cc
  first_passes (x ∷ xs) one e = by_first (test x) x one (filter test xs) refl (first_passes xs one) e

-- ---- files by their numbers

abbrev pub IsNumbered : List ProgramFile → ProgramFile → Type 0
IsNumbered files file = slice_get files file.places.number ≡ Some file

-- There is a file of this number, and the verb suits it.
pub record IsSuited (files : List ProgramFile) (number : ℕ) (verb : Verb) : Type 0 where
  pub within : number < length files
  pub suits : Suits (entry_at (entries_of files) number) verb

mapped_at : {A B : Type 0} (f : A → B) (all : List A) (k : ℕ) (one : A) → slice_get all k ≡ Some one
    → slice_get (map f all) k ≡ Some (f one)
mapped_at f [] k one here = absurd cc
mapped_at f (x ∷ xs) zero one here = ap (λ y. Some (f y)) (same_Some x one here)
mapped_at f (x ∷ xs) (suc k) one here = mapped_at f xs k one here

entry_there : (files : List ProgramFile) (file : ProgramFile) → IsNumbered files file
    → entry_at (entries_of files) file.places.number ≡ file.entry
entry_there files file is =
    get_or_from_slice_get (entries_of files) file.places.number file.entry no_entry
    (mapped_at (λ (one : ProgramFile). one.entry) files file.places.number file is)

pub suited : (files : List ProgramFile) (file : ProgramFile) (verb : Verb) → IsNumbered files file
    → Suits file.entry verb
    → IsSuited files file.places.number verb
suited files file verb is suits = record {
  within = slice_get_within files file.places.number file is;
  suits = subst (λ (entry : Entry). Suits entry verb) (sym (entry_there files file is)) suits;
}
