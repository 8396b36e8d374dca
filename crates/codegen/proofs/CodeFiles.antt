-- The table of files has what the meaning has of each, and is in order, where the rules are kept.
use Rattle.std.proofs.Common.{◌≡◌, ℕ, zero, suc, ◌+◌, ◌<◌, List, [], ◌∷◌, length, map, Option, Some, None, refl, sym}
use Rattle.std.proofs.Common.{ap, ◌∙◌, subst, arith}
use Rattle.std.specs.Prelude.{IfSome, slice_get}
use Rattle.std.specs.List.{AllByRecursion}
use Rattle.std.proofs.lemmas.Option.{same_Some}
use Rattle.records.specs.Connector as connector
use Rattle.source_tree.specs.declared.select.Select.{Select}
use Rattle.source_tree.specs.declared.select.FileDescription.{FileDescription}
use Rattle.source_tree.specs.Broken.{RuleBreach, each}
use Rattle.source_tree.specs.FileRules.{select_rules}
use Rattle.source_tree.specs.Places.{LocatedItem}
use Rattle.source_tree.specs.ProgramFiles.{ProgramFile, digits_at, item_place, files_from, entries_of}
use Rattle.source_tree.specs.References.{ItemPlace}
use Rattle.source_tree.specs.SoundFiles.{IsRelativeKey, IsStatus, IsSound}
use Rattle.data_instructions.specs.declared.tables.DataTables.{DataTables}
use Rattle.data_instructions.specs.Codes.{data_item}
use Rattle.file_image.specs.declared.file.CodeFile.{CodeFile}
use Rattle.file_image.specs.Files as table
use Rattle.file_image.specs.Files.{place_at, entry_of, places_of, NamesPlaces, IsTwoCharacters, IsCodeFile}
use Rattle.statement_codegen.specs.FileCode.{code_file, code_files}
use Rattle.condition_codegen.proofs.Lists.{left_none, right_none}
use Rattle.codegen.proofs.FileTable.{file_of, file_at, NamesOne, clauses_named, place_is, index_there}
use Rattle.codegen.proofs.HasFiles.{IsNumbered}

-- ---- lists

-- what is so at each place is so of all
pub every : {A : Type 0} (P : A → Type 0) (xs : List A) → ((k : ℕ) (x : A) → slice_get xs k ≡ Some x → P x)
    → AllByRecursion P xs
every P [] h = tt
every P (x ∷ xs) h = (h 0 x refl, every P xs (λ k y here. h (suc k) y here))

pub each_at : {A : Type 0} (P : A → Type 0) (xs : List A) → AllByRecursion P xs → (k : ℕ) (x : A)
    → slice_get xs k ≡ Some x → P x
each_at P [] all k x here = absurd cc
each_at P (y ∷ ys) all zero x here = subst P (same_Some y x here) all.0
each_at P (y ∷ ys) all (suc k) x here = each_at P ys all.1 k x here

-- one of a list that breaks no rule
pub kept_at : {A : Type 0} (rules : A → List RuleBreach) (all : List A) (n : ℕ) (one : A) → each rules all ≡ []
    → slice_get all n ≡ Some one → rules one ≡ []
kept_at rules [] n one e here = absurd cc
kept_at rules (first ∷ more) zero one e here =
    subst (λ x. rules x ≡ []) (same_Some first one here) (left_none (rules first) (each rules more) e)
kept_at rules (first ∷ more) (suc n) one e here =
    kept_at rules more n one (right_none (rules first) (each rules more) e) here

if_some : {A : Type 0} (P Q : A → Type 0) → ((x : A) → P x → Q x) → (o : Option A) → IfSome o P → IfSome o Q
if_some P Q from None h = tt
if_some P Q from (Some x) h = from x h

module _ (items : List LocatedItem) (areas : ℕ) (descriptions : List FileDescription) where
  -- ---- the same number of files, and their numbers

  pub files_count : (number : ℕ) (selects : List Select)
      → length (files_from items areas descriptions number selects) ≡ length selects
  files_count number [] = refl
  files_count number (one ∷ more) = ap suc (files_count (number + 1) more)

  pub codes_count : (number : ℕ) (selects : List Select)
      → length (code_files items selects (files_from items areas descriptions number selects)) ≡ length selects
  codes_count number [] = refl
  codes_count number (one ∷ more) = ap suc (codes_count (number + 1) more)

  -- the file of an entry
  pub file_there : (number : ℕ) (selects : List Select) (j : ℕ) (code : CodeFile)
      → slice_get (code_files items selects (files_from items areas descriptions number selects)) j ≡ Some code
      → (file : ProgramFile) × (slice_get (files_from items areas descriptions number selects) j ≡ Some file)
  file_there number [] j code e = absurd cc
  file_there number (one ∷ more) zero code e = (file_of items areas descriptions number one, refl)
  file_there number (one ∷ more) (suc j) code e = file_there (number + 1) more j code e

  pub all_numbered : (selects : List Select)
      → (let files = files_from items areas descriptions 0 selects in AllByRecursion (IsNumbered files) files)
  all_numbered selects =
      let files = files_from items areas descriptions 0 selects in
      every (IsNumbered files) files (λ k file here.
      let at = file_at items areas descriptions 0 selects k file here in
      let number : file.places.number ≡ 0 + k = ap (λ (f : ProgramFile). f.places.number) at.is in
      let same : file.places.number ≡ k = omega (arith, number) in
      ap (slice_get files) same ∙ here)

  -- ---- what the meaning has of a file

  module _ (tables : DataTables) (entries : (n : ℕ) (one : LocatedItem) → slice_get items n ≡ Some one
      → slice_get tables.items n ≡ Some (data_item one)) where
    module _ (number : ℕ) (one : Select) (named : NamesOne items one.relative_key × NamesOne items one.status) where
      abbrev file : ProgramFile
      file = file_of items areas descriptions number one

      pub places_are : places_of tables number (code_file items one file) ≡ file.places
      places_are =
          ap (λ (place : Option ItemPlace). record (places_of tables number (code_file items one file)) {
            relative_key =
                place;
          }) (place_is items tables entries one.relative_key named.0)
          ∙ ap (λ (place : Option ItemPlace). record file.places { status = place })
          (place_is items tables entries one.status named.1)

      pub entry_is : entry_of tables (code_file items one file) ≡ file.entry
      entry_is = ap (λ (place : Option ItemPlace). record file.entry { key_digits = digits_at place })
          (place_is items tables entries one.relative_key named.0)

      -- ---- what is demanded of it

      pub names_places : file.places.area < length tables.areas → NamesPlaces tables (code_file items one file)
      names_places within = record {
        area = within;
        relative_key = index_there items tables entries one.relative_key named.0;
        status = index_there items tables entries one.status named.1;
      }

      pub is_code_file : IsSound areas file → (area : List ℕ) → slice_get tables.areas file.places.area ≡ Some area
          → length area ≡ file.entry.spec.record_length → IsCodeFile tables (code_file items one file)
      is_code_file sound area here long = record {
        name = sound.name;
        spec = sound.spec;
        record_area = record { area = area; here = here; long = long };
        relative_key = subst (λ (place : Option ItemPlace). IfSome place (IsRelativeKey file.places.area))
            (sym (place_is items tables entries one.relative_key named.0)) sound.relative_key;
        status = subst (λ (place : Option ItemPlace). IfSome place IsTwoCharacters)
            (sym (place_is items tables entries one.status named.1))
            (if_some (IsStatus areas) IsTwoCharacters (λ place h. h.kind) (item_place items one.status) sound.status);
      }

    entries_from : (number : ℕ) (selects : List Select) → each (select_rules items areas descriptions) selects ≡ []
        → map (entry_of tables) (code_files items selects (files_from items areas descriptions number selects))
        ≡ entries_of (files_from items areas descriptions number selects)
    entries_from number [] e = refl
    entries_from number (one ∷ more) e =
        let rules = select_rules items areas descriptions in
        let named = clauses_named items areas descriptions one (left_none (rules one) (each rules more) e) in
        let first = file_of items areas descriptions number one in
        let others = files_from items areas descriptions (number + 1) more in
        ap (λ (entry : connector.Entry). entry ∷ map (entry_of tables) (code_files items more others))
        (entry_is number one named)
        ∙ ap (λ (l : List connector.Entry). first.entry ∷ l)
        (entries_from (number + 1) more (right_none (rules one) (each rules more) e))

    pub entries_are : (selects : List Select) → each (select_rules items areas descriptions) selects ≡ []
        → table.entries_of tables (code_files items selects (files_from items areas descriptions 0 selects))
        ≡ entries_of (files_from items areas descriptions 0 selects)
    unfolding table.entries_of
    entries_are selects e = entries_from 0 selects e
