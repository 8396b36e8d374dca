-- What a file statement finds.
use Rattle.std.proofs.Common.{◌≡◌, ◌<◌, ◌+◌, ℕ, zero, suc, List, [], ◌∷◌, length, map, get_or, Option, Some, None}
use Rattle.std.proofs.Common.{Result, Ok, Err, refl, sym, ◌∙◌, ap, subst, arith}
use Rattle.std.specs.Prelude.{slice_get, slice_index_or, IfSome, OnOk}
use Rattle.std.specs.Option.{option_map}
use Rattle.std.proofs.lemmas.Option.{same_Some, slice_get_within}
use Rattle.records.specs.declared.verb.Verb.{Verb}
use Rattle.records.specs.FileStep.{entry_at, no_entry, Suits}
use Rattle.source_tree.specs.SoundFiles.{IsRelativeKey}
use Rattle.data_instructions.specs.declared.index.ItemIndex.{ItemIndex}
use Rattle.data_instructions.specs.declared.tables.DataItem.{DataItem}
use Rattle.data_instructions.specs.declared.tables.DataTables.{DataTables}
use Rattle.data_instructions.specs.declared.shape.Shape.{Shape}
use Rattle.data_instructions.proofs.Known.{area_there}
use Rattle.data_machine.specs.declared.data.Data.{Data}
use Rattle.data_machine.specs.Ready.{IsAt}
use Rattle.data_machine.proofs.Inspects.{entry_read}
use Rattle.data_machine.proofs.ReadyTogether.{stands_there}
use Rattle.file_image.specs.declared.file.CodeFile.{CodeFile}
use Rattle.file_image.specs.declared.file.FileIndex.{FileIndex}
use Rattle.file_image.specs.Files.{place_of_item, place_at, entry_of, entries_of, IsItemIndex, IsTwoCharacters}
use Rattle.file_image.specs.Files.{NamesPlaces, IsCodeFile}
use Rattle.code_image.specs.declared.code.Code.{Code}
use Rattle.code_image.specs.declared.instruction.Instruction.TheVariants as instruction
use Rattle.code_image.specs.Demands.{IsVerified}
use Rattle.code_image.proofs.WellFormed.{files_within}
use Rattle.machine.specs.Filing.{FindsNumber, FindsStatus, FindsPlaces}

pub on_ok : {T E : Type 0} (r : Result T E) (P : Type 0) → P → OnOk r P
on_ok (Ok x) P p = p
on_ok (Err e) P p = tt

pub on_ok_from : {T E : Type 0} (r : Result T E) (A P : Type 0) → OnOk r A → (A → P) → OnOk r P
on_ok_from (Ok x) A P a from = from a
on_ok_from (Err e) A P a from = tt

-- ---- the file of the table

pub record FileHere (code : Code) (address : ℕ) (file : FileIndex) (verb : Verb) (one : CodeFile) : Type 0 where
  pub next : address + 1 < length code.instructions
  pub there : slice_get code.files file.number ≡ Some one
  pub names : NamesPlaces code.tables one
  pub sound : IsCodeFile code.tables one
  pub suits : Suits (entry_of code.tables one) verb

pub at_file : (code : Code) → IsVerified code → (address : ℕ) (file : FileIndex) (verb : Verb)
    → slice_get code.instructions address ≡ Some (instruction.File file verb) → (files : List CodeFile) (one : CodeFile)
    → files ≡ code.files
    → one ≡ get_or files file.number one → FileHere code address file verb one
at_file code verified address file verb here files one same read =
    let w = files_within code verified address file verb here in
    let there =
    entry_read files code.files file.number one same (slice_get_within code.files file.number w.one w.there) read in
    let is : w.one ≡ one = same_Some w.one one (sym w.there ∙ there) in
    record {
      next = w.next;
      there = there;
      names = subst (NamesPlaces code.tables) is w.names;
      sound = subst (IsCodeFile code.tables) is w.sound;
      suits = subst (λ (f : CodeFile). Suits (entry_of code.tables f) verb) is w.suits;
    }

-- ---- the entries of the connectors

module _ (tables : DataTables) where
  mapped_there : (files : List CodeFile) (n : ℕ) (one : CodeFile) → slice_get files n ≡ Some one
      → slice_index_or (map (entry_of tables) files) n no_entry ≡ entry_of tables one
  mapped_there [] n one here = absurd cc
  mapped_there (first ∷ more) zero one here = ap (entry_of tables) (same_Some first one here)
  mapped_there (first ∷ more) (suc n) one here = mapped_there more n one here

  mapped_many : (files : List CodeFile) → length (map (entry_of tables) files) ≡ length files
  mapped_many [] = refl
  mapped_many (first ∷ more) = ap suc (mapped_many more)

pub entry_here : (tables : DataTables) (files : List CodeFile) (n : ℕ) (one : CodeFile) → slice_get files n ≡ Some one
    → entry_at (entries_of tables files) n ≡ entry_of tables one
unfolding entries_of
entry_here tables files n one here = mapped_there tables files n one here

pub entries_many : (tables : DataTables) (files : List CodeFile) → length (entries_of tables files) ≡ length files
unfolding entries_of
entries_many tables files = mapped_many tables files

-- ---- its area and its items

some_there : {A : Type 0} (xs : List A) (n : ℕ) → n < length xs → (x : A) × (slice_get xs n ≡ Some x)
some_there [] n within = absurd (omega (arith, within))
some_there (x ∷ xs) zero within = (x, refl)
some_there (x ∷ xs) (suc n) within = some_there xs n (omega (arith, within))

module _ (tables : DataTables) (d : Data) (shape : Shape) (at : IsAt tables d shape) where
  number_found : (area : ℕ) (item : Option ItemIndex) → IfSome item (IsItemIndex tables)
      → IfSome (place_at tables item) (IsRelativeKey area)
      → IfSome item (FindsNumber tables d.areas)
  number_found area None there sound = tt
  number_found area (Some index) there sound =
      let one = some_there tables.items index.number there in
      let found = stands_there tables d shape at index one.0 one.1 in
      record {
        found = found;
        kind = (subst (λ (o : Option DataItem). IfSome (option_map place_of_item o) (IsRelativeKey area)) found.here
            sound).kind;
      }

  status_found : (item : Option ItemIndex) → IfSome item (IsItemIndex tables)
      → IfSome (place_at tables item) IsTwoCharacters
      → IfSome item (FindsStatus tables d.areas)
  status_found None there sound = tt
  status_found (Some index) there sound =
      let one = some_there tables.items index.number there in
      let found = stands_there tables d shape at index one.0 one.1 in
      record {
        found = found;
        kind = subst (λ (o : Option DataItem). IfSome (option_map place_of_item o) IsTwoCharacters) found.here sound;
      }

  pub finds_places : (one : CodeFile) → NamesPlaces tables one → IsCodeFile tables one → FindsPlaces tables d.areas one
  finds_places one names sound =
      let has = area_there d.areas tables.areas one.area sound.record_area.area at.areas sound.record_area.here in
      record {
        area = has.0;
        long = has.1 ∙ sound.record_area.long;
        relative_key = number_found one.area one.relative_key names.relative_key sound.relative_key;
        status = status_found one.status names.status sound.status;
      }
