-- What a file statement leaves in storage.
use Rattle.std.proofs.Common.{◌≡◌, ◌≢◌, ◌<◌, ℕ, zero, suc, ◌%◌, ◌^◌, ◌==◌, Bool, true, false, List, [], ◌∷◌, length}
use Rattle.std.proofs.Common.{map, Option, Some, None, refl, sym, ◌∙◌, ap, subst, inl, inr, arith, if◌then◌else◌}
use Rattle.std.proofs.Common.{◌⊎◌, get_or, Result, Ok, Err}
use Rattle.std.specs.Prelude.{slice_get, slice_set, slice_index_or, IfSome}
use Rattle.std.specs.Option.{option_map}
use Rattle.std.proofs.lemmas.Bool.Decides.{nat_tests}
use Rattle.std.proofs.lemmas.Option.{same_Some, slice_get_within}
use Rattle.records.specs.declared.status.Status.{Status}
use Rattle.records.specs.declared.verb.Verb.{Verb}
use Rattle.records.specs.Files.{Files}
use Rattle.records.specs.Connector.{Entry, Connector, Area}
use Rattle.records.specs.Steps.{Step}
use Rattle.records.specs.FileStep.{area, entry_at, file_step, needs_no_store, Suits, IsStep}
use Rattle.records.specs.Spec.{is_spec}
use Rattle.source_tree.specs.Storage.{Storage}
use Rattle.source_tree.specs.References.{ItemPlace}
use Rattle.source_tree.specs.ProgramFiles.{FilePlaces, digits_in, digits_at}
use Rattle.source_tree.specs.FileStatements.{relative_number, number_stored, with_number, with_status, area_of}
use Rattle.source_tree.specs.FileStatements.{stored_by, step_by}
use Rattle.data_instructions.specs.declared.index.ItemIndex.{ItemIndex}
use Rattle.data_instructions.specs.declared.tables.DataItem.{DataItem}
use Rattle.data_instructions.specs.declared.tables.DataTables.{DataTables}
use Rattle.data_machine.specs.Finds.{IsAtOffset}
use Rattle.data_machine.specs.FindsFirst.{IsAtFirst}
use Rattle.data_machine.proofs.Inspects.{entry_read}
use Rattle.file_image.specs.declared.file.CodeFile.{CodeFile}
use Rattle.file_image.specs.Files.{place_of_item, place_at, entry_of, places_of, spec_of as file_spec}
use Rattle.machine.specs.Filing.{FindsNumber, FindsStatus, with_low_number, Did}
use Rattle.machine.specs.Ends.{is_barring}
use Rattle.machine.proofs.Table.{StaysOrFits, number_fits, looks_at_files}

-- ---- areas as long as before

many_as_long : (xs ys : Storage) → map length xs ≡ map length ys → length xs ≡ length ys
many_as_long [] [] e = refl
many_as_long [] (y ∷ ys) e = absurd cc
many_as_long (x ∷ xs) [] e = absurd cc
many_as_long (x ∷ xs) (y ∷ ys) e = ap suc (many_as_long xs ys (tails e))
  where
    tails : length x ∷ map length xs ≡ length y ∷ map length ys → map length xs ≡ map length ys
    tails e = cc

area_as_long : (xs ys : Storage) (k : ℕ) → map length xs ≡ map length ys
    → length (slice_index_or xs k []) ≡ length (slice_index_or ys k [])
area_as_long [] [] k e = refl
area_as_long [] (y ∷ ys) k e = absurd cc
area_as_long (x ∷ xs) [] k e = absurd cc
area_as_long (x ∷ xs) (y ∷ ys) zero e = heads e
  where
    heads : length x ∷ map length xs ≡ length y ∷ map length ys → length x ≡ length y
    heads e = cc
area_as_long (x ∷ xs) (y ∷ ys) (suc k) e = area_as_long xs ys k (tails e)
  where
    tails : length x ∷ map length xs ≡ length y ∷ map length ys → map length xs ≡ map length ys
    tails e = cc

module _ (tables : DataTables) (old new : Storage) where
  found_as_long : {index : ItemIndex} → map length new ≡ map length old → IsAtFirst tables old index
      → IsAtFirst tables new index
  found_as_long long found =
      let many = many_as_long new old long in
      let as_long = area_as_long new old found.one.area long in
      record {
        one = found.one;
        here = found.here;
        stands = record {
          form = found.stands.form;
          editing = found.stands.editing;
          area = omega (arith, many, found.stands.area);
          within = omega (arith, as_long, found.stands.within);
        };
      }

  pub status_as_long : (item : Option ItemIndex) → map length new ≡ map length old
      → IfSome item (FindsStatus tables old) → IfSome item (FindsStatus tables new)
  unfolding found_as_long
  status_as_long None long found = tt
  status_as_long (Some index) long is = record { found = found_as_long long is.found; kind = is.kind }

  pub number_as_long : (item : Option ItemIndex) → map length new ≡ map length old
      → IfSome item (FindsNumber tables old) → IfSome item (FindsNumber tables new)
  unfolding found_as_long
  number_as_long None long found = tt
  number_as_long (Some index) long is = record { found = found_as_long long is.found; kind = is.kind }

-- ---- a record area that was given away and taken back

set_again : (xs : Storage) (i : ℕ) (x y : List ℕ) → slice_set (slice_set xs i x) i y ≡ slice_set xs i y
set_again [] i x y = refl
set_again (first ∷ more) zero x y = refl
set_again (first ∷ more) (suc i) x y = ap (λ ys. first ∷ ys) (set_again more i x y)

set_lengths : (xs : Storage) (i : ℕ) (ys : List ℕ) → length ys ≡ length (slice_index_or xs i [])
    → map length (slice_set xs i ys) ≡ map length xs
set_lengths [] i ys e = refl
set_lengths (x ∷ xs) zero ys e = ap (λ n. n ∷ map length xs) e
set_lengths (x ∷ xs) (suc i) ys e = ap (λ ns. length x ∷ ns) (set_lengths xs i ys e)

module _ (old given back : Storage) (i : ℕ) (x bytes new : List ℕ) (gives : given ≡ slice_set old i x)
    (takes : back ≡ slice_set given i new) where
  pub taken_back : back ≡ slice_set old i new
  taken_back = takes ∙ ap (λ (s : Storage). slice_set s i new) gives ∙ set_again old i x new

  pub back_lengths : bytes ≡ slice_index_or old i [] → length new ≡ length bytes → map length back ≡ map length old
  back_lengths bytes_are long = ap (map length) taken_back ∙ set_lengths old i new (long ∙ ap length bytes_are)

-- the name of a file's entry, and its digits
pub entry_digits : (tables : DataTables) (one : CodeFile) (entry : Entry) → entry ≡ entry_of tables one
    → entry.key_digits ≡ digits_at (place_at tables one.relative_key)
entry_digits tables one entry is = ap (λ (e : Entry). e.key_digits) is

-- ---- the number and the status

low_same : (n digits : ℕ) → n < 10 ^ digits → n % 10 ^ digits ≡ n
low_same n digits less = grind arith

pub other_test : (n m : ℕ) → n ≢ m → (n == m) ≡ false
other_test n m other = grind (arith, nat_tests)

same_test : (n : ℕ) → (n == n) ≡ true
same_test n = grind (arith, nat_tests)

-- a number that stays, or has no more digits than the item, is stored whole
number_whole : (place : Option ItemPlace) (old new : ℕ) (storage : Storage) → StaysOrFits (digits_at place) old new
    → with_low_number place old new storage ≡ with_number place old new storage
number_whole None old new storage fits = refl
number_whole (Some place) old new storage (inl same) =
    let yes : (old == new) ≡ true = ap (λ n. old == n) same ∙ same_test old in
    ap (λ (b : Bool). if b then storage
    else number_stored place.item.kind place (new % 10 ^ digits_in place.item.kind) storage) yes
    ∙ sym (ap (λ (b : Bool). if b then storage else number_stored place.item.kind place new storage) yes)
number_whole (Some place) old new storage (inr less) =
    ap (λ n. if old == new then storage else number_stored place.item.kind place n storage)
    (low_same new (digits_in place.item.kind) less)

-- What was stored is what the step leaves.
pub storage_left :
    (places : FilePlaces) (did : Step) (answered : Status) (old back left : Storage) (before after : ℕ) (bytes : List ℕ)
    → before ≡ (area_of places old).number → area bytes after ≡ did.area → answered ≡ did.status
    → back ≡ slice_set old places.area bytes
    → left ≡ with_status places.status answered (with_low_number places.relative_key before after back)
    → StaysOrFits (digits_at places.relative_key) (area_of places old).number did.area.number
    → left ≡ stored_by places did old
unfolding stored_by
storage_left places did answered old back left before after bytes before_is area_is status_is back_is left_is fits =
    left_is
    ∙ ap (λ (s : Status). with_status places.status s (with_low_number places.relative_key before after back)) status_is
    ∙ ap (λ (st : Storage). with_status places.status did.status st)
    (ap (λ n. with_low_number places.relative_key n after back) before_is
    ∙ ap (λ n. with_low_number places.relative_key (area_of places old).number n back)
    (ap (λ (a : Area). a.number) area_is)
    ∙ ap (with_low_number places.relative_key (area_of places old).number did.area.number)
    (back_is ∙ ap (slice_set old places.area) (ap (λ (a : Area). a.bytes) area_is))
    ∙ number_whole places.relative_key (area_of places old).number did.area.number
    (slice_set old places.area did.area.bytes) fits)

-- the step of a verb is the table's, with the area that the file has
pub step_of : (entries : List Entry) (places : FilePlaces) (verb : Verb) (files : Files) (connectors : List Connector)
    (storage : Storage) (bytes : List ℕ) (number : ℕ)
    → bytes ≡ (area_of places storage).bytes → number ≡ (area_of places storage).number
    → file_step entries files connectors places.number verb (area bytes number)
    ≡ step_by entries places verb files connectors storage
unfolding step_by
step_of entries places verb files connectors storage bytes number bytes_are number_is =
    ap (λ (bs : List ℕ). file_step entries files connectors places.number verb (area bs number)) bytes_are
    ∙ ap (λ n. file_step entries files connectors places.number verb (area (area_of places storage).bytes n)) number_is

pub step_number_fits : (entries : List Entry) (places : FilePlaces) (verb : Verb) (files : Files)
    (connectors : List Connector) (storage : Storage)
    → is_spec (entry_at entries places.number).spec ≡ true → Suits (entry_at entries places.number) verb
    → StaysOrFits (entry_at entries places.number).key_digits (area_of places storage).number
    (step_by entries places verb files connectors storage).area.number
unfolding step_by
step_number_fits entries places verb files connectors storage is suits =
    number_fits entries files connectors places.number verb (area_of places storage) is suits

-- what looks at files is barred by no connector
pub step_looks : (entries : List Entry) (places : FilePlaces) (verb : Verb) (files : Files)
    (connectors : List Connector) (storage : Storage)
    → needs_no_store entries connectors places.number verb ≡ false
    → is_barring (step_by entries places verb files connectors storage).status ≡ false
unfolding step_by
step_looks entries places verb files connectors storage asks =
    looks_at_files entries files connectors places.number verb (area_of places storage) asks

-- ---- an item where it stands

module _ (tables : DataTables) (storage : Storage) (index : ItemIndex) (items : List DataItem) (one : DataItem)
    (is : items ≡ tables.items) (found : IsAtFirst tables storage index)
    (read : one ≡ get_or items index.number one) where
  pub item_here : slice_get tables.items index.number ≡ Some one
  item_here =
      entry_read items tables.items index.number one is
      (slice_get_within tables.items index.number found.one found.here) read

  pub item_found : found.one ≡ one
  item_found = same_Some found.one one (sym found.here ∙ item_here)

  pub item_stands : IsAtOffset one storage one.offset
  item_stands = subst (λ (d : DataItem). IsAtOffset d storage d.offset) item_found found.stands

pub number_read : (tables : DataTables) (item : Option ItemIndex) (index : ItemIndex) (one : DataItem)
    (storage : Storage) (number : ℕ) → item ≡ Some index → slice_get tables.items index.number ≡ Some one
    → number ≡ relative_number (Some (place_of_item one)) storage
    → number ≡ relative_number (place_at tables item) storage
number_read tables item index one storage number some here is =
    is
    ∙ ap (λ (o : Option DataItem). relative_number (option_map place_of_item o) storage) (sym here)
    ∙ ap (λ (i : Option ItemIndex). relative_number (place_at tables i) storage) (sym some)

pub low_number_stored : (tables : DataTables) (item : Option ItemIndex) (index : ItemIndex) (one : DataItem)
    (old new : ℕ) (storage after : Storage)
    → item ≡ Some index → slice_get tables.items index.number ≡ Some one → (old == new) ≡ false
    → after ≡ number_stored one.item.kind (place_of_item one) (new % 10 ^ digits_in one.item.kind) storage
    → after ≡ with_low_number (place_at tables item) old new storage
low_number_stored tables item index one old new storage after some here other is =
    is
    ∙ ap (λ (b : Bool). if b then storage
    else number_stored one.item.kind (place_of_item one) (new % 10 ^ digits_in one.item.kind) storage) (sym other)
    ∙ ap (λ (o : Option DataItem). with_low_number (option_map place_of_item o) old new storage) (sym here)
    ∙ ap (λ (i : Option ItemIndex). with_low_number (place_at tables i) old new storage) (sym some)

-- The step of a verb on a file was done, in the words of its entry.
pub item_number_fits : (tables : DataTables) (entries : List Entry) (one : CodeFile) (n : ℕ) (verb : Verb)
    (files : Files) (connectors : List Connector) (storage : Storage) → entry_at entries n ≡ entry_of tables one
    → is_spec (file_spec one) ≡ true → Suits (entry_of tables one) verb
    → StaysOrFits (digits_at (place_at tables one.relative_key)) (area_of (places_of tables n one) storage).number
    (step_by entries (places_of tables n one) verb files connectors storage).area.number
item_number_fits tables entries one n verb files connectors storage entry spec suits =
    subst (λ (digits : Option ℕ). StaysOrFits digits (area_of (places_of tables n one) storage).number
    (step_by entries (places_of tables n one) verb files connectors storage).area.number)
    (entry_digits tables one (entry_at entries n) entry)
    (step_number_fits entries (places_of tables n one) verb files connectors storage
    (subst (λ (e : Entry). is_spec e.spec ≡ true) (sym entry) spec)
    (subst (λ (e : Entry). Suits e verb) (sym entry) suits))

pub step_done : {places : FilePlaces} {step did : Step} {answered : Status} {connectors after : List Connector}
    {old back left : Storage} {before number : ℕ} {bytes : List ℕ} → step ≡ did
    → IsStep connectors places.number step answered after (area bytes number)
    → before ≡ (area_of places old).number → back ≡ slice_set old places.area bytes
    → left ≡ with_status places.status answered (with_low_number places.relative_key before number back)
    → StaysOrFits (digits_at places.relative_key) (area_of places old).number did.area.number
    → Did places did answered connectors after old left
step_done {places} {did = did} {answered} {connectors} {after} {old} {back} {left} {before} {number} {bytes} is step
    before_is back_is left_is fits =
    let does = subst (λ (s : Step). IsStep connectors places.number s answered after (area bytes number)) is step in
    record {
      status_is = does.status_is;
      connectors_are = does.connectors_are;
      storage_is = storage_left places did answered old back left before number bytes before_is does.area_is
          does.status_is back_is left_is fits;
    }

-- what was done was not refused
pub never_err : {T E A : Type 0} {x : T} {e : E} → (◌≡◌ {A = Result T E} (Ok x) (Err e)) → A
never_err is = cc

pub never_lacks : {T E A : Type 0} {x : T} {e f : E}
    → (◌≡◌ {A = Result T E} (Ok x) (Err e)) ⊎ (◌≡◌ {A = Result T E} (Ok x) (Err f)) → A
never_lacks (inl is) = never_err is
never_lacks (inr is) = never_err is
