-- A line that is inserted as a row, by any store.
use Rattle.std.proofs.Common.{◌≡◌, Bool, true, false, cond, ℕ, List, Result, Ok, Err, OnOk, inl, inr, ⊎_elim, refl, sym}
use Rattle.std.proofs.Common.{ap}
use Rattle.std.proofs.Common.{subst, ◌∙◌}
use Rattle.std.proofs.lemmas.Bool.{cond_both}
use Rattle.station.specs.Blocks.{CrashLeaves}
use Rattle.station.specs.Disk.{Sector}
use Rattle.station.specs.History.{Through}
use Rattle.station.specs.declared.device.Device.{Ghosts as Devices}
use Rattle.station.proofs.Spans.{stays, weakens}
use Rattle.station.specs.Disk.{Disk, IsCrashImage}
use Rattle.records.specs.declared.fault.StoreFault.{StoreFault}
use Rattle.records.specs.declared.fault.StoreFault.TheVariants.{Damaged, Memory}
use Rattle.records.specs.declared.file_spec.FileSpec.{FileSpec}
use Rattle.records.specs.declared.keeps.Keeps.{Ghosts as Stores}
use Rattle.records.specs.declared.answer.Outcome.{Outcome}
use Rattle.records.specs.declared.status.Status.TheVariants.{DuplicateKey}
use Rattle.records.specs.Spec.{Spec}
use Rattle.records.specs.Files.{File, Files, with_file}
use Rattle.records.specs.Changes.{FileChange, insertion}
use Rattle.records.specs.Stores.{Has, Either, IsNewNumber, is_change, files_after}
use Rattle.records.specs.Calls.{Represents, ChangesFiles}
use Rattle.records.proofs.Maps.{found_again}
use Rattle.volume_copies.specs.Record.{record_of}
use Rattle.volume_copies.specs.Loaded.{IsNext, following_number, file_change, AddsLine}
use Rattle.volume_copies.specs.Loads.{IsLineEnd}
use Rattle.volume_copies.specs.OneLine.{WithOrWithout, IsAdded, AddsOne, StaysUnless}
use Rattle.volume_copies.specs.declared.load_end.LoadEnd.{LoadEnd}
use Rattle.volume_copies.specs.declared.load_end.LoadEnd.TheVariants.{Rejected}
use Rattle.volume_copies.proofs.Inserted.{not_added, same_insertion, same_spec_after, next_after}

module _ (spec : FileSpec) (number : ℕ) (line bytes : List ℕ) (before : Files) (file : File)
    (has : Has before spec file)
    (is_new : IsNewNumber spec.organization number) (next : IsNext number file)
    (reads : record_of spec.record_length line ≡ Ok bytes) where
  abbrev change : FileChange
  change = file_change bytes file

  abbrev name : List ℕ
  name = spec.name.items

  pub of_file : record_of file.spec.record_length line ≡ Ok bytes
  of_file = subst (λ (p : Spec). record_of p.record_length line ≡ Ok bytes) (sym has.spec) reads

  new_in_file : IsNewNumber file.spec.organization number
  new_in_file = subst (λ (p : Spec). IsNewNumber p.organization number) (sym has.spec) is_new

  pub same_change : insertion number bytes file ≡ change
  same_change = same_insertion number bytes file new_in_file next

  pub adds : is_change change.outcome ≡ true → AddsLine name line before (with_file name change.file before)
  adds is = record { file = file; there = has.there; bytes = bytes; reads = of_file; added = is; after_is = refl }

  -- the files after it, with or without the row
  with_or_without : (holds : List Sector → Files → Type 0) (image : List Sector)
      → holds image (files_after name before change) → WithOrWithout holds name line before image
  with_or_without holds image = cond_both (is_change change.outcome) (with_file name change.file before) before
      (λ (after : Files). holds image after → WithOrWithout holds name line before image)
      (λ is here. inr (with_file name change.file before, adds is, here)) (λ _ here. inl here)

  after_change : is_change change.outcome ≡ true → files_after name before change ≡ with_file name change.file before
  after_change is = ap (λ (b : Bool). cond b (with_file name change.file before) before) is

  after_none : is_change change.outcome ≡ false → files_after name before change ≡ before
  after_none is = ap (λ (b : Bool). cond b (with_file name change.file before) before) is

  module _ {S : Type 0} (s : Stores S) {D : Type 0} (d : Devices D) (store : S) (device : D) (store' : S) (device' : D)
      {T : Type 0} (result : Result T StoreFault)
      (turns : ChangesFiles s d result false name before (files_after name before (insertion number bytes file)) store
      device store' device') where
    turned : ChangesFiles s d result false name before (files_after name before change) store device store' device'
    turned = subst (λ (c : FileChange). ChangesFiles s d result false name before (files_after name before c) store
        device store' device') same_change turns

    pub row_moments : Through (d.history device) (d.history device') (d.state device')
        (CrashLeaves (d.state device).events (WithOrWithout s.holds name line before))
    row_moments = weakens (d.history device) (d.history device') (d.state device')
        (CrashLeaves (d.state device).events (Either s.holds before (files_after name before change)))
        (CrashLeaves (d.state device).events (WithOrWithout s.holds name line before))
        (λ state leaves. record {
          events = leaves.events;
          images = λ image crash.
              ⊎_elim (λ old. inl old) (λ new. with_or_without s.holds image new) (leaves.images image crash);
        }) turned.moments

    pub row_added : is_change change.outcome ≡ true
        → OnOk result (Represents s d store' device' (with_file name change.file before))
    row_added is = subst (λ (l : Files). OnOk result (Represents s d store' device' l)) (after_change is) turned.there

    pub row_refused : is_change change.outcome ≡ false → OnOk result (Represents s d store' device' before)
    row_refused is = subst (λ (l : Files). OnOk result (Represents s d store' device' l)) (after_none is) turned.there

    pub is_added : is_change change.outcome ≡ true → Represents s d store' device' (with_file name change.file before)
        → IsAdded s d spec number line before store' device'
    is_added is stands = record {
      after = with_file name change.file before;
      adds = adds is;
      stands = stands;
      file = change.file;
      has = record { there = found_again name change.file before; spec = same_spec_after bytes file ∙ has.spec };
      next = subst (λ (p : Spec). IsNext (following_number p.organization number) change.file) has.spec
          (next_after number bytes file new_in_file next is);
    }

  module _ {S : Type 0} (s : Stores S) {D : Type 0} (d : Devices D) (store : S) (device : D) (store' : S) (device' : D)
      (outcome : Outcome) (is : outcome ≡ (insertion number bytes file).outcome)
      (turns : ChangesFiles s d (Ok outcome) false name before (files_after name before (insertion number bytes file))
      store device store' device') where
    outcome_is : is_change change.outcome ≡ is_change outcome
    outcome_is = ap (λ (c : FileChange). is_change c.outcome) (sym same_change) ∙ ap is_change (sym is)

    -- a record that became a row
    pub row_adds : is_change outcome ≡ true → AddsOne s d (Ok tt) spec number line before file device store' device'
    row_adds done =
        let added = outcome_is ∙ done in
        record {
          moments = row_moments s d store device store' device' (Ok outcome) turns;
          added = is_added s d store device store' device' (Ok outcome) turns added
              (row_added s d store device store' device' (Ok outcome) turns added);
          why = tt;
          stays = tt;
        }

    -- a record that has another row's key
    pub row_rejects : is_change outcome ≡ false
        → AddsOne s d (Err (Rejected DuplicateKey)) spec number line before file device store' device'
    row_rejects none =
        let refused = outcome_is ∙ none in
        record {
          moments = row_moments s d store device store' device' (Ok outcome) turns;
          added = tt;
          why = record { bytes = bytes; reads = of_file; rejected = not_added bytes file refused };
          stays = row_refused s d store device store' device' (Ok outcome) turns refused;
        }

-- a line that is refused before anything is written
pub line_stays : {S : Type 0} (s : Stores S) {D : Type 0} (d : Devices D) (spec : FileSpec) (number : ℕ)
    (line : List ℕ) (before : Files) (file : File) (store : S) (device : D)
    → ((disk : Disk) (image : List Sector) (files : Files) → s.stands store disk files → IsCrashImage disk image
    → s.holds image files)
    → Represents s d store device before → (end : LoadEnd) → IsLineEnd end file line
    → StaysUnless s d end before store device
    → AddsOne s d (Err end) spec number line before file device store device
line_stays s d spec number line before file store device held stands end why left = record {
  moments = stays (d.history device) (d.state device) _ (record {
    events = refl;
    images = λ image crash. inl (held (d.state device).disk image before stands.there crash);
  });
  added = tt;
  why = why;
  stays = left;
}

pub memory_not_damaged : Memory ≡ Damaged → ⊥
memory_not_damaged is = cc
