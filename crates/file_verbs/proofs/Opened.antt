-- OPEN, from what the store tells of a file to the files after it.
use Rattle.std.proofs.Common.{◌≡◌, Bool, true, false, cond, ℕ, List, Option, Some, None, refl, sym, ◌∙◌, ap, subst}
use Rattle.records.specs.declared.answer.Presence.TheVariants.{Absent, Different, Present}
use Rattle.records.specs.declared.select.Select.{Select}
use Rattle.std.specs.Prelude.{Result, Ok, Err, IfOk, OnOk}
use Rattle.station.specs.Disk.{Disk, Sector, IsCrashImage}
use Rattle.station.specs.declared.device.Device.{Ghosts as Devices}
use Rattle.records.specs.declared.fault.StoreFault.{StoreFault}
use Rattle.records.specs.declared.keeps.Keeps.{Ghosts as Stores}
use Rattle.records.specs.Calls.{Represents, OnlyReadsFiles, ChangesFiles}
use Rattle.records.proofs.Calls.{reads_turns}
use Rattle.records.specs.declared.status.Status.{Status}
use Rattle.records.specs.declared.status.Status.TheVariants.{Success, SuccessAbsent, FileMissing, FileDiffers}
use Rattle.records.specs.declared.verb.OpenMode.{OpenMode}
use Rattle.records.specs.declared.verb.OpenMode.TheVariants.{Input, Output, InputOutput, Extend}
use Rattle.records.specs.declared.verb.Verb.TheVariants.{Open}
use Rattle.records.specs.Spec.{Spec, same_spec}
use Rattle.records.specs.Files.{File, Files, file_at, with_file, empty_file, presence}
use Rattle.records.specs.Stores.{spec_of}
use Rattle.records.specs.Connector.{Connector, Area, entry_of, opened_connector}
use Rattle.records.specs.Steps.{Step, step, open_there, open_absent, end_step, opens, makes}
use Rattle.records.specs.FileStep.{has_changed, can_change_files}
use Rattle.records.proofs.Maps.{specs_same}
use Rattle.file_verbs.specs.declared.link.Link.{Link}
use Rattle.file_verbs.specs.Links.{IsLinked, There, Ends}
use Rattle.file_verbs.proofs.Calling.{reads_on, never_refused}
use Rattle.file_verbs.proofs.Taken.{ended}

pub absent_is : (o : Option File) (spec : Spec) → Absent ≡ presence o spec → o ≡ None
absent_is None spec is = refl
absent_is (Some file) spec is = absurd (different (same_spec file.spec spec) is)
  where
    different : (b : Bool) → Absent ≡ cond b Present Different → ⊥
    different true e = cc
    different false e = cc

pub present_is : (o : Option File) (spec : Spec) → Present ≡ presence o spec
    → (file : File) × (o ≡ Some file) × (same_spec file.spec spec ≡ true)
present_is None spec is = absurd cc
present_is (Some file) spec is = (file, refl, same (same_spec file.spec spec) is)
  where
    same : (b : Bool) → Present ≡ cond b Present Different → b ≡ true
    same true e = refl
    same false e = absurd cc

pub different_is : (o : Option File) (spec : Spec) → Different ≡ presence o spec
    → (file : File) × (o ≡ Some file) × (same_spec file.spec spec ≡ false)
different_is None spec is = absurd cc
different_is (Some file) spec is = (file, refl, same (same_spec file.spec spec) is)
  where
    same : (b : Bool) → Different ≡ cond b Present Different → b ≡ false
    same true e = absurd cc
    same false e = refl

-- a call that looked for the file, where nothing else is done, leaves the files
pub still_opened : {S : Type 0} {s : Stores S} {D : Type 0} {d : Devices D} {T U : Type 0}
    {result : Result T StoreFault} {store : S} {device : D} {store' : S} {device' : D}
    → OnlyReadsFiles s d result store device store' device'
    → ((disk : Disk) (image : List Sector) (files : Files) → s.stands store disk files → IsCrashImage disk image
    → s.holds image files)
    → (told : U) (is_new : Bool) (name : List ℕ) {files after : Files} → Represents s d store device files
    → after ≡ files → ChangesFiles s d {T = U} (Ok told) is_new name files after store device store' device'
still_opened {S} {s} {D} {d} {T} {U} {result} {store} {device} {store'} {device'} reads held told is_new name {files}
    stands same =
    subst (λ (f : Files). ChangesFiles s d {T = U} (Ok told) is_new name files f store device store' device') (sym same)
    (reads_turns s d (Ok told) store device store' device' (reads_on reads told) held is_new name files stands
    (λ is. never_refused is))

-- a mode that makes an absent file has changed files
pub makes_absent : (mode : OpenMode) → (mode ≡ Output → ⊥) → (mode ≡ Input → ⊥)
    → has_changed (Open mode) SuccessAbsent ≡ true
makes_absent Input new read = absurd (read refl)
makes_absent Output new read = absurd (new refl)
makes_absent InputOutput new read = refl
makes_absent Extend new read = refl

-- and it can change them
pub absent_can_change : (mode : OpenMode) → (mode ≡ Output → ⊥) → (mode ≡ Input → ⊥)
    → can_change_files (Open mode) ≡ true
absent_can_change Input new read = absurd (read refl)
absent_can_change Output new read = absurd (new refl)
absent_can_change InputOutput new read = refl
absent_can_change Extend new read = refl

module _ (s : Select) (files : Files) (c : Connector) (a : Area) where
  abbrev pub after : OpenMode → Files
  after mode = (step (entry_of s) files c a (Open mode)).files

  abbrev pub made : Files
  made = with_file s.file.name.items (empty_file (spec_of s.file)) files

  pub output_makes : (mode : OpenMode) → mode ≡ Output → after mode ≡ made
  output_makes mode is = ap after is

  abbrev by_file : OpenMode → Option File → Files
  by_file mode o = (open_there (entry_of s) files c a mode o).files

  stays : (mode : OpenMode) (there : File) (b : Bool)
      → (cond b (opens (entry_of s) files c a mode Success) (end_step (entry_of s) files c a FileDiffers)).files ≡ files
  stays mode there true = refl
  stays mode there false = refl

  pub present_stays : (mode : OpenMode) (there : File) → (mode ≡ Output → ⊥)
      → file_at s.file.name.items files ≡ Some there → after mode ≡ files
  present_stays Output there other is = absurd (other refl)
  present_stays Input there other is = ap (by_file Input) is ∙ stays Input there (same_spec there.spec (spec_of s.file))
  present_stays InputOutput there other is =
      ap (by_file InputOutput) is ∙ stays InputOutput there (same_spec there.spec (spec_of s.file))
  present_stays Extend there other is =
      ap (by_file Extend) is ∙ stays Extend there (same_spec there.spec (spec_of s.file))

  abbrev end : Status → Step
  end status = end_step (entry_of s) files c a status

  abbrev begun : OpenMode → Status → Step
  begun mode status = opens (entry_of s) files c a mode status

  abbrev there_by : OpenMode → Option File → Step
  there_by mode o = open_there (entry_of s) files c a mode o

  abbrev same_by : OpenMode → Bool → Step
  same_by mode b = cond b (begun mode Success) (end FileDiffers)

  abbrev optional_by : OpenMode → Bool → Step
  optional_by mode b = cond b (open_absent (entry_of s) files c a mode) (end FileMissing)

  -- except for OUTPUT
  by_there : (mode : OpenMode) → (mode ≡ Output → ⊥)
      → step (entry_of s) files c a (Open mode) ≡ there_by mode (file_at s.file.name.items files)
  by_there Input other = refl
  by_there Output other = absurd (other refl)
  by_there InputOutput other = refl
  by_there Extend other = refl

  pub begins : (mode : OpenMode) → (mode ≡ Output → ⊥) → Present ≡ presence (file_at s.file.name.items files)
      (spec_of s.file) → step (entry_of s) files c a (Open mode) ≡ begun mode Success
  begins mode other is =
      let p = present_is (file_at s.file.name.items files) (spec_of s.file) is in
      by_there mode other ∙ ap (there_by mode) p.1 ∙ ap (same_by mode) p.2

  pub differs : (mode : OpenMode) → (mode ≡ Output → ⊥) → Different ≡ presence (file_at s.file.name.items files)
      (spec_of s.file) → step (entry_of s) files c a (Open mode) ≡ end FileDiffers
  differs mode other is =
      let d = different_is (file_at s.file.name.items files) (spec_of s.file) is in
      by_there mode other ∙ ap (there_by mode) d.1 ∙ ap (same_by mode) d.2

  pub misses : (mode : OpenMode) → (mode ≡ Output → ⊥) → file_at s.file.name.items files ≡ None → s.optional ≡ false
      → step (entry_of s) files c a (Open mode) ≡ end FileMissing
  misses mode other none optional = by_there mode other ∙ ap (there_by mode) none ∙ ap (optional_by mode) optional

  pub reads_absent : (mode : OpenMode) → mode ≡ Input → file_at s.file.name.items files ≡ None → s.optional ≡ true
      → step (entry_of s) files c a (Open mode) ≡ begun mode SuccessAbsent
  reads_absent mode is none optional =
      ap (λ (m : OpenMode). step (entry_of s) files c a (Open m)) is ∙ ap (there_by Input) none
      ∙ ap (optional_by Input) optional ∙ ap (λ (m : OpenMode). begun m SuccessAbsent) (sym is)

  abbrev makes_by : OpenMode → Status → Step
  makes_by mode status = makes (entry_of s) files c a mode status

  pub output_step : (mode : OpenMode) → mode ≡ Output → step (entry_of s) files c a (Open mode) ≡ makes_by mode Success
  output_step mode is = ap (λ (m : OpenMode). step (entry_of s) files c a (Open m)) is
      ∙ ap (λ (m : OpenMode). makes_by m Success) (sym is)

  pub absent_step : (mode : OpenMode) → (mode ≡ Output → ⊥) → (mode ≡ Input → ⊥)
      → file_at s.file.name.items files ≡ None
      → s.optional ≡ true → step (entry_of s) files c a (Open mode) ≡ makes_by mode SuccessAbsent
  absent_step Input new read none optional = absurd (read refl)
  absent_step Output new read none optional = absurd (new refl)
  absent_step InputOutput new read none optional =
      ap (there_by InputOutput) none ∙ ap (optional_by InputOutput) optional
  absent_step Extend new read none optional = ap (there_by Extend) none ∙ ap (optional_by Extend) optional

  -- and such a step ends with the file's connector
  pub made_ends : (mode : OpenMode) (status : Status) (connector : Connector) (result : Result Status StoreFault)
      → step (entry_of s) files c a (Open mode) ≡ makes_by mode status → IfOk result (λ told. told ≡ status)
      → OnOk result (connector ≡ opened_connector mode)
      → IfOk result (λ told. Ends (step (entry_of s) files c a (Open mode)) told connector a)
  made_ends mode status connector (Ok x) same told opened =
      ended (step (entry_of s) files c a (Open mode)) (makes_by mode status) x connector a same told opened refl
  made_ends mode status connector (Err e) same told opened = tt

  -- a mode that makes the file has changed files
  abbrev changed_by : OpenMode → Step → Bool
  changed_by mode t = has_changed (Open mode) t.status

  pub output_changes : (mode : OpenMode) → mode ≡ Output
      → has_changed (Open mode) (step (entry_of s) files c a (Open mode)).status ≡ true
  output_changes mode is = ap (λ (m : OpenMode). changed_by m (step (entry_of s) files c a (Open m))) is

  pub absent_changes : (mode : OpenMode) → (mode ≡ Output → ⊥) → (mode ≡ Input → ⊥)
      → file_at s.file.name.items files ≡ None → s.optional ≡ true
      → has_changed (Open mode) (step (entry_of s) files c a (Open mode)).status ≡ true
  absent_changes mode new read none optional =
      ap (changed_by mode) (absent_step mode new read none optional) ∙ makes_absent mode new read

  -- a file that is there as it is said is linked
  pub present_linked : (mode : OpenMode) (l : Link) → (mode ≡ Output → ⊥)
      → Present ≡ presence (file_at s.file.name.items files) (spec_of s.file) → l.is_absent ≡ false
      → IsLinked (after mode) s l
  present_linked mode l other is there =
      let p = present_is (file_at s.file.name.items files) (spec_of s.file) is in
      subst (λ (f : Files). IsLinked f s l) (sym (present_stays mode p.0 other p.1))
      (There there p.0 (record { there = p.1; spec = specs_same p.0.spec (spec_of s.file) p.2 }))

-- an answer that reports a change is not one that reports none
pub idle_never : (A : Type 0) (mode : OpenMode) (status : Status) (result : Result Status StoreFault)
    → has_changed (Open mode) status ≡ true → IfOk result (λ told. told ≡ status)
    → IfOk result (λ told. has_changed (Open mode) told ≡ false → A)
idle_never A mode status (Ok x) changed told = λ none. let clash : true ≡ false =
    sym changed ∙ ap (λ (t : Status). has_changed (Open mode) t) (sym told) ∙ none in absurd cc
idle_never A mode status (Err e) changed told = tt
