-- A change of the files that are there, from what is made in memory to what is written.
use Rattle.std.proofs.Common.{◌≡◌, ◌≢◌, inl, inr, ⊎_elim, refl, ◌≤◌, ◌<◌, ◌+◌, ◌^◌, Bool, true, false, ℕ, List, length}
use Rattle.std.proofs.Common.{map, get_or}
use Rattle.std.proofs.Common.{Some, sym, ◌∙◌, ap, subst, arith}
use Rattle.std.specs.Prelude.{Result, Ok, Err, IfErr, OnOk, OnErr}
use Rattle.std.specs.List.{AllByRecursion}
use Rattle.std.specs.Result.{IsErrAnd}
use Rattle.std.proofs.lemmas.Result.{err_from_is_err_and}
use Rattle.station.specs.Disk.{Disk}
use Rattle.station.specs.History.{Through}
use Rattle.station.specs.Blocks.{CrashLeaves}
use Rattle.station.specs.declared.device.Device.{Ghosts as Devices}
use Rattle.station.specs.Calls.{OnlyWrites}
use Rattle.station.proofs.Calls.{blamed_where, writes_nothing}
use Rattle.station.proofs.Spans.{stays}
use Rattle.records.specs.declared.answer.Outcome.{Outcome}
use Rattle.records.specs.declared.fault.StoreFault.{StoreFault}
use Rattle.records.specs.declared.fault.StoreFault.TheVariants.{Device, Full, Damaged, Memory, Spent, Layout, Old}
use Rattle.records.specs.declared.file_spec.FileSpec.{FileSpec}
use Rattle.records.specs.declared.keeps.Keeps.{Ghosts as Stores}
use Rattle.records.specs.Calls as calls
use Rattle.records.specs.Calls.{ChangesFiles}
use Rattle.records.specs.Changes.{FileChange, insertion, replacement, removal}
use Rattle.records.specs.Files.{File, Files, AreFiles, AreShort, IsByte, file_at, with_file, empty_file}
use Rattle.records.specs.Laws.{RowsAscend}
use Rattle.records.specs.Rows.{Row, Pair, same_bytes}
use Rattle.records.specs.Spec.{Spec, is_long}
use Rattle.records.specs.Stores.{Has, Either, IsNewNumber, spec_of, files_after, is_change}
use Rattle.records.proofs.Calls.{passed_on}
use Rattle.records.proofs.Changed.{created_are_files, inserted_are_files, replaced_are_files, removed_are_files}
use Rattle.records.proofs.Short.{created_short, inserted_short, replaced_short, removed_short}
use Rattle.file_bytes.specs.declared.stored.StoredFile.{StoredFile}
use Rattle.file_bytes.specs.declared.stored.StoredRow.{StoredRow}
use Rattle.file_bytes.specs.Stored.{row_of, file_of, files_of}
use Rattle.half_store.specs.declared.store.HalfStore.{HalfStore}
use Rattle.half_store.specs.Half.{Holds, Rests, AreHalfFiles}
use Rattle.half_store.specs.Seeking.{AreRecords}
use Rattle.half_store.specs.Settled.{CommitsFiles}
use Rattle.half_store.specs.Stands.{Represents, LacksRoom}
use Rattle.half_store.specs.Changing.{IsMemoryCause}
use Rattle.half_store.specs.Write.{IsCause}
use Rattle.half_store.proofs.Passed.{passed, on_refused, never_ok, same_error}
use Rattle.half_store.proofs.Written.{at_rest}
use Rattle.half_store.proofs.Placed.{early_held, early_after, early_with, no_change, counted, found_there, held_is}
use Rattle.half_store.proofs.Placed.{records_held, rows_ascend}
use Rattle.half_store.proofs.Rooms.{lacks_room}
use Rattle.half_store.proofs.Turned.{inserted_next, replaced_next, removed_next, cause_sound, cause_takes}

on_up : {T E A B : Type 0} (result : Result T E) → OnOk result A → (A → B) → OnOk result B
on_up (Ok x) a f = f a
on_up (Err e) a f = tt

-- The store represents these files, and one of them is changed.
module _ {store : HalfStore} {disk : Disk} {files : Files} (stands : Represents store disk files) where
  -- what is known of the files in memory is known of the file that is held
  pub of_held : (P : File → Type 0) {spec : FileSpec} {held : File} → Has files spec held
      → ((held : File) → Has (files_of store.files.items) spec held → AreFiles (files_of store.files.items) → P held)
      → P held
  of_held P {spec} {held} has from = from held
      (subst (λ (l : Files). Has l spec held) (sym stands.memory) has)
      (subst AreFiles (sym stands.memory) stands.rests.holds.sound)

  -- a half of the next generation may hold the files after the change
  pub half_after : (name : List ℕ) {held : File} (changed : FileChange) → file_at name files ≡ Some held
      → changed.file.next_arrival ≤ held.next_arrival + 1 → AreFiles (files_after name files changed)
      → AreShort (files_after name files changed) → AreHalfFiles (store.generation + 1) (files_after name files changed)
  half_after name {held} changed there next are short = record {
    sound = are;
    early = early_after store.generation name files changed
        (omega (arith, next, early_held store.generation name files held stands.rests.holds.early there))
        stands.rests.holds.early;
    short = short;
  }

  pub memory_after : (name : List ℕ) (changed : FileChange) {new : Files}
      → new ≡ files_after name (files_of store.files.items) changed → new ≡ files_after name files changed
  memory_after name changed is = is ∙ ap (λ (l : Files). files_after name l changed) stands.memory

  pub idle_after : (name : List ℕ) (changed : FileChange) {outcome : Outcome} → outcome ≡ changed.outcome
      → is_change outcome ≡ false → files_after name files changed ≡ files
  idle_after name changed is none = no_change name files changed (sym (ap is_change is) ∙ none)

  -- no arrival is left for the file, so there is no room for the files after a change of it
  pub late_lacks : (name : List ℕ) {held : File} {after : Files} → file_at name files ≡ Some held
      → 2 ^ 63 ≤ held.next_arrival + 1 → LacksRoom disk.present after
  late_lacks name {held} {after} there late = lacks_room store.sectors store.generation disk files after stands.rests
      (inl (inr (omega (arith, late, early_held store.generation name files held stands.rests.holds.early there))))

  -- so it may after each change of a row
  pub inserted_half : {spec : FileSpec} {held : File} → Has files spec held → (number : ℕ) (bytes : List ℕ)
      → IsNewNumber spec.organization number → length bytes ≡ spec.record_length → AllByRecursion IsByte bytes
      → AreHalfFiles (store.generation + 1) (files_after spec.name.items files (insertion number bytes held))
  inserted_half {spec} {held} has number bytes is_new long small =
      half_after spec.name.items (insertion number bytes held) has.there (inserted_next number bytes held)
      (inserted_are_files spec.name.items held files number bytes stands.rests.holds.sound has.there
      (subst (λ (s : Spec). IsNewNumber s.organization number) (sym has.spec) is_new)
      (long ∙ sym (ap (λ (s : Spec). s.record_length) has.spec)) small)
      (inserted_short spec.name.items held files number bytes stands.rests.holds.short has.there)

  pub replaced_half : {spec : FileSpec} {held : File} → Has files spec held → (number : ℕ) (bytes : List ℕ)
      → length bytes ≡ spec.record_length → AllByRecursion IsByte bytes
      → AreHalfFiles (store.generation + 1) (files_after spec.name.items files (replacement number bytes held))
  replaced_half {spec} {held} has number bytes long small =
      half_after spec.name.items (replacement number bytes held) has.there (replaced_next number bytes held)
      (replaced_are_files spec.name.items held files number bytes stands.rests.holds.sound has.there
      (long ∙ sym (ap (λ (s : Spec). s.record_length) has.spec)) small)
      (replaced_short spec.name.items held files number bytes stands.rests.holds.short has.there)

  pub removed_half : {spec : FileSpec} {held : File} → Has files spec held → (pair : Pair)
      → AreHalfFiles (store.generation + 1) (files_after spec.name.items files (removal pair held))
  removed_half {spec} {held} has pair =
      half_after spec.name.items (removal pair held) has.there (removed_next pair held)
      (removed_are_files spec.name.items held files pair stands.rests.holds.sound has.there)
      (removed_short spec.name.items held files pair stands.rests.holds.short has.there)

  -- the rows of a file that was found are those that are held, and they ascend
  pub held_rows :
      {spec : FileSpec} {held : File} {seen : List StoredFile} {name : List ℕ} (place : ℕ) {old : StoredFile}
      {rows : List StoredRow} → Has files spec held → seen ≡ store.files.items → name ≡ spec.name.items
      → old ≡ get_or store.files.items place old
      → (file_at name (files_of seen) ≡ Some (file_of (get_or seen place old)))
      × (same_bytes (get_or seen place old).spec.name.items name ≡ true)
      → rows ≡ old.rows.items → held.rows ≡ map row_of rows
  held_rows {spec} {held} {seen} {name} place {old} has same called read found rows_are =
      let there = found_there store.files.items seen spec.name.items name place old same called found in
      let is : held ≡ file_of old = held_is store.files.items spec place old held (sym read) there
      (subst (λ (l : Files). Has l spec held) (sym stands.memory) has) in
      ap (λ (f : File). f.rows) is ∙ ap (λ (l : List StoredRow). map row_of l) (sym rows_are)

  pub held_ascend : {spec : FileSpec} {held : File} (rows : List StoredRow) → Has files spec held
      → held.rows ≡ map row_of rows → RowsAscend spec.organization (map row_of rows)
  held_ascend {spec} {held} rows has same = subst (λ (l : List Row). RowsAscend spec.organization l) same
      (subst (λ (t : Spec). RowsAscend t.organization held.rows) has.spec
      (rows_ascend spec.name.items files held stands.rests.holds.sound has.there))

  pub held_records : {spec : FileSpec} {held : File} (rows : List StoredRow) {size : ℕ} → Has files spec held
      → held.rows ≡ map row_of rows → size ≡ spec.record_length → AreRecords size (map row_of rows)
  held_records {spec} {held} rows {size} has same long = subst (λ (l : List Row). AreRecords size l) same
      (subst (λ (n : ℕ). AreRecords n held.rows) (ap (λ (s : Spec). s.record_length) has.spec ∙ sym long)
      (records_held spec.name.items files held stands.rests.holds.sound has.there))

  -- a file without rows among the files
  abbrev made : FileSpec → Files
  made spec = with_file spec.name.items (empty_file (spec_of spec)) files

  pub made_memory : (spec : FileSpec) {new : Files}
      → new ≡ with_file spec.name.items (empty_file (spec_of spec)) (files_of store.files.items) → new ≡ made spec
  made_memory spec is =
      is ∙ ap (λ (l : Files). with_file spec.name.items (empty_file (spec_of spec)) l) stands.memory

  pub half_made : (spec : FileSpec) (new : List StoredFile) → is_long (spec_of spec) ≡ false
      → files_of new ≡ made spec → (length store.files.items ≤ 255 → length new ≤ 255)
      → AreHalfFiles (store.generation + 1) (made spec)
  half_made spec new long memory few =
      let held : length store.files.items ≤ 255 =
      omega (arith, counted store.files.items, ap length stands.memory, stands.rests.holds.sound.count) in
      let count : length (made spec) ≤ 255 = omega (arith, few held, counted new, ap length memory) in
      record {
        sound = created_are_files spec.name.items (spec_of spec) files stands.rests.holds.sound spec.named spec.sound
            count;
        early = early_with store.generation spec.name.items (empty_file (spec_of spec)) files (omega arith)
            stands.rests.holds.early;
        short = created_short spec.name.items (spec_of spec) files stands.rests.holds.short long;
      }

  pub many_lack : (spec : FileSpec)
      → 255 < length (with_file spec.name.items (empty_file (spec_of spec)) (files_of store.files.items))
      → LacksRoom disk.present (made spec)
  many_lack spec many = lacks_room store.sectors store.generation disk files (made spec) stands.rests
      (inr (subst (λ (l : Files). 255 < length (with_file spec.name.items (empty_file (spec_of spec)) l)) stands.memory
      many))

-- what a call on the store turns, from what it writes
module _ {C : Type 0} {c : Stores C} {D : Type 0} {d : Devices D} {self self' : C} {device : D} {store : HalfStore}
    {before : Files} (after : Files) {is_new : Bool} {name : List ℕ} (honest : d.is_honest device)
    (stands : Represents store (d.state device).disk before)
    (lift : (device' : D) → Through (d.history device) (d.history device') (d.state device')
    (CrashLeaves (d.state device).events (Either Holds before after))
    → Through (d.history device) (d.history device') (d.state device')
    (CrashLeaves (d.state device).events (Either c.holds before after)))
    (lacks : LacksRoom (d.state device).disk.present after
    → c.lacks Full (d.state device).disk.present is_new name before after) where
  -- nothing was written, and a refusal is passed on
  pub refused_turns : {T U : Type 0} {fault : StoreFault} {result : Result U StoreFault} {told : Result T StoreFault}
      → result ≡ Err fault → IsErrAnd told (λ e. e ≡ fault) → result ≢ Err Damaged
      → (result ≡ Err Full → LacksRoom (d.state device).disk.present after) → result ≢ Err Old
      → ChangesFiles c d told is_new name before after self device self' device
  refused_turns {T} {U} {fault} {result} {told} was is sound room takes =
      let p = err_from_is_err_and told is in
      let back : (other : StoreFault) → told ≡ Err other → result ≡ Err other = λ other e. cc in
      record {
        there = subst (λ (r : Result T StoreFault). OnOk r (calls.Represents c d self' device after)) (sym p.1) tt;
        moments = lift device (stays (d.history device) (d.state device) _
            (at_rest store.sectors store.generation before after (d.state device) stands.rests));
        sound = λ e. sound (back Damaged e);
        room = λ e. lacks (room (back Full e));
        mark = λ e. absurd (takes (back Old e));
      }

  -- the files were written
  pub committed_turns : {T : Type 0} {result : Result T StoreFault} {new : HalfStore} {device' : D}
      → CommitsFiles d result store.sectors store.generation before after device new device'
      → (d.is_honest device → d.is_honest device') → IfErr result IsCause
      → (Represents new (d.state device').disk after → c.stands self' (d.state device').disk after)
      → ChangesFiles c d result is_new name before after self device self' device'
  committed_turns {T} {result} {new} {device'} settles still cause up = record {
    there = on_up result settles.stands (λ there. record { honest = still honest; there = up there });
    moments = lift device' settles.moments;
    sound = cause_sound result cause;
    room = λ is.
        lacks
        (lacks_room store.sectors store.generation (d.state device).disk before after stands.rests (settles.full is));
    mark = λ is. absurd (cause_takes result cause is);
  }

-- an answer in place of another
module _ {C : Type 0} {c : Stores C} {D : Type 0} {d : Devices D} {self self' : C} {device device' : D}
    {T U : Type 0} {result : Result U StoreFault} {is_new : Bool} {name : List ℕ} {before after : Files} where
  pub told_refusal : {fault : StoreFault} {told : Result T StoreFault} → result ≡ Err fault
      → IsErrAnd told (λ e. e ≡ fault) → ChangesFiles c d result is_new name before after self device self' device'
      → ChangesFiles c d told is_new name before after self device self' device'
  told_refusal {fault} {told} was is turns =
      let p = err_from_is_err_and told is in
      subst (λ (r : Result T StoreFault). ChangesFiles c d r is_new name before after self device self' device')
      (sym (p.1 ∙ ap (λ (e : StoreFault). let r : Result T StoreFault = Err e in r) p.2))
      (passed_on c d {T = U} {U = T} fault is_new name before after self device self' device' result was turns)

  pub told_answer : {x : U} (y : T) → result ≡ Ok x
      → ChangesFiles c d result is_new name before after self device self' device'
      → ChangesFiles c d {T = T} (Ok y) is_new name before after self device self' device'
  told_answer y was turns = record {
    there = subst (λ (r : Result U StoreFault). OnOk r (calls.Represents c d self' device' after)) was turns.there;
    moments = turns.moments;
    sound = λ is. absurd cc;
    room = λ is. absurd cc;
    mark = λ is. absurd cc;
  }

-- what was written is what is in memory, and so the files after the change
pub written_settles : {D : Type 0} {d : Devices D} {T : Type 0} {value : T} {n g : ℕ} {before made after : Files}
    {old new : D} {store : HalfStore} → made ≡ after → files_of store.files.items ≡ made
    → Rests store.sectors store.generation (d.state new).disk made
    → Through (d.history old) (d.history new) (d.state new)
    (CrashLeaves (d.state old).events (Either Holds before made))
    → CommitsFiles d {T = T} (Ok value) n g before after old store new
written_settles {D} {d} {T} {value} {n} {g} {before} {made} {after} {old} {new} {store} same memory rests moments =
    subst (λ (l : Files). CommitsFiles d {T = T} (Ok value) n g before l old store new) same (record {
      stands = record { rests = rests; memory = memory };
      moments = moments;
      full = λ e. absurd {0} cc;
    })

-- which causes a change in memory and a write don't have
not_change : {T A : Type 0} (told : Result T StoreFault) (fault : StoreFault) → IsErrAnd told (λ e. e ≡ fault)
    → IsMemoryCause fault → (bad : StoreFault) → (Full ≡ bad → ⊥) → (Memory ≡ bad → ⊥) → (Damaged ≡ bad → ⊥)
    → told ≡ Err bad → A
not_change {T} {A} told fault is cause bad full memory damaged = passed told fault is (λ r. r ≡ Err bad → A)
    (λ e. absurd (⊎_elim (λ a. full (sym a ∙ same_error e))
    (λ rest. ⊎_elim (λ a. memory (sym a ∙ same_error e)) (λ a. damaged (sym a ∙ same_error e)) rest) cause))

not_cause : {T A : Type 0} (result : Result T StoreFault) → IfErr result IsCause → (bad : StoreFault)
    → (Device ≡ bad → ⊥) → (Full ≡ bad → ⊥) → (Memory ≡ bad → ⊥) → result ≡ Err bad → A
not_cause (Ok x) cause bad device full memory is = never_ok is
not_cause (Err e) cause bad device full memory is = absurd (⊎_elim (λ a. device (sym a ∙ same_error is))
    (λ rest. ⊎_elim (λ a. full (sym a ∙ same_error is)) (λ a. memory (sym a ∙ same_error is)) rest) cause)

spent_clash : {A : Type 0} (b : Bool) → b ≡ false → b ≡ true → A
spent_clash b off on = cc

-- what a call on the store keeps, from what it writes
module _ {C : Type 0} {c : Stores C} {D : Type 0} {d : Devices D} {self self' : C} {device : D} where
  -- nothing was written
  pub refused_changes : {T : Type 0} (told : Result T StoreFault) (fault : StoreFault) → IsErrAnd told (λ e. e ≡ fault)
      → IsMemoryCause fault → c.needs self' ≡ c.needs self → calls.Changes c d told self device self' device
  refused_changes told fault is cause needs = record {
    only = blamed_where d _ _ _ _ (λ e. not_change told fault is cause Device (λ a. cc) (λ a. cc) (λ a. cc) e)
        (writes_nothing d device);
    needs = needs;
    same = on_refused told fault is _;
    spent = λ e. not_change told fault is cause Spent (λ a. cc) (λ a. cc) (λ a. cc) e;
    own_layout = not_change told fault is cause Layout (λ a. cc) (λ a. cc) (λ a. cc);
    unwritten = λ lacking honest. refl;
  }

  -- the files were written
  pub committed_changes : {T : Type 0} {result : Result T StoreFault} {device' : D}
      → OnlyWrites d (result ≡ Err Device) device device' → c.needs self' ≡ c.needs self
      → OnOk result (c.is_spent self' ≡ false) → c.is_spent self ≡ false → IfErr result IsCause
      → (result ≡ Err Full → d.is_honest device → d.state device' ≡ d.state device)
      → calls.Changes c d result self device self' device'
  committed_changes {T} {result} only needs unspent was cause unwritten = record {
    only = only;
    needs = needs;
    same = on_up result unspent (λ is. is ∙ sym was);
    spent = λ e. not_cause result cause Spent (λ a. cc) (λ a. cc) (λ a. cc) e;
    own_layout = not_cause result cause Layout (λ a. cc) (λ a. cc) (λ a. cc);
    unwritten = λ lacking honest. ⊎_elim (λ full. unwritten full honest)
        (λ old. absurd (cause_takes result cause old)) lacking;
  }

-- and how it is spent
module _ {C : Type 0} {c : Stores C} {self self' : C} where
  pub refused_spends : {T : Type 0} (told : Result T StoreFault) (fault : StoreFault) → IsErrAnd told (λ e. e ≡ fault)
      → c.is_spent self ≡ false → c.is_spent self' ≡ true → calls.Spends c told self self'
  refused_spends told fault is was now = record {
    refuses = λ spent. spent_clash (c.is_spent self) was spent;
    refused = passed told fault is (λ r. OnErr r (c.is_spent self' ≡ true)) now;
  }

  pub committed_spends : {T : Type 0} {result : Result T StoreFault} → c.is_spent self ≡ false
      → OnErr result (c.is_spent self' ≡ true) → calls.Spends c result self self'
  committed_spends was now = record { refuses = λ spent. spent_clash (c.is_spent self) was spent; refused = now }
