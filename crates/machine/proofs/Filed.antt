-- A run in progress, over a file statement.
use Rattle.std.proofs.Common.{◌≡◌, ◌≢◌, ◌⊎◌, Bool, true, ℕ, suc, ◌+◌, List, [], ◌∷◌, ◌++◌, length, Option, Some, refl}
use Rattle.std.proofs.Common.{sym, ◌∙◌, ap, subst, append_assoc, inl, inr, arith}
use Rattle.std.specs.Prelude.{slice_get, false, Result, OnOk, OnErr}
use Rattle.std.proofs.lemmas.List.{length-append}
use Rattle.station.specs.declared.note.Note.{Note}
use Rattle.station.specs.Disk.{Sector, IsCrashImage}
use Rattle.station.specs.State.{State, Event, Noted, state_after_note}
use Rattle.station.specs.History.{Moves, Through, EachImage}
use Rattle.station.specs.Blocks.{CrashLeaves}
use Rattle.station.proofs.Spans.{either, weakens, moves_on}
use Rattle.records.specs.declared.fault.StoreFault.{StoreFault}
use Rattle.records.specs.declared.fault.StoreFault.TheVariants as fault
use Rattle.records.specs.declared.status.Status.{Status}
use Rattle.records.specs.declared.verb.Verb.{Verb}
use Rattle.records.specs.Files.{Files}
use Rattle.records.specs.Connector.{Entry, Connector}
use Rattle.records.specs.Stores.{Either}
use Rattle.records.specs.Statuses.{bytes_of}
use Rattle.records.specs.Steps as file
use Rattle.records.specs.FileStep.{connectors_after, makes_file, has_changed}
use Rattle.source_tree.specs.Told.{note_count}
use Rattle.source_tree.specs.Meaning.{Run}
use Rattle.source_tree.specs.ProgramFiles.{FilePlaces}
use Rattle.source_tree.specs.FileStatements.{area_of, stored_by, step_by, step_on}
use Rattle.source_tree.proofs.Telling.{notes_append}
use Rattle.data_instructions.specs.Scratch.{Scratch}
use Rattle.data_machine.specs.Data as held
use Rattle.data_machine.specs.Held.{StackView}
use Rattle.file_image.specs.declared.file.CodeFile.{CodeFile}
use Rattle.file_image.specs.declared.file.FileIndex.{FileIndex}
use Rattle.file_image.specs.Files.{entries_of, places_of}
use Rattle.code_image.specs.declared.code.Code.{Code}
use Rattle.code_image.specs.declared.instruction.Instruction.TheVariants as instruction
use Rattle.code_image.specs.Points.{Return, Point}
use Rattle.code_image.specs.Table.{received_point, filed_from, exec_code}
use Rattle.machine.specs.declared.registers.Registers.{Registers}
use Rattle.machine.specs.Prefix.{files_at, HoldsSoFar, Moment}
use Rattle.machine.specs.declared.ended.Refusal.{Refusal}
use Rattle.machine.specs.declared.ended.Refusal.TheVariants.{Device, Full, Damaged, Memory, Old}
use Rattle.machine.specs.declared.ended.Ended.TheVariants.{Refused}
use Rattle.machine.specs.Ends.{is_barring, BeforeNote, LacksForChange, EndsAs}
use Rattle.machine.specs.Filing.{store_fault}
use Rattle.machine.specs.Progress.{IsRunning}
use Rattle.machine.proofs.Moments.{as_many_taken}
use Rattle.machine.proofs.Placed.{entry_here}
use Rattle.machine.proofs.Beginnings.{RunsTo, tells_more, files_here}
use Rattle.machine.proofs.Steps.{here_goes, files_now}

no_zero : (n m k : ℕ) → n ≡ m + suc k → n ≡ 0 → (let never : Type 0 = ⊥ in never)
no_zero n m k sum none = omega arith

module _ (code : Code) (day : List ℕ) (run : Run) (before : State) (files : Files) (connectors : List Connector)
    (address left : ℕ)
    (r : Registers) (now : State) (so_far : IsRunning code day run before files connectors address left r now)
    (file_index : FileIndex) (verb : Verb) (one : CodeFile)
    (here : slice_get code.instructions address ≡ Some (instruction.File file_index verb))
    (there : slice_get code.files file_index.number ≡ Some one) (did : file.Step)
    (is : did ≡ step_by (entries_of code.tables code.files) (places_of code.tables file_index.number one) verb files
    connectors r.scratch.areas) where
  abbrev p : Point
  p = so_far.point

  abbrev places : FilePlaces
  places = places_of code.tables file_index.number one

  at_point : step_on (entries_of code.tables code.files) places verb p.state ≡ did
  at_point =
      ap (λ (fs : Files). step_by (entries_of code.tables code.files) places verb fs p.state.connectors p.state.storage)
      so_far.files_are
      ∙ ap (λ (cs : List Connector). step_by (entries_of code.tables code.files) places verb files cs p.state.storage)
      so_far.connectors_are
      ∙ ap (λ (s : Scratch). step_by (entries_of code.tables code.files) places verb files connectors s.storage)
      so_far.worked
      ∙ sym is

  abbrev next_point : Point
  next_point = received_point code file_index.number one did p

  file_goes : (k : ℕ) × (exec_code code k next_point ≡ Some run)
  file_goes =
      let o = here_goes code day run before files connectors address left r now so_far
      (instruction.File file_index verb) here in (
        o.0,
        sym (ap (λ (s : file.Step). exec_code code o.0 (received_point code file_index.number one s p)) at_point)
            ∙ sym (ap (λ (c : Option CodeFile). filed_from code file_index.number verb c (exec_code code o.0) p) there)
            ∙ o.1,
      )

  later : RunsTo next_point.state run
  later = tells_more code file_goes.0 next_point run file_goes.1

  abbrev note : Note
  note = record { file = file_index.number; status = bytes_of did.status }

  -- the status is told next
  comes : run.events ≡ p.state.events ++ Noted note ∷ later.told
  comes = later.events_are ∙ append_assoc p.state.events (Noted note ∷ []) later.told

  one_more_note : note_count (p.state.events ++ Noted note ∷ []) ≡ note_count p.state.events + 1
  one_more_note = notes_append p.state.events (Noted note ∷ [])

  one_each : length (p.state.earlier ++ p.state.files ∷ []) ≡ note_count (p.state.events ++ Noted note ∷ [])
  one_each =
      length-append p.state.earlier (p.state.files ∷ []) ∙ ap (λ n. n + 1) so_far.one_each ∙ sym one_more_note

  -- the files after it
  files_then : files_at run (note_count p.state.events + 1) ≡ did.files
  files_then = ap (files_at run) (sym one_more_note) ∙ files_here next_point run later one_each

  files_before : files_at run (note_count p.state.events) ≡ files
  files_before = files_now code day run before files connectors address left r now so_far

  -- a run with a file statement has a note
  some_note : note_count run.events ≡ 0 → ⊥
  some_note none = no_zero (note_count run.events) (note_count p.state.events) (note_count later.told)
      (ap note_count comes ∙ notes_append p.state.events (Noted note ∷ later.told)) none

  -- while it is under way
  pub during : (holds : List Sector → Files → Type 0) (s : State)
      → CrashLeaves now.events (Either holds files did.files) s → Moment holds run before s
  during holds s leaves = record {
    told = record {
      seen = p.state.events;
      rest = Noted note ∷ later.told;
      since = leaves.events ∙ so_far.told;
      begins = comes;
    };
    files = λ image crash. by_side image (leaves.images image crash);
    console = inr (note, later.told, refl);
    disk = λ none. absurd (some_note none);
  }
    where
      by_side : (image : List Sector) → holds image files ⊎ holds image did.files
          → HoldsSoFar holds run p.state.events (Noted note ∷ later.told) image
      by_side image (inl old) = inl (subst (holds image) (sym files_before) old)
      by_side image (inr new) = inr (subst (holds image) (sym files_then) new, (note, later.told, refl))

  -- where it was given up
  pub given_up : (s : State) → s.events ≡ now.events → s.lines ≡ now.lines → is_barring did.status ≡ false
      → BeforeNote run before s
  given_up s events lines asks = record {
    seen = p.state.events;
    file = file_index.number;
    status = did.status;
    more = later.told;
    since = events ∙ so_far.told;
    begins = comes;
    asks = asks;
    console = as_many_taken before now s so_far.console lines;
  }

  -- a disk that lacks what a change of files needs
  pub record Lacking (lacks : StoreFault → List Sector → Bool → List ℕ → Files → Files → Type 0) (why : StoreFault)
      (s : State) : Type 0 where
    pub changes : has_changed verb did.status ≡ true
    pub need : lacks why s.disk.present (makes_file verb) one.name files did.files
    pub makes : why ≡ fault.Old → makes_file verb ≡ true

  for_change :
      (lacks : StoreFault → List Sector → Bool → List ℕ → Files → Files → Type 0) (why : StoreFault) (s : State)
      → s.events ≡ now.events → s.lines ≡ now.lines → is_barring did.status ≡ false
      → Lacking lacks why s → LacksForChange lacks (entries_of code.tables code.files) why run before s
  unfolding step_by given_up
  for_change lacks why s events lines asks lacking = record {
    given_up = given_up s events lines asks;
    verb = verb;
    connectors = connectors;
    area = area_of places r.scratch.areas;
    before = files;
    step = did;
    before_is = sym files_before;
    step_is = is;
    after_is = sym files_then;
    status_is = refl;
    changes = lacking.changes;
    lacking = subst (λ (name : List ℕ). lacks why s.disk.present (makes_file verb) name files did.files)
        (sym (ap (λ (e : Entry). e.name) (entry_here code.tables code.files file_index.number one there))) lacking.need;
    makes = lacking.makes;
  }

  pub refused_by : (holds : List Sector → Files → Type 0) (lacks : StoreFault → List Sector → Bool → List ℕ → Files
      → Files → Type 0) (s : State) (refusal : Refusal) (why : StoreFault) → why ≡ store_fault refusal
      → why ≢ fault.Damaged → is_barring did.status ≡ false → s.events ≡ now.events → s.lines ≡ now.lines
      → (why ≡ fault.Full → Lacking lacks fault.Full s) → (why ≡ fault.Old → Lacking lacks fault.Old s)
      → EndsAs holds lacks (entries_of code.tables code.files) run before (Refused refusal) s
  refused_by holds lacks s Device why is sound asks events lines full old =
      as_many_taken before now s so_far.console lines
  refused_by holds lacks s Full why is sound asks events lines full old =
      for_change lacks fault.Full s events lines asks (full is)
  refused_by holds lacks s Damaged why is sound asks events lines full old = absurd (sound is)
  refused_by holds lacks s Memory why is sound asks events lines full old = given_up s events lines asks
  refused_by holds lacks s Old why is sound asks events lines full old =
      for_change lacks fault.Old s events lines asks (old is)

  -- where its status was received
  pub after_file : (s : State) (new : Registers) (status : Status) (after : List Connector)
      → s.events ≡ now.events ++ Noted (record { file = file_index.number; status = bytes_of status }) ∷ []
      → s.lines ≡ now.lines → status ≡ did.status → after ≡ connectors_after connectors file_index.number did
      → held.scratch_of new.scratch
      ≡ record (held.scratch_of r.scratch) { storage = stored_by places did r.scratch.areas }
      → new.counters.items ≡ r.counters.items → new.returns ≡ r.returns → new.line ≡ r.line → new.status ≡ status
      → IsRunning code day run before did.files after (address + 1) left new s
  after_file s new status after events lines status_is connectors_are does counters returns line status_now = record {
    point = next_point;
    stands = ap (λ n. n + 1) so_far.stands;
    left_is = so_far.left_is;
    counted = so_far.counted ∙ sym counters;
    returned = so_far.returned ∙ ap (λ (stack : StackView Return). stack.newest_first) (sym returns);
    worked = ap (λ (x : Scratch). record x { storage = stored_by places did x.storage }) so_far.worked ∙ sym does;
    status_is = sym status_is ∙ sym status_now;
    line_is = so_far.line_is ∙ sym line;
    day_is = so_far.day_is;
    files_are = refl;
    connectors_are = ap (λ (cs : List Connector). connectors_after cs file_index.number did) so_far.connectors_are
        ∙ sym connectors_are;
    one_each = one_each;
    lines_are = lines ∙ so_far.lines_are;
    told = events ∙ ap (λ (st : Status).
        now.events ++ Noted (record { file = file_index.number; status = bytes_of st }) ∷ []) status_is
        ∙ ap (λ (es : List Event). es ++ Noted note ∷ []) so_far.told
        ∙ append_assoc before.events p.state.events (Noted note ∷ []);
    console = as_many_taken before now s so_far.console lines;
    disk = λ none. absurd
        (no_zero (note_count (p.state.events ++ Noted note ∷ [])) (note_count p.state.events) 0 one_more_note none);
    goes = file_goes;
  }

  module _ (holds : List Sector → Files → Type 0) (old h : List State) (s : State)
      (through : Through old h s (CrashLeaves now.events (Either holds files did.files))) where
    -- until the status is to be received
    pub under_way : Through old h s (Moment holds run before)
    under_way = weakens old h s (CrashLeaves now.events (Either holds files did.files)) (Moment holds run before)
        (during holds) through

    -- once it was received
    received_then : (new : State) (status : Status) → s.lines ≡ now.lines → status ≡ did.status
        → new ≡ state_after_note s (record { file = file_index.number; status = bytes_of status })
        → EachImage (λ image. holds image did.files) s
        → Moment holds run before new
    received_then new status lines status_is is images = record {
      told = record {
        seen = p.state.events ++ Noted note ∷ [];
        rest = later.told;
        since = ap (λ (u : State). u.events) is
            ∙ ap (λ (st : Status). s.events ++ Noted (record { file = file_index.number; status = bytes_of st }) ∷ [])
            status_is
            ∙ ap (λ (es : List Event). es ++ Noted note ∷ []) (through.now.events ∙ so_far.told)
            ∙ append_assoc before.events p.state.events (Noted note ∷ []);
        begins = later.events_are;
      };
      files = λ image crash. inl
          (subst (holds image) (sym (files_here next_point run later one_each))
          (images image (subst (λ (u : State). IsCrashImage u.disk image) is crash)));
      console = inl (as_many_taken before now new so_far.console (ap (λ (u : State). u.lines) is ∙ lines));
      disk = λ none. absurd (some_note none);
    }

    -- heard, or not heard
    pub noted_through : {E : Type 0} (r : Result (Unit {0}) E) (h2 : List State) (new : State) (status : Status)
        → Moves h s h2 new
        → s.lines ≡ now.lines → status ≡ did.status
        → OnOk r (new ≡ state_after_note s (record { file = file_index.number; status = bytes_of status }))
        → OnErr r (new ≡ s) → EachImage (λ image. holds image did.files) s
        → Through old h2 new (Moment holds run before)
    noted_through r h2 new status moves lines status_is heard unheard images =
        moves_on old h h2 s new (Moment holds run before) under_way moves
        (either r (Moment holds run before new) heard unheard (λ is. received_then new status lines status_is is images)
        (λ is. subst (Moment holds run before) (sym is) (during holds s through.now)))
