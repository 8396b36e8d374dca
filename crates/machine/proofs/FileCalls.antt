-- A run in progress over a file statement, by what the calls on connectors and on the station promise.
use Rattle.std.proofs.Common.{◌≡◌, ◌⊎◌, ◌+◌, ℕ, List, [], ◌∷◌, ◌++◌, true, false, Some, Result, Ok, Err, sym, ◌∙◌, ap}
use Rattle.std.proofs.Common.{Bool, subst, inl, inr}
use Rattle.std.specs.Prelude.{slice_get, OnOk, OnErr}
use Rattle.station.specs.declared.device.Device.{Ghosts as Devices}
use Rattle.station.specs.Calls.{OnlyWrites}
use Rattle.station.specs.Disk.{Disk, Sector, IsCrashImage}
use Rattle.station.specs.State.{State, Event, Noted, state_after_note}
use Rattle.station.specs.History.{Moves, Through}
use Rattle.records.specs.declared.fault.StoreFault.{StoreFault}
use Rattle.records.specs.declared.fault.StoreFault.TheVariants as fault
use Rattle.records.specs.declared.keeps.Keeps.{Ghosts as Stores}
use Rattle.records.specs.declared.status.Status.{Status}
use Rattle.records.specs.declared.verb.Verb.{Verb}
use Rattle.records.specs.Calls.{Represents, Changes, ChangesFiles}
use Rattle.records.specs.Files.{Files}
use Rattle.records.specs.Connector.{Entry, Connector}
use Rattle.records.specs.Statuses.{bytes_of}
use Rattle.records.specs.Steps.{Step}
use Rattle.records.specs.FileStep.{makes_file, has_changed, needs_no_store}
use Rattle.source_tree.specs.Storage.{Storage}
use Rattle.source_tree.specs.Meaning.{Run}
use Rattle.source_tree.specs.ProgramFiles.{FilePlaces}
use Rattle.source_tree.specs.FileStatements.{step_by}
use Rattle.data_machine.specs.Data as held
use Rattle.file_image.specs.declared.file.CodeFile.{CodeFile}
use Rattle.file_image.specs.declared.file.FileIndex.{FileIndex}
use Rattle.file_image.specs.Files.{entries_of, places_of}
use Rattle.code_image.specs.declared.code.Code.{Code}
use Rattle.code_image.specs.declared.instruction.Instruction.TheVariants as instruction
use Rattle.machine.specs.declared.ended.Ended.{Ended}
use Rattle.machine.specs.declared.ended.Ended.TheVariants.{Refused}
use Rattle.machine.specs.declared.ended.Refusal.{Refusal}
use Rattle.machine.specs.declared.registers.Registers.{Registers}
use Rattle.machine.specs.Prefix.{Moment}
use Rattle.machine.specs.Ends.{EndsAs}
use Rattle.machine.specs.Filing.{store_fault, Did}
use Rattle.machine.specs.Progress.{IsRunning}
use Rattle.machine.proofs.Filed.{under_way, noted_through, after_file, refused_by}
use Rattle.machine.proofs.Placed.{on_ok_from}
use Rattle.machine.proofs.Stored.{step_looks}

-- a change of a file, where its name and the files after it are known as others
pub change_known : {F : Type 0} {D : Type 0} {name same : List ℕ} {after known : Files} (keeps : Stores F)
    (device : Devices D) (result : Result Status StoreFault) (is_new : Bool) (files : Files) (old : F) (before : D)
    (new : F) (now : D) → name ≡ same → after ≡ known
    → ChangesFiles keeps device result is_new name files after old before new now
    → ChangesFiles keeps device result is_new same files known old before new now
change_known {name = name} {known = known} keeps device result is_new files old before new now name_is after_is change =
    subst (λ (n : List ℕ). ChangesFiles keeps device result is_new n files known old before new now) name_is
    (subst (λ (fs : Files). ChangesFiles keeps device result is_new name files fs old before new now) after_is change)

module _ {F : Type 0} (keeps : Stores F) {S : Type 0} (device : Devices S) (code : Code) (day : List ℕ) (run : Run)
    (before : State) (files : Files) (connectors : List Connector) (address left : ℕ) (r : Registers) (station : S)
    (so_far : IsRunning code day run before files connectors address left r (device.state station)) (file : FileIndex)
    (verb : Verb) (one : CodeFile) (here : slice_get code.instructions address ≡ Some (instruction.File file verb))
    (there : slice_get code.files file.number ≡ Some one) (entries : List Entry)
    (same : entries ≡ entries_of code.tables code.files) (verbs others : F) (mid : S) where
  abbrev places : FilePlaces
  places = places_of code.tables file.number one

  -- the step of the verb
  abbrev did : Step
  did = step_by entries places verb files connectors r.scratch.areas

  is : did ≡ step_by (entries_of code.tables code.files) places verb files connectors r.scratch.areas
  is = ap (λ (es : List Entry). step_by es places verb files connectors r.scratch.areas) same

  -- the connectors did it, or were refused
  abbrev Turns : Result Status StoreFault → Type 0
  Turns performed =
      ChangesFiles keeps device performed (makes_file verb) one.name files did.files verbs station others mid

  pub moments_under_way : (performed : Result Status StoreFault) → Turns performed
      → Through (device.history station) (device.history mid) (device.state mid) (Moment keeps.holds run before)
  moments_under_way performed turns =
      under_way code day run before files connectors address left r (device.state station) so_far file verb one here
      there did is keeps.holds (device.history station) (device.history mid) (device.state mid) turns.moments

  -- the status was received, or the station failed
  module _ (status : Status) (turns : Turns (Ok status)) {after : List Connector} {areas : Storage}
      (does : Did places did status connectors after r.scratch.areas areas) {blamed : Type 0}
      (only : OnlyWrites device blamed station mid) (honest : device.is_honest station) (new : S)
      (note : Result (Unit {0}) Ended)
      (noted : device.is_honest mid → OnOk note (device.state new
      ≡ state_after_note (device.state mid) (record { file = file.number; status = bytes_of status }))) where
    honest_then : device.is_honest mid
    honest_then = only.honest.0 honest

    pub moments_noted : (device.is_honest mid
        → Moves (device.history mid) (device.state mid) (device.history new) (device.state new))
        → (device.is_honest mid → OnErr note (device.state new ≡ device.state mid))
        → ((disk : Disk) (image : List Sector) (all : Files) → keeps.stands others disk all
        → IsCrashImage disk image → keeps.holds image all)
        → Through (device.history station) (device.history new) (device.state new) (Moment keeps.holds run before)
    moments_noted moves unheard held_by =
        noted_through code day run before files connectors address left r (device.state station) so_far file verb one
        here there did is keeps.holds (device.history station) (device.history mid) (device.state mid) turns.moments
        note (device.history new) (device.state new) status (moves honest_then) (only.console honest).lines
        does.status_is (noted honest_then) (unheard honest_then)
        (λ image crash. held_by (device.state mid).disk image did.files turns.there.there crash)

    pub goes_on_noted : (device.is_honest mid → device.is_honest new) → (later : Registers)
        → held.scratch_of later.scratch ≡ record (held.scratch_of r.scratch) { storage = areas }
        → later.counters.items ≡ r.counters.items → later.returns ≡ r.returns → later.line ≡ r.line
        → later.status ≡ status
        → OnOk note ((all : Files) × Represents keeps device others new all
        × IsRunning code day run before all after (address + 1) left later (device.state new))
    goes_on_noted honest_now later scratch counters returns line received =
        let console = only.console honest in
        on_ok_from note _ _ (noted honest_then) (λ heard. (
          did.files,
          record {
            honest = honest_now honest_then;
            there = subst (λ (disk : Disk). keeps.stands others disk did.files)
                (sym (ap (λ (u : State). u.disk) heard)) turns.there.there;
          },
          after_file code day run before files connectors address left r (device.state station) so_far file verb one
              here there did is (device.state new) later status after
              (ap (λ (u : State). u.events) heard
              ∙ ap (λ (es : List Event). es ++ Noted (record { file = file.number; status = bytes_of status }) ∷ [])
              console.events)
              (ap (λ (u : State). u.lines) heard ∙ console.lines) does.status_is does.connectors_are
              (scratch
              ∙ ap (λ (storage : Storage). record (held.scratch_of r.scratch) { storage = storage }) does.storage_is)
              counters returns line received,
        ))

  -- the connectors were refused, so that the run is given up
  module _ (why : StoreFault) (turns : Turns (Err why)) where
    abbrev refused : Result Status StoreFault
    refused = Err why

    pub given_up_by : Changes keeps device refused verbs station others mid → device.is_honest station
        → (refusal : Refusal) → why ≡ store_fault refusal
        → needs_no_store entries connectors file.number verb ≡ false
        → ((refused ≡ Err fault.Full) ⊎ (refused ≡ Err fault.Old) → has_changed verb did.status ≡ true)
        → (refused ≡ Err fault.Old → makes_file verb ≡ true)
        → EndsAs keeps.holds keeps.lacks (entries_of code.tables code.files) run before (Refused refusal)
        (device.state mid)
    given_up_by changes honest refusal is_fault asks full old =
        let console = changes.only.console honest in
        refused_by code day run before files connectors address left r (device.state station) so_far file verb one here
        there did is keeps.holds keeps.lacks (device.state mid) refusal why is_fault
        (λ damaged. turns.sound (ap Err damaged))
        (step_looks entries places verb files connectors r.scratch.areas asks) console.events console.lines
        (λ is_full. record {
          changes = full (inl (ap Err is_full));
          need = subst (λ (u : State). keeps.lacks fault.Full u.disk.present (makes_file verb) one.name files did.files)
              (sym (changes.unwritten (inl (ap Err is_full)) honest)) (turns.room (ap Err is_full));
          makes = λ other. absurd cc;
        })
        (λ is_old. record {
          changes = full (inr (ap Err is_old));
          need = subst (λ (u : State). keeps.lacks fault.Old u.disk.present (makes_file verb) one.name files did.files)
              (sym (changes.unwritten (inr (ap Err is_old)) honest)) (turns.mark (ap Err is_old));
          makes = λ other. old (ap Err is_old);
        })
