-- Runs of programs with files, over a volume.
use Rattle.std.specs.Prelude.{◌≡◌, ◌⊎◌, Bool, ℕ, List, Ok}
use Rattle.station.specs.Disk.{Sector}
use Rattle.station.specs.State.{State, state_after_sync}
use Rattle.station.specs.History.{Spans, Through}
use Rattle.station.specs.Opening.{IsOpening}
use Rattle.roots.specs.declared.pair.Roots.{Roots}
use Rattle.roots.specs.Reading.{roots_in}
use Rattle.records.specs.declared.fault.StoreFault.{StoreFault}
use Rattle.records.specs.Files.{Files}
use Rattle.records.specs.Connector.{Entry}
use Rattle.half_store.specs.Half.{known_families as half_families, Holds as HoldsHalf}
use Rattle.half_store.specs.Stands.{Lacks as LacksHalf}
use Rattle.alternate_keys.specs.Opened.{HasMap}
use Rattle.alternate_keys.specs.Stands.{Lacks as LacksTrees}
use Rattle.source_tree.specs.Meaning.{Run}
use Rattle.machine.specs.Prefix.{Moment}
use Rattle.machine.specs.Ends.{IsFinished, BeforeNote, LacksForChange}
use Rattle.run_unit.specs.declared.ended.Refusal.TheVariants.{Device, Damaged, Memory}
use Rattle.run_unit.specs.declared.ended.Ended.{Ended}
use Rattle.run_unit.specs.declared.ended.Ended.TheVariants.{Refused}
use Rattle.run_unit.specs.Course.{EndsBy, TakesCourse}

-- why a volume isn't opened
abbrev pub IsUnopened : Ended → Type 0
IsUnopened (Refused Device) = Unit {0}
IsUnopened (Refused Damaged) = Unit {0}
IsUnopened (Refused Memory) = Unit {0}
IsUnopened other = ⊥

-- Nothing was done on the station, but that what waited for a sync may have become durable: no sector was written.
abbrev pub IsUnwritten : State → State → Type 0
IsUnwritten old new = (new ≡ old) ⊎ (new ≡ state_after_sync old)

-- 82 is reported where the volume can't be opened, and then nothing was shown and no sector was written; or where its roots and map sectors
-- are sound, and a file statement met the damage.
abbrev pub IsDamageFound : State → State → Type 0
IsDamageFound old new = IsUnwritten old new ⊎ HasMap old.disk.present

-- The volume in an image lacks what turning files into others needs, in two halves, or by whichever store.
abbrev pub lacks_half : StoreFault → List Sector → Bool → List ℕ → Files → Files → Type 0
lacks_half fault image is_new name before after = LacksHalf fault image is_new name after

abbrev pub lacks_either : StoreFault → List Sector → Bool → List ℕ → Files → Files → Type 0
lacks_either fault image is_new name before after =
    LacksTrees fault image is_new name after ⊎ LacksHalf fault image is_new name after

-- What is so after each end of a run over the files that a store stands for. Want of memory ends it in a file
-- statement or before it begins.
abbrev pub EndsOver : (List Sector → Files → Type 0) → (StoreFault → Run → State → State → Type 0) → Run → State → Ended → State → Type 0
EndsOver holds lacking run old ended now =
    EndsBy (λ how. IsFinished holds run how old now) (λ fault. lacking fault run old now) (BeforeNote run old now ⊎ (now ≡ old)) old ended now

-- a run over these files, from a state to another, by this end
abbrev pub RunsOver : (List Sector → Files → Type 0) → (StoreFault → Run → State → State → Type 0) → Run
    → List State → State → Ended → List State → State → Type 0
RunsOver holds lacking run past old = TakesCourse (Moment holds run old) (EndsOver holds lacking run old) past old

-- A call that doesn't open the volume: there are no events, whatever a crash leaves was possible before the
-- call, and no sector was written.
pub record LeavesClosed (past : List State) (old : State) (ended : Ended) (later : List State) (new : State) : Type 0 where
  pub why : IsUnopened ended
  pub moments : Through past later new (IsOpening old)
  pub unwritten : IsUnwritten old new

-- A call that opens a volume which holds files, and does a run over them. Until the volume is opened there are no events,
-- and whatever a crash leaves was possible before the call. From its opening on each moment is one of the run.
pub data RunsOnVolume (holds : List Sector → Files → Type 0) (lacking : StoreFault → Run → State → State → Type 0) (run : Run) (past : List State)
    (old : State) (ended : Ended) (later : List State) (new : State) : Type 0 where
  Unopened : LeavesClosed past old ended later new → RunsOnVolume holds lacking run past old ended later new
  Opened : (opened : List State) → Spans past opened (IsOpening old)
      → RunsOver holds lacking run opened (state_after_sync old) ended later new → RunsOnVolume holds lacking run past old ended later new

-- the newest root of an image is one of a volume of halves
abbrev pub IsOfHalves : List Sector → Type 0
IsOfHalves image = (roots : Roots) × (roots_in half_families image ≡ Ok roots)

-- A call that opens a volume of halves, and does a run over the files that it finds. Such a volume is read whole when it is
-- opened. Either it isn't opened, or it held files, and the call is one with these. The program's files are these entries.
pub data RunsOnHalves (entries : List Entry) (run : Files → Run) (past : List State) (old : State)
    (ended : Ended) (later : List State) (new : State) : Type 0 where
  NotOpened : LeavesClosed past old ended later new → RunsOnHalves entries run past old ended later new
  HeldFiles : (files : Files) → HoldsHalf old.disk.present files
      → RunsOnVolume HoldsHalf (LacksForChange lacks_half entries) (run files) past old ended later new
      → RunsOnHalves entries run past old ended later new
