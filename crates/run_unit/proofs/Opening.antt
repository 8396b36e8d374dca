-- A volume that is opened, and a run over its files.
use Rattle.std.proofs.Common.{◌≡◌, ◌∙◌, ◌⊎◌, Bool, ℕ, List, sym, subst, ap, inl, inr}
use Rattle.station.specs.Disk.{Sector}
use Rattle.station.specs.State.{State, state_after_sync}
use Rattle.station.specs.History.{Through}
use Rattle.station.specs.Opening.{IsOpening}
use Rattle.station.proofs.Spans.{goes, weakens, then, weaker}
use Rattle.records.specs.Files.{Files}
use Rattle.records.specs.Connector.{Entry}
use Rattle.records.specs.declared.fault.StoreFault.{StoreFault}
use Rattle.records.specs.declared.fault.StoreFault.TheVariants as store
use Rattle.file_recovery.specs.Recovered.{HoldsFiles}
use Rattle.source_tree.specs.Given.{RunInput, given_over}
use Rattle.source_tree.specs.Meaning.{Run}
use Rattle.half_store.specs.Opened.{IsReadCause}
use Rattle.run_unit.specs.Ends.{of_opening}
use Rattle.source_tree.specs.State as end
use Rattle.data_instructions.specs.Faults.{fault_of}
use Rattle.code_image.specs.declared.code.Code.{Code}
use Rattle.code_image.specs.Table.{Runs}
use Rattle.file_image.specs.Files.{entries_of}
use Rattle.machine.specs.Prefix.{Moment}
use Rattle.machine.specs.Ends.{LacksForChange}
use Rattle.half_store.specs.Half.{Holds as HoldsHalf}
use Rattle.alternate_keys.specs.Stands.{Lacks as LacksTrees}
use Rattle.volume_format.specs.Volume.{Holds as HoldsTrees}
use Rattle.run_unit.specs.Runs.{Call, given_files, RunsOverHeld}
use Rattle.run_unit.specs.Volume.{EndsOver, IsUnopened, IsUnwritten, LeavesClosed, RunsOver, lacks_half, lacks_either}
use Rattle.run_unit.specs.Volume.{RunsOnVolume, Unopened, Opened, RunsOnHalves, NotOpened, HeldFiles}
use Rattle.run_unit.specs.declared.ended.Refusal.{Refusal}
use Rattle.run_unit.specs.declared.ended.Refusal.TheVariants.{Image, Device, Full, Damaged, Memory, Old}
use Rattle.run_unit.specs.declared.ended.Ended.{Ended}
use Rattle.run_unit.specs.declared.ended.Ended.TheVariants.{Stopped, Budget, Faulted, Refused}
use Rattle.run_unit.proofs.Moments.{moment_below, finished_below, lacking_under}

-- where only the device and memory refuse a read, no damage is told
pub read_cause : (fault : StoreFault) → IsReadCause fault → Refused (of_opening fault) ≡ Refused Damaged → ⊥
read_cause store.Device cause told = cc
read_cause store.Memory cause told = cc
read_cause store.Full (inl is) told = cc
read_cause store.Full (inr is) told = cc
read_cause store.Damaged (inl is) told = cc
read_cause store.Damaged (inr is) told = cc
read_cause store.Spent (inl is) told = cc
read_cause store.Spent (inr is) told = cc
read_cause store.Layout (inl is) told = cc
read_cause store.Layout (inr is) told = cc
read_cause store.Old (inl is) told = cc
read_cause store.Old (inr is) told = cc

-- whatever refuses an opening, the run ends as one over a volume that isn't opened
unopened : (fault : StoreFault) → IsUnopened (Refused (of_opening fault))
unopened store.Device = tt
unopened store.Memory = tt
unopened store.Full = tt
unopened store.Damaged = tt
unopened store.Spent = tt
unopened store.Layout = tt
unopened store.Old = tt

pub left_closed : (fault : StoreFault) (refusal : Refusal) (past later : List State) (old new : State)
    → refusal ≡ of_opening fault
    → Through past later new (IsOpening old) → IsUnwritten old new → LeavesClosed past old (Refused refusal) later new
left_closed fault refusal past later old new is moments unwritten = record {
  why = subst (λ (r : Refusal). IsUnopened (Refused r)) (sym is) (unopened fault);
  moments = moments;
  unwritten = unwritten;
}

-- a sync takes no line, so that a run is given the same after it
pub given_after : (files : Files) (old mid : State) (day : List ℕ) (budget : ℕ) → mid ≡ state_after_sync old
    → given_over files old day budget ≡ given_over files mid day budget
unfolding given_over
given_after files old mid day budget is = sym (ap (λ (s : State). given_over files s day budget) is)

-- the run over what was opened
pub ran_on : (holds : List Sector → Files → Type 0) (lacking : StoreFault → Run → State → State → Type 0) (run : Run)
    (past opened later : List State) (old mid new : State) (ended : Ended)
    → Through past opened mid (IsOpening old) → mid ≡ state_after_sync old
    → RunsOver holds lacking run opened mid ended later new
    → RunsOnVolume holds lacking run past old ended later new
ran_on holds lacking run past opened later old mid new ended opening is runs =
    Opened opened opening.spans (subst (λ (s : State). RunsOver holds lacking run opened s ended later new) is runs)

-- the call runs this code over what was opened
pub ran_opened : (holds : List Sector → Files → Type 0) (lacking : StoreFault → Run → State → State → Type 0)
    (code : Code) (files : Files) (run : Run) (call : Call) (opened : List State) (mid : State)
    → Through call.past opened mid (IsOpening call.old) → mid ≡ state_after_sync call.old
    → Runs code (given_files call files) run
    → (Runs code (given_over files mid call.day call.budget) run
    → RunsOver holds lacking run opened mid call.ended call.later call.new)
    → RunsOnVolume holds lacking run call.past call.old call.ended call.later call.new
ran_opened holds lacking code files run call opened mid opening is runs over =
    ran_on holds lacking run call.past opened call.later call.old mid call.new call.ended opening is
    (over (subst (λ (given : RunInput). Runs code given run)
    (given_after files call.old mid call.day call.budget is) runs))

-- ---- a volume that another store has looked at

synced_after : (old mid : State) → IsUnwritten old mid → state_after_sync mid ≡ state_after_sync old
synced_after old mid (inl is) = ap state_after_sync is
synced_after old mid (inr is) = ap state_after_sync is

-- and a call that wrote nothing after it
pub unwritten_then : (old mid new : State) → IsUnwritten old mid → IsUnwritten mid new → IsUnwritten old new
unwritten_then old mid new first (inl is) = subst (λ (s : State). IsUnwritten old s) (sym is) first
unwritten_then old mid new first (inr is) = inr (is ∙ synced_after old mid first)

-- it holds what it held, and a run is given the same
pub present_after : (old mid : State) → IsUnwritten old mid → mid.disk.present ≡ old.disk.present
present_after old mid (inl is) = ap (λ (s : State). s.disk.present) is
present_after old mid (inr is) = ap (λ (s : State). s.disk.present) is

pub given_later : (files : Files) (old mid : State) (day : List ℕ) (budget : ℕ) → IsUnwritten old mid
    → given_over files old day budget ≡ given_over files mid day budget
given_later files old mid day budget (inl is) = sym (ap (λ (s : State). given_over files s day budget) is)
given_later files old mid day budget (inr is) = given_after files old mid day budget is

opening_then : (old mid : State) → IsOpening old mid → (s : State) → IsOpening mid s → IsOpening old s
opening_then old mid first s second = record {
  events = second.events ∙ first.events;
  images = λ image crash. first.images image (second.images image crash);
}

-- a call that doesn't open it either
closed_then : (past looked later : List State) (old mid new : State) (ended : Ended)
    → Through past looked mid (IsOpening old) → IsUnwritten old mid → LeavesClosed looked mid ended later new
    → LeavesClosed past old ended later new
closed_then past looked later old mid new ended first is closed = record {
  why = closed.why;
  moments = goes past looked later mid new (IsOpening old) first
      (weakens looked later new (IsOpening mid) (IsOpening old) (opening_then old mid first.now) closed.moments);
  unwritten = unwritten_then old mid new is closed.unwritten;
}

pub on_volume_then :
    (holds : List Sector → Files → Type 0) (lacking : StoreFault → Run → State → State → Type 0) (run : Run)
    (past looked later : List State) (old mid new : State) (ended : Ended)
    → Through past looked mid (IsOpening old) → IsUnwritten old mid
    → RunsOnVolume holds lacking run looked mid ended later new
    → RunsOnVolume holds lacking run past old ended later new
on_volume_then holds lacking run past looked later old mid new ended first is (Unopened closed) =
    Unopened (closed_then past looked later old mid new ended first is closed)
on_volume_then holds lacking run past looked later old mid new ended first is (Opened opened spans runs) =
    Opened opened (then past looked opened (IsOpening old) first.spans
    (weaker looked opened (IsOpening mid) (IsOpening old) (opening_then old mid first.now) spans))
    (subst (λ (s : State). RunsOver holds lacking run opened s ended later new) (synced_after old mid is) runs)

pub on_halves_then :
    (entries : List Entry) (run : Files → Run) (past looked later : List State) (old mid new : State) (ended : Ended)
    → Through past looked mid (IsOpening old) → IsUnwritten old mid
    → RunsOnHalves entries run looked mid ended later new
    → RunsOnHalves entries run past old ended later new
on_halves_then entries run past looked later old mid new ended first is (NotOpened closed) =
    NotOpened (closed_then past looked later old mid new ended first is closed)
on_halves_then entries run past looked later old mid new ended first is (HeldFiles files held runs) =
    HeldFiles files (subst (λ (image : List Sector). HoldsHalf image files) (present_after old mid is) held)
    (on_volume_then HoldsHalf (LacksForChange lacks_half entries) (run files) past looked later old mid new ended
    first is runs)

-- ---- where what an image holds by one store, it holds by either

-- the volume in an image lacks what a change needs, in trees
abbrev pub lacks_trees : StoreFault → List Sector → Bool → List ℕ → Files → Files → Type 0
lacks_trees fault image is_new name before after = LacksTrees fault image is_new name after

module _ (here either : List Sector → Files → Type 0) (also : (image : List Sector) (files : Files) → here image files
    → either image files)
    (run : Run) (lacking lacks_too : StoreFault → Run → State → State → Type 0)
    (also_lacking : (fault : StoreFault) (old now : State) → lacking fault run old now
    → lacks_too fault run old now) where
  ends_either : (old : State) (ended : Ended) (now : State) → EndsOver here lacking run old ended now
      → EndsOver either lacks_too run old ended now
  ends_either old Stopped now ends = finished_below here either also run old end.Stopped now ends
  ends_either old Budget now ends = finished_below here either also run old end.Budget now ends
  ends_either old (Faulted fault line) now ends =
      finished_below here either also run old (end.Faulted (fault_of fault) line) now ends
  ends_either old (Refused (Image fault)) now ends = ends
  ends_either old (Refused Device) now ends = ends
  ends_either old (Refused Full) now ends = also_lacking store.Full old now ends
  ends_either old (Refused Damaged) now ends = ends
  ends_either old (Refused Memory) now ends = ends
  ends_either old (Refused Old) now ends = also_lacking store.Old old now ends

  over_either : (past : List State) (old : State) (ended : Ended) (later : List State) (new : State)
      → RunsOver here lacking run past old ended later new → RunsOver either lacks_too run past old ended later new
  over_either past old ended later new runs = record {
    first = moment_below here either also run old old runs.first;
    moments = weakens past later new (Moment here run old) (Moment either run old)
        (moment_below here either also run old) runs.moments;
    ends = ends_either old ended new runs.ends;
  }

  pub on_either : (past : List State) (old : State) (ended : Ended) (later : List State) (new : State)
      → RunsOnVolume here lacking run past old ended later new
      → RunsOnVolume either lacks_too run past old ended later new
  on_either past old ended later new (Unopened closed) = Unopened closed
  on_either past old ended later new (Opened opened spans runs) =
      Opened opened spans (over_either opened (state_after_sync old) ended later new runs)

pub trees_too : (entries : List Entry) (run : Run) (call : Call)
    → RunsOnVolume HoldsTrees (LacksForChange lacks_trees entries) run call.past call.old call.ended call.later call.new
    → RunsOnVolume HoldsFiles (LacksForChange lacks_either entries) run call.past call.old call.ended call.later
    call.new
trees_too entries run call runs =
    on_either HoldsTrees HoldsFiles (λ image files is. inl is) run (LacksForChange lacks_trees entries)
    (LacksForChange lacks_either entries)
    (λ fault old now. lacking_under lacks_trees lacks_either (λ fault image is_new name before after lacks. inl lacks)
    entries fault run old now) call.past call.old call.ended call.later call.new runs

pub halves_too : (entries : List Entry) (run : Run) (call : Call)
    → RunsOnVolume HoldsHalf (LacksForChange lacks_half entries) run call.past call.old call.ended call.later call.new
    → RunsOnVolume HoldsFiles (LacksForChange lacks_either entries) run call.past call.old call.ended call.later
    call.new
halves_too entries run call runs =
    on_either HoldsHalf HoldsFiles (λ image files is. inr is) run (LacksForChange lacks_half entries)
    (LacksForChange lacks_either entries)
    (λ fault old now. lacking_under lacks_half lacks_either (λ fault image is_new name before after lacks. inr lacks)
    entries fault run old now) call.past call.old call.ended call.later call.new runs

-- the same call, from another moment on
abbrev pub call_from : Call → List State → State → Call
call_from call past old = record {
  ended = call.ended;
  day = call.day;
  budget = call.budget;
  past = past;
  old = old;
  later = call.later;
  new = call.new;
}

-- a volume of halves, which the other store has looked at
pub halves_looked_at : (code : Code) (call : Call) (looked : List State) (mid : State)
    → Through call.past looked mid (IsOpening call.old) → IsUnwritten call.old mid
    → RunsOverHeld HoldsHalf lacks_half code (call_from call looked mid)
    → (files : Files) → HoldsHalf call.old.disk.present files
    → (run : Run) → Runs code (given_files call files) run
    → RunsOnVolume HoldsFiles (LacksForChange lacks_either (entries_of code.tables code.files)) run call.past call.old
    call.ended call.later call.new
halves_looked_at code call looked mid first is ran files held run runs =
    halves_too (entries_of code.tables code.files) run call
    (on_volume_then HoldsHalf (LacksForChange lacks_half (entries_of code.tables code.files)) run call.past looked
    call.later call.old mid call.new call.ended first is
    (ran files (subst (λ (image : List Sector). HoldsHalf image files) (sym (present_after call.old mid is)) held) run
    (subst (λ (given : RunInput). Runs code given run) (given_later files call.old mid call.day call.budget is) runs)))

-- where only the device and memory refuse, the other store's layout isn't told
pub no_layout : IsReadCause store.Layout → ⊥
no_layout (inl is) = cc
no_layout (inr is) = cc
