-- Moments and ends of a run, over connectors and over the store below them, and without files.
use Rattle.std.proofs.Common.{◌≡◌, ◌∙◌, ◌⊎◌, Bool, ℕ, suc, ◌+◌, List, [], ◌++◌, refl, sym, subst, ap, arith, inl, inr}
use Rattle.std.proofs.lemmas.List.{append-nil}
use Rattle.station.specs.Disk.{Sector}
use Rattle.station.specs.State.{State, Event}
use Rattle.station.specs.History.{Through, EachImage}
use Rattle.station.proofs.Spans.{stays, weakens}
use Rattle.records.specs.declared.fault.StoreFault.{StoreFault}
use Rattle.records.specs.declared.fault.StoreFault.TheVariants as store
use Rattle.records.specs.Files.{Files}
use Rattle.records.specs.Connector.{Entry}
use Rattle.records.specs.FileStep.{entry_at, makes_file}
use Rattle.source_tree.specs.State as end
use Rattle.source_tree.specs.State.{End}
use Rattle.source_tree.specs.Given.{RunInput, given_on, given_over}
use Rattle.source_tree.specs.Told.{note_count}
use Rattle.source_tree.specs.Meaning.{Run}
use Rattle.source_tree.proofs.Telling.{notes_append}
use Rattle.data_instructions.specs.Faults.{fault_of}
use Rattle.code_image.specs.declared.code.Code.{Code}
use Rattle.code_image.specs.Points.{first_point}
use Rattle.code_image.specs.Table.{Runs}
use Rattle.machine.specs.declared.machine.Machine.{Machine}
use Rattle.machine.specs.declared.ended.Ended.{Ended as MachineEnded}
use Rattle.machine.specs.declared.ended.Ended.TheVariants as machine
use Rattle.machine.specs.declared.ended.Refusal.TheVariants as refused
use Rattle.machine.specs.Prefix.{files_at, last_files, NoteComes, HoldsSoFar, TakesLines, Moment}
use Rattle.machine.specs.Ends.{code_of, day_of, IsFinished, LacksForChange, EndsAs, IsOwnEnd}
use Rattle.machine.proofs.Moments.{nothing_taken}
use Rattle.machine.proofs.Beginnings.{tells_more, files_here}
use Rattle.run_unit.specs.Alone.{Alone, FinishedAlone, EndsAlone, RunsAlone}
use Rattle.run_unit.specs.Ends.{ended_of}
use Rattle.run_unit.specs.Volume.{EndsOver, RunsOver}
use Rattle.run_unit.specs.declared.ended.Refusal.TheVariants.{Damaged, Memory}
use Rattle.run_unit.specs.declared.ended.Ended.{Ended}
use Rattle.run_unit.specs.declared.ended.Ended.TheVariants.{Refused}

-- ---- where a run begins

-- The files are those that it was given.
files_first : (code : Code) (given : RunInput) (run : Run) → Runs code given run → files_at run 0 ≡ given.files
files_first code given run runs =
    files_here (first_point code given) run (tells_more code runs.0 (first_point code given) run runs.1) refl

-- Nothing was told yet.
pub at_first : (holds : List Sector → Files → Type 0) (code : Code) (files : Files) (run : Run) (day : List ℕ)
    (budget : ℕ) (s : State)
    → Runs code (given_over files s day budget) run → EachImage (λ image. holds image files) s → Moment holds run s s
unfolding given_over
at_first holds code files run day budget s runs held = record {
  told = record { seen = []; rest = run.events; since = sym (append-nil s.events); begins = refl };
  files = λ image crash.
      inl (subst (holds image) (sym (files_first code (given_over files s day budget) run runs)) (held image crash));
  console = inl (nothing_taken s);
  disk = λ none. refl;
}

-- A machine has the run of its code, on its day.
pub runs_as : (machine : Machine) (code : Code) (day : List ℕ) (files : Files) (s : State) (budget : ℕ) (run : Run)
    → code_of machine ≡ code → day_of machine ≡ day
    → Runs code (given_over files s day budget) run
    → Runs (code_of machine) (given_over files s (day_of machine) budget) run
runs_as machine code day files s budget run same_code same_day runs =
    subst (λ (c : Code). Runs c (given_over files s (day_of machine) budget) run) (sym same_code)
    (subst (λ (d : List ℕ). Runs code (given_over files s d budget) run) (sym same_day) runs)

-- where an image lacks what a change needs by one sense, it does by another
pub lacking_under : (lacks lacks' : StoreFault → List Sector → Bool → List ℕ → Files → Files → Type 0)
    → ((fault : StoreFault) (image : List Sector) (is_new : Bool) (name : List ℕ) (before after : Files)
    → lacks fault image is_new name before after → lacks' fault image is_new name before after)
    → (entries : List Entry) (fault : StoreFault) (run : Run) (old now : State)
    → LacksForChange lacks entries fault run old now → LacksForChange lacks' entries fault run old now
lacking_under lacks lacks' under entries fault run old now is = record {
  given_up = is.given_up;
  verb = is.verb;
  connectors = is.connectors;
  area = is.area;
  before = is.before;
  step = is.step;
  before_is = is.before_is;
  step_is = is.step_is;
  after_is = is.after_is;
  status_is = is.status_is;
  changes = is.changes;
  lacking = under fault now.disk.present (makes_file is.verb) (entry_at entries is.given_up.file).name is.before
      is.step.files is.lacking;
  makes = is.makes;
}

-- ---- where what an image holds by one sense, it holds by another

module _ (here below : List Sector → Files → Type 0) (under : (image : List Sector) (files : Files) → here image files
    → below image files)
    (run : Run) (old : State) where
  so_far_below : (seen rest : List Event) (image : List Sector) → HoldsSoFar here run seen rest image
      → HoldsSoFar below run seen rest image
  so_far_below seen rest image (inl held) = inl (under image (files_at run (note_count seen)) held)
  so_far_below seen rest image (inr held) = inr (under image (files_at run (note_count seen + 1)) held.0, held.1)

  pub moment_below : (now : State) → Moment here run old now → Moment below run old now
  moment_below now moment = record {
    told = moment.told;
    files = λ image crash. so_far_below moment.told.seen moment.told.rest image (moment.files image crash);
    console = moment.console;
    disk = moment.disk;
  }

  pub finished_below : (how : End) (now : State) → IsFinished here run how old now → IsFinished below run how old now
  finished_below how now is = record {
    end = is.end;
    told = is.told;
    lines = is.lines;
    files = λ image crash. under image (last_files run) (is.files image crash);
    disk = is.disk;
  }

  -- and where it lacks what a change needs by the one sense, it does by the other
  module _ (lacks lacks' : StoreFault → List Sector → Bool → List ℕ → Files → Files → Type 0)
      (under_lacks : (fault : StoreFault) (image : List Sector) (is_new : Bool) (name : List ℕ) (before after : Files)
      → lacks fault image is_new name before after → lacks' fault image is_new name before after)
      (entries entries' : List Entry) (same : entries ≡ entries') where
    lacks_below : (fault : StoreFault) (now : State) → LacksForChange lacks entries fault run old now
        → LacksForChange lacks' entries' fault run old now
    lacks_below fault now is =
        subst (λ (es : List Entry). LacksForChange lacks' es fault run old now) same
        (lacking_under lacks lacks' under_lacks entries fault run old now is)

    ends_below : (ended : MachineEnded) (now : State) → EndsAs here lacks entries run old ended now
        → EndsOver below (LacksForChange lacks' entries') run old (ended_of ended) now
    ends_below machine.Stopped now ends = finished_below end.Stopped now ends
    ends_below machine.Budget now ends = finished_below end.Budget now ends
    ends_below (machine.Faulted fault line) now ends = finished_below (end.Faulted (fault_of fault) line) now ends
    ends_below (machine.Refused refused.Device) now ends = ends
    ends_below (machine.Refused refused.Full) now ends = lacks_below store.Full now ends
    ends_below (machine.Refused refused.Damaged) now ends = ends
    ends_below (machine.Refused refused.Memory) now ends = inl ends
    ends_below (machine.Refused refused.Old) now ends = lacks_below store.Old now ends

    -- a machine ran
    pub ran_over : (past later : List State) (new : State) (ended : MachineEnded) → Moment below run old old
        → Through past later new (Moment here run old) → EndsAs here lacks entries run old ended new
        → RunsOver below (LacksForChange lacks' entries') run past old (ended_of ended) later new
    ran_over past later new ended first moments ends = record {
      first = first;
      moments = weakens past later new (Moment here run old) (Moment below run old) moment_below moments;
      ends = ends_below ended new ends;
    }

    -- and the call ended so
    pub ran_over_as : (past later : List State) (new : State) (ended : MachineEnded) (result : Ended)
        → result ≡ ended_of ended → Moment below run old old → Through past later new (Moment here run old)
        → EndsAs here lacks entries run old ended new
        → RunsOver below (LacksForChange lacks' entries') run past old result later new
    ran_over_as past later new ended result is first moments ends =
        subst (λ (e : Ended). RunsOver below (LacksForChange lacks' entries') run past old e later new) (sym is)
        (ran_over past later new ended first moments ends)

-- memory ran out before the run
pub never_ran : (holds : List Sector → Files → Type 0) (lacking : StoreFault → Run → State → State → Type 0) (run : Run)
    (past : List State) (old : State)
    → Moment holds run old old → RunsOver holds lacking run past old (Refused Memory) past old
never_ran holds lacking run past old first =
    record { first = first; moments = stays past old (Moment holds run old) first; ends = inr refl }

-- files that are there aren't found damaged
pub no_damage_over :
    (holds : List Sector → Files → Type 0) (lacking : StoreFault → Run → State → State → Type 0) (run : Run)
    (old : State) (ended : Ended) (now : State)
    → EndsOver holds lacking run old ended now → ended ≡ Refused Damaged → ⊥
no_damage_over holds lacking run old ended now ends is =
    subst (λ (e : Ended). EndsOver holds lacking run old e now) is ends

-- ---- runs without files

pub given_none : (s : State) (day : List ℕ) (budget : ℕ) → given_on s day budget ≡ given_over [] s day budget
unfolding given_on given_over
given_none s day budget = refl

-- A machine has the run of its code without files, on its day.
pub runs_alone_as : (machine : Machine) (code : Code) (day : List ℕ) (s : State) (budget : ℕ) (run : Run)
    → code_of machine ≡ code → day_of machine ≡ day → Runs code (given_on s day budget) run
    → Runs (code_of machine) (given_over [] s (day_of machine) budget) run
runs_alone_as machine code day s budget run same_code same_day runs =
    runs_as machine code day [] s budget run same_code same_day
    (subst (λ (given : RunInput). Runs code given run) (given_none s day budget) runs)

no_note : (seen rest : List Event) → note_count (seen ++ rest) ≡ 0 → NoteComes rest → ⊥
no_note seen rest none (note, more, is) =
    let sum = notes_append seen rest in
    let one : note_count rest ≡ suc (note_count more) = ap note_count is in
    omega (arith, sum, one, none)

lines_taken : (all seen rest : List Event) (old now : State) → note_count all ≡ 0 → all ≡ seen ++ rest
    → TakesLines old now ⊎ NoteComes rest → TakesLines old now
lines_taken all seen rest old now none is (inl takes) = takes
lines_taken all seen rest old now none is (inr comes) = absurd (no_note seen rest (sym (ap note_count is) ∙ none) comes)

module _ (holds : List Sector → Files → Type 0) (lacks : StoreFault → List Sector → Bool → List ℕ → Files → Files
    → Type 0)
    (entries : List Entry) (run : Run) (old : State) (none : note_count run.events ≡ 0) where
  alone_of : (now : State) → Moment holds run old now → Alone run old now
  alone_of now moment = record {
    told = moment.told;
    console = lines_taken run.events moment.told.seen moment.told.rest old now none moment.told.begins moment.console;
    disk = moment.disk none;
  }

  finished_alone : (how : End) (now : State) → IsFinished holds run how old now → FinishedAlone run how old now
  finished_alone how now is = record { end = is.end; told = is.told; lines = is.lines; disk = is.disk none }

  ends_alone : (ended : MachineEnded) (now : State) → IsOwnEnd ended → EndsAs holds lacks entries run old ended now
      → EndsAlone run old (ended_of ended) now
  ends_alone machine.Stopped now own ends = finished_alone end.Stopped now ends
  ends_alone machine.Budget now own ends = finished_alone end.Budget now ends
  ends_alone (machine.Faulted fault line) now own ends = finished_alone (end.Faulted (fault_of fault) line) now ends
  ends_alone (machine.Refused refused.Device) now own ends = ends
  ends_alone (machine.Refused refused.Full) now own ends = absurd own
  ends_alone (machine.Refused refused.Damaged) now own ends = absurd own
  ends_alone (machine.Refused refused.Memory) now own ends = absurd own
  ends_alone (machine.Refused refused.Old) now own ends = absurd own

  -- nothing was told yet
  first_alone : Alone run old old
  first_alone = record {
    told = record { seen = []; rest = run.events; since = sym (append-nil old.events); begins = refl };
    console = nothing_taken old;
    disk = refl;
  }

  -- a machine ran
  pub ran_alone : (past later : List State) (new : State) (ended : MachineEnded) → IsOwnEnd ended
      → Through past later new (Moment holds run old) → EndsAs holds lacks entries run old ended new
      → RunsAlone run past old (ended_of ended) later new
  ran_alone past later new ended own moments ends = record {
    first = first_alone;
    moments = weakens past later new (Moment holds run old) (Alone run old) alone_of moments;
    ends = ends_alone ended new own ends;
  }
