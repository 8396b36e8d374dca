-- What a call promises of the program that it runs, whatever volume there is: of an image and of a source text alike.
use Rattle.std.specs.Prelude.{◌≡◌, ◌≢◌, Bool, ℕ, List, length, Result, IfOk}
use Rattle.station.specs.Disk.{Sector}
use Rattle.station.specs.State.{State}
use Rattle.station.specs.declared.device.Device.{Ghosts as Devices}
use Rattle.records.specs.declared.fault.StoreFault.{StoreFault}
use Rattle.records.specs.Files.{Files}
use Rattle.records.specs.Connector.{Entry}
use Rattle.file_recovery.specs.Recovered.{HoldsFiles}
use Rattle.source_tree.specs.declared.program.Program.{Program}
use Rattle.source_tree.specs.Given.{RunInput, given_on, given_over}
use Rattle.source_tree.specs.Meaning.{Run, meaning}
use Rattle.code_image.specs.declared.code.Code.{Code}
use Rattle.file_image.specs.Files.{entries_of}
use Rattle.code_image.specs.Table.{Runs}
use Rattle.machine.specs.Ends.{LacksForChange}
use Rattle.compiler.specs.Trees.{IsTreeOf}
use Rattle.compiler.specs.Images.{IsImageOf, entries_of_tree}
use Rattle.run_unit.specs.Alone.{RunsAlone}
use Rattle.run_unit.specs.Volume.{IsDamageFound, RunsOnVolume, RunsOnHalves, IsOfHalves, lacks_either}
use Rattle.compiler.specs.declared.fault.CompileError.{CompileError}
use Rattle.run_unit.specs.declared.ended.Refusal.TheVariants.{Damaged}
use Rattle.run_unit.specs.declared.ended.Ended.{Ended}
use Rattle.run_unit.specs.declared.ended.Ended.TheVariants.{Refused}

-- A call that runs a program: how the run ended, its day and budget, and the station's history and state before and
-- after.
pub record Call : Type 0 where
  pub ended : Ended
  pub day : List ℕ
  pub budget : ℕ
  pub past : List State
  pub old : State
  pub later : List State
  pub new : State

-- the call on this station
module _ {S : Type 0} (device : Devices S) where
  abbrev pub call_on : Ended → List ℕ → ℕ → S → S → Call
  call_on ended day budget old new = record {
    ended = ended;
    day = day;
    budget = budget;
    past = device.history old;
    old = device.state old;
    later = device.history new;
    new = device.state new;
  }

-- what the program is given without files
abbrev pub given_alone : Call → RunInput
given_alone call = given_on call.old call.day call.budget

-- and over a volume that holds these files
abbrev pub given_files : Call → Files → RunInput
given_files call files = given_over files call.old call.day call.budget

-- The call runs a program of so many files, these entries, of which this is the run for whatever it is given.
pub record RunsAsMeant (entries : List Entry) (means : RunInput → Run) (count : ℕ) (call : Call) : Type 0 where
  -- Without files: at each moment the events so far are a beginning of the run's, the console's first lines were taken,
  -- and no sector was written. After the program's own end they are all of the run's events, and the end is the run's.
  pub alone : count ≡ 0 → RunsAlone (means (given_alone call)) call.past call.old call.ended call.later call.new
  -- With files, over a volume that holds files: from its opening on, at each moment the events so far are a beginning of
  -- the run's with these files, and whatever a crash leaves holds the files after the statuses that were received, or
  -- after one more, which is in progress. After the program's own end they are all of the run's events, the end is the
  -- run's, and the files are its last. If the volume isn't opened, no sector is written. If it ends as 81, it does so in a
  -- statement that would change files, and the volume as it is lacks room for that: too few of its sectors are free, the
  -- files would be more than 255, or no generation is left. If it ends as 87, it does so in an OPEN that would make a file
  -- with long records, and the volume has the first mark or is one of halves.
  pub volume : count ≢ 0 → (files : Files) → HoldsFiles call.old.disk.present files
      → RunsOnVolume HoldsFiles (LacksForChange lacks_either entries) (means (given_files call files)) call.past call.old call.ended call.later call.new
  -- With files, over a volume of halves, of which nothing else is presumed. It is read whole when it is opened: either it
  -- isn't opened, and no sector is written, or it held files, and the run is the one with these.
  pub halves : count ≢ 0 → IsOfHalves call.old.disk.present
      → RunsOnHalves entries (λ files. means (given_files call files)) call.past call.old call.ended call.later call.new
  -- 82 isn't reported of a volume that holds files.
  pub sound : (files : Files) → HoldsFiles call.old.disk.present files → call.ended ≢ Refused Damaged

-- The call runs an image: each code that the bytes spell, by the machine's table.
abbrev pub ImageRuns : List ℕ → Call → Type 0
ImageRuns image call = (code : Code) → IsImageOf image code
    → (means : RunInput → Run) → ((given : RunInput) → Runs code given (means given))
    → RunsAsMeant (entries_of code.tables code.files) means (length code.files) call

-- The call runs a source text: what its tree means, on the files that the tree describes.
abbrev pub TextRuns : List ℕ → Call → Type 0
TextRuns source call = (tree : Program) → IsTreeOf source tree
    → RunsAsMeant (entries_of_tree tree) (meaning tree) (length tree.selects) call

-- What calls promise that run a program on a station.
module _ {S : Type 0} (device : Devices S) where
  -- 82 is reported only of damage that was found
  abbrev pub DamagedOnlyIfFound : Type 0 → S → S → Type 0
  DamagedOnlyIfFound damaged old new = device.is_honest old → damaged → IsDamageFound (device.state old) (device.state new)

  -- a source text that is not refused is run
  abbrev pub RunsUnlessRefused : List ℕ → Result Ended CompileError → List ℕ → ℕ → S → S → Type 0
  RunsUnlessRefused source result day budget old new =
      device.is_honest old → IfOk result (λ ended. TextRuns source (call_on device ended day budget old new))

-- The call runs this code, over a volume that holds files and lacks what a change needs, by these senses.
abbrev pub RunsOverHeld : (List Sector → Files → Type 0) → (StoreFault → List Sector → Bool → List ℕ → Files → Files → Type 0)
    → Code → Call → Type 0
RunsOverHeld holds lacks code call = (files : Files) → holds call.old.disk.present files
    → (run : Run) → Runs code (given_files call files) run
    → RunsOnVolume holds (LacksForChange lacks (entries_of code.tables code.files)) run call.past call.old call.ended call.later call.new
