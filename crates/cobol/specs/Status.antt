-- How a command ends, and its exit status (own choice).
use Rattle.std.specs.Prelude.{ℕ}
use Rattle.data_instructions.specs.Faults as program
use Rattle.run_unit.specs.Ends as run
use Rattle.compiler.specs.Faults as source
use Rattle.run_unit.specs.declared.ended.Ended.{Ended}
use Rattle.run_unit.specs.declared.ended.Ended.TheVariants as ended
use Rattle.run_unit.specs.declared.ended.Refusal.TheVariants as refusal
use Rattle.compiler.specs.declared.fault.CompileError.{CompileError}
use Rattle.compiler.specs.declared.fault.CompileError.TheVariants as compiling
use Rattle.cobol.specs.declared.verdict.Verdict.{Verdict}
use Rattle.cobol.specs.declared.verdict.Verdict.TheVariants.{Done, SourceFault, Reported, WrongCommand, NotText, Refused, Budget, ProgramFault}

abbrev pub status_of : Verdict → ℕ
status_of Done = 0
status_of (SourceFault line column number) = 1
status_of Reported = 1
status_of WrongCommand = 2
status_of NotText = 2
status_of (Refused number) = 4
status_of Budget = 5
status_of (ProgramFault number line) = 3

-- how a run's end is told
abbrev pub verdict_after : Ended → Verdict
verdict_after ended.Stopped = Done
verdict_after ended.Budget = Budget
verdict_after (ended.Faulted fault line) = ProgramFault (program.fault_number (program.fault_of fault)) line
verdict_after (ended.Refused why) = Refused (run.number_of why)

-- how a source text that isn't run is told
abbrev pub verdict_refusing : CompileError → Verdict
verdict_refusing compiling.Memory = Refused (run.number_of refusal.Memory)
verdict_refusing (compiling.Refused fault) = SourceFault (source.place_of fault).line (source.place_of fault).column (source.number_of fault)
