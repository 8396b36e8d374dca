-- A report of which the fault is known.
use Rattle.std.proofs.Common.{◌≡◌, Option, Result, Ok, Err, subst, sym}
use Rattle.std.specs.Prelude.{IfOk}
use Rattle.std.specs.declared.alloc.AllocError.{AllocError}
use Rattle.compiler.specs.declared.fault.CompileFault.{CompileFault}
use Rattle.source_commands.specs.declared.check.CheckReport.{CheckReport}

abbrev pub HasFault : Option CompileFault → Result CheckReport AllocError → Type 0
HasFault fault result = IfOk result (λ report. report.fault ≡ fault)

-- what holds of the fault that it has, holds of it
pub of_fault : (fault : Option CompileFault) (P : Option CompileFault → CheckReport → Type 0)
    (result : Result CheckReport AllocError) → HasFault fault result → IfOk result (P fault)
    → IfOk result (λ report. P report.fault report)
of_fault fault P (Ok report) is holds = subst (λ f. P f report) (sym is) holds
of_fault fault P (Err error) is holds = tt

-- what holds anyway holds of a result
pub anyway : (P : CheckReport → Type 0) (result : Result CheckReport AllocError) → ((report : CheckReport) → P report)
    → IfOk result P
anyway P (Ok report) holds = holds report
anyway P (Err error) holds = tt
