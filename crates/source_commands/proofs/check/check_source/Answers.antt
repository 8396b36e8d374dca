use Rattle.std.proofs.Common.{◌≡◌, Option, None, Some, subst}
use Rattle.std.specs.Prelude.{IfSome}
use Rattle.source_tree.specs.declared.program.Program.{Program}
use Rattle.compiler.specs.declared.fault.CompileFault.{CompileFault}
use Rattle.compiler.specs.Faults.{fault_of, stage_fault}
use Rattle.compiler.specs.Stages.{IsFaultOf}
use Rattle.compiler.specs.Trees.{IsTreeOf}
use Rattle.source_commands.specs.declared.check.CheckReport.{CheckReport}
use Rattle.source_commands.specs.Check.{IsReportText}
use Rattle.source_commands.proofs.Reports.{of_fault, anyway}
use Rattle.source_commands.proofs.check.check_source.Goals as goal
use Rattle.source_commands.proofs.check.check_source.Goals.{in-Ok, in-Err-Refused, in-Err-Memory}

none_some : {A : Type 0} {P : Type 0} (a : A) → ◌≡◌ {A = Option A} (Some a) None → P
none_some a e = let clash : ⊥ = cc in absurd clash

pub returns-clause-accepted : goal.returns-clause-accepted
returns-clause-accepted c =
    let P : Option CompileFault → CheckReport → Type 0 =
    λ fault report. fault ≡ None → (tree : Program) × IsTreeOf c.args.source.now tree in
    elim c.match-compile.branch [
      | in-Ok w ↦ rw w.result-is (of_fault None P w.accepted.result w.accepted.ensures.fault
          (anyway (P None) w.accepted.result (λ report e. w.in-Ok.ensures.accepted)))
      | in-Err-Refused w ↦
          rw w.result-is (of_fault (Some w.in-Err-Refused.fault) P w.refused.result w.refused.ensures.fault
          (anyway (P (Some w.in-Err-Refused.fault)) w.refused.result (λ report e. none_some w.in-Err-Refused.fault e)))
      | in-Err-Memory w ↦ rw w.result-is tt
    ]

pub returns-clause-fault : goal.returns-clause-fault
returns-clause-fault c =
    let P : Option CompileFault → CheckReport → Type 0 =
    λ fault report. IfSome fault (λ f. IsFaultOf c.args.source.now (Some (stage_fault f))) in
    elim c.match-compile.branch [
      | in-Ok w ↦ rw w.result-is (of_fault None P w.accepted.result w.accepted.ensures.fault
          (anyway (P None) w.accepted.result (λ report. tt)))
      | in-Err-Refused w ↦
          let told : IsFaultOf c.args.source.now (Some (stage_fault w.in-Err-Refused.fault)) =
          subst (λ e. IsFaultOf c.args.source.now (fault_of e)) w.in-Err-Refused.field-0-is
          w.in-Err-Refused.ensures.fault in
          rw w.result-is (of_fault (Some w.in-Err-Refused.fault) P w.refused.result w.refused.ensures.fault
          (anyway (P (Some w.in-Err-Refused.fault)) w.refused.result (λ report. told)))
      | in-Err-Memory w ↦ rw w.result-is tt
    ]

pub returns-clause-text : goal.returns-clause-text
returns-clause-text c =
    let P : Option CompileFault → CheckReport → Type 0 =
    λ fault report. IsReportText c.args.name.now c.args.source.now fault report.text.items in
    elim c.match-compile.branch [
      | in-Ok w ↦ rw w.result-is (of_fault None P w.accepted.result w.accepted.ensures.fault w.accepted.ensures.text)
      | in-Err-Refused w ↦ rw w.result-is
          (of_fault (Some w.in-Err-Refused.fault) P w.refused.result w.refused.ensures.fault w.refused.ensures.text)
      | in-Err-Memory w ↦ rw w.result-is tt
    ]
