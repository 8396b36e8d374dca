-- What `check` shows of a source text.
use Rattle.std.specs.Prelude.{◌≡◌, ℕ, List, All, Option, None, Some}
use Rattle.std.specs.List.{flat_map}
use Rattle.compiler.specs.declared.fault.CompileFault.{CompileFault}
use Rattle.compiler.specs.Faults.{number_of, place_of}
use Rattle.source_advice.specs.Advice.{AreLines, HasLines}
use Rattle.source_advice.specs.declared.paragraph_warnings.Warning.{Warning}
use Rattle.source_commands.specs.declared.check.CheckReport.{CheckReport}
use Rattle.source_commands.specs.Report.{report}

abbrev pub warning_of : List ℕ → List ℕ → Warning → List ℕ
warning_of name source one = report name source one.place None one.advice.message.items one.advice.cure.items

abbrev pub warning_texts : List ℕ → List ℕ → List Warning → List ℕ
warning_texts name source found = flat_map (warning_of name source) found

-- Of a fault its report, with some message and some lines of what to do; of a source text that is accepted some warnings, maybe none.
abbrev pub IsReportText : List ℕ → List ℕ → Option CompileFault → List ℕ → Type 0
IsReportText name source None text =
    (found : List Warning) × All (λ one. HasLines one.advice) found × (text ≡ warning_texts name source found)
IsReportText name source (Some fault) text =
    (message : List ℕ) × (cure : List ℕ) × AreLines cure
    × (text ≡ report name source (place_of fault) (Some (number_of fault)) message cure)

abbrev pub IsReportOf : List ℕ → List ℕ → CheckReport → Type 0
IsReportOf name source one = IsReportText name source one.fault one.text.items
