use Rattle.std.proofs.Common.{◌≡◌, ℕ, ◌<◌, Some}
use Rattle.std.specs.Prelude.{slice_get}
use Rattle.data_instructions.specs.Tables.{IsInspection}
use Rattle.data_instructions.specs.declared.tables.Inspection.{Inspection}
use Rattle.data_instructions.proofs.inspections.has_inspections.Given as goal

abbrev pub invariant-loop-one : goal.invariant-loop-one
invariant-loop-one l =
    (k : ℕ) (one : Inspection) → k < l.one-index → slice_get l.inspections k ≡ Some one → IsInspection one
