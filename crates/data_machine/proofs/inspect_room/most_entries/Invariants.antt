use Rattle.std.proofs.Common.{◌≡◌, ℕ, ◌<◌, ◌≤◌, length, Some}
use Rattle.std.specs.Prelude.{slice_get}
use Rattle.data_instructions.specs.declared.tables.Inspection.{Inspection}
use Rattle.data_machine.proofs.inspect_room.most_entries.Given as goal

abbrev pub invariant-loop-one : goal.invariant-loop-one
invariant-loop-one l = (k : ℕ) (one : Inspection) → k < l.one-index → slice_get l.inspections k ≡ Some one
    → (length one.tallying ≤ l.most) × (length one.replacing ≤ l.most)
