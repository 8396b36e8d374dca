use Rattle.std.proofs.Common.{◌≡◌, ℕ, ◌<◌, ◌≤◌, Some}
use Rattle.std.specs.Prelude.{slice_get}
use Rattle.data_instructions.specs.declared.tables.DataItem.{DataItem}
use Rattle.data_machine.proofs.data.longest_of.Given as goal

abbrev pub invariant-loop-one : goal.invariant-loop-one
invariant-loop-one l =
    (k : ℕ) (one : DataItem) → k < l.one-index → slice_get l.items k ≡ Some one → one.item.length ≤ l.longest
