use Rattle.std.proofs.Common.{ℕ, ◌<◌, get_or}
use Rattle.text_ops.specs.Entries.{IsEntry}
use Rattle.text_ops.specs.declared.entry.Entry.{Entry}
use Rattle.data_instructions.proofs.inspections.are_within.Given as goal

abbrev pub invariant-loop-number : goal.invariant-loop-number
invariant-loop-number l = (k : ℕ) (d : Entry) → k < l.number → IsEntry l.fn.size (get_or l.fn.entries k d)
