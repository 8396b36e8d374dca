use Rattle.std.proofs.Common.{◌≡◌, ◌+◌, drop}
use Rattle.data_instructions.specs.Tables.{total_length}
use Rattle.data_instructions.proofs.inspections.have_entries.Given as goal

abbrev pub invariant-loop-number : goal.invariant-loop-number
invariant-loop-number l =
    total_length l.fn.counters + l.left ≡ l.fn.entries + total_length (drop l.number l.fn.counters)
