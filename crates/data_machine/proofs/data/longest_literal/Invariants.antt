use Rattle.std.proofs.Common.{◌≡◌, ℕ, ◌<◌, ◌≤◌, length, Some}
use Rattle.std.specs.Prelude.{slice_get}
use Rattle.data_instructions.specs.declared.tables.LiteralSender.{LiteralSender}
use Rattle.data_machine.proofs.data.longest_literal.Given as goal

abbrev pub invariant-loop-one : goal.invariant-loop-one
invariant-loop-one l =
    (k : ℕ) (one : LiteralSender) → k < l.one-index → slice_get l.senders k ≡ Some one → length one.bytes ≤ l.longest
