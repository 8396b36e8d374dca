use Rattle.std.proofs.Common.{◌≡◌, ℕ, ◌<◌, Some}
use Rattle.std.specs.Prelude.{slice_get}
use Rattle.items.specs.Items.{IsTaken}
use Rattle.data_instructions.specs.declared.tables.LiteralSender.{LiteralSender}
use Rattle.data_instructions.proofs.order.has_senders.Given as goal

abbrev pub invariant-loop-one : goal.invariant-loop-one
invariant-loop-one l =
    (k : ℕ) (one : LiteralSender) → k < l.one-index → slice_get l.senders k ≡ Some one → IsTaken one.taken one.bytes
