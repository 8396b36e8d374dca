use Rattle.std.proofs.Common.{sym, ◌∙◌}
use Rattle.items.proofs.Held.{held_number}
use Rattle.data_machine.proofs.short_fitting.any_number.Goals as goal

pub held-requires-clause-holds : goal.held-requires-clause-holds
held-requires-clause-holds c =
    held_number c.args.item c.args.bytes.now c.in-Some.x (sym c.number.ensures ∙ c.in-Some.is)
