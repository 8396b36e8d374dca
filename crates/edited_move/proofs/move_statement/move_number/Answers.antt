use Rattle.std.proofs.Common.{sym, subst}
use Rattle.decimal18.specs.Fraction.{Fraction}
use Rattle.items.specs.Numbers.{CanHold}
use Rattle.edited_move.proofs.Received.{received_held}
use Rattle.edited_move.proofs.move_statement.move_number.Goals as goal

pub store-requires-clause-holds : goal.store-requires-clause-holds
store-requires-clause-holds c =
    let P : Fraction → Type 0 = λ y. CanHold c.args.item y in
    subst P (sym c.received-kept.ensures.value) (received_held c.args.item c.args.x c.received-kept.ensures.below)
