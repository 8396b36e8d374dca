use Rattle.std.proofs.Common.{sym, subst}
use Rattle.decimal18.specs.Fraction.{Fraction}
use Rattle.items.specs.Numbers.{CanHold}
use Rattle.items.proofs.Bounds.{zero_held}
use Rattle.items.proofs.start.initialize.Goals as goal

pub store-requires-clause-holds : goal.store-requires-clause-holds
store-requires-clause-holds c =
    subst (λ (x : Fraction). CanHold c.in-Numeric.numeric x) (sym c.new.ensures) (zero_held c.in-Numeric.numeric)
