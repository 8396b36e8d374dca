use Rattle.decimal18.proofs.Receivers.{held_at, held_below}
use Rattle.decimal18.proofs.decimal.Dec.fit.Goals as goal

pub returns-clause-bound : goal.returns-clause-bound
returns-clause-bound c =
    held_below c.args.self c.args.digits c.args.scale c.args.rounding c.long_fit.result c.long_fit.ensures

pub returns-clause-at : goal.returns-clause-at
returns-clause-at c =
    held_at c.args.self c.args.digits c.args.scale c.args.rounding c.long_fit.result c.long_fit.ensures

pub returns-in-Some-clause-bound : goal.returns-in-Some-clause-bound
returns-in-Some-clause-bound c =
    held_below c.args.self c.args.digits c.args.scale c.args.rounding c.short_fit.result c.short_fit.ensures

pub returns-in-Some-clause-at : goal.returns-in-Some-clause-at
returns-in-Some-clause-at c =
    held_at c.args.self c.args.digits c.args.scale c.args.rounding c.short_fit.result c.short_fit.ensures
