use Rattle.decimal18.proofs.Receivers.{kept_at, kept_below}
use Rattle.decimal18.proofs.decimal.Dec.cut.Goals as goal

pub returns-clause-bound : goal.returns-clause-bound
returns-clause-bound c =
    kept_below c.args.self c.args.digits c.args.scale c.args.rounding c.long_cut.result c.long_cut.ensures

pub returns-clause-at : goal.returns-clause-at
returns-clause-at c =
    kept_at c.args.self c.args.digits c.args.scale c.args.rounding c.long_cut.result c.long_cut.ensures

pub returns-in-Some-clause-bound : goal.returns-in-Some-clause-bound
returns-in-Some-clause-bound c =
    kept_below c.args.self c.args.digits c.args.scale c.args.rounding c.short_cut.result c.short_cut.ensures

pub returns-in-Some-clause-at : goal.returns-in-Some-clause-at
returns-in-Some-clause-at c =
    kept_at c.args.self c.args.digits c.args.scale c.args.rounding c.short_cut.result c.short_cut.ensures
