use Rattle.std.proofs.Common.{rules}
use Rattle.decimal18.proofs.Receivers.{fitted_by}
use Rattle.decimal18.proofs.decimal.Dec.short_fit.Goals as goal

pub returns-in-Some : goal.returns-in-Some
returns-in-Some c = search (rules, fitted_by)
