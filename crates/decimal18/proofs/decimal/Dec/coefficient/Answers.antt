use Rattle.std.proofs.Common.{rules, ◌≡◌, ap, FitsSigned}
use Rattle.std.specs.Int.{w64}
use Rattle.decimal18.specs.Fraction.{Fraction}
use Rattle.decimal18.specs.Halves.{number_of_halves}
use Rattle.decimal18.proofs.Halves.{joined_again}
use Rattle.decimal18.proofs.decimal.Dec.coefficient.Goals as goal

pub returns-clause-value : goal.returns-clause-value
returns-clause-value c =
    let low : FitsSigned w64 c.self.inside.low = search rules in
    let high : FitsSigned w64 c.self.inside.high = search rules in
    let same : number_of_halves c.self.inside.low c.self.inside.high ≡ c.args.self.coefficient =
    ap (λ (x : Fraction). x.coefficient) c.self.view_is in
    joined_again c.self.inside.low c.self.inside.high _ low high c.self.invariant.0 same
