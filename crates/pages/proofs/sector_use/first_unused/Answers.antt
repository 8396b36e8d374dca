use Rattle.std.proofs.Common.{length, arith}
use Rattle.pages.proofs.Runs.{marked_before}
use Rattle.pages.proofs.sector_use.first_unused.Goals as goal

pub returns-in_err-place-clause-full : goal.returns-in_err-place-clause-full
returns-in_err-place-clause-full c =
    let part = c.in_ok-sectors.sectors.now in
    let got = c.in_ok-sectors.ensures.lookup.0 in
    rw c.from_residual-in_err-place.ensures (λ t from below.
    marked_before c.args.used.now part c.args.start c.args.end got.2 got.3 (length part) t (omega arith)
    c.in_err-place.ensures from (omega (arith, got.3)))

pub returns-clause-first : goal.returns-clause-first
returns-clause-first c =
    let part = c.in_ok-sectors.sectors.now in
    let got = c.in_ok-sectors.ensures.lookup.0 in
    let first = c.in_ok-place.ensures.0 in
    λ t from below.
    marked_before c.args.used.now part c.args.start c.args.end got.2 got.3 c.in_ok-place.place t
    (omega (arith, first.high)) first.before from below
