use Rattle.std.proofs.Common.{true, ◌≡◌, refl}
use Rattle.std.specs.Prelude.{Err, OnErr}
use Rattle.station.specs.Calls.{OnlyReads}
use Rattle.pages.specs.declared.error.PagesError.TheVariants.{Device}
use Rattle.pages.proofs.Passing.{passed, never_ok, reads_sector}
use Rattle.pages.proofs.page_bytes.PageBytes.fill.Goals as goal

pub returns-in_err-read-clause-only : goal.returns-in_err-read-clause-only
returns-in_err-read-clause-only g c =
    let here = c.read.ensures in
    passed c.from_residual.result Device c.from_residual.ensures.1
    (λ r. OnlyReads g.D.Device (r ≡ Err Device) c.args.device.now c.read.new.self)
    (reads_sector g.D.Device _ _ _ _ here.honest here.sectors c.in_err-read.ensures.failures (λ _. refl {a = true})
    here.state here.history)

pub returns-in_err-read-clause-cause : goal.returns-in_err-read-clause-cause
returns-in_err-read-clause-cause g c = passed c.from_residual.result Device c.from_residual.ensures.1
    (λ r. OnErr r (r ≡ Err Device)) refl

pub returns-clause-only : goal.returns-clause-only
returns-clause-only g c =
    let here = c.read.ensures in
    reads_sector g.D.Device _ _ _ _ here.honest here.sectors c.in_ok-read.ensures.failures (λ is. never_ok is)
    here.state here.history
