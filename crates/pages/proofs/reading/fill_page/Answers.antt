use Rattle.std.proofs.Common.{true, ◌≡◌, get_or, refl, arith}
use Rattle.std.specs.Prelude.{Err, OnErr}
use Rattle.station.specs.Calls.{OnlyReads}
use Rattle.pages.specs.declared.error.PagesError.TheVariants.{Device}
use Rattle.pages.proofs.Caches.{missing_page}
use Rattle.pages.proofs.Passing.{passed, never_ok, if_refused, refused_never, true_not_false, reads_never, reads_sector}
use Rattle.pages.proofs.reading.fill_page.Goals as goal

pub returns-then-sector-eq0-clause-only : goal.returns-then-sector-eq0-clause-only
returns-then-sector-eq0-clause-only g c = reads_never g.D.Device _ c.args.device.now (λ is. never_ok is)

pub returns-then-sector-eq0-clause-page : goal.returns-then-sector-eq0-clause-page
returns-then-sector-eq0-clause-page g c = λ honest.
    let none : get_or c.args.table.now c.args.page 0 ≡ 0 =
    omega (arith, c.sector_of-sector.ensures, c.if-sector-eq0.true) in
    missing_page (g.D.Device.state c.args.device.now).disk.present c.args.table.now c.args.page none

pub returns-in_err-read-clause-only : goal.returns-in_err-read-clause-only
returns-in_err-read-clause-only g c =
    let here = c.read.ensures in
    passed c.from_residual.result Device c.from_residual.ensures.1
    (λ r. OnlyReads g.D.Device (r ≡ Err Device) c.args.device.now c.read.new.self)
    (reads_sector g.D.Device _ _ _ _ here.honest here.sectors c.in_err-read.ensures.failures (λ _. refl {a = true})
    here.state here.history)

pub returns-in_err-read-clause-page : goal.returns-in_err-read-clause-page
returns-in_err-read-clause-page g c = λ honest.
    if_refused c.from_residual.result Device c.from_residual.ensures.1 _

pub returns-in_err-read-clause-absent : goal.returns-in_err-read-clause-absent
returns-in_err-read-clause-absent g c = λ is.
    refused_never c.from_residual.result Device _ c.from_residual.ensures.1 is

pub returns-in_err-read-clause-cause : goal.returns-in_err-read-clause-cause
returns-in_err-read-clause-cause g c = passed c.from_residual.result Device c.from_residual.ensures.1
    (λ r. OnErr r (r ≡ Err Device)) refl

pub returns-clause-only : goal.returns-clause-only
returns-clause-only g c =
    let here = c.read.ensures in
    reads_sector g.D.Device _ _ _ _ here.honest here.sectors c.in_ok-read.ensures.failures (λ is. never_ok is)
    here.state here.history

pub returns-clause-absent : goal.returns-clause-absent
returns-clause-absent g c = λ is. true_not_false is
