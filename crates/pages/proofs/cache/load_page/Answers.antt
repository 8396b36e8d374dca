use Rattle.std.proofs.Common.{◌≡◌, ◌<◌, ℕ, get_or, ap, sym, ◌∙◌, arith}
use Rattle.std.specs.Prelude.{Some, None}
use Rattle.station.specs.Disk.{Sector}
use Rattle.pages.specs.Image.{pages_in}
use Rattle.pages.proofs.Caches.{named_page, after_kept}
use Rattle.std.proofs.Common.{[], inl, refl}
use Rattle.std.specs.Prelude.{Err, OnErr}
use Rattle.pages.specs.declared.error.PagesError.TheVariants.{Device}
use Rattle.pages.proofs.Passing.{passed, never_ok, still_error, on_err, reads_never, reads_passed, reads_where}
use Rattle.pages.proofs.cache.load_page.Goals as goal

pub returns-clause-right : goal.returns-clause-right
returns-clause-right g c = λ changed away honest is.
    let present = (g.D.Device.state c.args.device.now).disk.present in
    let table = c.args.table.now in
    let sector : ℕ = c.sector_of-sector.result in
    let some : 0 < sector = omega (arith, c.if-sector-eq0.false) in
    let here : get_or (pages_in present table) c.args.page None ≡ Some c.set_cached.new.self =
    named_page present table c.args.page sector c.sector_of-sector.ensures some
    ∙ ap (λ (b : Sector). Some b) (sym (c.in_ok-fill.ensures.bytes honest) ∙ sym c.set_cached.ensures) in
    after_kept (pages_in present table) changed c.args.cache.now c.push_page.new.cache c.args.page
    c.set_cached.new.self here away is c.push_page.ensures

pub returns-then-sector-eq0-clause-only : goal.returns-then-sector-eq0-clause-only
returns-then-sector-eq0-clause-only g c = reads_never g.D.Device _ c.args.device.now (λ is. never_ok is)

pub returns-then-sector-eq0-clause-right : goal.returns-then-sector-eq0-clause-right
returns-then-sector-eq0-clause-right g c = λ changed away honest is. is

pub returns-then-sector-eq0-clause-loads : goal.returns-then-sector-eq0-clause-loads
returns-then-sector-eq0-clause-loads g c = ([], inl refl)

pub returns-in-None-clause-only : goal.returns-in-None-clause-only
returns-in-None-clause-only g c = reads_never g.D.Device _ c.args.device.now (λ is. never_ok is)

pub returns-in-None-clause-right : goal.returns-in-None-clause-right
returns-in-None-clause-right g c = λ changed away honest is. is

pub returns-in-None-clause-loads : goal.returns-in-None-clause-loads
returns-in-None-clause-loads g c = ([], inl refl)

pub returns-in_err-fill-clause-only : goal.returns-in_err-fill-clause-only
returns-in_err-fill-clause-only g c =
    reads_passed g.D.Device c.from_residual.result c.in_err-fill.field-0.0 _ _ c.from_residual.ensures.1
    c.in_err-fill.ensures.only

pub returns-in_err-fill-clause-cause : goal.returns-in_err-fill-clause-cause
returns-in_err-fill-clause-cause g c =
    passed c.from_residual.result c.in_err-fill.field-0.0 c.from_residual.ensures.1 (λ r. OnErr r (r ≡ Err Device))
    (still_error c.in_err-fill.ensures.cause)

pub returns-in_err-fill-clause-right : goal.returns-in_err-fill-clause-right
returns-in_err-fill-clause-right g c = λ changed away honest is. is

pub returns-in_err-fill-clause-absent : goal.returns-in_err-fill-clause-absent
returns-in_err-fill-clause-absent g c = λ none.
    absurd (omega (arith, none, c.sector_of-sector.ensures, c.if-sector-eq0.false))

pub returns-in_err-fill-clause-loads : goal.returns-in_err-fill-clause-loads
returns-in_err-fill-clause-loads g c = ([], inl refl)

pub returns-in_err-fill-clause-err : goal.returns-in_err-fill-clause-err
returns-in_err-fill-clause-err g c = on_err c.from_residual.result refl

pub returns-clause-only : goal.returns-clause-only
returns-clause-only g c = reads_where g.D.Device _ _ _ _ (λ is. never_ok is) c.in_ok-fill.ensures.only

pub returns-clause-absent : goal.returns-clause-absent
returns-clause-absent g c = λ none.
    absurd (omega (arith, none, c.sector_of-sector.ensures, c.if-sector-eq0.false))
