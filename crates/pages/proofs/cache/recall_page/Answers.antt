use Rattle.std.proofs.Common.{◌≡◌, ℕ, get_or, sym, ◌∙◌, subst}
use Rattle.std.specs.Prelude.{Some, None, nat_eq}
use Rattle.std.specs.Map.{lookup}
use Rattle.station.specs.Disk.{Sector}
use Rattle.lru.specs.LruCache.{LruCache}
use Rattle.pages.specs.Image.{pages_in}
use Rattle.pages.specs.Cache.{IsCacheOf, CachesPage}
use Rattle.pages.proofs.Caches.{hit_page, after_promoted, after_kept, recalls_kept}
use Rattle.std.specs.Prelude.{Err, OnErr}
use Rattle.pages.specs.declared.error.PagesError.TheVariants.{Device}
use Rattle.pages.proofs.Passing.{passed, never_ok, still_error, if_refused, refused_never, some_not_none, on_err}
use Rattle.pages.proofs.Passing.{reads_never, reads_passed, reads_where}
use Rattle.pages.proofs.cache.recall_page.Goals as goal

pub returns-in-Some-clause-page : goal.returns-in-Some-clause-page
returns-in-Some-clause-page g c = λ changed honest is.
    hit_page (pages_in (g.D.Device.state c.args.device.now).disk.present c.args.table.now) changed
    c.args.cache.now.entries c.args.page c.in-Some.bytes is (sym c.cached_page.ensures.value ∙ c.in-Some.is)

pub returns-in-Some-clause-right : goal.returns-in-Some-clause-right
returns-in-Some-clause-right g c = λ changed away honest is.
    let pages = pages_in (g.D.Device.state c.args.device.now).disk.present c.args.table.now in
    subst (λ (l : LruCache ℕ Sector). IsCacheOf pages changed l.entries) (sym c.cached_page.ensures.entries)
    (after_promoted pages changed c.args.cache.now.entries c.args.page is)

pub returns-in-Some-found-clause-right : goal.returns-in-Some-found-clause-right
returns-in-Some-found-clause-right g c = λ changed away honest is.
    let pages = pages_in (g.D.Device.state c.args.device.now).disk.present c.args.table.now in
    let same : c.cached_page.new.cache ≡ c.args.cache.now = c.in_default.ensures.none in
    let kept : CachesPage c.args.page c.in-Some-found.bytes c.args.cache.now c.keep_page.new.cache =
    subst (λ (l : LruCache ℕ Sector). CachesPage c.args.page c.in-Some-found.bytes l c.keep_page.new.cache) same
    c.keep_page.ensures in
    let here : get_or pages c.args.page None ≡ Some c.in-Some-found.bytes =
    sym (c.in_ok-found.ensures.page honest) ∙ c.in-Some-found.is in
    after_kept pages changed c.args.cache.now c.keep_page.new.cache c.args.page c.in-Some-found.bytes here away is kept

pub returns-in-Some-found-clause-recalls : goal.returns-in-Some-found-clause-recalls
returns-in-Some-found-clause-recalls g c =
    let same : c.cached_page.new.cache ≡ c.args.cache.now = c.in_default.ensures.none in
    let none : lookup (nat_eq c.args.page) c.args.cache.now.entries ≡ None = sym c.in_default.ensures.value in
    recalls_kept c.args.cache.now c.keep_page.new.cache c.args.page c.in-Some-found.bytes none
    (subst (λ (l : LruCache ℕ Sector). CachesPage c.args.page c.in-Some-found.bytes l c.keep_page.new.cache) same
    c.keep_page.ensures)

pub returns-in-Some-clause-only : goal.returns-in-Some-clause-only
returns-in-Some-clause-only g c = reads_never g.D.Device _ c.args.device.now (λ is. never_ok is)

pub returns-in-Some-clause-absent : goal.returns-in-Some-clause-absent
returns-in-Some-clause-absent g c = λ is. some_not_none is

pub returns-in_err-found-clause-only : goal.returns-in_err-found-clause-only
returns-in_err-found-clause-only g c =
    reads_passed g.D.Device c.from_residual.result c.in_err-found.field-0.0 _ _ c.from_residual.ensures.1
    c.in_err-found.ensures.only

pub returns-in_err-found-clause-cause : goal.returns-in_err-found-clause-cause
returns-in_err-found-clause-cause g c =
    passed c.from_residual.result c.in_err-found.field-0.0 c.from_residual.ensures.1 (λ r. OnErr r (r ≡ Err Device))
    (still_error c.in_err-found.ensures.cause)

pub returns-in_err-found-clause-page : goal.returns-in_err-found-clause-page
returns-in_err-found-clause-page g c = λ changed honest is.
    if_refused c.from_residual.result c.in_err-found.field-0.0 c.from_residual.ensures.1 _

pub returns-in_err-found-clause-absent : goal.returns-in_err-found-clause-absent
returns-in_err-found-clause-absent g c = λ is.
    refused_never c.from_residual.result c.in_err-found.field-0.0 _ c.from_residual.ensures.1 is

pub returns-in_err-found-clause-recalls : goal.returns-in_err-found-clause-recalls
returns-in_err-found-clause-recalls g c =
    if_refused c.from_residual.result c.in_err-found.field-0.0 c.from_residual.ensures.1 _

pub returns-in_err-found-clause-err : goal.returns-in_err-found-clause-err
returns-in_err-found-clause-err g c = on_err c.from_residual.result c.in_default.ensures.none

pub returns-in-Some-found-clause-only : goal.returns-in-Some-found-clause-only
returns-in-Some-found-clause-only g c = reads_where g.D.Device _ _ _ _ (λ is. never_ok is) c.in_ok-found.ensures.only
