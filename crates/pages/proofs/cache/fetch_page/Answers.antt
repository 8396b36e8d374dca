use Rattle.std.proofs.Common.{sym, ◌∙◌, ap}
use Rattle.std.specs.Prelude.{option_copied}
use Rattle.pages.specs.Image.{pages_in}
use Rattle.pages.proofs.Caches.{hit_page}
use Rattle.pages.proofs.cache.fetch_page.Goals as goal

pub returns-in-Some-clause-page : goal.returns-in-Some-clause-page
returns-in-Some-clause-page g c = λ changed honest is.
    let pages = pages_in (g.D.Device.state c.args.device.now).disk.present c.args.table.now in
    sym (hit_page pages changed c.args.cache.now.entries c.args.page c.in-Some.held.now is
    (sym c.seen_page.ensures ∙ ap option_copied c.in-Some.is))
    ∙ c.copy_page.ensures.copied
