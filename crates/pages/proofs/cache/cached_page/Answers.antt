use Rattle.std.proofs.Common.{◌∙◌, Bor, ap, sym}
use Rattle.std.specs.Prelude.{Option, None, option_copied}
use Rattle.station.specs.Disk.{Sector}
use Rattle.pages.proofs.Caches.{missed}
use Rattle.pages.proofs.cache.cached_page.Goals as goal

pub returns-in-None-clause-none : goal.returns-in-None-clause-none
returns-in-None-clause-none c = missed c.args.cache.now c.get.follows.lender-at-none c.args.page None
    (sym (ap (λ (o : Option (Bor Sector)). option_copied o) c.in-None.is) ∙ c.get.ensures.value)
    c.get.follows.holds-at-none
