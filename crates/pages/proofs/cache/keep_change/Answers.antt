use Rattle.pages.proofs.Caches.{keeps_one}
use Rattle.pages.proofs.cache.keep_change.Goals as goal

pub returns-then-is_cached : goal.returns-then-is_cached
returns-then-is_cached c =
    keeps_one c.args.change c.in-Some.bytes c.args.cache.now c.push_page.new.cache c.in-Some.is c.push_page.ensures
