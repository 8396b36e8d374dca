use Rattle.std.proofs.Common.{◌≡◌, ◌∙◌, true, ap, sym}
use Rattle.lru.specs.LruCache.{lru_cache}
use Rattle.pages.specs.Cache.{is_first}
use Rattle.pages.proofs.Caches.{first_found, first_stays}
use Rattle.pages.proofs.cache.promote_page.Goals as goal

-- the page is the first one
first : (c : goal.Then-is_most_recent) → is_first c.args.page c.args.cache.now.entries ≡ true
first c = sym c.is_most_recent.ensures ∙ c.if-is_most_recent.true

pub returns-then-is_most_recent-clause-is_there : goal.returns-then-is_most_recent-clause-is_there
returns-then-is_most_recent-clause-is_there c = sym (first_found c.args.cache.now.entries c.args.page (first c))

pub returns-then-is_most_recent-clause-entries : goal.returns-then-is_most_recent-clause-entries
returns-then-is_most_recent-clause-entries c =
    ap (λ entries. lru_cache entries c.args.cache.now.cap)
    (sym (first_stays c.args.cache.now.entries c.args.page (first c)))
