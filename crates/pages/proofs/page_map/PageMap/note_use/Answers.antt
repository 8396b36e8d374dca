use Rattle.std.proofs.Common.{ℕ, refl, subst, sym}
use Rattle.station.specs.Disk.{Sector}
use Rattle.lru.specs.LruCache.{LruCache}
use Rattle.pages.specs.Cache.{IsCacheOf}
use Rattle.pages.specs.Changes.{changed_pages}
use Rattle.pages.proofs.Caches.{after_promoted}
use Rattle.pages.proofs.Keeping.{keeps_committed}
use Rattle.pages.proofs.page_map.PageMap.note_use.Goals as goal

pub returns-clause-keeps : goal.returns-clause-keeps
returns-clause-keeps c =
    let changed = changed_pages c.args.self.now.changes.items in
    keeps_committed c.args.self.now _ (record { volume = refl; mark = refl; spent = refl }) refl
    (λ pages is. subst (λ (l : LruCache ℕ Sector). IsCacheOf pages changed l.entries)
    (sym c.promote_page.ensures.entries) (after_promoted pages changed c.args.self.now.cache.entries c.args.page is))
