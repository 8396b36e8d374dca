-- A page is visited: its bytes are found in memory, and the cache has it as the most recently used one.
use Rattle.std.proofs.Common.{◌≡◌, ℕ, List, Bool, true, false, refl, sym, ◌∙◌, ap, subst, Bor}
use Rattle.std.specs.Prelude.{Option, Some, None, is_some, option_map, option_copied, slice_get, Contains, nat_eq}
use Rattle.std.specs.Map.{lookup}
use Rattle.std.proofs.lemmas.Bool.{false≢true}
use Rattle.station.specs.Disk.{Sector}
use Rattle.lru.specs.LruCache.{LruCache, lru_cache, promoted}
use Rattle.pages.specs.Cache.{IsCacheOf}
use Rattle.pages.specs.Pages.{changed_pages_of, is_spent, IsUnchanged}
use Rattle.pages.specs.Ready.{IsReady}
use Rattle.pages.specs.Visits.{Visits}
use Rattle.pages.specs.declared.page_map.PageMap.{PageMap}
use Rattle.pages.proofs.Caches.{after_promoted, promoted_first}
use Rattle.pages.proofs.Keeping.{keeps_committed}

-- what the ghost field says
abbrev pub ReadyIfUnspent : PageMap → Type 0
ReadyIfUnspent p = p.spent ≡ false → IsReady p.volume p.changes.items p.places p.mark

-- with another cache
abbrev pub with_cache : (p : PageMap) → LruCache ℕ Sector → ReadyIfUnspent p → PageMap
with_cache p cache ready = record p { cache = cache; ready = ready }

-- the map stays
unchanged : (p : PageMap) (cache : LruCache ℕ Sector) (ready : ReadyIfUnspent p)
    → IsUnchanged p (with_cache p cache ready)
unchanged p cache ready = record {
  map = λ image. refl;
  changed_pages = refl;
  filled = refl;
  committed = record { volume = refl; mark = refl; spent = refl };
}

-- a page that was changed: the cache stays
pub visits_changed : (p : PageMap) (ready : ReadyIfUnspent p) (page : ℕ) → Contains (changed_pages_of p) page
    → Visits page p (with_cache p p.cache ready)
visits_changed p ready page has = record {
  unchanged = unchanged p p.cache ready;
  keeps = keeps_committed p (with_cache p p.cache ready) (unchanged p p.cache ready).committed refl (λ pages is. is);
  cache = λ unspent away. absurd (away has);
  changed = λ there. refl;
  spent = λ is. refl;
}

-- another page: the cache has it first, if it has it
pub visits_other : (p : PageMap) (cache : LruCache ℕ Sector) (ready : ReadyIfUnspent p) (page : ℕ)
    → cache ≡ lru_cache (promoted (nat_eq page) p.cache.entries) p.cache.cap
    → (Contains (changed_pages_of p) page → ⊥) → is_spent p ≡ false → Visits page p (with_cache p cache ready)
visits_other p cache ready page after away unspent = record {
  unchanged = unchanged p cache ready;
  keeps = keeps_committed p (with_cache p cache ready) (unchanged p cache ready).committed refl (λ pages is.
      subst (λ (l : LruCache ℕ Sector). IsCacheOf pages (changed_pages_of p) l.entries) (sym after)
      (after_promoted pages (changed_pages_of p) p.cache.entries page is));
  cache = λ is other. after;
  changed = λ has. absurd (away has);
  spent = λ is. absurd (false≢true (sym unspent ∙ is));
}

-- the cache hasn't the page
pub not_there : (found : Option Sector) (is_there : Bool) → is_there ≡ is_some found → is_there ≡ false
    → None ≡ found
not_there None is_there is absent = refl
not_there (Some bytes) is_there is absent = absurd (false≢true (sym absent ∙ is))

-- it has the page, which is then the most recently used one
pub first_there : (entries : List (ℕ × Sector)) (new : LruCache ℕ Sector) (most page : ℕ) (is_there : Bool)
    (seen : Option (Bor Sector)) → new ≡ lru_cache (promoted (nat_eq page) entries) most
    → is_there ≡ is_some (lookup (nat_eq page) entries) → is_there ≡ true
    → option_copied seen ≡ option_map (λ (e : ℕ × Sector). e.1) (slice_get new.entries 0)
    → option_copied seen ≡ lookup (nat_eq page) entries
first_there entries new most page is_there seen after is there first =
    first ∙ ap (λ (l : LruCache ℕ Sector). option_map (λ (e : ℕ × Sector). e.1) (slice_get l.entries 0)) after
    ∙ promoted_first entries page (sym is ∙ there)
