-- What a visit of a page leaves, once the reference to its bytes has ended.
use Rattle.std.specs.Prelude.{◌≡◌, ⊤, ℕ, nat_eq, true, false, Contains}
use Rattle.std.specs.Borrow.{follows_so, MutBor, Fml}
use mathlib.Core.Option.{none}
use Rattle.lru.specs.LruCache.{lru_cache, promoted}
use Rattle.pages.specs.Edits.{SameCache}
use Rattle.pages.specs.Pages.{changed_pages_of, is_spent, cache_of, IsUnchanged, KeepsCommitted}
use Rattle.pages.specs.declared.page_map.PageMap.{PageMap}
use Rattle.pages.specs.contracts.page_map.PageMap.{the_row}

-- The map stays, and what is committed. A page of the cache becomes the most recently used one. Where the page was
-- changed since the last commit, or the value is spent, the cache stays.
pub record Visits (page : ℕ) (old new : PageMap) : Type 0 where
  pub unchanged : IsUnchanged old new
  pub keeps : KeepsCommitted old new
  pub cache : is_spent old ≡ false → (Contains (changed_pages_of old) page → ⊥)
      → cache_of new ≡ lru_cache (promoted (nat_eq page) (cache_of old).entries) (cache_of old).cap
  pub changed : Contains (changed_pages_of old) page → SameCache old new
  pub spent : is_spent old ≡ true → SameCache old new

-- this is what becomes of the value
abbrev pub EndsVisited : MutBor PageMap → ℕ → Fml
EndsVisited p page = follows_so the_row the_row p.ghost_name none (λ _ _. ⊤) (Visits page p.now)
