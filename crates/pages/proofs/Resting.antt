-- A map of pages of which nothing is changed.
use Rattle.std.proofs.Common.{◌≡◌, ◌≤◌, ℕ, List, [], sym, ◌∙◌, ap, subst, arith}
use Rattle.std.specs.Prelude.{Option}
use Rattle.station.specs.Disk.{Disk, Sector}
use Rattle.lru.specs.LruCache.{LruCache}
use Rattle.pages.specs.Layout.{version_of}
use Rattle.pages.specs.Image.{Map, IsCommitted, pages_in}
use Rattle.pages.specs.Changes.{pages_after, changed_pages}
use Rattle.pages.specs.Cache.{IsCacheOf}
use Rattle.pages.specs.Commits.{IsAsCommitted}
use Rattle.pages.specs.Needed.{filled_count}
use Rattle.pages.specs.Opens.{IsMapOf, IsJustOpened, HasFilled}
use Rattle.pages.specs.Pages.{Agrees, mark_of}
use Rattle.pages.specs.Volumes.{volume_of}
use Rattle.pages.specs.declared.change.Change.{Change}
use Rattle.pages.specs.declared.page_map.PageMap.{PageMap}
use Rattle.pages.specs.declared.volume.VolumeMap.{VolumeMap}

abbrev pub map_with : ℕ → ℕ → ℕ → List (Option Sector) → Map
map_with mark generation catalog pages =
    record { mark = mark; generation = generation; catalog = catalog; pages = pages }

-- it is the map of the last commit
pub as_committed : (p : PageMap) → p.changes.items ≡ [] → p.catalog ≡ p.volume.catalog
    → mark_of p ≡ version_of p.volume.mark → IsAsCommitted p
as_committed p none catalog mark image =
    let v = p.volume in
    let pages = pages_in image v.table in
    ap (λ (l : List Change). map_with (mark_of p) v.generation p.catalog (pages_after pages l)) none
    ∙ ap (λ (n : ℕ). map_with (mark_of p) v.generation n pages) catalog
    ∙ ap (λ (n : ℕ). map_with n v.generation v.catalog pages) mark

module _ (v : VolumeMap) (capacity : ℕ) (p : PageMap) (is : IsMapOf v capacity p) where
  -- the disk has what is committed of it
  pub agrees_opened : (disk : Disk) → IsCommitted (volume_of v) disk → Agrees p disk
  agrees_opened disk holds =
      let none : p.cache.entries ≡ [] = ap (λ (l : LruCache ℕ Sector). l.entries) is.cache in
      record {
        committed = subst (λ (w : VolumeMap). IsCommitted (volume_of w) disk) (sym is.volume) holds;
        cache = subst (IsCacheOf (pages_in disk.present p.volume.table) (changed_pages p.changes.items)) (sym none)
            (record {
              right = λ e has. absurd (omega (arith, has.1));
              unchanged = λ e has. absurd (omega (arith, has.1));
            });
      }

  pub map_opened : IsAsCommitted p
  map_opened = as_committed p is.changes is.catalog is.mark

  pub just_opened : (sectors : ℕ) → v.sectors ≤ sectors → IsJustOpened sectors p
  just_opened sectors there = (
    is.unspent,
    subst (λ (w : VolumeMap). w.sectors ≤ sectors) (sym is.volume) there,
    ap changed_pages is.changes,
  )

  pub none_filled : HasFilled 0 p
  none_filled = ap filled_count is.changes
