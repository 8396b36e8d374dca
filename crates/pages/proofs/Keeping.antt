-- What a change of a page keeps of the map of pages.
use Rattle.std.proofs.Common.{◌≡◌, ◌<◌, ℕ, List, length, refl, sym, ◌∙◌, subst}
use Rattle.std.specs.Prelude.{Option, Result, Ok, Err, OnOk, OnErr, nat_eq}
use Rattle.std.specs.List.{All, IsDistinct}
use Rattle.std.specs.Map.{keys_of}
use Rattle.station.specs.Disk.{Sector}
use Rattle.lru.specs.LruCache.{LruCache}
use Rattle.pages.specs.Image.{NamesOnce, IsCommitted, pages_in}
use Rattle.pages.specs.Changes.{changed_pages, ChangesPage, Places, ArePlaced}
use Rattle.pages.specs.Cache.{IsCacheOf, cache_without}
use Rattle.pages.specs.Volumes.{volume_of}
use Rattle.pages.specs.Pages.{changed_pages_of, catalog_of, SameCommitted, KeepsCommitted, IsUnchanged}
use Rattle.pages.specs.Ready.{IsReady}
use Rattle.pages.specs.declared.change.Change.{Change}
use Rattle.pages.specs.declared.page_map.PageMap.{PageMap}
use Rattle.pages.specs.declared.volume.VolumeMap.{VolumeMap}
use Rattle.pages.specs.declared.volume_mark.VolumeMark.{VolumeMark}
use Rattle.pages.proofs.Caches.{after_removed}

-- after `Ok` a list may be another, and after an error it is the same
on_either : {T E X : Type 0} (P : X → Type 0) (old new : X) (result : Result T E) → P old → OnOk result (P new)
    → OnErr result (new ≡ old) → P new
on_either P old new (Ok x) was ok err = ok
on_either P old new (Err e) was ok err = subst P (sym err) was

-- a map is ready after a change of a page, and after a refused one
pub ready_after : {T E : Type 0} (volume : VolumeMap) (before changes after : List Change) (then now : Places)
    (mark : VolumeMark) (page : ℕ) (result : Result T E) → IsReady volume before then mark → changes ≡ before
    → page < length volume.table
    → ((n : ℕ) → page < n → All (λ (c : Change). (0 < c.page) × (c.page < n)) changes
    → OnOk result (All (λ (c : Change). (0 < c.page) × (c.page < n)) after))
    → (NamesOnce (changed_pages changes) → OnOk result (NamesOnce (changed_pages after)))
    → OnErr result (after ≡ changes) → ArePlaced after now → IsReady volume after now mark
ready_after volume before changes after then now mark page result ready are low bounds once same placed =
    let count = length volume.table in
    let each = subst (All (λ (c : Change). (0 < c.page) × (c.page < count))) (sym are) ready.pages in
    let names = subst (λ (l : List Change). NamesOnce (changed_pages l)) (sym are) ready.once in
    record {
      sound = ready.sound;
      pages = on_either (All (λ (c : Change). (0 < c.page) × (c.page < count))) changes after result each
          (bounds count low each) same;
      once = on_either (λ (l : List Change). NamesOnce (changed_pages l)) changes after result names (once names) same;
      placed = placed;
      mark = ready.mark;
    }

-- all that was committed stays, if the cache is right
pub keeps_committed : (old new : PageMap) → SameCommitted old new → catalog_of new ≡ catalog_of old
    → ((pages : List (Option Sector)) → IsCacheOf pages (changed_pages_of old) old.cache.entries
    → IsCacheOf pages (changed_pages_of new) new.cache.entries) → KeepsCommitted old new
keeps_committed old new same catalog cache = record {
  committed = same;
  catalog = catalog;
  agrees = λ disk agrees. record {
    committed = subst (λ (v : VolumeMap). IsCommitted (volume_of v) disk) (sym same.volume) agrees.committed;
    cache =
        subst (λ (v : VolumeMap). IsCacheOf (pages_in disk.present v.table) (changed_pages_of new) new.cache.entries)
        (sym same.volume) (cache (pages_in disk.present old.volume.table) agrees.cache);
  };
}

-- a page has a new change, after which the cache is without it
pub keeps_change : (old new : PageMap) (changes : List Change) (page : ℕ) → SameCommitted old new
    → catalog_of new ≡ catalog_of old → changes ≡ old.changes.items
    → ChangesPage (changed_pages changes) page (changed_pages_of new) → IsDistinct nat_eq (keys_of old.cache.entries)
    → new.cache ≡ cache_without page old.cache → KeepsCommitted old new
keeps_change old new changes page same catalog are changes_page distinct without =
    keeps_committed old new same catalog
    (λ pages is. subst (λ (l : LruCache ℕ Sector). IsCacheOf pages (changed_pages_of new) l.entries) (sym without)
    (after_removed pages (changed_pages_of old) (changed_pages_of new) old.cache.entries page distinct
    (subst (λ (l : List Change). ChangesPage (changed_pages l) page (changed_pages_of new)) are changes_page) is))

-- nothing is changed, and two calls keep what each keeps
pub keeps_self : (p : PageMap) → KeepsCommitted p p
keeps_self p = keeps_committed p p (record { volume = refl; mark = refl; spent = refl }) refl (λ pages is. is)

pub keeps_then : (one two three : PageMap) → KeepsCommitted one two → KeepsCommitted two three
    → KeepsCommitted one three
keeps_then one two three first second = record {
  committed = record {
    volume = second.committed.volume ∙ first.committed.volume;
    mark = second.committed.mark ∙ first.committed.mark;
    spent = second.committed.spent ∙ first.committed.spent;
  };
  catalog = second.catalog ∙ first.catalog;
  agrees = λ disk agrees. second.agrees disk (first.agrees disk agrees);
}

pub unchanged_self : (p : PageMap) → IsUnchanged p p
unchanged_self p = record {
  map = λ image. refl;
  changed_pages = refl;
  filled = refl;
  committed = record { volume = refl; mark = refl; spent = refl };
}
