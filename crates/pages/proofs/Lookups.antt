-- A page is looked up: among those that were changed, in the cache, and in the table.
use Rattle.std.proofs.Common.{◌≡◌, ◌<◌, ◌≤◌, ⊎_elim, ℕ, List, length, get_or, sym, ◌∙◌, ap, subst, arith}
use Rattle.std.specs.Prelude.{Option, None}
use Rattle.std.specs.List.{All, HoldsAt}
use Rattle.std.proofs.lemmas.List.{length-map}
use Rattle.std.proofs.lemmas.List.Elements.{Contains-append_right, Contains-get_or}
use Rattle.station.specs.Disk.{Sector}
use Rattle.station.specs.State.{State}
use Rattle.pages.specs.Image.{Volume, page_at, pages_in, IsCommitted}
use Rattle.pages.specs.Cache.{IsCacheOf}
use Rattle.pages.specs.Pages.{map_now, page_of, sectors_of}
use Rattle.pages.specs.Ready.{IsReady}
use Rattle.pages.specs.declared.change.Change.{Change}
use Rattle.pages.specs.declared.page_map.PageMap.{PageMap}
use Rattle.pages.proofs.Edits.{is_only, only_same}

-- the change of a page that was found has the page's bytes
pub changed_bytes : (image : List Sector) (p : PageMap) (found : List Change) (page i : ℕ) (entry : Change)
    → IsReady p.volume p.changes.items p.places p.mark → found ≡ p.changes.items → i < length found
    → HoldsAt (λ (x : Change). x.page ≡ page) found i
    → entry ≡ get_or p.changes.items i entry → entry.bytes ≡ page_of (map_now p image) page
changed_bytes image p found page i entry ready same within at is =
    let changes = p.changes.items in
    let low : i < length changes = subst (λ (l : List Change). i < length l) same within in
    let here : HoldsAt (λ (x : Change). x.page ≡ page) changes i =
    subst (λ (l : List Change). HoldsAt (λ (x : Change). x.page ≡ page) l i) same at in
    let bounds = ready.pages i entry low in
    let only = is_only changes page i ready.once (λ e. omega (arith, e, bounds.0, here entry)) low here in
    ap (λ (x : Change). x.bytes) is ∙ sym (only_same (λ (o : Option Sector). o) (pages_in image p.volume.table) changes
    page i None entry only (omega (arith, bounds.1, here entry, length-map p.volume.table (page_at image))))

-- the table's sectors are on a device that has the volume's sectors
pub table_fits : (p : PageMap) (table : List ℕ) (count : ℕ) → IsReady p.volume p.changes.items p.places p.mark
    → table ≡ p.volume.table → sectors_of p ≤ count → All (λ (s : ℕ). s < count) table
table_fits p table count ready same fits =
    let entries = p.volume.table in
    subst (All (λ (s : ℕ). s < count)) (sym same) (λ k d lt. ⊎_elim
    (λ none. omega (arith, none, ready.sound.least, fits)) (λ place. omega (arith, place.1, fits))
    (ready.sound.places (get_or entries k d) (Contains-append_right p.volume.maps.items entries (get_or entries k d)
    (Contains-get_or entries k d lt))))

-- a call that only reads leaves what is committed, and the cache of a device's pages
pub committed_after : (v : Volume) (before after : State) → after ≡ before → IsCommitted v before.disk
    → IsCommitted v after.disk
committed_after v before after same is = subst (λ (s : State). IsCommitted v s.disk) (sym same) is

pub cache_after : (entries table changed : List ℕ) (old new : List (ℕ × Sector)) (before after : State)
    → table ≡ entries → after ≡ before → IsCacheOf (pages_in before.disk.present entries) changed old
    → (IsCacheOf (pages_in before.disk.present table) changed old
    → IsCacheOf (pages_in before.disk.present table) changed new)
    → IsCacheOf (pages_in after.disk.present entries) changed new
cache_after entries table changed old new before after same still is becomes =
    subst (λ (s : State). IsCacheOf (pages_in s.disk.present entries) changed new) (sym still)
    (subst (λ (l : List ℕ). IsCacheOf (pages_in before.disk.present l) changed new) same
    (becomes (subst (λ (l : List ℕ). IsCacheOf (pages_in before.disk.present l) changed old) (sym same) is)))
