-- Where each page number is used, each changed page has bytes.
use Rattle.std.proofs.Common.{◌≡◌, ◌≢◌, ◌<◌, ◌≤◌, ◌+◌, ◌^◌, cond, false, true, ℕ, suc, List, [], ◌∷◌, length, map, set}
use Rattle.std.proofs.Common.{get_or, refl, sym, ◌∙◌, ap, arith, get_or-set_same, length-set}
use Rattle.std.specs.Prelude.{Option, None, Some, is_some}
use Rattle.std.specs.List.{All}
use Rattle.std.proofs.lemmas.List.{get_or-map, length-map}
use Rattle.std.proofs.lemmas.List.Elements.{All-head, All-tail, All-weaker}
use Rattle.std.proofs.lemmas.List.Sums.{sum_by-cons}
use Rattle.station.specs.Disk.{Disk, Sector}
use Rattle.pages.specs.Changes.{list_after}
use Rattle.pages.specs.Image.{NamesOnce, map_of, pages_in, page_at}
use Rattle.pages.specs.Needed.{filled_count}
use Rattle.pages.specs.Pages.{map_now, is_spent, committed_of, filled_of, Agrees, HasEachPage, SameCommitted}
use Rattle.pages.specs.Pages.{FewFree, MapBounds}
use Rattle.pages.specs.Use.{free_count}
use Rattle.pages.specs.Volumes.{volume_of}
use Rattle.pages.specs.declared.change.Change.{Change}
use Rattle.pages.specs.declared.page_map.PageMap.{PageMap}
use Rattle.pages.specs.declared.volume.VolumeMap.{VolumeMap}
use Rattle.pages.proofs.Edits.{Away, away_same, length-applied}

abbrev page_in : Change → ℕ
page_in c = c.page

-- one change after the other
once_tail : (x : ℕ) (list : List ℕ) → NamesOnce (x ∷ list) → NamesOnce list
once_tail x list once i j i_low j_low some same =
    omega (arith, once (suc i) (suc j) (omega (arith, i_low)) (omega (arith, j_low)) some same)

away_from : (c : Change) (changes : List Change) → 0 < c.page → NamesOnce (c.page ∷ map page_in changes)
    → Away c.page changes
away_from c changes high once = λ k d low is.
    let here : get_or (map page_in changes) k 0 ≡ c.page = get_or-map page_in changes k d 0 low ∙ is in
    let none : ◌≡◌ {A = ℕ} 0 (suc k) = once 0 (suc k) (omega arith) (omega (arith, low, length-map changes page_in))
    (λ e. omega (arith, e, high)) (sym here) in
    omega (arith, none)

some_bytes : (bytes : Option Sector) → (bytes ≡ None → ⊥) → is_some bytes ≡ true
some_bytes None some = absurd (some refl)
some_bytes (Some x) some = refl

abbrev IsWithin : List (Option Sector) → Change → Type 0
IsWithin pages c = (0 < c.page) × (c.page < length pages)

all_filled : (pages : List (Option Sector)) (changes : List Change) → NamesOnce (map page_in changes)
    → All (IsWithin pages) changes → ((page : ℕ) → 0 < page → page < length pages
    → get_or (list_after (λ o. o) pages changes) page None ≢ None) → length changes ≤ filled_count changes
all_filled pages [] once within each = omega arith
all_filled pages (c ∷ changes) once within each =
    let here = All-head (IsWithin pages) c changes within in
    let next : List (Option Sector) = set pages c.page c.bytes in
    let long = length-set pages c.page c.bytes in
    let at : get_or (list_after (λ o. o) next changes) c.page None ≡ c.bytes =
    away_same (λ o. o) next changes c.page None (away_from c changes here.0 once)
    ∙ get_or-set_same pages c.page c.bytes None here.1 in
    let some = some_bytes c.bytes (λ none. each c.page here.0 here.1 (at ∙ none)) in
    let rest = all_filled next changes (once_tail c.page (map page_in changes) once)
    (All-weaker (IsWithin pages) (IsWithin next) (λ x is. (is.0, omega (arith, is.1, long))) changes
    (All-tail (IsWithin pages) c changes within)) (λ page high low. each page high (omega (arith, low, long))) in
    omega (
      arith,
      sum_by-cons (λ (x : Change). cond (is_some x.bytes) 1 0) c changes,
      ap {B = ℕ} (λ b. cond b 1 0) some,
      rest,
    )

-- Where no page number is left after a call, few sectors are free besides those that the pages with bytes take.
free_filled : (p : PageMap) → FewFree → is_spent p ≡ false → HasEachPage p
    → free_count (committed_of p) < filled_of p
free_filled p law unspent each =
    let table = p.volume.table in
    let changes = p.changes.items in
    let long = length-map table (page_at []) in
    let filled = all_filled (pages_in [] table) changes (p.ready unspent).once
    (All-weaker (λ (c : Change). (0 < c.page) × (c.page < length table))
    (IsWithin (pages_in [] table))
    (λ c is. (is.0, omega (arith, is.1, long))) changes (p.ready unspent).pages)
    (λ page high low. each [] page (high, omega (arith, low, long))) in
    omega (arith, law p unspent each, filled, length-map changes page_in)

pub room_filled : (old new : PageMap) (n : ℕ) → FewFree → SameCommitted old new → is_spent old ≡ false
    → HasEachPage new → filled_of new ≤ filled_of old + n → free_count (committed_of old) < filled_of old + n
room_filled old new n law same unspent each few =
    let free = free_filled new law (same.spent ∙ unspent) each in
    let still : free_count (committed_of new) ≡ free_count (committed_of old) =
    ap (λ (v : VolumeMap). free_count (volume_of v)) same.volume in
    omega (arith, free, still, few)

-- the bounds of a map that agrees with a disk
pub agreed_bounds : (p : PageMap) (disk : Disk) → MapBounds → Agrees p disk
    → ((map_now p disk.present).generation < 2 ^ 63) × (length (map_now p disk.present).pages ≤ 921600)
agreed_bounds p disk law agrees =
    let bounds = law disk.present (map_of disk.present (committed_of p))
    (committed_of p, agrees.committed.reads, refl) in (
      bounds.0,
      omega (arith, bounds.1, length-applied (λ o. o) (pages_in disk.present p.volume.table) p.changes.items),
    )
