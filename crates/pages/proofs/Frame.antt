-- An image in which only free sectors differ holds the same map.
use Rattle.std.proofs.Common.{◌≡◌, ◌⊎◌, inl, inr, ⊎_elim, ◌<◌, ℕ, zero, suc, List, [], ◌∷◌, length, get_or, refl, sym}
use Rattle.std.proofs.Common.{◌∙◌, ap, arith}
use Rattle.std.specs.Prelude.{Option, Some, Contains}
use Rattle.std.proofs.lemmas.List.{get_or_past}
use Rattle.std.proofs.lemmas.List.Elements.{Contains-append_left, Contains-append_right, Contains-get_or}
use Rattle.std.proofs.lemmas.Bool.{cases_lt}
use Rattle.station.specs.Disk.{Sector, sector_at}
use Rattle.roots.specs.Root.{root_in}
use Rattle.roots.specs.Pair.{newest_root}
use Rattle.pages.specs.Layout.{words, newest, root_of, known_families}
use Rattle.pages.specs.Image.{map_at, page_at, pages_in, Volume, names, Maps, Reads, map_of, IsImageOf, KeepsUsed}
use Rattle.pages.proofs.Roots.{enough}

head_in : (x : ℕ) (xs : List ℕ) → Contains (x ∷ xs) x
head_in x xs = (0, omega arith, refl)

tail_in : (x : ℕ) (xs : List ℕ) (s : ℕ) → Contains xs s → Contains (x ∷ xs) s
tail_in x xs s has = Contains-append_right (x ∷ []) xs s has

-- each sector that a list names is the same in two images; 0 names none
abbrev pub SameAt : List Sector → List Sector → List ℕ → Type 0
SameAt image base list = (s : ℕ) → Contains list s → (s ≡ 0) ⊎ (sector_at image s ≡ sector_at base s)

pub map_same : (image base : List Sector) (m : ℕ) → (m ≡ 0) ⊎ (sector_at image m ≡ sector_at base m)
    → map_at image m ≡ map_at base m
map_same image base zero same = refl
map_same image base (suc m) same = ⊎_elim (λ none. absurd (omega (arith, none))) (λ here. ap words here) same

page_same : (image base : List Sector) (s : ℕ) → (s ≡ 0) ⊎ (sector_at image s ≡ sector_at base s)
    → page_at image s ≡ page_at base s
page_same image base zero same = refl
page_same image base (suc s) same =
    ⊎_elim (λ none. absurd (omega (arith, none))) (λ here. ap (λ (b : Sector). Some b) here) same

pub pages_same : (image base : List Sector) (table : List ℕ) → SameAt image base table
    → pages_in image table ≡ pages_in base table
pages_same image base [] same = refl
pages_same image base (s ∷ table) same = rw (page_same image base s (same s (head_in s table)))
    (rw (pages_same image base table (λ t has. same t (tail_in s table t has))) refl)

-- what the maps spell is the same, where what they name is
pub same_maps : (v : Volume) (base image : List Sector) → Maps base v → SameAt image base (names v) → Maps image v
same_maps v base image maps same = record {
  count = maps.count;
  entries = λ i lt. map_same image base (get_or v.root.maps i 0) (same (get_or v.root.maps i 0)
      (Contains-append_left v.root.maps v.table (get_or v.root.maps i 0) (Contains-get_or v.root.maps i 0 lt)))
      ∙ maps.entries i lt;
  places = maps.places;
  once = maps.once;
  unused = maps.unused;
}

-- what a volume names is the same
pub named_same : (v : Volume) (base image : List Sector) → Reads base v → KeepsUsed v base image
    → SameAt image base (names v)
named_same v base image reads keeps s has =
    ⊎_elim (λ none. inl none)
    (λ place. inr (⊎_elim (λ same. same) (λ free. absurd (free.unnamed has))
    (keeps.each s (omega (arith, keeps.count, place.1, (enough base v reads).1)))))
    (reads.maps.places s has)

pub low_same : (v : Volume) (base image : List Sector) → KeepsUsed v base image → (s : ℕ) → s < 2
    → sector_at image s ≡ sector_at base s
low_same v base image keeps s low =
    ⊎_elim (λ lt. ⊎_elim (λ same. same) (λ free. absurd (omega (arith, low, free.high))) (keeps.each s lt))
    (λ past. get_or_past image s [] past ∙ sym (get_or_past base s [] (omega (arith, keeps.count, past))))
    (cases_lt s (length image))

pub newest_same : (v : Volume) (base image : List Sector) → KeepsUsed v base image → newest image ≡ newest base
newest_same v base image keeps =
    let one = low_same v base image keeps 0 (omega arith) in
    let two = low_same v base image keeps 1 (omega arith) in
    ap (λ (n : ℕ). root_of (newest_root (root_in known_families n 0 (sector_at image 0))
    (root_in known_families n 1 (sector_at image 1)))) keeps.count
    ∙ ap (λ (s : Sector). root_of (newest_root (root_in known_families (length base) 0 s)
    (root_in known_families (length base) 1 (sector_at image 1)))) one
    ∙ ap (λ (s : Sector). root_of (newest_root (root_in known_families (length base) 0 (sector_at base 0))
    (root_in known_families (length base) 1 s))) two

pub still_reads : (v : Volume) (base image : List Sector) → Reads base v → KeepsUsed v base image → Reads image v
still_reads v base image reads keeps = record {
  root = newest_same v base image keeps ∙ reads.root;
  maps = same_maps v base image reads.maps (named_same v base image reads keeps);
}

pub same_map : (v : Volume) (base image : List Sector) → Reads base v → KeepsUsed v base image
    → map_of image v ≡ map_of base v
same_map v base image reads keeps = ap (λ (pages : List (Option Sector)).
    record { mark = v.root.mark; generation = v.root.generation; catalog = v.root.catalog; pages = pages })
    (pages_same image base v.table
    (λ s has. named_same v base image reads keeps s (Contains-append_right v.root.maps v.table s has)))

-- the frame: what the base holds, the image holds
pub still_holds : (v : Volume) (base image : List Sector) → Reads base v → KeepsUsed v base image
    → IsImageOf image (map_of base v)
still_holds v base image reads keeps = (v, still_reads v base image reads keeps, same_map v base image reads keeps)
