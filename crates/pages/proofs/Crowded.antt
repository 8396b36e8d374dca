-- Where each page number is used, fewer sectors are free than pages were changed.
use Rattle.std.proofs.Common.{◌≡◌, ◌≢◌, ◌⊎◌, inl, inr, ⊎_elim, ◌<◌, ◌≤◌, ◌+◌, ◌*◌, ◌/◌, ◌==◌, cond, Bool, true, false}
use Rattle.std.proofs.Common.{not, ℕ, zero, suc, List, [], ◌∷◌, length, map, set, get_or, refl, sym, ◌∙◌, ap, arith}
use Rattle.std.proofs.Common.{get_or-set_other, length-set}
use Rattle.std.specs.Prelude.{Contains, Option, None, is_some, count_by}
use Rattle.std.proofs.lemmas.Bool.{cases_eq, cases_Bool, eq-eqb, ne_eqb}
use Rattle.std.proofs.lemmas.List.{length-map, get_or_default}
use Rattle.std.proofs.lemmas.List.Sums.{sum_by-append, sum_by-cons, sum_by-set}
use Rattle.station.specs.Disk.{Sector}
use Rattle.pages.specs.Image.{IsPlace, NamesOnce, names, pages_in}
use Rattle.pages.specs.Use.{IsUse, free_count}
use Rattle.pages.specs.Changes.{list_after, mapped_after}
use Rattle.pages.specs.Volumes.{IsSound, unused_count, volume_of}
use Rattle.pages.specs.declared.change.Change.{Change}
use Rattle.pages.specs.declared.volume.VolumeMap.{VolumeMap}
use Rattle.pages.proofs.Counted.{counted}
use Rattle.pages.proofs.Edits.{length-applied, unused_none}

-- how many are true, and how many aren't 0
abbrev trues : List Bool → ℕ
trues bs = count_by (λ b. b) bs

abbrev some_of : List ℕ → ℕ
some_of list = count_by (λ s. not (s == 0)) list

trues_cons : (b : Bool) (bs : List Bool) → trues (b ∷ bs) ≡ cond b 1 0 + trues bs
trues_cons b bs = sum_by-cons (λ (x : Bool). cond x 1 0) b bs

unused_cons : (b : Bool) (bs : List Bool) → unused_count (b ∷ bs) ≡ cond (not b) 1 0 + unused_count bs
unused_cons b bs = sum_by-cons (λ (x : Bool). cond (not x) 1 0) b bs

some_cons : (x : ℕ) (list : List ℕ) → some_of (x ∷ list) ≡ cond (not (x == 0)) 1 0 + some_of list
some_cons x list = sum_by-cons (λ (s : ℕ). cond (not (s == 0)) 1 0) x list

true_or_not : (bs : List Bool) → trues bs + unused_count bs ≡ length bs
true_or_not [] = refl
true_or_not (true ∷ bs) = omega (arith, trues_cons true bs, unused_cons true bs, true_or_not bs)
true_or_not (false ∷ bs) = omega (arith, trues_cons false bs, unused_cons false bs, true_or_not bs)

one_or_none : (b : Bool) → cond b 1 0 ≤ 1
one_or_none true = omega arith
one_or_none false = omega arith

-- one of them is set
set_down : (bs : List Bool) (i : ℕ) → i < length bs → get_or bs i false ≡ true → trues (set bs i false) + 1 ≡ trues bs
set_down bs i low is =
    omega (arith, sum_by-set (λ b. cond b 1 0) bs i false false low, ap {B = ℕ} (λ (b : Bool). cond b 1 0) is)

set_up : (bs : List Bool) (i : ℕ) (b : Bool) → trues (set bs i b) ≤ trues bs + 1
set_up [] i b = omega arith
set_up (x ∷ bs) zero b = omega (arith, trues_cons b bs, trues_cons x bs, one_or_none b)
set_up (x ∷ bs) (suc i) b = omega (arith, trues_cons x (set bs i b), trues_cons x bs, set_up bs i b)

all_up : (f : Option Sector → Bool) (bs : List Bool) (changes : List Change)
    → trues (list_after f bs changes) ≤ trues bs + length changes
all_up f bs [] = omega arith
all_up f bs (c ∷ changes) = omega (arith, all_up f (set bs c.page (f c.bytes)) changes, set_up bs c.page (f c.bytes))

all_true : (bs : List Bool) → ((k : ℕ) → k < length bs → get_or bs k false ≡ true) → length bs ≤ trues bs
all_true [] all = omega arith
all_true (b ∷ bs) all = omega (
  arith,
  trues_cons b bs,
  ap {B = ℕ} (λ (x : Bool). cond x 1 0) (all 0 (omega arith)),
  all_true bs (λ k low. all (suc k) (omega (arith, low))),
)

but_first : (bs : List Bool) → ((k : ℕ) → 0 < k → k < length bs → get_or bs k false ≡ true) → length bs ≤ trues bs + 1
but_first [] all = omega arith
but_first (b ∷ bs) all =
    omega (arith, trues_cons b bs, all_true bs (λ k low. all (suc k) (omega arith) (omega (arith, low))))

map_trues : (table : List ℕ) → trues (map (λ s. not (s == 0)) table) ≡ some_of table
map_trues [] = refl
map_trues (s ∷ table) =
    omega (arith, trues_cons (not (s == 0)) (map (λ (x : ℕ). not (x == 0)) table), some_cons s table, map_trues table)

-- a name of each sector that is marked
once_tail : (x : ℕ) (list : List ℕ) → NamesOnce (x ∷ list) → NamesOnce list
once_tail x list once i j i_low j_low some same =
    omega (arith, once (suc i) (suc j) (omega (arith, i_low)) (omega (arith, j_low)) some same)

apart : (x s : ℕ) (list : List ℕ) → NamesOnce (x ∷ list) → x ≢ 0 → Contains list s → s ≢ x
apart x s list once some has same =
    let here : get_or list has.0 0 ≡ x = get_or_default list has.0 0 s has.1 ∙ has.2 ∙ same in
    let none : ◌≡◌ {A = ℕ} 0 (suc has.0) = once 0 (suc has.0) (omega arith) (omega (arith, has.1)) some (sym here) in
    omega (arith, none)

-- each of these sectors is marked
abbrev AreMarked : List Bool → List ℕ → Type 0
AreMarked used list = (s : ℕ) → Contains list s → s ≢ 0 → (s < length used) × (get_or used s false ≡ true)

later : (x s : ℕ) (list : List ℕ) → Contains list s → Contains (x ∷ list) s
later x s list has = (suc has.0, omega (arith, has.1), has.2)

marked_count : (used : List Bool) (list : List ℕ) → NamesOnce list → AreMarked used list → some_of list ≤ trues used
marked_count used [] once marked = omega arith
marked_count used (x ∷ list) once marked = ⊎_elim
    (λ none. omega (
      arith,
      some_cons x list,
      ap {B = ℕ} (λ (b : Bool). cond (not b) 1 0) (eq-eqb x 0 none),
      marked_count used list (once_tail x list once) (λ s has some. marked s (later x s list has) some),
    ))
    (λ some.
    let here = marked x (0, omega arith, refl) some in
    let down = set_down used x here.0 here.1 in
    let rest = marked_count (set used x false) list (once_tail x list once) (λ s has other.
    let is = marked s (later x s list has) other in (
      omega (arith, is.0, length-set used x false),
      get_or-set_other used x s false false (apart x s list once some has) ∙ is.1,
    )) in
    omega (arith, some_cons x list, ap {B = ℕ} (λ (b : Bool). cond (not b) 1 0) (ne_eqb x 0 some), down, rest))
    (cases_eq x 0)

-- what is named is marked, and the roots beside it
named_marked : (n : ℕ) (list : List ℕ) (used : List Bool) → IsUse n list used → (s : ℕ) → s < n
    → (s < 2) ⊎ Contains list s → get_or used s false ≡ true
named_marked n list used right s low there = ⊎_elim (λ is. is)
    (λ is. let free =
    right.free s low is in ⊎_elim (λ root. absurd (omega (arith, root, free.0))) (λ has. absurd (free.1 has)) there)
    (cases_Bool (get_or used s false))

marked_least : (n : ℕ) (list : List ℕ) (used : List Bool) → 2 ≤ n → NamesOnce list
    → ((s : ℕ) → Contains list s → IsPlace n s) → IsUse n list used → some_of list + 2 ≤ trues used
marked_least n list used least once places right =
    let one = set used 0 false in
    let two = set one 1 false in
    let zero_down =
    set_down used 0 (omega (arith, right.count)) (named_marked n list used right 0 (omega arith) (inl (omega arith))) in
    let one_down = set_down one 1 (omega (arith, right.count, length-set used 0 false)) (get_or-set_other used 0 1 false
    false (λ e. omega arith) ∙ named_marked n list used right 1 (omega arith) (inl (omega arith))) in
    let count = marked_count two list once (λ s has some. ⊎_elim (λ none. absurd (some none))
    (λ place. (
      omega (arith, place.1, right.count, length-set used 0 false, length-set one 1 false),
      get_or-set_other one 1 s false false (λ e. omega (arith, e, place.0))
          ∙ get_or-set_other used 0 s false false (λ e. omega (arith, e, place.0))
          ∙ named_marked n list used right s place.1 (inr has),
    ))
    (places s has)) in
    omega (arith, zero_down, one_down, count)

-- each page number from 1 on is used
each_used : (table : List ℕ) (changes : List Change)
    → ((page : ℕ) → 0 < page → page < length table → get_or (mapped_after table changes) page false ≡ true)
    → length table ≤ some_of table + length changes + 1
each_used table changes all =
    let before = map (λ (s : ℕ). not (s == 0)) table in
    let count : length (mapped_after table changes) ≡ length table =
    length-applied is_some before changes ∙ length-map table (λ (s : ℕ). not (s == 0)) in
    let many = but_first (mapped_after table changes) (λ k some low. all k some (omega (arith, low, count))) in
    omega (arith, many, count, all_up is_some before changes, map_trues table)

kept_where : (image : List Sector) (table : List ℕ) (changes : List Change) (page : ℕ)
    → (get_or (list_after (λ o. o) (pages_in image table) changes) page None ≢ None)
    → get_or (mapped_after table changes) page false ≡ true
kept_where image table changes page there =
    ⊎_elim (λ is. is) (λ is. absurd (there (unused_none image table changes page is)))
    (cases_Bool (get_or (mapped_after table changes) page false))

table_covers : (sectors maps table : ℕ) → maps ≡ (sectors + 1023) / 1024 → table ≡ 1024 * maps → sectors ≤ table
table_covers sectors maps table maps_is table_is = omega arith

pub crowded : (m : VolumeMap) (changes : List Change) → IsSound m → ((image : List Sector) (page : ℕ) → (0 < page)
    × (page < length m.table) → get_or (list_after (λ o. o) (pages_in image m.table) changes) page None ≢ None)
    → free_count (volume_of m) < length changes
crowded m changes sound each =
    let list = names (volume_of m) in
    let used =
    each_used m.table changes (λ page some low. kept_where [] m.table changes page (each [] page (some, low))) in
    let marked = marked_least m.sectors list m.used (omega (arith, sound.least)) sound.once sound.places sound.in_use in
    let both = sum_by-append (λ (s : ℕ). cond (not (s == 0)) 1 0) m.maps.items m.table in
    let wide = table_covers m.sectors (length m.maps.items) (length m.table) sound.maps_count sound.count in
    omega (
      arith,
      used,
      marked,
      both,
      wide,
      true_or_not m.used,
      sound.in_use.count,
      counted m.sectors list m.used sound.in_use,
    )
