-- A draft takes as many sectors as a commit needs.
use Rattle.std.proofs.Common.{◌≡◌, ◌≢◌, ⊎_elim, ◌<◌, ◌≤◌, ◌+◌, ◌-◌, ◌*◌, ◌/◌, ◌==◌, ◌&&◌, ◌||◌, cond, Bool, true, false}
use Rattle.std.proofs.Common.{not, ℕ, zero, suc, List, [], ◌∷◌, ◌++◌, length, map, take, drop, set, get_or, refl, sym}
use Rattle.std.proofs.Common.{◌∙◌, ap, subst, arith, add-zero, add-one, get_or-set_other, get_or-set_same}
use Rattle.std.proofs.Common.{length-append, length-set}
use Rattle.std.specs.Prelude.{Some, None, Vec, is_some}
use Rattle.std.specs.List.{list_any, list_all}
use Rattle.std.specs.declared.alloc.Global.{Global}
use Rattle.std.proofs.lemmas.Bool.{cases_eq, cond-true, cond-false, or_left, or_right, or_from, and_from, eq-eqb}
use Rattle.std.proofs.lemmas.Bool.{ne_eqb}
use Rattle.std.proofs.lemmas.List.{map-set, take-map, drop-map, set-get_or, length-take, length-map, length-replicate}
use Rattle.std.proofs.lemmas.List.{get_or-map, get_or-take, get_or-replicate}
use Rattle.std.proofs.lemmas.List.Sums.{count_by-le-length}
use Rattle.station.specs.Disk.{Sector}
use Rattle.station.specs.declared.blocks.Block.{Block}
use Rattle.pages.specs.declared.change.Change.{Change}
use Rattle.pages.specs.declared.draft.Draft.{Draft}
use Rattle.pages.specs.declared.volume.VolumeMap.{VolumeMap}
use Rattle.pages.specs.Image.{Volume, NamesOnce, names, map_part}
use Rattle.pages.specs.Use.{free_count}
use Rattle.pages.specs.Changes.{changed_pages, mapped_after}
use Rattle.pages.specs.Needed.{filled_count, alters, has_pages, is_written, written_below, needed_sectors}
use Rattle.pages.specs.Volumes.{volume_of, IsSound, IsFresh, IsCounted, PlacesBlock, SetsPage, SetsMap, ReleasesPage}
use Rattle.pages.specs.Volumes.{HadNone, HadOne, unused_count, unused_below, MayStart}
use Rattle.pages.proofs.Counting.{count_rest, front_le, count_push, roots_marked, taken_next, taken_as, taken_start}
use Rattle.pages.proofs.Counted.{counted}
use Rattle.pages.proofs.Edits.{Away, away_same}
use Rattle.pages.proofs.Staging.{applied_more}

abbrev pub names_sector : ℕ → Bool
names_sector s = not (s == 0)

pub named_at : (table : List ℕ) (page : ℕ)
    → get_or (map names_sector table) page false ≡ names_sector (get_or table page 0)
named_at [] page = refl
named_at (s ∷ table) zero = refl
named_at (s ∷ table) (suc page) = named_at table page

de_morgan : (a b : Bool) → (not a || not b) ≡ not (a && b)
de_morgan true b = refl
de_morgan false b = refl

and_false : (a : Bool) → (a && false) ≡ false
and_false true = refl
and_false false = refl

any_named : (entries : List ℕ)
    → list_any (λ here. here) (map names_sector entries) ≡ not (list_all (λ entry. entry == 0) entries)
any_named [] = refl
any_named (s ∷ entries) = ap (λ (b : Bool). names_sector s || b) (any_named entries)
    ∙ de_morgan (s == 0) (list_all (λ entry. entry == 0) entries)

any_yes : {X : Type 0} (p : X → Bool) (xs : List X) (x : X) → p x ≡ true → list_any p (xs ++ x ∷ []) ≡ true
any_yes p [] x is = or_left (p x) false is
any_yes p (y ∷ xs) x is = or_right (p y) (list_any p (xs ++ x ∷ [])) (any_yes p xs x is)

any_no : {X : Type 0} (p : X → Bool) (xs : List X) (x : X) → p x ≡ false → list_any p (xs ++ x ∷ []) ≡ list_any p xs
any_no p [] x is = or_from (p x) false is refl
any_no p (y ∷ xs) x is = ap (λ (b : Bool). p y || b) (any_no p xs x is)

-- a change changes the entry of its page
abbrev pub changes_entry : Volume → Change → Bool
changes_entry v c = is_some c.bytes || names_sector (get_or v.table c.page 0)

alters_here : (v : Volume) (i : ℕ) (c : Change) → c.page / 1024 ≡ i → changes_entry v c ≡ true → alters v i c ≡ true
alters_here v i c at is = and_from (c.page / 1024 == i) (changes_entry v c) (eq-eqb (c.page / 1024) i at) is

alters_away : (v : Volume) (i : ℕ) (c : Change) → c.page / 1024 ≢ i → alters v i c ≡ false
alters_away v i c away = ap (λ (b : Bool). b && changes_entry v c) (ne_eqb (c.page / 1024) i away)

alters_none : (v : Volume) (i : ℕ) (c : Change) → changes_entry v c ≡ false → alters v i c ≡ false
alters_none v i c is = ap (λ (b : Bool). (c.page / 1024 == i) && b) is ∙ and_false (c.page / 1024 == i)

-- the maps of which an entry changed
abbrev pub AreChanged : Volume → List Change → List Bool → Type 0
AreChanged v changes changed_maps =
    (i : ℕ) → i < length changed_maps → get_or changed_maps i false ≡ list_any (alters v i) changes

changed_set : (v : Volume) (changes : List Change) (c : Change) (changed_maps : List Bool)
    → AreChanged v changes changed_maps → c.page / 1024 < length changed_maps → changes_entry v c ≡ true
    → AreChanged v (changes ++ c ∷ []) (set changed_maps (c.page / 1024) true)
changed_set v changes c changed_maps are low is i lt = ⊎_elim
    (λ at. ap (λ (k : ℕ). get_or (set changed_maps (c.page / 1024) true) k false) at ∙ get_or-set_same changed_maps
    (c.page / 1024) true false low ∙ sym (any_yes (alters v i) changes c (alters_here v i c (sym at) is)))
    (λ away. get_or-set_other changed_maps (c.page / 1024) i true false away
    ∙ are i (omega (arith, lt, length-set changed_maps (c.page / 1024) true))
    ∙ sym (any_no (alters v i) changes c (alters_away v i c (λ e. away (sym e)))))
    (cases_eq i (c.page / 1024))

changed_same : (v : Volume) (changes : List Change) (c : Change) (changed_maps : List Bool)
    → AreChanged v changes changed_maps → changes_entry v c ≡ false → AreChanged v (changes ++ c ∷ []) changed_maps
changed_same v changes c changed_maps are is i lt =
    are i lt ∙ sym (any_no (alters v i) changes c (alters_none v i c is))

-- one more change, with bytes and without
filled_yes : (changes : List Change) (c : Change) → is_some c.bytes ≡ true
    → filled_count (changes ++ c ∷ []) ≡ filled_count changes + 1
filled_yes changes c is = count_push (λ (x : Change). is_some x.bytes) changes c
    ∙ ap (λ (n : ℕ). filled_count changes + n) (cond-true (is_some c.bytes) 1 0 is)

filled_no : (changes : List Change) (c : Change) → is_some c.bytes ≡ false
    → filled_count (changes ++ c ∷ []) ≡ filled_count changes
filled_no changes c is = count_push (λ (x : Change). is_some x.bytes) changes c
    ∙ ap (λ (n : ℕ). filled_count changes + n) (cond-false (is_some c.bytes) 1 0 is) ∙ add-zero (filled_count changes)

-- the pages after one more
kept_set : (v : Volume) (table : List ℕ) (changes : List Change) (c : Change) (s : ℕ)
    → map names_sector table ≡ mapped_after v.table changes → names_sector s ≡ is_some c.bytes
    → map names_sector (set table c.page s) ≡ mapped_after v.table (changes ++ c ∷ [])
kept_set v table changes c s pages is =
    map-set names_sector table c.page s ∙ ap (λ (l : List Bool). set l c.page (names_sector s)) pages
    ∙ ap (set (mapped_after v.table changes) c.page) is
    ∙ sym (applied_more is_some (map names_sector v.table) changes c)

module _ (v : Volume) (m : VolumeMap) (d : Draft) (changes : List Change) (maps : ℕ)
    (counted : IsCounted v m d changes maps) where
  -- the page has a sector where the volume has one for it
  entry_same : (page : ℕ) → Away page changes
      → names_sector (get_or m.table page 0) ≡ names_sector (get_or v.table page 0)
  entry_same page away = sym (named_at m.table page) ∙ ap (λ (l : List Bool). get_or l page false) counted.pages
      ∙ away_same is_some (map names_sector v.table) changes page false away ∙ named_at v.table page

  more_blocks : (mid : Draft) (s : ℕ) (bytes : Sector) → PlacesBlock m.used d mid s bytes
      → length mid.blocks.items ≡ length d.blocks.items + 1
  more_blocks mid s bytes placed =
      ap length placed.blocks ∙ length-append d.blocks.items (record { sector = s; bytes = bytes } ∷ [])

  module _ (c : Change) (away : Away c.page changes) (low : c.page / 1024 < length d.changed_maps.items) where
    -- a page with new bytes
    pub page_counted : (bytes : Sector) (mid last : Draft) (after : VolumeMap) (s : ℕ) → c.bytes ≡ Some bytes
        → PlacesBlock m.used d mid s bytes → SetsPage m after mid last c.page s
        → IsCounted v after last (changes ++ c ∷ []) maps
    page_counted bytes mid last after s is placed sets =
        let some : is_some c.bytes ≡ true = ap is_some is in
        let sector : s ≢ 0 = λ e. omega (arith, e, placed.later, counted.taken.start) in
        record {
          free = ap unused_count sets.size.used ∙ counted.free;
          taken = taken_as m.used after.used mid.start last.start mid.next last.next mid.blocks.items last.blocks.items
              sets.size.used sets.start sets.next (ap (λ (b : Vec Block Global). b.items) sets.blocks)
              (taken_next m.used d mid s bytes counted.taken placed);
          blocks = omega (
            arith,
            ap (λ (b : Vec Block Global). length b.items) sets.blocks,
            more_blocks mid s bytes placed,
            counted.blocks,
            filled_yes changes c some,
          );
          pages = ap (map names_sector) sets.table
              ∙ kept_set v m.table changes c s counted.pages (ap not (ne_eqb s 0 sector) ∙ sym some);
          changed_maps = subst (AreChanged v (changes ++ c ∷ [])) (sym
              (sets.changed_maps ∙ ap (λ (x : Vec Bool Global). set x.items (c.page / 1024) true) placed.changed_maps))
              (changed_set v changes c d.changed_maps.items counted.changed_maps low
              (or_left (is_some c.bytes) (names_sector (get_or v.table c.page 0)) some));
        }

    -- a page that was released
    pub release_counted : (last : Draft) (after : VolumeMap) → c.bytes ≡ None → ReleasesPage m after d last c.page
        → IsCounted v after last (changes ++ c ∷ []) maps
    release_counted last after is (HadNone none same_volume same_draft) =
        let absent : is_some c.bytes ≡ false = ap is_some is in
        let entry : changes_entry v c ≡ false = or_from (is_some c.bytes) (names_sector (get_or v.table c.page 0))
        absent (sym (entry_same c.page away) ∙ ap names_sector none) in
        subst (λ (x : VolumeMap). IsCounted v x last (changes ++ c ∷ []) maps) (sym same_volume)
        (subst (λ (x : Draft). IsCounted v m x (changes ++ c ∷ []) maps) (sym same_draft) (record {
          free = counted.free;
          taken = counted.taken;
          blocks = counted.blocks ∙ ap (λ (n : ℕ). n + maps) (sym (filled_no changes c absent));
          pages = ap (map names_sector) (sym (ap (set m.table c.page) (sym none) ∙ set-get_or m.table c.page 0))
              ∙ kept_set v m.table changes c 0 counted.pages (sym absent);
          changed_maps = changed_same v changes c d.changed_maps.items counted.changed_maps entry;
        }))
    release_counted last after is (HadOne some sets) =
        let absent : is_some c.bytes ≡ false = ap is_some is in
        let entry : changes_entry v c ≡ true = or_right (is_some c.bytes) (names_sector (get_or v.table c.page 0))
        (sym (entry_same c.page away) ∙ ap not (ne_eqb (get_or m.table c.page 0) 0 some)) in
        record {
          free = ap unused_count sets.size.used ∙ counted.free;
          taken = taken_as m.used after.used d.start last.start d.next last.next d.blocks.items last.blocks.items
              sets.size.used sets.start sets.next (ap (λ (b : Vec Block Global). b.items) sets.blocks) counted.taken;
          blocks = ap (λ (b : Vec Block Global). length b.items) sets.blocks ∙ counted.blocks
              ∙ ap (λ (n : ℕ). n + maps) (sym (filled_no changes c absent));
          pages = ap (map names_sector) sets.table ∙ kept_set v m.table changes c 0 counted.pages (sym absent);
          changed_maps = subst (AreChanged v (changes ++ c ∷ [])) (sym sets.changed_maps)
              (changed_set v changes c d.changed_maps.items counted.changed_maps low entry);
        }

  -- no sector is left
  pub full_count : ((s : ℕ) → d.next ≤ s → s < length m.used → get_or m.used s false ≡ true)
      → free_count v ≡ unused_below m.used d.start + (filled_count changes + maps)
  full_count all = omega (arith, counted.free, count_rest m.used d.next all, counted.taken.count, counted.blocks)

  -- what was taken was free
  pub enough_free : filled_count changes + maps ≤ free_count v
  enough_free = omega (arith, counted.free, counted.taken.count, counted.blocks, front_le (λ u. not u) m.used d.next)

-- the next map sector, written or not
step_yes : (v : Volume) (changes : List Change) (i : ℕ) → is_written v changes i ≡ true
    → written_below v changes (i + 1) ≡ written_below v changes i + 1
step_yes v changes i is = ap (written_below v changes) (add-one i)
    ∙ ap (λ (n : ℕ). written_below v changes i + n) (cond-true (is_written v changes i) 1 0 is)

step_no : (v : Volume) (changes : List Change) (i : ℕ) → is_written v changes i ≡ false
    → written_below v changes (i + 1) ≡ written_below v changes i
step_no v changes i is = ap (written_below v changes) (add-one i)
    ∙ ap (λ (n : ℕ). written_below v changes i + n) (cond-false (is_written v changes i) 1 0 is)
    ∙ add-zero (written_below v changes i)

pub written_le : (v : Volume) (changes : List Change) (i k : ℕ)
    → written_below v changes i ≤ written_below v changes (i + k)
written_le v changes i zero = omega (arith, ap (written_below v changes) (add-zero i))
written_le v changes i (suc k) =
    let next : i + suc k ≡ suc (i + k) = omega arith in
    omega (arith, written_le v changes i k, ap (written_below v changes) next)

-- a map sector, where so many before it were written
module _ (v : Volume) (m : VolumeMap) (d : Draft) (changes : List Change) (j : ℕ)
    (counted : IsCounted v m d changes (written_below v changes j)) (low : j < length d.changed_maps.items) where
  has_is : has_pages v changes j ≡ not (list_all (λ entry. entry == 0) (map_part m.table j))
  has_is = ap (λ (l : List Bool). list_any (λ here. here) (take 1024 (drop (1024 * j) l))) (sym counted.pages)
      ∙ ap (λ (l : List Bool). list_any (λ here. here) (take 1024 l)) (drop-map names_sector (1024 * j) m.table)
      ∙ ap (list_any (λ here. here)) (take-map names_sector 1024 (drop (1024 * j) m.table))
      ∙ any_named (map_part m.table j)

  clean_unwritten : get_or d.changed_maps.items j false ≡ false → is_written v changes j ≡ false
  unfolding is_written
  clean_unwritten is = ap (λ (b : Bool). b && has_pages v changes j) (sym (counted.changed_maps j low) ∙ is)

  blank_unwritten : list_all (λ entry. entry == 0) (map_part m.table j) ≡ true → is_written v changes j ≡ false
  unfolding is_written
  blank_unwritten is = ap (λ (b : Bool). list_any (alters v j) changes && b) (has_is ∙ ap not is)
      ∙ and_false (list_any (alters v j) changes)

  pub now_written : get_or d.changed_maps.items j false ≡ true
      → list_all (λ entry. entry == 0) (map_part m.table j) ≡ false → is_written v changes j ≡ true
  unfolding is_written
  now_written changed_maps is = and_from (list_any (alters v j) changes) (has_pages v changes j)
      (sym (counted.changed_maps j low) ∙ changed_maps) (has_is ∙ ap not is)

  -- one whose entries didn't change
  pub kept_counted : get_or d.changed_maps.items j false ≡ false
      → IsCounted v m d changes (written_below v changes (j + 1))
  kept_counted is = subst (IsCounted v m d changes) (sym (step_no v changes j (clean_unwritten is))) counted

  -- one of zeros
  pub blank_counted : (last : Draft) (after : VolumeMap) → list_all (λ entry. entry == 0) (map_part m.table j) ≡ true
      → SetsMap m after d last j 0 → IsCounted v after last changes (written_below v changes (j + 1))
  blank_counted last after is sets = record {
    free = ap unused_count sets.size.used ∙ counted.free;
    taken = taken_as m.used after.used d.start last.start d.next last.next d.blocks.items last.blocks.items
        sets.size.used sets.start sets.next (ap (λ (b : Vec Block Global). b.items) sets.blocks) counted.taken;
    blocks = ap (λ (b : Vec Block Global). length b.items) sets.blocks ∙ counted.blocks
        ∙ ap (λ (n : ℕ). filled_count changes + n) (sym (step_no v changes j (blank_unwritten is)));
    pages = ap (λ (t : List ℕ). map names_sector t) sets.table ∙ counted.pages;
    changed_maps =
        subst (λ (x : Vec Bool Global). AreChanged v changes x.items) (sym sets.changed_maps) counted.changed_maps;
  }

  -- one that is written
  pub written_counted : (bytes : Sector) (mid last : Draft) (after : VolumeMap) (s : ℕ)
      → is_written v changes j ≡ true → PlacesBlock m.used d mid s bytes → SetsMap m after mid last j s
      → IsCounted v after last changes (written_below v changes (j + 1))
  written_counted bytes mid last after s is placed sets = record {
    free = ap unused_count sets.size.used ∙ counted.free;
    taken = taken_as m.used after.used mid.start last.start mid.next last.next mid.blocks.items last.blocks.items
        sets.size.used sets.start sets.next (ap (λ (b : Vec Block Global). b.items) sets.blocks)
        (taken_next m.used d mid s bytes counted.taken placed);
    blocks = omega (
      arith,
      ap (λ (b : Vec Block Global). length b.items) sets.blocks,
      more_blocks v m d changes (written_below v changes j) counted mid s bytes placed,
      counted.blocks,
      step_yes v changes j is,
    );
    pages = ap (λ (t : List ℕ). map names_sector t) sets.table ∙ counted.pages;
    changed_maps = subst (λ (x : Vec Bool Global). AreChanged v changes x.items)
        (sym (sets.changed_maps ∙ placed.changed_maps)) counted.changed_maps;
  }

  pub full_map : is_written v changes j ≡ true
      → ((s : ℕ) → d.next ≤ s → s < length m.used → get_or m.used s false ≡ true)
      → free_count v < unused_below m.used d.start + (filled_count changes + written_below v changes (j + 1))
  full_map is all =
      omega (arith, full_count v m d changes (written_below v changes j) counted all, step_yes v changes j is)

pub written_mono : (v : Volume) (changes : List Change) (i j : ℕ) → i ≤ j
    → written_below v changes i ≤ written_below v changes j
written_mono v changes i j le =
    let there : i + (j - i) ≡ j = omega arith in
    omega (arith, written_le v changes i (j - i), ap (written_below v changes) there)

-- each change before one of them is of another page
pub front_away : (changes : List Change) (i : ℕ) (d : Change) → NamesOnce (changed_pages changes)
    → 0 < (get_or changes i d).page → i < length changes → Away (get_or changes i d).page (take i changes)
front_away changes i d once some low k e lt is =
    let below : k < i = omega (arith, lt, length-take i changes) in
    let k_low : k < length changes = omega (arith, below, low) in
    let count = length-map changes (λ (c : Change). c.page) in
    let there : get_or (changed_pages changes) k 0 ≡ (get_or changes i d).page =
    get_or-map (λ (c : Change). c.page) changes k e 0 k_low
    ∙ ap (λ (c : Change). c.page) (sym (get_or-take i changes k e below)) ∙ is in
    let here : get_or (changed_pages changes) i 0 ≡ (get_or changes i d).page =
    get_or-map (λ (c : Change). c.page) changes i d 0 low in
    let same : k ≡ i = once k i (omega (arith, k_low, count)) (omega (arith, low, count))
    (λ none. omega (arith, some, sym there ∙ none)) (there ∙ sym here) in
    omega (arith, same, below)

-- nothing is staged yet
pub counted_start : (m : VolumeMap) (d : Draft) (start : ℕ) → IsSound m → 2 ≤ start
    → IsFresh (length m.maps.items) start d → IsCounted (volume_of m) m d [] 0
counted_start m d start sound some fresh = record {
  free = counted m.sectors (names (volume_of m)) m.used sound.in_use;
  taken = taken_start m.used d.start d.next d.blocks.items (omega (arith, fresh.start, some))
      (fresh.next ∙ sym fresh.start) fresh.blocks;
  blocks = ap length fresh.blocks;
  pages = refl;
  changed_maps =
      λ i lt. ap (λ (l : List Bool). get_or l i false) fresh.changed_maps ∙ get_or-replicate (length m.maps.items) i
      false false (omega (arith, lt, ap length fresh.changed_maps, length-replicate (length m.maps.items) false));
}

-- at most one map sector for each change
abbrev changed_below : Volume → List Change → ℕ → ℕ
changed_below v changes zero = 0
changed_below v changes (suc i) = changed_below v changes i + cond (list_any (alters v i) changes) 1 0

changed_none : (v : Volume) (n : ℕ) → changed_below v [] n ≡ 0
changed_none v zero = refl
changed_none v (suc i) = omega (arith, changed_none v i)

one_bit : (b : Bool) → cond b 1 0 ≤ 1
one_bit true = omega arith
one_bit false = omega arith

-- the maps below the one that a change is in are the same
changed_apart : (v : Volume) (c : Change) (changes : List Change) (n : ℕ) → n ≤ c.page / 1024
    → changed_below v (c ∷ changes) n ≡ changed_below v changes n
changed_apart v c changes zero le = refl
changed_apart v c changes (suc i) le =
    let other : alters v i c ≡ false = alters_away v i c (λ e. omega (arith, e, le)) in
    omega (
      arith,
      changed_apart v c changes i (omega (arith, le)),
      ap {B = ℕ} (λ (b : Bool). cond (b || list_any (alters v i) changes) 1 0) other,
    )

changed_more : (v : Volume) (c : Change) (changes : List Change) (n : ℕ)
    → changed_below v (c ∷ changes) n ≤ changed_below v changes n + 1
changed_more v c changes zero = omega arith
changed_more v c changes (suc i) = ⊎_elim
    (λ at.
    omega (arith, changed_apart v c changes i (omega (arith, at)), one_bit (list_any (alters v i) (c ∷ changes))))
    (λ away. omega (
      arith,
      changed_more v c changes i,
      ap {B = ℕ} (λ (b : Bool). cond (b || list_any (alters v i) changes) 1 0) (alters_away v i c (λ e. away (sym e))),
    ))
    (cases_eq i (c.page / 1024))

changed_le : (v : Volume) (changes : List Change) (n : ℕ) → changed_below v changes n ≤ length changes
changed_le v [] n = omega (arith, changed_none v n)
changed_le v (c ∷ changes) n = omega (arith, changed_more v c changes n, changed_le v changes n)

and_le : (a b : Bool) → cond (a && b) 1 0 ≤ cond a 1 0
and_le true b = one_bit b
and_le false b = omega arith

written_changed : (v : Volume) (changes : List Change) (n : ℕ) → written_below v changes n ≤ changed_below v changes n
unfolding is_written
written_changed v changes zero = omega arith
written_changed v changes (suc i) =
    omega (arith, written_changed v changes i, and_le (list_any (alters v i) changes) (has_pages v changes i))

-- at most two sectors for each change
pub few_needed_lem : (v : Volume) (changes : List Change) → needed_sectors v changes ≤ 2 * length changes
few_needed_lem v changes = omega (
  arith,
  count_by-le-length (λ (c : Change). is_some c.bytes) changes,
  written_changed v changes (length v.root.maps),
  changed_le v changes (length v.root.maps),
)

-- where a commit may start and finds too few sectors, too few are free
pub short_start : (m : VolumeMap) (changes : List Change) (start passed : ℕ) → IsSound m
    → MayStart m.used (length changes) start → passed ≡ unused_below m.used start
    → free_count (volume_of m) < passed + needed_sectors (volume_of m) changes
    → free_count (volume_of m) < needed_sectors (volume_of m) changes
short_start m changes start passed sound may is few = ⊎_elim
    (λ front. let none : unused_below m.used start ≡ 0 = ap (unused_below m.used) front ∙ roots_marked m.sectors
    (names (volume_of m)) m.used (omega (arith, sound.least)) sound.in_use in omega (arith, none, is, few))
    (λ room. absurd (omega (
      arith,
      room,
      is,
      few,
      counted m.sectors (names (volume_of m)) m.used sound.in_use,
      few_needed_lem (volume_of m) changes,
    )))
    may.room
