-- One more change is staged, and one more map.
use Rattle.std.proofs.Common.{◌≡◌, ◌⊎◌, inl, inr, ⊎_elim, ◌<◌, ◌≤◌, ◌+◌, ◌*◌, ◌/◌, Bool, true, false, ℕ, zero, suc}
use Rattle.std.proofs.Common.{List, [], ◌∷◌, ◌++◌, length, min, ◌-◌, set, get_or, drop, map, refl, sym, ◌∙◌, ap, subst}
use Rattle.std.proofs.Common.{arith, get_or-set_other, get_or-set_same, length-set}
use Rattle.std.specs.Prelude.{Option, Some, None, Contains}
use Rattle.std.proofs.lemmas.List.{map-set, set-get_or, ext_get_or, get_or-take, get_or-drop, length-take, length-drop}
use Rattle.std.proofs.lemmas.List.Elements.{All-push, All-contains, All-map, Contains-append_left}
use Rattle.std.proofs.lemmas.List.Elements.{Contains-append_right, Contains-get_or}
use Rattle.std.proofs.lemmas.Bool.{cases_eq, cases_lt, true≢false}
use Rattle.station.specs.Disk.{Sector, sector_at}
use Rattle.station.specs.Blocks.{SectorsAre, with_all}
use Rattle.station.specs.declared.blocks.Block.{Block}
use Rattle.station.specs.Blocks.{SameOutside}
use Rattle.station.proofs.TwoPhase.{with_all_count, all_same_outside}
use Rattle.pages.specs.declared.change.Change.{Change}
use Rattle.pages.specs.Layout.{words, zeros}
use Rattle.pages.specs.Image.{map_at, map_part, page_at, pages_in, Volume, Reads, IsFree, KeepsUsed}
use Rattle.pages.specs.Changes.{list_after}
use Rattle.pages.specs.Draft.{IsStaged, IsMapped}
use Rattle.pages.proofs.Frame.{pages_same, map_same, named_same, SameAt}

pub with_all_more : (base : List Sector) (blocks : List Block) (b : Block)
    → with_all base (blocks ++ b ∷ []) ≡ set (with_all base blocks) b.sector b.bytes
with_all_more base [] b = refl
with_all_more base (x ∷ blocks) b = with_all_more (set base x.sector x.bytes) blocks b

pub applied_more : {X : Type 0} (f : Option Sector → X) (pages : List X) (changes : List Change) (c : Change)
    → list_after f pages (changes ++ c ∷ []) ≡ set (list_after f pages changes) c.page (f c.bytes)
applied_more f pages [] c = refl
applied_more f pages (x ∷ changes) c = applied_more f (set pages x.page (f x.bytes)) changes c

page_here : (image : List Sector) (s : ℕ) → 2 ≤ s → page_at image s ≡ Some (sector_at image s)
page_here image zero high = absurd (omega (arith, high))
page_here image (suc s) high = refl

-- a sector that the table doesn't name is written, and then named for a page
page_put : (image : List Sector) (table : List ℕ) (s page : ℕ) (bytes : Sector) → 2 ≤ s → s < length image
    → (Contains table s → ⊥)
    → pages_in (set image s bytes) (set table page s) ≡ set (pages_in image table) page (Some bytes)
page_put image table s page bytes high lt unnamed =
    map-set (page_at (set image s bytes)) table page s
    ∙ ap (λ (l : List (Option Sector)). set l page (page_at (set image s bytes) s)) (pages_same (set image s bytes)
    image table (λ t has. inr (get_or-set_other image s t bytes [] (λ e. unnamed (subst (Contains table) e has)))))
    ∙ ap (λ (o : Option Sector). set (pages_in image table) page o)
    (page_here (set image s bytes) s high ∙ ap (λ (b : Sector). Some b) (get_or-set_same image s bytes [] lt))

-- the entries of other maps stay
clean_set : (v : Volume) (table : List ℕ) (changed_maps : List Bool) (page s : ℕ) → page / 1024 < length changed_maps
    → ((p : ℕ) → get_or changed_maps (p / 1024) false ≡ false → get_or table p 0 ≡ get_or v.table p 0)
    → (p : ℕ) → get_or (set changed_maps (page / 1024) true) (p / 1024) false ≡ false
    → get_or (set table page s) p 0 ≡ get_or v.table p 0
clean_set v table changed_maps page s low clean p is = ⊎_elim
    (λ at. absurd (true≢false (sym (get_or-set_same changed_maps (page / 1024) true false low)
    ∙ subst (λ (q : ℕ). get_or (set changed_maps (page / 1024) true) q false ≡ false) at is)))
    (λ other. get_or-set_other table page p s 0 (λ e. other (ap (λ (q : ℕ). q / 1024) e))
    ∙ clean p (sym (get_or-set_other changed_maps (page / 1024) (p / 1024) true false other) ∙ is))
    (cases_eq (p / 1024) (page / 1024))

module _ (v : Volume) (maps table : List ℕ) (changed_maps : List Bool) (blocks : List Block) (changes : List Change)
    (c : Change) (staged : IsStaged v maps table changed_maps blocks changes) (some : 0 < c.page)
    (low : c.page / 1024 < length changed_maps) where
  -- a page with new bytes
  pub page_staged : (b : Block) → IsFree v b.sector → (Contains table b.sector → ⊥) → c.bytes ≡ Some b.bytes
      → IsStaged v maps (set table c.page b.sector) (set changed_maps (c.page / 1024) true) (blocks ++ b ∷ [])
      (changes ++ c ∷ [])
  page_staged b free unnamed bytes = record {
    maps_count = staged.maps_count;
    table_count = length-set table c.page b.sector ∙ staged.table_count;
    changed_maps_count = length-set changed_maps (c.page / 1024) true ∙ staged.changed_maps_count;
    unused = get_or-set_other table c.page 0 b.sector 0 (λ e. omega (arith, e, some)) ∙ staged.unused;
    free = All-push (λ (x : Block). IsFree v x.sector) blocks b staged.free free;
    clean = clean_set v table changed_maps c.page b.sector low staged.clean;
    pages = λ base all reads.
        rw (with_all_more base blocks b)
        (rw (applied_more (λ (o : Option Sector). o) (pages_in base v.table) changes c) (rw bytes (
        page_put (with_all base blocks) table b.sector c.page b.bytes free.high
        (omega (arith, free.low, all, with_all_count base blocks)) unnamed
        ∙ ap (λ (l : List (Option Sector)). set l c.page (Some b.bytes)) (staged.pages base all reads))));
  }

  -- a page that was released
  pub page_released : c.bytes ≡ None → (after : List Bool) → (after ≡ set changed_maps (c.page / 1024) true)
      ⊎ ((after ≡ changed_maps) × (get_or table c.page 0 ≡ 0))
      → IsStaged v maps (set table c.page 0) after blocks (changes ++ c ∷ [])
  page_released bytes after how = record {
    maps_count = staged.maps_count;
    table_count = length-set table c.page 0 ∙ staged.table_count;
    changed_maps_count =
        ⊎_elim (λ is. ap length is ∙ length-set changed_maps (c.page / 1024) true) (λ (is, _). ap length is) how
        ∙ staged.changed_maps_count;
    unused = get_or-set_other table c.page 0 0 0 (λ e. omega (arith, e, some)) ∙ staged.unused;
    free = staged.free;
    clean = λ p is. ⊎_elim
        (λ set_there. clean_set v table changed_maps c.page 0 low staged.clean p
        (subst (λ (l : List Bool). get_or l (p / 1024) false ≡ false) set_there is))
        (λ (same, none). ap (λ (l : List ℕ). get_or l p 0) (ap (set table c.page) (sym none) ∙ set-get_or table c.page
        0) ∙ staged.clean p (subst (λ (l : List Bool). get_or l (p / 1024) false ≡ false) same is)) how;
    pages = λ base all reads.
        rw (applied_more (λ (o : Option Sector). o) (pages_in base v.table) changes c) (rw bytes (
        map-set (page_at (with_all base blocks)) table c.page 0
        ∙ ap (λ (l : List (Option Sector)). set l c.page None) (staged.pages base all reads)));
  }

-- blocks for free sectors keep the used ones
pub keeps_used : (v : Volume) (base : List Sector) (blocks : List Block) (image : List Sector)
    → SectorsAre (IsFree v) blocks → SameOutside base blocks image → KeepsUsed v base image
keeps_used v base blocks image free spares = record {
  count = spares.count;
  each = λ s lt. ⊎_elim (λ same. inl same) (λ has. inr (free_at s has)) (spares.each s lt);
}
  where
    free_at : (s : ℕ) → Contains (map (λ (b : Block). b.sector) blocks) s → IsFree v s
    free_at s has = All-contains (IsFree v) (map (λ (b : Block). b.sector) blocks) s
        (All-map (IsFree v) (λ (b : Block). b.sector) blocks free) has

-- a map that isn't changed_maps has its old entries
clean_part : (v : Volume) (table : List ℕ) (changed_maps : List Bool) (i : ℕ) → length table ≡ length v.table
    → ((p : ℕ) → get_or changed_maps (p / 1024) false ≡ false → get_or table p 0 ≡ get_or v.table p 0)
    → get_or changed_maps i false ≡ false → map_part table i ≡ map_part v.table i
clean_part v table changed_maps i count clean is = ext_get_or 0 (map_part table i) (map_part v.table i)
    (length-take 1024 (drop (1024 * i) table) ∙ ap (λ (n : ℕ). min 1024 n)
    (length-drop (1024 * i) table ∙ ap (λ (n : ℕ). n - 1024 * i) count ∙ sym (length-drop (1024 * i) v.table))
    ∙ sym (length-take 1024 (drop (1024 * i) v.table)))
    (λ k lt.
    let low : k < 1024 = omega (arith, lt, length-take 1024 (drop (1024 * i) table)) in
    let here : (1024 * i + k) / 1024 ≡ i = omega (arith, low) in
    get_or-take 1024 (drop (1024 * i) table) k 0 low ∙ get_or-drop (1024 * i) table k 0
    ∙ clean (1024 * i + k) (ap (λ (q : ℕ). get_or changed_maps q false) here ∙ is)
    ∙ sym (get_or-take 1024 (drop (1024 * i) v.table) k 0 low ∙ get_or-drop (1024 * i) v.table k 0))

map_here : (image : List Sector) (m : ℕ) → 2 ≤ m → map_at image m ≡ words (sector_at image m)
map_here image zero high = absurd (omega (arith, high))
map_here image (suc m) high = refl

below_next : (i j : ℕ) → i < j + 1 → (i < j) ⊎ (i ≡ j)
below_next i j lt = ⊎_elim (λ below. inl below) (λ past. inr (omega (arith, lt, past))) (cases_lt i j)

module _ (v : Volume) (maps table : List ℕ) (changed_maps : List Bool) (blocks : List Block) (changes : List Change)
    (j : ℕ) (staged : IsStaged v maps table changed_maps blocks changes) (mapped : IsMapped v maps table blocks j)
    (low : j < length maps) where
  -- a map whose entries didn't change stays where it is
  pub map_kept : get_or changed_maps j false ≡ false → IsMapped v maps table blocks (j + 1)
  map_kept is = record {
    spelled = λ base all reads i lt. ⊎_elim (λ below. mapped.spelled base all reads i below)
        (λ at. subst (λ (k : ℕ). map_at (with_all base blocks) (get_or maps k 0) ≡ map_part table k) (sym at)
        (here base reads)) (below_next i j lt);
    others = λ i le. mapped.others i (omega (arith, le));
  }
    where
      here : (base : List Sector) → Reads base v → map_at (with_all base blocks) (get_or maps j 0) ≡ map_part table j
      here base reads =
          let inside : j < length v.root.maps = omega (arith, low, staged.maps_count) in
          let keeps = keeps_used v base blocks (with_all base blocks) staged.free (all_same_outside base blocks) in
          let same = named_same v base (with_all base blocks) reads keeps (get_or v.root.maps j 0) (Contains-append_left
          v.root.maps v.table (get_or v.root.maps j 0) (Contains-get_or v.root.maps j 0 inside)) in
          ap (map_at (with_all base blocks)) (mapped.others j (omega arith))
          ∙ map_same (with_all base blocks) base (get_or v.root.maps j 0) same ∙ reads.maps.entries j inside
          ∙ sym (clean_part v table changed_maps j staged.table_count staged.clean is)

  -- a map of zeros has no sector
  pub map_blank : map_part table j ≡ zeros → IsMapped v (set maps j 0) table blocks (j + 1)
  map_blank blank = record {
    spelled = λ base all reads i lt. ⊎_elim
        (λ below. ap (map_at (with_all base blocks)) (get_or-set_other maps j i 0 0 (λ e. omega (arith, e, below)))
        ∙ mapped.spelled base all reads i below)
        (λ at. rw at (ap (map_at (with_all base blocks)) (get_or-set_same maps j 0 0 low) ∙ sym blank))
        (below_next i j lt);
    others = λ i le. get_or-set_other maps j i 0 0 (λ e. omega (arith, e, le)) ∙ mapped.others i (omega (arith, le));
  }

  pub blank_staged : IsStaged v (set maps j 0) table changed_maps blocks changes
  blank_staged = record {
    maps_count = length-set maps j 0 ∙ staged.maps_count;
    table_count = staged.table_count;
    changed_maps_count = staged.changed_maps_count;
    unused = staged.unused;
    free = staged.free;
    clean = staged.clean;
    pages = staged.pages;
  }

  module _ (b : Block) (free : IsFree v b.sector) (unnamed : Contains (maps ++ table) b.sector → ⊥) where
    away : (base : List Sector) (list : List ℕ) → (Contains list b.sector → ⊥)
        → SameAt (set (with_all base blocks) b.sector b.bytes) (with_all base blocks) list
    away base list absent s has =
        inr (get_or-set_other (with_all base blocks) b.sector s b.bytes [] (λ e. absent (subst (Contains list) e has)))

    -- a map that is written
    pub map_written : words b.bytes ≡ map_part table j
        → IsMapped v (set maps j b.sector) table (blocks ++ b ∷ []) (j + 1)
    map_written bytes = record {
      spelled = λ base all reads i lt. rw (with_all_more base blocks b) (⊎_elim
          (λ below. ap (map_at (set (with_all base blocks) b.sector b.bytes))
          (get_or-set_other maps j i b.sector 0 (λ e. omega (arith, e, below)))
          ∙ map_same (set (with_all base blocks) b.sector b.bytes) (with_all base blocks) (get_or maps i 0)
          (away base maps (λ has. unnamed (Contains-append_left maps table b.sector has)) (get_or maps i 0)
          (Contains-get_or maps i 0 (omega (arith, below, low))))
          ∙ mapped.spelled base all reads i below)
          (λ at.
          rw at (ap (map_at (set (with_all base blocks) b.sector b.bytes)) (get_or-set_same maps j b.sector 0 low)
          ∙ map_here (set (with_all base blocks) b.sector b.bytes) b.sector free.high
          ∙ ap words (get_or-set_same (with_all base blocks) b.sector b.bytes []
          (omega (arith, free.low, all, with_all_count base blocks))) ∙ bytes)) (below_next i j lt));
      others = λ i le. get_or-set_other maps j i b.sector 0 (λ e. omega (arith, e, le))
          ∙ mapped.others i (omega (arith, le));
    }

    pub written_staged : IsStaged v (set maps j b.sector) table changed_maps (blocks ++ b ∷ []) changes
    written_staged = record {
      maps_count = length-set maps j b.sector ∙ staged.maps_count;
      table_count = staged.table_count;
      changed_maps_count = staged.changed_maps_count;
      unused = staged.unused;
      free = All-push (λ (x : Block). IsFree v x.sector) blocks b staged.free free;
      clean = staged.clean;
      pages = λ base all reads. rw (with_all_more base blocks b)
          (pages_same (set (with_all base blocks) b.sector b.bytes) (with_all base blocks) table (away base table
          (λ has. unnamed (Contains-append_right maps table b.sector has))) ∙ staged.pages base all reads);
    }
