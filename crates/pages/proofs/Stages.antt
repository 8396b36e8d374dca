-- A draft of the next volume, from one stage to the next.
use Rattle.std.proofs.Common.{◌≡◌, ◌<◌, ◌≤◌, ◌+◌, ◌*◌, ◌^◌, ◌++◌, ◌∷◌, ℕ, Bool, List, [], length, take, get_or, refl}
use Rattle.std.proofs.Common.{sym}
use Rattle.std.proofs.Common.{◌∙◌, ap, subst, arith}
use Rattle.std.specs.Prelude.{Contains}
use Rattle.std.specs.List.{All}
use Rattle.std.proofs.lemmas.List.{take_more}
use Rattle.pages.specs.Layout.{map_count, version_of}
use Rattle.pages.specs.Image.{Volume, NamesOnce, IsPlace, names}
use Rattle.pages.specs.Changes.{changed_pages}
use Rattle.pages.specs.Plan.{IsPlan}
use Rattle.pages.specs.Use.{IsUse, use_after, free_count}
use Rattle.pages.specs.Needed.{filled_count, written_below, needed_sectors}
use Rattle.pages.specs.Volumes.{volume_of, unused_below, unused_count, IsSound, IsSoundAfter, SameSize, IsFresh}
use Rattle.pages.specs.Volumes.{IsDraft}
use Rattle.pages.specs.Volumes.{IsMappedDraft, IsCounted, MayStart}
use Rattle.pages.specs.declared.change.Change.{Change}
use Rattle.pages.specs.declared.draft.Draft.{Draft}
use Rattle.pages.specs.declared.draft.UseChange.{UseChange}
use Rattle.pages.specs.declared.volume.VolumeMap.{VolumeMap}
use Rattle.pages.specs.declared.volume_mark.VolumeMark.{VolumeMark}
use Rattle.pages.proofs.Drafts.{same_size_then}
use Rattle.pages.proofs.Edits.{Away}
use Rattle.pages.proofs.Plans.{started, maps_started, is_plan, is_sound_after}
use Rattle.pages.proofs.Taking.{counted_start, short_start, front_away}

-- the next generation of a volume whose pages and maps are staged
abbrev pub next_from : VolumeMap → VolumeMark → ℕ → ℕ → VolumeMap
next_from m mark catalog start = record {
  mark = mark;
  generation = m.generation + 1;
  sectors = m.sectors;
  catalog = catalog;
  maps = m.maps;
  table = m.table;
  used = m.used;
  free = m.free;
  near = m.last_start;
  last_start = start;
}

-- a volume, after its pages are staged, and after its maps are
module _ (m mid last : VolumeMap) (d one two : Draft) (changes : List Change) (start : ℕ) (sound : IsSound m) (some : 2
    ≤ start) (fresh : IsFresh (length m.maps.items) start d) (size : SameSize m mid) where
  pub mapped_all : ((v : Volume) → IsDraft v m d [] → IsDraft v mid one changes) → mid.maps ≡ m.maps
      → ((v : Volume) (l : List Change) → IsMappedDraft v mid one l 0
      → IsMappedDraft v last two l (length mid.maps.items))
      → IsMappedDraft (volume_of m) last two changes (length m.maps.items)
  mapped_all staged maps mapped = subst (λ (n : ℕ). IsMappedDraft (volume_of m) last two changes n) size.maps
      (mapped (volume_of m) changes (maps_started m mid one changes
      (staged (volume_of m) (started m d start sound some fresh)) maps))

  pub counted_all : ((v : Volume) → IsCounted v m d [] 0 → IsCounted v mid one changes 0)
      → ((v : Volume) (l : List Change) → IsCounted v mid one l 0
      → IsCounted v last two l (written_below v l (length mid.maps.items)))
      → IsCounted (volume_of m) last two changes (written_below (volume_of m) changes (length m.maps.items))
  counted_all staged mapped =
      subst (λ (n : ℕ). IsCounted (volume_of m) last two changes (written_below (volume_of m) changes n)) size.maps
      (mapped (volume_of m) changes (staged (volume_of m) (counted_start m d start sound some fresh)))

  -- if the maps find too few sectors, the changes need more than are free
  pub short_maps : MayStart m.used (length changes) start → one.start ≡ d.start
      → free_count (volume_of m) < unused_below mid.used one.start
      + (filled_count changes + written_below (volume_of m) changes (length mid.maps.items))
      → free_count (volume_of m) < needed_sectors (volume_of m) changes
  short_maps may begins few =
      let passed = unused_below mid.used one.start in
      short_start m changes start passed sound may
      (ap (λ (u : List Bool). unused_below u one.start) size.used ∙ ap (unused_below m.used) (begins ∙ fresh.start))
      (subst (λ (n : ℕ). free_count (volume_of m) < passed
      + (filled_count changes + written_below (volume_of m) changes n)) size.maps few)

  module _ (mark : VolumeMark) (catalog near : ℕ) (staged : (v : Volume) → IsDraft v m d []
      → IsDraft v mid one changes) (maps : mid.maps ≡ m.maps) (mapped : (v : Volume) (l : List Change)
      → IsMappedDraft v mid one l 0 → IsMappedDraft v last two l (length mid.maps.items)) (rest : SameSize mid last)
    where
      pub planned : version_of m.mark ≤ version_of mark
          → IsPlan (volume_of m) (volume_of (next_from last mark catalog near)) two.blocks.items changes
      planned rises = is_plan m last (next_from last mark catalog near) two changes (version_of mark) catalog sound
          (mapped_all staged maps mapped) (same_size_then m mid last size rest) refl refl refl refl refl refl refl refl
          rises

      pub planned_sound : m.generation + 1 < 2 ^ 63 → IsSoundAfter (next_from last mark catalog near) two.turns.items
      planned_sound low = is_sound_after m last (next_from last mark catalog near) two changes (version_of mark) catalog
          sound (mapped_all staged maps mapped) (same_size_then m mid last size rest) refl refl refl refl refl refl refl
          refl low

-- the next one of some changes
pub record NextChange (changes : List Change) (i : ℕ) (item : Change) : Type 0 where
  pub some : 0 < item.page
  pub away : NamesOnce (changed_pages changes) → Away item.page (take i changes)
  pub is : take i changes ++ item ∷ [] ≡ take (i + 1) changes

pub next_change : (changes : List Change) (i count : ℕ) (item : Change) → i < length changes
    → item ≡ get_or changes i item → All (λ (x : Change). (0 < x.page) × (x.page < count)) changes
    → NextChange changes i item
next_change changes i count item lt is pages =
    let some : 0 < (get_or changes i item).page = (pages i item lt).0 in
    record {
      some = subst (λ (x : Change). 0 < x.page) (sym is) some;
      away = λ once. subst (λ (x : Change). Away x.page (take i changes)) (sym is)
          (front_away changes i item once some lt);
      is = ap (λ (x : Change). take i changes ++ x ∷ []) is ∙ sym (take_more changes i item lt);
    }

-- once its turns are marked, a volume is sound
pub sound_marked : (m after : VolumeMap) (turns : List UseChange) → IsSoundAfter m turns
    → after.generation ≡ m.generation → after.sectors ≡ m.sectors → after.maps.items ≡ m.maps.items
    → after.table ≡ m.table → after.used ≡ use_after m.used turns → after.free ≡ unused_count after.used
    → IsSound after
sound_marked m after turns sound generation sectors maps table marked free =
    let named : names (volume_of after) ≡ names (volume_of m) =
    ap (λ (l : List ℕ). l ++ after.table) maps ∙ ap (λ (l : List ℕ). m.maps.items ++ l) table in
    record {
      generation = omega (arith, generation, sound.generation);
      least = omega (arith, sectors, sound.least);
      most = omega (arith, sectors, sound.most);
      maps_count = ap length maps ∙ sound.maps_count ∙ ap map_count (sym sectors);
      count = ap length table ∙ sound.count ∙ ap (λ (l : List ℕ). 1024 * length l) (sym maps);
      places = λ s has. subst (λ (n : ℕ). IsPlace n s) (sym sectors)
          (sound.places s (subst (λ (l : List ℕ). Contains l s) named has));
      once = subst NamesOnce (sym named) sound.once;
      unused = ap (λ (l : List ℕ). get_or l 0 0) table ∙ sound.unused;
      in_use = subst (IsUse after.sectors (names (volume_of after))) (sym marked)
          (subst (λ (l : List ℕ). IsUse after.sectors l (use_after m.used turns)) (sym named)
          (subst (λ (n : ℕ). IsUse n (names (volume_of m)) (use_after m.used turns)) (sym sectors) sound.in_use));
      free = free;
    }
