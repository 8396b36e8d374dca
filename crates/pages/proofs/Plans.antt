-- A draft with all its pages and maps is a plan.
use Rattle.std.proofs.Common.{◌≡◌, ◌≤◌, inl, ◌<◌, ◌+◌, ◌*◌, ◌^◌, false, ℕ, List, [], ◌++◌, length, get_or, refl, sym}
use Rattle.std.proofs.Common.{◌∙◌, ap, subst, arith}
use Rattle.std.specs.Prelude.{Contains, Vec}
use Rattle.std.specs.List.{All}
use Rattle.std.specs.declared.alloc.Global.{Global}
use Rattle.std.proofs.lemmas.List.{length-replicate}
use Rattle.std.proofs.lemmas.List.Elements.{All-nil}
use Rattle.station.specs.Blocks.{SectorsAre, with_all}
use Rattle.station.specs.declared.blocks.Block.{Block}
use Rattle.pages.specs.declared.change.Change.{Change}
use Rattle.pages.specs.declared.draft.Draft.{Draft}
use Rattle.pages.specs.declared.draft.UseChange.{UseChange}
use Rattle.pages.specs.declared.volume.VolumeMap.{VolumeMap}
use Rattle.pages.specs.Image.{Volume, names, IsPlace, IsFree, pages_in, map_at, map_part}
use Rattle.pages.specs.Layout.{map_count, version_of}
use Rattle.pages.specs.Use.{IsUse, use_after}
use Rattle.pages.specs.Plan.{IsPlan}
use Rattle.pages.specs.Volumes.{volume_of, IsSound, IsSoundAfter, IsDraft, IsMappedDraft, IsFresh, IsNext, SameSize}
use Rattle.pages.specs.Volumes.{unused_count}

-- nothing is staged yet
pub started : (m : VolumeMap) (d : Draft) (start : ℕ) → IsSound m → 2 ≤ start → IsFresh (length m.maps.items) start d
    → IsDraft (volume_of m) m d []
started m d start sound some fresh = record {
  in_use = sound.in_use;
  some = omega (arith, sound.least);
  staged = record {
    maps_count = refl;
    table_count = refl;
    changed_maps_count = ap length fresh.changed_maps ∙ length-replicate (length m.maps.items) false;
    unused = sound.unused;
    free = subst (SectorsAre (IsFree (volume_of m))) (sym fresh.blocks)
        (All-nil (λ (b : Block). IsFree (volume_of m) b.sector));
    clean = λ page is. refl;
    pages = λ base all reads. ap (λ (l : List Block). pages_in (with_all base l) m.table) fresh.blocks;
  };
  naming = record {
    start = omega (arith, fresh.next, some);
    places = sound.places;
    once = sound.once;
    fresh = λ s has. inl has;
    in_use = subst (λ (l : List UseChange). IsUse m.sectors (names (volume_of m)) (use_after m.used l))
        (sym fresh.turns) sound.in_use;
    turns_low = subst (All (λ (t : UseChange). t.sector < m.sectors)) (sym fresh.turns)
        (All-nil (λ (t : UseChange). t.sector < m.sectors));
  };
}

-- no map is on its way yet
pub maps_started : (m after : VolumeMap) (d : Draft) (changes : List Change) → IsDraft (volume_of m) after d changes
    → after.maps ≡ m.maps → IsMappedDraft (volume_of m) after d changes 0
maps_started m after d changes draft same = record {
  draft = draft;
  mapped = record {
    spelled = λ base all reads i lt. absurd (omega (arith, lt));
    others = λ i le. ap (λ (x : Vec ℕ Global). get_or x.items i 0) same;
  };
}

module _ (m staged : VolumeMap) (after : VolumeMap) (d : Draft) (changes : List Change) (mark catalog : ℕ) (sound :
    IsSound m) (done : IsMappedDraft (volume_of m) staged d changes (length m.maps.items)) (size : SameSize m staged)
    (same_maps : after.maps ≡ staged.maps) (same_table : after.table ≡ staged.table) (same_used : after.used
    ≡ staged.used) (same_free : after.free ≡ staged.free) (same_sectors : after.sectors ≡ staged.sectors)
    (generation : after.generation ≡ staged.generation + 1) (is_mark : version_of after.mark ≡ mark)
    (is_catalog : after.catalog ≡ catalog) where
  abbrev v : Volume
  v = volume_of m

  maps_is : after.maps.items ≡ staged.maps.items
  maps_is = ap (λ (x : Vec ℕ Global). x.items) same_maps

  table_is : after.table ≡ staged.table
  table_is = same_table

  named_is : names (volume_of after) ≡ staged.maps.items ++ staged.table
  named_is = ap (λ (l : List ℕ). l ++ after.table) maps_is ∙ ap (λ (l : List ℕ). staged.maps.items ++ l) table_is

  sectors_is : after.sectors ≡ m.sectors
  sectors_is = same_sectors ∙ size.sectors

  places : (s : ℕ) → Contains (names (volume_of after)) s → IsPlace after.sectors s
  places s has = subst (λ (n : ℕ). IsPlace n s) (sym sectors_is)
      (done.draft.naming.places s (subst (λ (l : List ℕ). Contains l s) named_is has))

  unused : get_or after.table 0 0 ≡ 0
  unused = ap (λ (l : List ℕ). get_or l 0 0) table_is ∙ done.draft.staged.unused

  count : length after.table ≡ 1024 * length after.maps.items
  count = ap length table_is ∙ size.table ∙ sound.count ∙ ap (λ (n : ℕ). 1024 * n) (sym (ap length maps_is ∙ size.maps))

  pub is_plan : version_of m.mark ≤ mark → IsPlan v (volume_of after) d.blocks.items changes
  is_plan rises = record {
    mark = omega (arith, rises, is_mark);
    generation = generation ∙ ap (λ (n : ℕ). n + 1) size.generation;
    sectors = sectors_is;
    free = done.draft.staged.free;
    maps = λ base all reads. record {
      count = count;
      entries = λ i lt. ap (λ (l : List ℕ). map_at (with_all base d.blocks.items) (get_or l i 0)) maps_is
          ∙ done.mapped.spelled base all reads i (omega (arith, lt, ap length maps_is, size.maps))
          ∙ ap (λ (l : List ℕ). map_part l i) (sym table_is);
      places = places;
      once = rw named_is done.draft.naming.once;
      unused = unused;
    };
    pages = λ base all reads. ap (λ (l : List ℕ). pages_in (with_all base d.blocks.items) l) table_is
        ∙ done.draft.staged.pages base all reads;
  }

  pub is_next : IsNext m after mark catalog
  is_next = record {
    mark = is_mark;
    generation = generation ∙ ap (λ (n : ℕ). n + 1) size.generation;
    sectors = sectors_is;
    catalog = is_catalog;
    maps = ap length maps_is ∙ size.maps;
    table = ap length table_is ∙ size.table;
    used = same_used ∙ size.used;
    free = same_free ∙ size.free;
  }

  pub is_sound_after : m.generation + 1 < 2 ^ 63 → IsSoundAfter after d.turns.items
  is_sound_after last = record {
    generation = omega (arith, generation, size.generation, last);
    least = omega (arith, sectors_is, sound.least);
    most = omega (arith, sectors_is, sound.most);
    maps_count = ap length maps_is ∙ size.maps ∙ sound.maps_count ∙ ap map_count (sym sectors_is);
    count = count;
    places = places;
    once = rw named_is done.draft.naming.once;
    unused = unused;
    in_use = rw same_used (rw named_is (rw sectors_is done.draft.naming.in_use));
    free = same_free ∙ size.free ∙ sound.free ∙ ap unused_count (sym (same_used ∙ size.used));
    turns_low = λ k d lt.
        omega (arith, done.draft.naming.turns_low k d lt, ap length (same_used ∙ size.used), sound.in_use.count);
  }
