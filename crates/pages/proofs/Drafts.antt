-- A draft, as its staging functions leave it.
use Rattle.std.proofs.Common.{◌≡◌, ◌⊎◌, inl, inr, ⊎_elim, ◌<◌, ◌≤◌, ◌+◌, ◌/◌, Bool, true, false, ℕ, List, [], ◌∷◌, ◌++◌}
use Rattle.std.proofs.Common.{length, ◌-◌, set, get_or, refl, sym, ◌∙◌, ap, subst, arith, length-append}
use Rattle.std.specs.Prelude.{Some, None, Contains, Vec}
use Rattle.std.specs.declared.alloc.Global.{Global}
use Rattle.std.proofs.lemmas.List.{set-append_right, set-append_left, get_or-append-add, get_or_append_left, set-get_or}
use Rattle.std.proofs.lemmas.List.Elements.{Contains-append_right}
use Rattle.station.specs.Disk.{Sector}
use Rattle.station.specs.declared.blocks.Block.{Block}
use Rattle.pages.specs.declared.change.Change.{Change}
use Rattle.pages.specs.declared.draft.Draft.{Draft}
use Rattle.pages.specs.declared.draft.UseChange.{UseChange}
use Rattle.pages.specs.declared.volume.VolumeMap.{VolumeMap}
use Rattle.pages.specs.Layout.{words, zeros}
use Rattle.pages.specs.Image.{Volume, names, IsFree, map_part}
use Rattle.pages.specs.Use.{IsUse, turns_of}
use Rattle.pages.specs.Draft.{NamesSectors, IsStaged, IsMapped}
use Rattle.pages.specs.Volumes.{IsDraft, IsMappedDraft, SameSize, PlacesBlock, SetsPage, SetsMap, ReleasesPage, HadNone}
use Rattle.pages.specs.Volumes.{HadOne}
use Rattle.pages.proofs.Naming.{renamed}
use Rattle.pages.proofs.Staging.{page_staged, page_released, map_kept, map_blank, blank_staged, map_written}
use Rattle.pages.proofs.Staging.{written_staged}

-- a sector that isn't used is free
pub unused_free : (v : Volume) (used : List Bool) (s : ℕ) → IsUse v.root.sectors (names v) used → s < length used
    → get_or used s false ≡ false → IsFree v s
unused_free v used s right lt is =
    let below : s < v.root.sectors = omega (arith, lt, right.count) in
    let free = right.free s below is in
    record { high = free.0; low = below; unnamed = free.1 }

-- a free sector from `next` on isn't named by the draft
pub unnamed_yet : (v : Volume) (used : List Bool) (named : List ℕ) (turns : List UseChange) (next s : ℕ)
    → NamesSectors v used named turns next → next ≤ s → IsFree v s → Contains named s → ⊥
unnamed_yet v used named turns next s naming later free has =
    ⊎_elim (λ old. free.unnamed old) (λ lt. omega (arith, lt, later)) (naming.fresh s has)

-- equal lists have equal facts
staged_as : (v : Volume) (maps maps' table table' : List ℕ) (changed_maps changed_maps' : List Bool)
    (blocks blocks' : List Block) (changes : List Change) → maps' ≡ maps → table' ≡ table → changed_maps' ≡ changed_maps
    → blocks' ≡ blocks
    → IsStaged v maps table changed_maps blocks changes → IsStaged v maps' table' changed_maps' blocks' changes
staged_as v maps maps' table table' changed_maps changed_maps' blocks blocks' changes m t d b is =
    subst (λ (x : List ℕ). IsStaged v x table' changed_maps' blocks' changes) (sym m)
    (subst (λ (x : List ℕ). IsStaged v maps x changed_maps' blocks' changes) (sym t)
    (subst (λ (x : List Bool). IsStaged v maps table x blocks' changes) (sym d)
    (subst (λ (x : List Block). IsStaged v maps table changed_maps x changes) (sym b) is)))

mapped_as : (v : Volume) (maps maps' table table' : List ℕ) (blocks blocks' : List Block) (next : ℕ) → maps' ≡ maps
    → table' ≡ table → blocks' ≡ blocks → IsMapped v maps table blocks next → IsMapped v maps' table' blocks' next
mapped_as v maps maps' table table' blocks blocks' next m t b is =
    subst (λ (x : List ℕ). IsMapped v x table' blocks' next) (sym m) (subst (λ (x : List ℕ).
    IsMapped v maps x blocks' next) (sym t) (subst (λ (x : List Block). IsMapped v maps table x next) (sym b) is))

naming_as : (v : Volume) (used used' : List Bool) (named named' : List ℕ)
    (turns turns' : List UseChange) (next next' : ℕ) → used' ≡ used → named' ≡ named → turns' ≡ turns → next' ≡ next
    → NamesSectors v used named turns next → NamesSectors v used' named' turns' next'
naming_as v used used' named named' turns turns' next next' u n t k is =
    subst (λ (x : List Bool). NamesSectors v x named' turns' next') (sym u)
    (subst (λ (x : List ℕ). NamesSectors v used x turns' next') (sym n)
    (subst (λ (x : List UseChange). NamesSectors v used named x next') (sym t)
    (subst (λ (x : ℕ). NamesSectors v used named turns x) (sym k) is)))

module _ (v : Volume) (m : VolumeMap) (d : Draft) (changes : List Change) (draft : IsDraft v m d changes) (c : Change)
    (some : 0 < c.page) (in_table : c.page < length m.table) (low : c.page / 1024 < length d.changed_maps.items) where
  abbrev maps : List ℕ
  maps = m.maps.items

  abbrev table : List ℕ
  table = m.table

  abbrev place : ℕ
  place = length maps + c.page

  at_place : get_or (maps ++ table) place 0 ≡ get_or table c.page 0
  at_place = get_or-append-add maps table c.page 0

  set_place : (s : ℕ) → set (maps ++ table) place s ≡ maps ++ set table c.page s
  set_place s =
      set-append_right maps table (length maps) place s refl (omega arith) ∙ ap (λ (p : ℕ). maps ++ set table p s) here
    where
      here : place - length maps ≡ c.page
      here = omega arith

  table_renamed : (s after : ℕ) → ((s ≡ 0) × (after ≡ d.next)) ⊎ ((d.next ≤ s) × IsFree v s × (after ≡ s + 1))
      → NamesSectors v m.used (maps ++ set table c.page s) (d.turns.items ++ turns_of (get_or table c.page 0) s) after
  table_renamed s after choice = subst (λ (l : List ℕ).
      NamesSectors v m.used l (d.turns.items ++ turns_of (get_or table c.page 0) s) after) (set_place s)
      (subst (λ (t : ℕ). NamesSectors v m.used (set (maps ++ table) place s) (d.turns.items ++ turns_of t s) after)
      at_place
      (renamed v m.used (maps ++ table) d.turns.items d.next place s after draft.some
      (omega (arith, in_table, length-append maps table)) draft.naming choice))

  -- a page with new bytes
  pub page_drafted : (bytes : Sector) (mid last : Draft) (after : VolumeMap) (s : ℕ) → c.bytes ≡ Some bytes
      → PlacesBlock m.used d mid s bytes → SetsPage m after mid last c.page s → IsDraft v after last (changes ++ c ∷ [])
  page_drafted bytes mid last after s is placed sets =
      let free : IsFree v s = unused_free v m.used s draft.in_use placed.low placed.free in
      let b : Block = record { sector = s; bytes = bytes } in
      let unnamed = unnamed_yet v m.used (maps ++ table) d.turns.items d.next s draft.naming placed.later free in
      record {
        in_use = subst (λ (u : List Bool). IsUse v.root.sectors (names v) u) (sym sets.size.used) draft.in_use;
        some = draft.some;
        staged =
            staged_as v maps after.maps.items (set table c.page s) after.table (set d.changed_maps.items (c.page / 1024)
            true) last.changed_maps.items (d.blocks.items ++ b ∷ []) last.blocks.items (changes ++ c ∷ [])
            (ap (λ (x : Vec ℕ Global). x.items) sets.maps) sets.table
            (sets.changed_maps ∙ ap (λ (x : Vec Bool Global). set x.items (c.page / 1024) true) placed.changed_maps)
            (ap (λ (x : Vec Block Global). x.items) sets.blocks ∙ placed.blocks)
            (page_staged v maps table d.changed_maps.items d.blocks.items changes c draft.staged some low b free
            (λ has. unnamed (Contains-append_right maps table s has)) is);
        naming = naming_as v m.used after.used (maps ++ set table c.page s) (after.maps.items ++ after.table)
            (d.turns.items ++ turns_of (get_or table c.page 0) s) last.turns.items (s + 1) last.next
            sets.size.used (ap (λ (x : Vec ℕ Global). x.items ++ after.table) sets.maps
            ∙ ap (λ (l : List ℕ). maps ++ l) sets.table)
            (sets.turns ∙ ap (λ (x : Vec UseChange Global). x.items ++ turns_of (get_or table c.page 0) s) placed.turns)
            (sets.next ∙ placed.next)
            (table_renamed s (s + 1) (inr (placed.later, free, refl)));
      }

  -- a page that was released
  pub release_drafted : (last : Draft) (after : VolumeMap) → c.bytes ≡ None → ReleasesPage m after d last c.page
      → IsDraft v after last (changes ++ c ∷ [])
  release_drafted last after is (HadNone none same_volume same_draft) =
      let same : set table c.page 0 ≡ table = ap (set table c.page) (sym none) ∙ set-get_or table c.page 0 in
      subst (λ (x : VolumeMap). IsDraft v x last (changes ++ c ∷ [])) (sym same_volume)
      (subst (λ (x : Draft). IsDraft v m x (changes ++ c ∷ [])) (sym same_draft) (record {
        in_use = draft.in_use;
        some = draft.some;
        staged = staged_as v maps maps (set table c.page 0) table d.changed_maps.items d.changed_maps.items
            d.blocks.items d.blocks.items (changes ++ c ∷ []) refl (sym same) refl refl
            (page_released v maps table d.changed_maps.items d.blocks.items changes c draft.staged some low is
            d.changed_maps.items (inr (refl, none)));
        naming = draft.naming;
      }))
  release_drafted last after is (HadOne some_there sets) = record {
    in_use = subst (λ (u : List Bool). IsUse v.root.sectors (names v) u) (sym sets.size.used) draft.in_use;
    some = draft.some;
    staged = staged_as v maps after.maps.items (set table c.page 0) after.table (set d.changed_maps.items
        (c.page / 1024) true) last.changed_maps.items d.blocks.items last.blocks.items (changes ++ c ∷ [])
        (ap (λ (x : Vec ℕ Global). x.items) sets.maps) sets.table sets.changed_maps
        (ap (λ (x : Vec Block Global). x.items) sets.blocks)
        (page_released v maps table d.changed_maps.items d.blocks.items changes c draft.staged some low is
        (set d.changed_maps.items (c.page / 1024) true) (inl refl));
    naming = naming_as v m.used after.used (maps ++ set table c.page 0) (after.maps.items ++ after.table)
        (d.turns.items ++ turns_of (get_or table c.page 0) 0) last.turns.items d.next last.next
        sets.size.used (ap (λ (x : Vec ℕ Global). x.items ++ after.table) sets.maps
        ∙ ap (λ (l : List ℕ). maps ++ l) sets.table) sets.turns sets.next
        (table_renamed 0 d.next (inl (refl, refl)));
  }

-- the maps of a draft, one after the other
module _ (v : Volume) (m : VolumeMap) (d : Draft) (changes : List Change) (j : ℕ)
    (draft : IsMappedDraft v m d changes j) (low : j < length m.maps.items) where
  -- one whose entries didn't change
  pub kept_mapped : get_or d.changed_maps.items j false ≡ false → IsMappedDraft v m d changes (j + 1)
  kept_mapped is = record {
    draft = draft.draft;
    mapped = map_kept v m.maps.items m.table d.changed_maps.items d.blocks.items changes j draft.draft.staged
        draft.mapped low is;
  }

  maps_renamed : (s after : ℕ) → ((s ≡ 0) × (after ≡ d.next)) ⊎ ((d.next ≤ s) × IsFree v s × (after ≡ s + 1))
      → NamesSectors v m.used (set m.maps.items j s ++ m.table) (d.turns.items ++ turns_of (get_or m.maps.items j 0) s)
      after
  maps_renamed s after choice =
      subst (λ (l : List ℕ). NamesSectors v m.used l (d.turns.items ++ turns_of (get_or m.maps.items j 0) s) after)
      (set-append_left m.maps.items m.table j s low)
      (subst (λ (t : ℕ). NamesSectors v m.used (set (m.maps.items ++ m.table) j s) (d.turns.items ++ turns_of t s)
      after) (get_or_append_left m.maps.items m.table 0 j low)
      (renamed v m.used (m.maps.items ++ m.table) d.turns.items d.next j s after draft.draft.some
      (omega (arith, low, length-append m.maps.items m.table)) draft.draft.naming choice))

  -- one of zeros
  pub blank_mapped : (last : Draft) (after : VolumeMap) → map_part m.table j ≡ zeros → SetsMap m after d last j 0
      → IsMappedDraft v after last changes (j + 1)
  blank_mapped last after blank sets =
      let maps_is = sets.maps in
      let table_is = sets.table in
      let changed_is = ap (λ (x : Vec Bool Global). x.items) sets.changed_maps in
      let blocks_is = ap (λ (x : Vec Block Global). x.items) sets.blocks in
      record {
        draft = record {
          in_use = subst (λ (u : List Bool). IsUse v.root.sectors (names v) u) (sym sets.size.used) draft.draft.in_use;
          some = draft.draft.some;
          staged = staged_as v (set m.maps.items j 0) after.maps.items m.table after.table d.changed_maps.items
              last.changed_maps.items d.blocks.items last.blocks.items changes maps_is table_is changed_is blocks_is
              (blank_staged v m.maps.items m.table d.changed_maps.items d.blocks.items changes j draft.draft.staged
              draft.mapped low);
          naming = naming_as v m.used after.used (set m.maps.items j 0 ++ m.table) (after.maps.items ++ after.table)
              (d.turns.items ++ turns_of (get_or m.maps.items j 0) 0) last.turns.items d.next last.next
              sets.size.used (ap (λ (x : List ℕ). x ++ after.table) maps_is
              ∙ ap (λ (l : List ℕ). set m.maps.items j 0 ++ l) table_is) sets.turns sets.next
              (maps_renamed 0 d.next (inl (refl, refl)));
        };
        mapped = mapped_as v (set m.maps.items j 0) after.maps.items m.table after.table d.blocks.items
            last.blocks.items (j + 1) maps_is table_is blocks_is
            (map_blank v m.maps.items m.table d.changed_maps.items d.blocks.items changes j draft.draft.staged
            draft.mapped low blank);
      }

  -- one that is written
  pub written_mapped : (bytes : Sector) (mid last : Draft) (after : VolumeMap) (s : ℕ)
      → words bytes ≡ map_part m.table j → PlacesBlock m.used d mid s bytes → SetsMap m after mid last j s
      → IsMappedDraft v after last changes (j + 1)
  written_mapped bytes mid last after s spells placed sets =
      let free : IsFree v s = unused_free v m.used s draft.draft.in_use placed.low placed.free in
      let b : Block = record { sector = s; bytes = bytes } in
      let unnamed =
      unnamed_yet v m.used (m.maps.items ++ m.table) d.turns.items d.next s draft.draft.naming placed.later free in
      let maps_is = sets.maps in
      let table_is = sets.table in
      let changed_is = ap (λ (x : Vec Bool Global). x.items) (sets.changed_maps ∙ placed.changed_maps) in
      let blocks_is = ap (λ (x : Vec Block Global). x.items) sets.blocks ∙ placed.blocks in
      record {
        draft = record {
          in_use = subst (λ (u : List Bool). IsUse v.root.sectors (names v) u) (sym sets.size.used) draft.draft.in_use;
          some = draft.draft.some;
          staged = staged_as v (set m.maps.items j s) after.maps.items m.table after.table d.changed_maps.items
              last.changed_maps.items (d.blocks.items ++ b ∷ []) last.blocks.items changes maps_is table_is changed_is
              blocks_is
              (written_staged v m.maps.items m.table d.changed_maps.items d.blocks.items changes j draft.draft.staged
              draft.mapped low b free unnamed);
          naming = naming_as v m.used after.used (set m.maps.items j s ++ m.table) (after.maps.items ++ after.table)
              (d.turns.items ++ turns_of (get_or m.maps.items j 0) s) last.turns.items (s + 1) last.next
              sets.size.used (ap (λ (x : List ℕ). x ++ after.table) maps_is
              ∙ ap (λ (l : List ℕ). set m.maps.items j s ++ l) table_is)
              (sets.turns ∙ ap (λ (x : Vec UseChange Global). x.items ++ turns_of (get_or m.maps.items j 0) s)
              placed.turns) (sets.next ∙ placed.next)
              (maps_renamed s (s + 1) (inr (placed.later, free, refl)));
        };
        mapped = mapped_as v (set m.maps.items j s) after.maps.items m.table after.table (d.blocks.items ++ b ∷ [])
            last.blocks.items (j + 1) maps_is table_is blocks_is
            (map_written v m.maps.items m.table d.changed_maps.items d.blocks.items changes j draft.draft.staged
            draft.mapped low b free unnamed spells);
      }

pub same_size_then : (a b c : VolumeMap) → SameSize a b → SameSize b c → SameSize a c
same_size_then a b c first second = record {
  mark = second.mark ∙ first.mark;
  generation = second.generation ∙ first.generation;
  sectors = second.sectors ∙ first.sectors;
  catalog = second.catalog ∙ first.catalog;
  maps = second.maps ∙ first.maps;
  table = second.table ∙ first.table;
  used = second.used ∙ first.used;
  free = second.free ∙ first.free;
}

pub placed_in : {used used' : List Bool} {old new : Draft} {s : ℕ} {bytes : Sector} → used ≡ used'
    → PlacesBlock used old new s bytes → PlacesBlock used' old new s bytes
placed_in same placed = record {
  later = placed.later;
  low = rw (sym same) placed.low;
  first = rw (sym same) placed.first;
  free = rw (sym same) placed.free;
  blocks = placed.blocks;
  changed_maps = placed.changed_maps;
  turns = placed.turns;
  start = placed.start;
  next = placed.next;
}
