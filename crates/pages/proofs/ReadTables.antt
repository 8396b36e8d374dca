-- What is known of a volume whose maps and table were read and marked.
use Rattle.std.proofs.Common.{◌≡◌, ◌<◌, ◌+◌, ◌*◌, ◌/◌, ⊎_elim, ℕ, Bool, List, ◌++◌, length, get_or, sym, ◌∙◌, ap, subst}
use Rattle.std.proofs.Common.{arith}
use Rattle.std.specs.Prelude.{Some}
use Rattle.std.specs.List.{All}
use Rattle.std.proofs.lemmas.List.Elements.{All-from_get_or, Contains-get_or}
use Rattle.station.specs.Disk.{Sector}
use Rattle.station.specs.State.{State}
use Rattle.pages.specs.Layout.{VolumeRoot, newest, map_count}
use Rattle.pages.specs.Image.{Reads, map_at, map_part, IsPlace}
use Rattle.pages.specs.Marked.{IsMarked, AreNames}
use Rattle.pages.specs.Found.{found_root, IsFoundWithin, IsTable, HoldsMaps}
use Rattle.pages.specs.Volumes.{volume_of, IsSound, unused_count}
use Rattle.pages.specs.declared.root.FoundRoot.{FoundRoot}
use Rattle.pages.specs.declared.volume.VolumeMap.{VolumeMap}
use Rattle.pages.proofs.Opened.{sound_now}

-- what was read of a root, without its device
pub found_alone : (count : ℕ) (r : FoundRoot) → IsFoundWithin count r → IsFoundWithin r.sectors r
found_alone count r within = record {
  mark = within.mark;
  generation = within.generation;
  least = within.least;
  most = within.most;
  there = omega arith;
  maps = within.maps;
}

-- the root with this mark
abbrev pub root_marked : ℕ → FoundRoot → VolumeRoot
root_marked mark r =
    record { mark = mark; generation = r.generation; sectors = r.sectors; catalog = r.catalog; maps = r.maps.items }

-- the map sectors are on the device
pub maps_below : (count : ℕ) (r : FoundRoot) (maps : List ℕ) (used : List Bool) → IsFoundWithin count r
    → maps ≡ r.maps.items → IsMarked r.maps.items used → length used ≡ r.sectors → All (λ (m : ℕ). m < count) maps
maps_below count r maps used within are marked all =
    let found = subst (λ (l : List ℕ). IsMarked l used) (sym are) marked in
    All-from_get_or (λ (m : ℕ). m < count) maps 0 (λ i lt. ⊎_elim
    (λ none. omega (arith, none, within.least, within.there))
    (λ place. omega (arith, place.1, all, within.there))
    (found.names.places (get_or maps i 0) (Contains-get_or maps i 0 lt)))

-- the table of the map sectors that were read, counted and marked
pub table_count : (r : FoundRoot) (maps table : List ℕ) → length table ≡ 1024 * length maps → maps ≡ r.maps.items
    → length table ≡ 1024 * length r.maps.items
table_count r maps table count are = count ∙ ap (λ (l : List ℕ). 1024 * length l) are

pub table_some : (count : ℕ) (r : FoundRoot) (maps entries table : List ℕ) → IsFoundWithin count r
    → length table ≡ 1024 * length maps → maps ≡ r.maps.items → entries ≡ table → 0 < length entries
table_some count r maps entries table within counted are same =
    let maps_are : length r.maps.items ≡ (r.sectors + 1023) / 1024 = within.maps in
    omega (arith, maps_are, table_count r maps table counted are, ap length same, within.least)

pub is_table : (r : FoundRoot) (maps entries table : List ℕ) (one two : List Bool) → length table ≡ 1024 * length maps
    → maps ≡ r.maps.items → entries ≡ table → IsMarked (r.maps.items ++ entries) two → length two ≡ length one
    → length one ≡ r.sectors → get_or entries 0 0 ≡ 0 → IsTable r table two
is_table r maps entries table one two counted are same marked long all first = record {
  count = table_count r maps table counted are;
  marked = subst (λ (l : List ℕ). IsMarked (r.maps.items ++ l) two) same marked;
  all = long ∙ all;
  first = subst (λ (l : List ℕ). get_or l 0 0 ≡ 0) same first;
}

-- names of the volume's sectors, as marking finds them
pub names_found : (sectors count : ℕ) (maps entries table : List ℕ) → count ≡ sectors → entries ≡ table
    → AreNames sectors (maps ++ table) → AreNames count (maps ++ entries)
names_found sectors count maps entries table all same are =
    subst (λ (n : ℕ). AreNames n (maps ++ entries)) (sym all)
    (subst (λ (l : List ℕ). AreNames sectors (maps ++ l)) (sym same) are)

-- what was read for these maps is what the root's maps hold
pub holds_maps : (image : List Sector) (r : FoundRoot) (maps table : List ℕ) → maps ≡ r.maps.items
    → ((i : ℕ) → i < length maps → map_at image (get_or maps i 0) ≡ map_part table i) → HoldsMaps image r table
holds_maps image r maps table are entries =
    subst (λ (l : List ℕ). (i : ℕ) → i < length l → map_at image (get_or l i 0) ≡ map_part table i) are entries

-- the image holds the volume
pub reads_found : (before after : State) (r : FoundRoot) (m : VolumeMap) (table : List ℕ) (used : List Bool)
    → after ≡ before → newest before.disk.present ≡ Some (found_root r) → IsTable r table used
    → HoldsMaps after.disk.present r table → (volume_of m).root ≡ found_root r → m.table ≡ table
    → Reads before.disk.present (volume_of m)
reads_found before after r m table used same root is entries are names =
    let image = before.disk.present in
    subst (λ (q : VolumeRoot). Reads image (record { root = q; table = m.table })) (sym are)
    (subst (λ (l : List ℕ). Reads image (record { root = found_root r; table = l })) (sym names) (record {
      root = root;
      maps = record {
        count = is.count;
        entries = subst (λ (s : State). HoldsMaps s.disk.present r table) same entries;
        places = λ s has. subst (λ (n : ℕ). IsPlace n s) is.all (is.marked.names.places s has);
        once = is.marked.names.once;
        unused = is.first;
      };
    }))

-- the volume in memory is sound
pub sound_found : (r : FoundRoot) (table : List ℕ) (used : List Bool) (m : VolumeMap)
    → IsFoundWithin r.sectors r → IsTable r table used → m.generation ≡ r.generation → m.sectors ≡ r.sectors
    → m.maps.items ≡ r.maps.items → m.table ≡ table → m.used ≡ used → m.free ≡ unused_count used → IsSound m
sound_found r table used m within is generation sectors maps entries marks free =
    let named : m.maps.items ++ m.table ≡ r.maps.items ++ table =
    ap (λ (l : List ℕ). l ++ m.table) maps ∙ ap (λ (l : List ℕ). r.maps.items ++ l) entries in
    sound_now m (omega (arith, generation, within.generation)) (omega (arith, sectors, within.least))
    (omega (arith, sectors, within.most)) (ap length maps ∙ within.maps ∙ ap map_count (sym sectors))
    (ap length entries ∙ is.count ∙ ap (λ (l : List ℕ). 1024 * length l) (sym maps))
    (subst (λ (l : List ℕ). IsMarked l m.used) (sym named)
    (subst (IsMarked (r.maps.items ++ table)) (sym marks) is.marked))
    (ap length marks ∙ is.all ∙ sym sectors) (ap (λ (l : List ℕ). get_or l 0 0) entries ∙ is.first)
    (free ∙ ap unused_count (sym marks))
