-- What a refusal to open tells of an image.
use Rattle.std.proofs.Common.{◌≡◌, inl, inr, ◌<◌, ◌*◌, ℕ, List, ◌++◌, length, get_or, refl, sym, ◌∙◌, ap, subst}
use Rattle.std.specs.Prelude.{Some, None, Result, Ok, Err, IfOk, IfErr}
use Rattle.station.specs.Disk.{Sector}
use Rattle.pages.specs.Layout.{VolumeRoot, root_of, newest, IsForeign}
use Rattle.pages.specs.Image.{map_at, map_part, Volume, Map, map_of, names, Reads, IsImageOf, IsDamaged}
use Rattle.pages.specs.Marked.{AreNames}
use Rattle.pages.specs.Errors.{RefusesImage, IsReadError, FailsWithError}
use Rattle.pages.specs.Volumes.{volume_of}
use Rattle.pages.specs.declared.volume.VolumeMap.{VolumeMap}
use Rattle.pages.specs.declared.error.PagesError.{PagesError}
use Rattle.pages.specs.declared.error.PagesError.TheVariants.{Device, Full, Damaged, Memory, Spent, ForeignMark}
use Rattle.pages.proofs.Roots.{that, one_root}
use Rattle.pages.proofs.One.{same_parts}
use Rattle.pages.proofs.Marking.{front_names}

-- a newest root of a volume is no other format's
root_is_own : (image : List Sector) (r : VolumeRoot) → newest image ≡ Some r → IsForeign image → ⊥
root_is_own image r is foreign = that None r (sym (ap root_of foreign) ∙ is)

pub map_is_own : (image : List Sector) (m : Map) → IsImageOf image m → IsForeign image → ⊥
map_is_own image m holds foreign = root_is_own image holds.0.root holds.1.root foreign

-- what the maps name
named : (image : List Sector) (v : Volume) → Reads image v → AreNames v.root.sectors (names v)
named image v reads = record { places = reads.maps.places; once = reads.maps.once }

-- an image with a newest root that no volume reads
module _ (image : List Sector) (r : VolumeRoot) (is : newest image ≡ Some r) where
  damaged : ((v : Volume) → v.root ≡ r → Reads image v → ⊥) → IsDamaged image
  damaged none = record {
    none = λ m holds. none holds.0 (one_root (newest image) holds.0.root r holds.1.root is) holds.1;
    own = root_is_own image r is;
  }

  -- its map sectors aren't sectors after the roots, each named once
  pub bad_maps : (AreNames r.sectors r.maps → ⊥) → IsDamaged image
  bad_maps bad = damaged (λ v same reads. bad (subst (λ (q : VolumeRoot). AreNames q.sectors q.maps) same
      (front_names v.root.sectors v.root.maps v.table (named image v reads))))

  module _ (table : List ℕ) (count : length table ≡ 1024 * length r.maps)
      (entries : (i : ℕ) → i < length r.maps → map_at image (get_or r.maps i 0) ≡ map_part table i) where
    one_table : (v : Volume) → v.root ≡ r → Reads image v → v.table ≡ table
    one_table v same reads =
        let v_count : length v.table ≡ 1024 * length r.maps =
        subst (λ (q : VolumeRoot). length v.table ≡ 1024 * length q.maps) same reads.maps.count in
        let v_entries : (i : ℕ) → i < length r.maps → map_at image (get_or r.maps i 0) ≡ map_part v.table i =
        subst (λ (q : VolumeRoot). (i : ℕ) → i < length q.maps → map_at image (get_or q.maps i 0) ≡ map_part v.table i)
        same reads.maps.entries in
        same_parts (length r.maps) v.table table v_count count (λ i lt. sym (v_entries i lt) ∙ entries i lt)

    -- its maps and pages aren't, or page 0 has a sector
    pub bad_table : (AreNames r.sectors (r.maps ++ table) → get_or table 0 0 ≡ 0 → ⊥) → IsDamaged image
    bad_table bad =
        damaged (λ v same reads. bad (subst (λ (t : List ℕ). AreNames r.sectors (r.maps ++ t)) (one_table v same reads)
        (subst (λ (q : VolumeRoot). AreNames q.sectors (q.maps ++ v.table)) same (named image v reads)))
        (sym (ap (λ (t : List ℕ). get_or t 0 0) (one_table v same reads)) ∙ reads.maps.unused))

-- what holds a map is opened
pub map_opens : {T : Type 0} (image : List Sector) (m : Map) (result : Result T PagesError)
    → IfErr result (λ error. RefusesImage image error) → IsImageOf image m → IsReadError result
map_opens image m (Ok x) refuses holds = tt
map_opens image m (Err Device) refuses holds = inl refl
map_opens image m (Err Full) never holds = absurd never
map_opens image m (Err Damaged) refuses holds = absurd (refuses.none m holds)
map_opens image m (Err Memory) refuses holds = inr refl
map_opens image m (Err Spent) never holds = absurd never
map_opens image m (Err ForeignMark) refuses holds = absurd (map_is_own image m holds refuses)

module _ (image : List Sector) where
  -- another format is told
  pub foreign_told : (result : Result VolumeMap PagesError) → IfOk result (λ volume. Reads image (volume_of volume))
      → IfErr result (λ error. RefusesImage image error) → IsForeign image → FailsWithError ForeignMark result
  foreign_told (Ok m) reads _ foreign = root_is_own image (volume_of m).root reads.root foreign
  foreign_told (Err Device) _ refuses foreign = inr (inl refl)
  foreign_told (Err Full) _ never foreign = absurd never
  foreign_told (Err Damaged) _ refuses foreign = absurd (refuses.own foreign)
  foreign_told (Err Memory) _ refuses foreign = inr (inr refl)
  foreign_told (Err Spent) _ never foreign = absurd never
  foreign_told (Err ForeignMark) _ refuses foreign = inl refl

  -- damage is told
  pub damage_told : (result : Result VolumeMap PagesError) → IfOk result (λ volume. Reads image (volume_of volume))
      → IfErr result (λ error. RefusesImage image error) → IsDamaged image → FailsWithError Damaged result
  damage_told (Ok m) reads _ damage = damage.none (map_of image (volume_of m)) (volume_of m, reads, refl)
  damage_told (Err Device) _ refuses damage = inr (inl refl)
  damage_told (Err Full) _ never damage = absurd never
  damage_told (Err Damaged) _ refuses damage = inl refl
  damage_told (Err Memory) _ refuses damage = inr (inr refl)
  damage_told (Err Spent) _ never damage = absurd never
  damage_told (Err ForeignMark) _ refuses damage = absurd (damage.own refuses)
