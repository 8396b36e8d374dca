-- A device whose sector 0 is inverted keeps the laws of `Device`.
use Rattle.std.specs.Prelude.{◌≡◌, ◌<◌, ℕ, zero, suc, List, [], ◌∷◌, length, map, Contains, refl}
use Rattle.std.proofs.Common.{◌∙◌, sym, ap, subst, inl, inr, ⊎_elim, arith, length-set}
use Rattle.std.proofs.lemmas.List.{get_or-map, length-map, map-append}
use Rattle.std.proofs.lemmas.List.Elements.{Contains-get_or}
use Rattle.station.specs.Disk.{Disk, Sector, sector_at, IsCrashImage}
use Rattle.station.specs.State.{State}
use Rattle.station.specs.History.{EndsIn}
use Rattle.unfinished_volume.specs.Inverted.{inverted_sector, stored_for, inverted_image, inverted_write, inverted_disk}
use Rattle.unfinished_volume.specs.Inverted.{inverted_state}

pub inverted_count : (image : List Sector) → length (inverted_image image) ≡ length image
inverted_count image = length-set image 0 (inverted_sector (sector_at image 0))

pub inverted_present : (disk : Disk) (sectors : ℕ) → length disk.present ≡ sectors
    → length (inverted_disk disk).present ≡ sectors
inverted_present disk sectors same = inverted_count disk.present ∙ same

pub inverted_stable : (disk : Disk) (sectors : ℕ) → length disk.stable ≡ sectors
    → length (inverted_disk disk).stable ≡ sectors
inverted_stable disk sectors same = inverted_count disk.stable ∙ same

pub inverted_ends : (history : List State) (state : State) → EndsIn history state
    → EndsIn (map inverted_state history) (inverted_state state)
inverted_ends history state ends = record {
  earlier = map inverted_state ends.earlier;
  is = ap (map inverted_state) ends.is ∙ map-append inverted_state ends.earlier (state ∷ []);
}

-- each sector is what is stored for it
pub inverted_at : (image : List Sector) (i : ℕ) → i < length image
    → sector_at (inverted_image image) i ≡ stored_for i (sector_at image i)
inverted_at [] i lt = absurd (omega (arith, lt))
inverted_at (x ∷ xs) zero lt = refl
inverted_at (x ∷ xs) (suc i) lt = refl

contains_map : {X Y : Type 0} (f : X → Y) (xs : List X) (x : X) → Contains xs x → Contains (map f xs) (f x)
contains_map f xs x has = subst (Contains (map f xs)) (get_or-map f xs has.0 x (f x) has.1 ∙ ap f has.2)
    (Contains-get_or (map f xs) has.0 (f x) (rw (length-map xs f) has.1))

pub inverted_possible : (disk : Disk) (image : List Sector) → IsCrashImage disk image
    → IsCrashImage (inverted_disk disk) (inverted_image image)
inverted_possible disk image crash = record {
  count = inverted_count image ∙ crash.count ∙ sym (inverted_count disk.stable);
  each = λ i lt.
      let below : i < length image = subst (λ (n : ℕ). i < n) (inverted_count image) lt in
      let stable_below : i < length disk.stable = omega (arith, below, crash.count) in
      let here = inverted_at image i below in
      ⊎_elim (λ same. inl (here ∙ ap (stored_for i) same ∙ sym (inverted_at disk.stable i stable_below)))
      (λ has. inr (subst (λ (v : Sector). Contains (map inverted_write disk.written) (i, v)) (sym here)
      (contains_map inverted_write disk.written (i, sector_at image i) has))) (crash.each i below);
}
