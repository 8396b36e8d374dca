-- Map sectors are read one after the other.
use Rattle.std.proofs.Common.{◌≡◌, ◌≢◌, ⊎_elim, ◌<◌, ◌+◌, ◌*◌, ℕ, zero, suc, List, ◌++◌, length, take, drop, get_or}
use Rattle.std.proofs.Common.{replicate, refl, sym, ◌∙◌, ap, arith}
use Rattle.std.proofs.lemmas.List.{length-drop, drop-append-le, take-append-le, drop_at, take_all}
use Rattle.std.proofs.lemmas.Bool.{cases_lt}
use Rattle.station.specs.Disk.{Sector, sector_at}
use Rattle.station.specs.State.{State}
use Rattle.pages.specs.Layout.{words, zeros}
use Rattle.pages.specs.Image.{map_at, map_part}

pub map_here : (image : List Sector) (m : ℕ) → m ≢ 0 → map_at image m ≡ words (sector_at image m)
map_here image zero other = absurd (other refl)
map_here image (suc m) other = refl

pub map_none : (image : List Sector) (m : ℕ) → m ≡ 0 → replicate 1024 0 ≡ map_at image m
unfolding zeros
map_none image m none = rw none refl

-- earlier parts of a table stay
part_before : (table entries : List ℕ) (i k : ℕ) → length table ≡ 1024 * k → i < k
    → map_part (table ++ entries) i ≡ map_part table i
part_before table entries i k count lt =
    ap (take 1024) (drop-append-le (1024 * i) table entries (omega (arith, count, lt)))
    ∙ take-append-le 1024 (drop (1024 * i) table) entries (omega (arith, count, lt, length-drop (1024 * i) table))

part_here : (table entries : List ℕ) (k : ℕ) → length table ≡ 1024 * k → length entries ≡ 1024
    → map_part (table ++ entries) k ≡ entries
part_here table entries k count all =
    ap (take 1024) (drop_at table entries (1024 * k) count) ∙ take_all 1024 entries (omega (arith, all))

pub table_next : (image : List Sector) (maps table entries later : List ℕ) (k d : ℕ) → length table ≡ 1024 * k
    → length entries ≡ 1024 → k < length maps
    → ((i : ℕ) → i < k → map_at image (get_or maps i 0) ≡ map_part table i) → entries ≡ map_at image (get_or maps k 0)
    → later ≡ table ++ entries
    → (i : ℕ) → i < k + 1 → map_at image (get_or maps i 0) ≡ map_part later i
table_next image maps table entries later k d count all low so_far here more i lt = ⊎_elim
    (λ below. so_far i below ∙ sym (part_before table entries i k count below)
    ∙ ap (λ (l : List ℕ). map_part l i) (sym more))
    (λ past. let at : i ≡ k = omega (arith, lt, past) in
    ap (λ (j : ℕ). map_at image (get_or maps j 0)) at ∙ sym here ∙ sym (part_here table entries k count all)
    ∙ ap (λ (l : List ℕ). map_part l k) (sym more) ∙ ap (map_part later) (sym at))
    (cases_lt i k)

-- the same, if the device still holds what it held
pub table_read : (before after : State) (maps table entries later : List ℕ) (k : ℕ) → after ≡ before
    → length table ≡ 1024 * k → length entries ≡ 1024 → k < length maps
    → ((i : ℕ) → i < k → map_at before.disk.present (get_or maps i 0) ≡ map_part table i)
    → entries ≡ map_at after.disk.present (get_or maps k 0) → later ≡ table ++ entries
    → (i : ℕ) → i < k + 1 → map_at before.disk.present (get_or maps i 0) ≡ map_part later i
table_read before after maps table entries later k same count all low so_far here more =
    table_next before.disk.present maps table entries later k 0 count all low so_far
    (here ∙ ap (λ (s : State). map_at s.disk.present (get_or maps k 0)) same) more
