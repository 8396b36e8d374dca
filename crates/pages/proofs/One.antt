-- An image holds at most one map.
use Rattle.std.proofs.Common.{◌≡◌, ◌<◌, ◌+◌, ◌*◌, ℕ, zero, suc, List, length, take, drop, get_or, sym, ◌∙◌, ap, arith}
use Rattle.std.proofs.Common.{length-drop}
use Rattle.std.specs.Prelude.{◌++◌}
use Rattle.std.proofs.lemmas.List.{take-append-drop, drop-drop, nil_from_length}
use Rattle.station.specs.Disk.{Sector}
use Rattle.pages.specs.Layout.{VolumeRoot, newest}
use Rattle.pages.specs.Image.{map_part, map_at, pages_in, Volume, Map, map_of, Reads, IsImageOf}
use Rattle.pages.proofs.Roots.{one_root}

-- tables of equal parts are equal
pub same_parts : (k : ℕ) (a b : List ℕ) → length a ≡ 1024 * k → length b ≡ 1024 * k
    → ((i : ℕ) → i < k → map_part a i ≡ map_part b i) → a ≡ b
same_parts zero a b a_count b_count same =
    nil_from_length a (omega (arith, a_count)) ∙ sym (nil_from_length b (omega (arith, b_count)))
same_parts (suc k) a b a_count b_count same =
    sym (take-append-drop 1024 a) ∙ ap (λ (l : List ℕ). l ++ drop 1024 a) (same 0 (omega arith))
    ∙ ap (λ (l : List ℕ). take 1024 b ++ l) (same_parts k (drop 1024 a) (drop 1024 b)
    (omega (arith, a_count, length-drop 1024 a)) (omega (arith, b_count, length-drop 1024 b)) rest)
    ∙ take-append-drop 1024 b
  where
    later : (l : List ℕ) (i : ℕ) → map_part (drop 1024 l) i ≡ map_part l (suc i)
    later l i = let next : 1024 + 1024 * i ≡ 1024 * suc i =
        omega arith in ap (take 1024) (drop-drop (1024 * i) 1024 l ∙ ap (λ (n : ℕ). drop n l) next)

    rest : (i : ℕ) → i < k → map_part (drop 1024 a) i ≡ map_part (drop 1024 b) i
    rest i lt = later a i ∙ same (suc i) (omega (arith, lt)) ∙ sym (later b i)

one_volume : (image : List Sector) (v w : Volume) → Reads image v → Reads image w → map_of image v ≡ map_of image w
one_volume image v w first second =
    let root : v.root ≡ w.root = one_root (newest image) v.root w.root first.root second.root in
    let maps : v.root.maps ≡ w.root.maps = ap (λ (r : VolumeRoot). r.maps) root in
    let table : v.table ≡ w.table = same_parts (length v.root.maps) v.table w.table first.maps.count
    (second.maps.count ∙ ap (λ (l : List ℕ). 1024 * length l) (sym maps))
    (λ i lt. sym (first.maps.entries i lt) ∙ ap (λ (l : List ℕ). map_at image (get_or l i 0)) maps
    ∙ second.maps.entries i (omega (arith, lt, ap length maps))) in
    ap (λ (r : VolumeRoot).
    record { mark = r.mark; generation = r.generation; catalog = r.catalog; pages = pages_in image v.table })
    root
    ∙ ap (λ (t : List ℕ).
    record { mark = w.root.mark; generation = w.root.generation; catalog = w.root.catalog; pages = pages_in image t })
    table

pub one_map : (image : List Sector) (m n : Map) → IsImageOf image m → IsImageOf image n → m ≡ n
one_map image m n first second = sym first.2 ∙ one_volume image first.0 second.0 first.1 second.1 ∙ second.2
