-- A number among those that a sector spells, and among the sectors of the pages.
use Rattle.std.proofs.Common.{◌≡◌, ◌≢◌, ⊎_elim, ◌<◌, ◌≤◌, ◌+◌, ◌*◌, ◌-◌, ◌^◌, ℕ, zero, suc, List, [], ◌∷◌, ◌++◌, length}
use Rattle.std.proofs.Common.{take, drop, set, get_or, refl, sym, ◌∙◌, ap, arith, length-set, get_or-set_other}
use Rattle.std.proofs.Common.{get_or-set_same}
use Rattle.std.proofs.lemmas.Bool.{cases_lt, cases_eq}
use Rattle.std.proofs.lemmas.List.{drop-take, drop-drop, take-append-drop, length-take, length-drop, get_or_read}
use Rattle.std.proofs.lemmas.List.{take-set-le, drop-set-lt, drop-set-add}
use Rattle.std.proofs.Math.Seq.{take-set-lt}
use Rattle.std.proofs.lemmas.List.Elements.{All-set, All-take, All-drop}
use Rattle.byteorder.specs.Endian.{big_bytes}
use Rattle.pages.specs.Layout.{words, number_bytes}
use Rattle.pages.specs.Image.{map_part}
use Rattle.pages.specs.Table.{AreSpelled}
use Rattle.pages.proofs.Words.{words-spelled}

-- another number is four other bytes
spelled_set : (numbers : List ℕ) (j s : ℕ) → j < length numbers
    → number_bytes (set numbers j s)
    ≡ take (4 * j) (number_bytes numbers) ++ (big_bytes 4 s ++ drop 4 (drop (4 * j) (number_bytes numbers)))
spelled_set [] j s low = absurd (omega (arith, low))
spelled_set (n ∷ numbers) zero s low = refl
spelled_set (n ∷ numbers) (suc j) s low =
    let four : 4 * suc j ≡ suc (suc (suc (suc (4 * j)))) = omega arith in
    rw four (ap (λ (l : List ℕ). big_bytes 4 n ++ l) (spelled_set numbers j s (omega (arith, low))))

-- four bytes that are put among those of a sector
pub put_spelled : (numbers bytes part : List ℕ) (j s k : ℕ) → j < length numbers → 4 ≤ k → bytes ≡ number_bytes numbers
    → part ≡ big_bytes 4 s ++ drop 4 (take k (drop (4 * j) bytes))
    → take (4 * j) bytes ++ (part ++ drop k (drop (4 * j) bytes)) ≡ number_bytes (set numbers j s)
put_spelled numbers bytes part j s k low wide is put =
    let rest : List ℕ = drop (4 * j) bytes in
    let parted : 4 + (k - 4) ≡ k = omega (arith, wide) in
    let taken : drop 4 (take k rest) ≡ take (k - 4) (drop 4 rest) =
    ap (λ (n : ℕ). drop 4 (take n rest)) (sym parted) ∙ drop-take 4 (k - 4) rest in
    let left : drop k rest ≡ drop (k - 4) (drop 4 rest) =
    ap (λ (n : ℕ). drop n rest) (sym parted) ∙ sym (drop-drop (k - 4) 4 rest) in
    let whole : drop 4 (take k rest) ++ drop k rest ≡ drop 4 rest = ap (λ (l : List ℕ). l ++ drop k rest) taken
    ∙ ap (λ (l : List ℕ). take (k - 4) (drop 4 rest) ++ l) left ∙ take-append-drop (k - 4) (drop 4 rest) in
    ap (λ (l : List ℕ). take (4 * j) bytes ++ (l ++ drop k rest)) put
    ∙ ap (λ (l : List ℕ). take (4 * j) bytes ++ (big_bytes 4 s ++ l)) whole
    ∙ ap (λ (l : List ℕ). take (4 * j) l ++ (big_bytes 4 s ++ drop 4 (drop (4 * j) l))) is
    ∙ sym (spelled_set numbers j s low)

-- another sector in the part of its map
part_set : (sectors : List ℕ) (i j s : ℕ) → j < 1024
    → map_part (set sectors (1024 * i + j) s) i ≡ set (map_part sectors i) j s
part_set sectors i j s low =
    ap (take 1024) (drop-set-add (1024 * i) sectors j s) ∙ take-set-lt 1024 (drop (1024 * i) sectors) j s low

-- the parts of the other maps stay
part_beside : (sectors : List ℕ) (m j s i : ℕ) → j < 1024 → i ≢ m
    → map_part (set sectors (1024 * m + j) s) i ≡ map_part sectors i
part_beside sectors m j s i low other = ⊎_elim
    (λ below.
    let place : 1024 * m + j ≡ 1024 * i + (1024 * m + j - 1024 * i) = omega (arith, below) in
    ap (λ (p : ℕ). map_part (set sectors p s) i) place
    ∙ ap (take 1024) (drop-set-add (1024 * i) sectors (1024 * m + j - 1024 * i) s)
    ∙ take-set-le 1024 (drop (1024 * i) sectors) (1024 * m + j - 1024 * i) s (omega (arith, below)))
    (λ past. ap (take 1024) (drop-set-lt (1024 * i) sectors (1024 * m + j) s (omega (arith, low, past, other))))
    (cases_lt i m)

-- the entries of a map are 1,024
length_part : (sectors : List ℕ) (i n : ℕ) → length sectors ≡ 1024 * n → i < n → length (map_part sectors i) ≡ 1024
length_part sectors i n count low =
    omega (arith, count, low, length-take 1024 (drop (1024 * i) sectors), length-drop (1024 * i) sectors)

-- a page gets another sector, and its map other bytes
pub table_set : (sectors : List ℕ) (maps : List (List ℕ)) (m j page sector : ℕ) (old bytes : List ℕ)
    → AreSpelled sectors maps → page ≡ 1024 * m + j → j < 1024 → page < length sectors → sector < 2 ^ 32
    → old ≡ get_or maps m old → ((numbers : List ℕ) → length numbers ≡ 1024 → old ≡ number_bytes numbers
    → bytes ≡ number_bytes (set numbers j sector))
    → AreSpelled (set sectors page sector) (set maps m bytes)
table_set sectors maps m j page sector old bytes are place low within fits read put =
    let map_low : m < length maps = omega (arith, are.count, place, within) in
    let before : old ≡ number_bytes (map_part sectors m) =
    get_or_read maps m old map_low read [] ∙ are.bytes m map_low in
    let after : bytes ≡ number_bytes (map_part (set sectors page sector) m)
    = put (map_part sectors m) (length_part sectors m (length maps) are.count map_low) before
    ∙ ap number_bytes (sym (part_set sectors m j sector low))
    ∙ ap (λ (p : ℕ). number_bytes (map_part (set sectors p sector) m)) (sym place) in
    record {
      count = length-set sectors page sector ∙ are.count ∙ ap (λ (n : ℕ). 1024 * n) (sym (length-set maps m bytes));
      small = All-set (λ (s : ℕ). s < 2 ^ 32) sectors page sector fits are.small;
      bytes = λ i lt. ⊎_elim
          (λ same. ap (λ (k : ℕ). get_or (set maps m bytes) k []) same ∙ get_or-set_same maps m bytes [] map_low ∙ after
          ∙ ap (λ (k : ℕ). number_bytes (map_part (set sectors page sector) k)) (sym same))
          (λ other. get_or-set_other maps m i bytes [] other ∙ are.bytes i (omega (arith, lt, length-set maps m bytes))
          ∙ ap number_bytes (sym (part_beside sectors m j sector i low other))
          ∙ ap (λ (p : ℕ). number_bytes (map_part (set sectors p sector) i)) (sym place))
          (cases_eq i m);
    }

-- the bytes of a map are read as the entries that they spell
pub map_reads : (sectors : List ℕ) (maps : List (List ℕ)) (i : ℕ) (bytes : List ℕ) → AreSpelled sectors maps
    → 1024 * i + 1024 ≤ length sectors → bytes ≡ get_or maps i bytes → words bytes ≡ map_part sectors i
map_reads sectors maps i bytes are within read =
    let low : i < length maps = omega (arith, are.count, within) in
    ap words (get_or_read maps i bytes low read [] ∙ are.bytes i low)
    ∙ words-spelled (map_part sectors i) (All-take (λ (s : ℕ). s < 2 ^ 32) 1024 (drop (1024 * i) sectors)
    (All-drop (λ (s : ℕ). s < 2 ^ 32) (1024 * i) sectors are.small))
