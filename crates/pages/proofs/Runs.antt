-- Runs of sectors, how many of each aren't marked, and the bytes that mark them.
use Rattle.std.proofs.Common.{◌≡◌, ⊎_elim, ◌<◌, ◌≤◌, ◌+◌, ◌-◌, ◌*◌, ◌/◌, ◌==◌, min, cond, Bool, true, false, not, ℕ}
use Rattle.std.proofs.Common.{List, [], ◌∷◌, map, length, take, take_all, drop, set, get_or, refl, sym, ◌∙◌, ap, subst}
use Rattle.std.proofs.Common.{arith, length-set, get_or-set_other, get_or-set_same}
use Rattle.std.proofs.lemmas.Bool.{cases_lt, cases_eq, cases_Bool}
use Rattle.std.proofs.lemmas.List.{take-take, take-set-le, get_or-take, get_or-drop, get_or_read, length-map}
use Rattle.std.proofs.lemmas.List.{length-take-le, drop-take, map-set, take-map, drop-map}
use Rattle.std.proofs.Math.ListN.{get_or-map}
use Rattle.std.specs.Prelude.{count_by}
use Rattle.std.specs.Int.{from_bool}
use Rattle.memchr.specs.Find.{Nowhere, Passes, is_byte}
use Rattle.std.proofs.Math.Seq.{take-set-lt}
use Rattle.std.proofs.lemmas.List.Sums.{count_by_more_yes, count_by-le-length, sum_by-cons, sum_by-set}
use Rattle.std.proofs.lemmas.List.Sums.{sum_by-take-drop}
use Rattle.pages.specs.Runs.{used_flags, unused_count, unused_below, AreRuns}

-- as many sectors as bytes
pub length_marked : (bytes : List ℕ) → length (used_flags bytes) ≡ length bytes
length_marked bytes = length-map bytes (λ byte. not (byte == 0))

-- whether a sector is marked, by its byte
marked_at : (bytes : List ℕ) (s : ℕ) → get_or (used_flags bytes) s false ≡ not (get_or bytes s 0 == 0)
marked_at bytes s = get_or-map (λ byte. not (byte == 0)) bytes s 0

-- 1 marks, and 0 doesn't
mark_is : (b : Bool) → not (from_bool b == 0) ≡ b
mark_is true = refl
mark_is false = refl

pub marked_bytes : (used : List Bool) → used_flags (map from_bool used) ≡ used
marked_bytes [] = refl
marked_bytes (u ∷ more) =
    ap (λ v. v ∷ used_flags (map from_bool more)) (mark_is u) ∙ ap (λ vs. u ∷ vs) (marked_bytes more)

pub marked_set : (bytes : List ℕ) (s mark : ℕ) (b : Bool) → mark ≡ from_bool b
    → used_flags (set bytes s mark) ≡ set (used_flags bytes) s b
marked_set bytes s mark b is =
    map-set (λ byte. not (byte == 0)) bytes s mark ∙ ap (λ byte. set (used_flags bytes) s (not (byte == 0))) is
    ∙ ap (λ u. set (used_flags bytes) s u) (mark_is b)

not_zero : (b : Bool) → (b ≡ true → ⊥) → not b ≡ true
not_zero true h = absurd (h refl)
not_zero false h = refl

-- part of the bytes, where a zero is sought
module _ (bytes part : List ℕ) (start end : ℕ) (is : part ≡ take (end - start) (drop start bytes))
    (long : length part + start ≡ end) where
  part_at : (k : ℕ) → k < length part → get_or part k 0 ≡ get_or bytes (start + k) 0
  part_at k low = ap (λ xs. get_or xs k 0) is ∙ get_or-take (end - start) (drop start bytes) k 0 (omega arith)
      ∙ get_or-drop start bytes k 0

  -- each sector is marked as far as there is no zero
  pub marked_before : (k t : ℕ) → k ≤ length part → Nowhere (Passes (is_byte 0) part) 0 k → start ≤ t → t < start + k
      → get_or (used_flags bytes) t false ≡ true
  marked_before k t most none from below =
      let low : t - start < length part = omega arith in
      let place : start + (t - start) ≡ t = omega arith in
      let at : get_or part (t - start) 0 ≡ get_or bytes t 0 =
      part_at (t - start) low ∙ ap (λ s. get_or bytes s 0) place in
      marked_at bytes t ∙ ap (λ byte. not (byte == 0)) (sym at)
      ∙ not_zero (get_or part (t - start) 0 == 0) (none (t - start) (omega arith) (omega arith))

-- 1 for a sector that isn't marked
abbrev pub bit : Bool → ℕ
bit b = cond (not b) 1 0

-- more sectors have no fewer
pub below_le : (used : List Bool) (n m : ℕ) → n ≤ m → unused_below used n ≤ unused_below used m
below_le used n m le =
    let parts : unused_count (take n (take m used)) + unused_count (drop n (take m used)) ≡ unused_count (take m used) =
    sum_by-take-drop bit (take m used) n in
    let same : unused_count (take n (take m used)) ≡ unused_count (take n used) =
    ap unused_count (take-take n m used le) in
    omega (arith, parts, same)

-- where as many aren't marked below one place as below another, each between them is
pub none_between : (used : List Bool) (n m t : ℕ) → unused_below used m ≡ unused_below used n → n ≤ t → t < m
    → t < length used → get_or used t false ≡ true
none_between used n m t same from below low = ⊎_elim
    (λ yes. yes)
    (λ no.
    let more : unused_below used (t + 1) ≡ unused_below used t + 1 =
    count_by_more_yes (λ u. not u) used t false low (ap not no) in
    let left = below_le used n t from in
    let right = below_le used (t + 1) m (omega arith) in
    absurd (omega (arith, more, left, right, same)))
    (cases_Bool (get_or used t false))

-- one that isn't marked counts
pub some_between : (used : List Bool) (n m s : ℕ) → n ≤ s → s < m → s < length used → get_or used s false ≡ false
    → unused_below used n < unused_below used m
some_between used n m s from below low unset =
    let more : unused_below used (s + 1) ≡ unused_below used s + 1 =
    count_by_more_yes (λ u. not u) used s false low (ap not unset) in
    omega (arith, more, below_le used n s from, below_le used (s + 1) m (omega arith))

-- a sector turns
pub below_before : (used : List Bool) (s n : ℕ) (b : Bool) → n ≤ s → unused_below (set used s b) n ≡ unused_below used n
below_before used s n b le = ap unused_count (take-set-le n used s b le)

pub below_behind : (used : List Bool) (s n : ℕ) (b : Bool) → s < n → s < length used
    → unused_below (set used s b) n + bit (get_or used s false) ≡ unused_below used n + bit b
below_behind used s n b lt low =
    let moved : unused_below (set used s b) n ≡ unused_count (set (take n used) s b) =
    ap unused_count (take-set-lt n used s b lt) in
    let there : s < length (take n used) = ⊎_elim
    (λ short. omega (arith, lt, length-take-le n used (omega (arith, short))))
    (λ long. let all : take n used ≡ used = take_all n used long in omega (arith, low, ap length all))
    (cases_lt n (length used)) in
    let sum : unused_count (set (take n used) s b) + bit (get_or (take n used) s false)
    ≡ unused_count (take n used) + bit b = sum_by-set bit (take n used) s b false there in
    let same : get_or (take n used) s false ≡ get_or used s false = get_or-take n used s false lt in
    let bits : bit (get_or (take n used) s false) ≡ bit (get_or used s false) = ap bit same in
    omega (arith, moved, sum, bits)

bit_is : (b : Bool) → cond b 0 1 ≡ bit b
bit_is true = refl
bit_is false = refl

-- so many of the next sectors aren't marked
pub part_counted : (used : List Bool) (n k : ℕ)
    → unused_below used (n + k) ≡ unused_below used n + unused_count (take k (drop n used))
part_counted used n k =
    let parts : unused_count (take n (take (n + k) used)) + unused_count (drop n (take (n + k) used))
    ≡ unused_count (take (n + k) used) = sum_by-take-drop bit (take (n + k) used) n in
    let front : unused_count (take n (take (n + k) used)) ≡ unused_count (take n used) =
    ap unused_count (take-take n (n + k) used (omega arith)) in
    let back : unused_count (drop n (take (n + k) used)) ≡ unused_count (take k (drop n used)) =
    ap unused_count (drop-take n k used) in
    omega (arith, parts, front, back)

-- after the last sector there is none
pub below_end : (used : List Bool) (m : ℕ) → length used ≤ m → unused_below used m ≡ unused_below used (length used)
below_end used m le = ap unused_count (take_all m used le ∙ sym (take_all (length used) used (omega arith)))

pub run_counted : (used : List Bool) (start end : ℕ) → start ≤ length used → end ≡ min (length used) (start + 1024)
    → unused_below used (start + 1024) ≡ unused_below used start + unused_count (take (end - start) (drop start used))
run_counted used start end there is =
    let parts = part_counted used start (end - start) in
    let up : start + (end - start) ≡ end = omega (arith, there, is) in
    let to : unused_below used (start + (end - start)) ≡ unused_below used end = ap (unused_below used) up in
    let last : unused_below used (start + 1024) ≡ unused_below used end = ⊎_elim
    (λ lt. let e : start + 1024 ≡ end = omega (arith, lt, is) in ap (unused_below used) e)
    (λ le. let e : length used ≡ end =
    omega (arith, le, is) in below_end used (start + 1024) le ∙ ap (unused_below used) e)
    (cases_lt (start + 1024) (length used)) in
    omega (arith, parts, to, last)

module _ (used : List Bool) (counts : List ℕ) (are : AreRuns used counts) where
  -- a run without any is marked
  pub run_full : (run t : ℕ) → run < length counts → get_or counts run 0 ≡ 0 → 1024 * run ≤ t → t < 1024 * run + 1024
      → t < length used → get_or used t false ≡ true
  run_full run t low none from below there =
      let e : unused_below used (1024 * run + 1024) ≡ unused_below used (1024 * run) =
      omega (arith, are.each run low, none) in
      none_between used (1024 * run) (1024 * run + 1024) t e from below there

  pub run_few : (run : ℕ) → run < length counts → get_or counts run 0 ≤ 921600
  run_few run low =
      let all : unused_count (take (1024 * run + 1024) used) + unused_count (drop (1024 * run + 1024) used)
      ≡ unused_count used = sum_by-take-drop bit used (1024 * run + 1024) in
      let most : unused_count used ≤ length used = count_by-le-length (λ u. not u) used in
      omega (arith, are.each run low, all, most, are.few)

  pub run_there : (s : ℕ) → s < length used → s / 1024 < length counts
  run_there s low = omega (arith, low, are.all)

  pub run_some : (s : ℕ) → s < length used → get_or used s false ≡ false → 0 < get_or counts (s / 1024) 0
  run_some s low unset =
      let some =
      some_between used (1024 * (s / 1024)) (1024 * (s / 1024) + 1024) s (omega arith) (omega arith) low unset in
      omega (arith, some, are.each (s / 1024) (run_there s low))

  pub runs_set : (s c : ℕ) (b : Bool) → s < length used → c + cond (get_or used s false) 0 1 ≡ get_or counts (s / 1024)
      0 + cond b 0 1 → AreRuns (set used s b) (set counts (s / 1024) c)
  runs_set s c b low is =
      let r = s / 1024 in
      let there = run_there s low in
      let now : c + bit (get_or used s false) ≡ get_or counts r 0 + bit b =
      omega (arith, is, bit_is (get_or used s false), bit_is b) in
      record {
        few = omega (arith, length-set used s b, are.few);
        all = omega (arith, length-set used s b, length-set counts r c, are.all);
        each = λ q lt.
            let q_low : q < length counts = omega (arith, lt, length-set counts r c) in
            let old = are.each q q_low in
            ⊎_elim
            (λ same.
            let at : get_or (set counts r c) q 0 ≡ c =
            ap (λ k. get_or (set counts r c) k 0) same ∙ get_or-set_same counts r c 0 there in
            let here : get_or counts q 0 ≡ get_or counts r 0 = ap (λ k. get_or counts k 0) same in
            let first = below_before used s (1024 * q) b (omega (arith, same)) in
            let last = below_behind used s (1024 * q + 1024) b (omega (arith, same)) low in
            omega (arith, at, here, first, last, old, now))
            (λ other.
            let at : get_or (set counts r c) q 0 ≡ get_or counts q 0 = get_or-set_other counts r q c 0 other in
            ⊎_elim
            (λ below. omega (
              arith,
              at,
              old,
              below_before used s (1024 * q) b (omega (arith, below)),
              below_before used s (1024 * q + 1024) b (omega (arith, below)),
            ))
            (λ from. omega (
              arith,
              at,
              old,
              below_behind used s (1024 * q) b (omega (arith, from, other)) low,
              below_behind used s (1024 * q + 1024) b (omega (arith, from, other)) low,
            ))
            (cases_lt q r))
            (cases_eq q r);
      }

-- of a sector, its byte and the count of its run, as they are read
module _ (bytes counts : List ℕ) (are : AreRuns (used_flags bytes) counts) (s count byte : ℕ) (low : s < length
    (used_flags bytes)) (counted : count ≡ get_or counts (s / 1024) count) (reads : byte ≡ get_or bytes s byte) where
  mark_read : not (byte == 0) ≡ get_or (used_flags bytes) s false
  mark_read =
      let there : s < length bytes = omega (arith, low, length_marked bytes) in
      ap (λ b. not (b == 0)) (get_or_read bytes s byte there reads 0) ∙ sym (marked_at bytes s)

  count_read : count ≡ get_or counts (s / 1024) 0
  count_read = get_or_read counts (s / 1024) count (run_there (used_flags bytes) counts are s low) counted 0

  pub read_few : count ≤ 921600
  read_few = omega (
    arith,
    run_few (used_flags bytes) counts are (s / 1024) (run_there (used_flags bytes) counts are s low),
    count_read,
  )

  pub read_some : not (byte == 0) ≡ false → 0 < count
  read_some unset = omega (arith, run_some (used_flags bytes) counts are s low (sym mark_read ∙ unset), count_read)

  pub use_set : (c mark : ℕ) (b : Bool) → mark ≡ from_bool b → c + cond (not (byte == 0)) 0 1 ≡ count + cond b 0 1
      → AreRuns (used_flags (set bytes s mark)) (set counts (s / 1024) c)
  use_set c mark b is turned =
      let was = ap {B = ℕ} (λ u. cond u 0 1) mark_read in
      subst (λ (used : List Bool). AreRuns used (set counts (s / 1024) c)) (sym (marked_set bytes s mark b is))
      (runs_set (used_flags bytes) counts are s c b low (omega (arith, turned, count_read, was)))

-- how many aren't marked, by the bytes
one_marked : (b : Bool) → bit (not b) ≡ cond b 1 0
one_marked true = refl
one_marked false = refl

count_marked : (bytes : List ℕ) → unused_count (used_flags bytes) ≡ count_by (λ byte. byte == 0) bytes
count_marked [] = refl
count_marked (byte ∷ more) = omega (
  arith,
  sum_by-cons bit (not (byte == 0)) (used_flags more),
  sum_by-cons (λ (b : ℕ). cond (b == 0) 1 0) byte more,
  one_marked (byte == 0),
  count_marked more,
)

-- a front has no more than the whole
pub below_all : (used : List Bool) (n : ℕ) → unused_below used n ≤ unused_count used
below_all used n = omega (arith, sum_by-take-drop bit used n)

-- part of the bytes has no more that aren't marked than the whole has after its start
pub room_counted : (bytes part : List ℕ) (start end : ℕ) → part ≡ take (end - start) (drop start bytes)
    → unused_below (used_flags bytes) start + count_by (λ byte. byte == 0) part ≤ unused_count (used_flags bytes)
room_counted bytes part start end is =
    let parts = part_counted (used_flags bytes) start (end - start) in
    let same : used_flags part ≡ take (end - start) (drop start (used_flags bytes)) =
    ap used_flags is ∙ sym (take-map (λ byte. not (byte == 0)) (end - start) (drop start bytes))
    ∙ ap (take (end - start)) (sym (drop-map (λ byte. not (byte == 0)) start bytes)) in
    let counted : unused_count (used_flags part) ≡ unused_count (take (end - start) (drop start (used_flags bytes))) =
    ap unused_count same in
    omega (arith, parts, counted, count_marked part, below_all (used_flags bytes) (start + (end - start)))
