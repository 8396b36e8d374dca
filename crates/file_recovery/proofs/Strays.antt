-- Pages that are used.
use Rattle.std.proofs.Common.{◌≡◌, ◌≢◌, ◌<◌, ◌≤◌, ◌+◌, ⊎_elim, ℕ, Bool, true, false, List, length, refl, subst, arith}
use Rattle.std.specs.Prelude.{Option, Some, None, is_some, slice_index_or}
use Rattle.std.proofs.lemmas.Bool.{cases_lt}
use Rattle.std.proofs.lemmas.List.{get_or_past}
use Rattle.station.specs.Disk.{Sector}
use Rattle.file_recovery.specs.Covered.{IsCovered}

pub some_used : {A : Type 0} (o : Option A) → is_some o ≡ true → o ≢ None
some_used None is = cc
some_used (Some x) is = λ same. cc

pub none_used : {A : Type 0} {B : Type 0} (o : Option A) → is_some o ≡ false → o ≢ None → B
none_used None is used = absurd (used refl)
none_used (Some x) is used = cc

-- each page below a place is covered; and those of one more; and all
abbrev pub CoveredBelow : List (Option Sector) → List Bool → ℕ → Type 0
CoveredBelow pages seen n =
    (page : ℕ) → page < n → slice_index_or pages page None ≢ None → slice_index_or seen page false ≡ true

pub covered_none : (pages : List (Option Sector)) (seen : List Bool) → CoveredBelow pages seen 0
covered_none pages seen = λ page low used. absurd (omega (arith, low))

pub covered_more : (pages : List (Option Sector)) (seen : List Bool) (n : ℕ) → CoveredBelow pages seen n
    → (slice_index_or pages n None ≢ None → slice_index_or seen n false ≡ true) → CoveredBelow pages seen (n + 1)
covered_more pages seen n below here = λ page low used.
    ⊎_elim (λ (less : page < n). below page less used)
    (λ (least : n ≤ page).
    let same : n ≡ page = omega (arith, least, low) in
    subst (λ (k : ℕ). slice_index_or pages k None ≢ None → slice_index_or seen k false ≡ true) same here used)
    (cases_lt page n)

pub covered_all : (pages : List (Option Sector)) (seen : List Bool) (n : ℕ) → length pages ≤ n
    → CoveredBelow pages seen n → IsCovered pages seen
covered_all pages seen n whole below = λ page used.
    ⊎_elim (λ (less : page < n). below page less used)
    (λ (least : n ≤ page). absurd (used (get_or_past pages page None (omega (arith, least, whole)))))
    (cases_lt page n)
