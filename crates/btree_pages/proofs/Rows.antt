-- Rows of one length, one after the other.
use Rattle.std.proofs.Common.{◌≡◌, ℕ, zero, suc, ◌+◌, ◌*◌, ◌<◌, ◌≤◌, List, [], ◌∷◌, ◌++◌, length, take, drop, get_or}
use Rattle.std.proofs.Common.{refl, sym, ap, ◌∙◌, arith}
use Rattle.std.proofs.lemmas.List.{drop-drop, length-drop, length-take-le, take-append-le, take-append-drop}
use Rattle.std.proofs.lemmas.List.{drop-append-le}
use Rattle.std.proofs.lemmas.List.Elements.{All-cons, All-nil}
use Rattle.std.specs.List.{All}
use Rattle.btree_pages.specs.Node.{rows_in}

pub length-rows_in : (row n : ℕ) (bytes : List ℕ) → length (rows_in row n bytes) ≡ n
length-rows_in row zero bytes = refl
length-rows_in row (suc n) bytes = ap suc (length-rows_in row n (drop row bytes))

-- the row at a place
pub get_or-rows_in : (row n place : ℕ) (bytes : List ℕ) → place < n
    → get_or (rows_in row n bytes) place [] ≡ take row (drop (place * row) bytes)
get_or-rows_in row zero place bytes lt = absurd (omega arith)
get_or-rows_in row (suc n) zero bytes lt = let e : 0 * row ≡ 0 = omega arith in rw e refl
get_or-rows_in row (suc n) (suc place) bytes lt =
    let e : suc place * row ≡ row + place * row = omega arith in
    get_or-rows_in row n place (drop row bytes) (omega arith) ∙ rw (e, drop-drop) refl

-- the rows before a place, and those from it on
pub take-rows_in : (row place n : ℕ) (bytes : List ℕ) → place ≤ n
    → take place (rows_in row n bytes) ≡ rows_in row place bytes
take-rows_in row zero n bytes le = refl
take-rows_in row (suc place) zero bytes le = absurd (omega arith)
take-rows_in row (suc place) (suc n) bytes le =
    ap (λ (rows : List (List ℕ)). take row bytes ∷ rows) (take-rows_in row place n (drop row bytes) (omega arith))

pub drop-rows_in : (row place more n at : ℕ) (bytes : List ℕ) → n ≡ place + more → at ≡ place * row
    → drop place (rows_in row n bytes) ≡ rows_in row more (drop at bytes)
drop-rows_in row zero more n at bytes en ea =
    let same : n ≡ more = omega arith in
    let start : at ≡ 0 = omega arith in
    rw (same, start) refl
drop-rows_in row (suc place) more zero at bytes en ea = absurd (omega arith)
drop-rows_in row (suc place) more (suc n) at bytes en ea =
    let e : at ≡ row + place * row = omega arith in
    drop-rows_in row place more n (place * row) (drop row bytes) (omega arith) refl ∙ rw (e, drop-drop) refl

-- each row has the length, where the bytes are enough
pub lengths-rows_in : (row n : ℕ) (bytes : List ℕ) → n * row ≤ length bytes
    → All (λ one. length one ≡ row) (rows_in row n bytes)
lengths-rows_in row zero bytes le = All-nil (λ one. length one ≡ row)
lengths-rows_in row (suc n) bytes le =
    let room : row ≤ length bytes = omega arith in
    All-cons (λ one. length one ≡ row) (take row bytes) (rows_in row n (drop row bytes)) (length-take-le row bytes room)
    (lengths-rows_in row n (drop row bytes) (omega (arith, length-drop row bytes)))

-- what follows the rows is none of them
pub rows_in-front : (row n : ℕ) (front tail : List ℕ) → n * row ≤ length front
    → rows_in row n (front ++ tail) ≡ rows_in row n front
rows_in-front row zero front tail le = refl
rows_in-front row (suc n) front tail le =
    let room : row ≤ length front = omega arith in
    rw (
      take-append-le row front tail room,
      drop-append-le row front tail room,
      rows_in-front row n (drop row front) tail (omega (arith, length-drop row front)),
    ) refl

-- rows after rows
pub rows_in-append : (row n more all : ℕ) (front tail : List ℕ) → all ≡ n + more → length front ≡ n * row
    → rows_in row all (front ++ tail) ≡ rows_in row n front ++ rows_in row more tail
rows_in-append row zero more all [] tail e l = let same : all ≡ more = omega arith in rw same refl
rows_in-append row zero more all (x ∷ front) tail e l = absurd (omega arith)
rows_in-append row (suc n) more zero front tail e l = absurd (omega arith)
rows_in-append row (suc n) more (suc all) front tail e l =
    let room : row ≤ length front = omega arith in
    rw (
      take-append-le row front tail room,
      drop-append-le row front tail room,
      rows_in-append row n more all (drop row front) tail (omega arith) (omega (arith, length-drop row front)),
    ) refl

-- so many rows have so many bytes
pub rows_in-take : (row n at : ℕ) (bytes : List ℕ) → at ≡ n * row → at ≤ length bytes
    → rows_in row n (take at bytes) ≡ rows_in row n bytes
rows_in-take row n at bytes e le =
    sym (rows_in-front row n (take at bytes) (drop at bytes) (omega (arith, length-take-le at bytes le)))
    ∙ ap (λ (all : List ℕ). rows_in row n all) (take-append-drop at bytes)
