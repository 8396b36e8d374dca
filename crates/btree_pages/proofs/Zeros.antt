-- The bytes of a page that name nothing are zeros.
use Rattle.std.proofs.Common.{◌≡◌, ◌≢◌, ◌⊎◌, inl, inr, ⊎_elim, ℕ, ◌+◌, ◌-◌, ◌*◌, ◌<◌, ◌≤◌, List, ◌++◌, length, set}
use Rattle.std.proofs.Common.{take, replicate, get_or, ap, ◌∙◌, arith, get_or-set_other}
use Rattle.std.specs.Prelude.{slice_index}
use Rattle.std.proofs.lemmas.Bool.{cases_lt}
use Rattle.std.proofs.lemmas.List.{append-nil, drop_all, get_or_append_left, get_or-append_right, get_or-replicate}
use Rattle.std.proofs.lemmas.List.{get_or_past, length-replicate, length-take-le}
use Rattle.btree_pages.specs.Bytes.{put_at}
use Rattle.btree_pages.specs.Node.{rows_in}
use Rattle.btree_pages.proofs.Rows.{rows_in-front, rows_in-take}

pub zeros_at : (n place : ℕ) → ◌≡◌ {A = ℕ} (get_or (replicate n 0) place 0) 0
zeros_at n place = ⊎_elim (λ low. get_or-replicate {A = ℕ} n place 0 0 low)
    (λ past. get_or_past (replicate n 0) place 0 (omega (arith, past, length-replicate {A = ℕ} n 0))) (cases_lt place n)

-- three bytes of zeros are set
pub head_zeros : (a b c place : ℕ) → (place ≡ 1) ⊎ (4 ≤ place)
    → get_or (set (set (set (replicate 16 0) 0 a) 2 b) 3 c) place 0 ≡ 0
head_zeros a b c place there =
    let first : place ≢ 0 = λ is. ⊎_elim (λ one. omega (arith, is, one)) (λ four. omega (arith, is, four)) there in
    let third : place ≢ 2 = λ is. ⊎_elim (λ one. omega (arith, is, one)) (λ four. omega (arith, is, four)) there in
    let fourth : place ≢ 3 = λ is. ⊎_elim (λ one. omega (arith, is, one)) (λ four. omega (arith, is, four)) there in
    get_or-set_other (set (set (replicate 16 0) 0 a) 2 b) 3 place c 0 fourth
    ∙ get_or-set_other (set (replicate 16 0) 0 a) 2 place b 0 third
    ∙ get_or-set_other (replicate 16 0) 0 place a 0 first
    ∙ zeros_at 16 place

-- what follows a place is put as zeros
pub front_is : (end : ℕ) (bytes : List ℕ) → length bytes ≡ 4080 → end ≤ 4080
    → put_at end (replicate (4080 - end) 0) bytes ≡ take end bytes ++ replicate (4080 - end) 0
front_is end bytes count le =
    ap (λ (l : List ℕ). take end bytes ++ (replicate (4080 - end) 0 ++ l)) (drop_all
    (end + length (replicate (4080 - end) 0)) bytes (omega (arith, count, le, length-replicate {A = ℕ} (4080 - end) 0)))
    ∙ ap (λ (l : List ℕ). take end bytes ++ l) (append-nil (replicate (4080 - end) 0))

-- the rows before it are the same
pub front_rows : (row n end more : ℕ) (bytes : List ℕ) → end ≡ n * row → end ≤ length bytes
    → rows_in row n (take end bytes ++ replicate more 0) ≡ rows_in row n bytes
front_rows row n end more bytes is le =
    rows_in-front row n (take end bytes) (replicate more 0) (omega (arith, is, length-take-le end bytes le))
    ∙ rows_in-take row n end bytes is le

-- a page of such a head and such rows
pub page_zeros : (head bytes page : List ℕ) (end more place : ℕ) → page ≡ head ++ (take end bytes ++ replicate more 0)
    → length head ≡ 16 → end ≤ length bytes → ((p : ℕ) → (p ≡ 1) ⊎ (4 ≤ p) → slice_index head p ≡ 0)
    → (place ≡ 1) ⊎ ((4 ≤ place) × (place < 16)) ⊎ (16 + end ≤ place) → slice_index page place ≡ 0
page_zeros head bytes page end more place is count le zeros (inl one) =
    ap (λ (l : List ℕ). get_or l place 0) is ∙ get_or_append_left head (take end bytes ++ replicate more 0) 0 place
    (omega (arith, one, count)) ∙ zeros place (inl one)
page_zeros head bytes page end more place is count le zeros (inr (inl four)) =
    ap (λ (l : List ℕ). get_or l place 0) is ∙ get_or_append_left head (take end bytes ++ replicate more 0) 0 place
    (omega (arith, four.1, count)) ∙ zeros place (inr four.0)
page_zeros head bytes page end more place is count le zeros (inr (inr behind)) =
    ap (λ (l : List ℕ). get_or l place 0) is
    ∙ get_or-append_right head (take end bytes ++ replicate more 0) 16 place 0 count (omega (arith, behind))
    ∙ get_or-append_right (take end bytes) (replicate more 0) end (place - 16) 0 (length-take-le end bytes le)
    (omega (arith, behind))
    ∙ zeros_at more (place - 16 - end)
