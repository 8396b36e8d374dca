-- Padded names have the order of names.
use Rattle.std.proofs.Common.{◌≡◌, ◌≤◌, ◌-◌, ℕ, zero, suc, true, ◌&&◌, List, [], ◌∷◌, ◌++◌, length, sym, ap, ◌∙◌, arith}
use Rattle.std.proofs.Common.{nat_le}
use Rattle.std.specs.Prelude.{replicate}
use Rattle.std.specs.List.{list_all}
use Rattle.std.proofs.lemmas.Bool.{leb-true}
use Rattle.std.specs.Ordering.{nat_cmp, ordering_then}
use Rattle.std.specs.Cmp.{nat_cmp_is}
use Rattle.std.specs.declared.cmp.Ordering.{Ordering}
use Rattle.std.specs.declared.cmp.Ordering.TheVariants.{Less, Greater}
use Rattle.std.proofs.lemmas.Cmp.{nat_list_cmp_total, tied_itself}
use Rattle.btree_pages.specs.Keys.{key_cmp}
use Rattle.records.specs.Spec.{is_letter, is_name}
use Rattle.records.specs.Rows.{bytes_cmp}
use Rattle.file_bytes.specs.Description.{padded_name, filled_to}
use Rattle.records.proofs.Places.{both}

below_first : (n y : ℕ) (ys : List ℕ) → 1 ≤ n → 1 ≤ y → key_cmp (replicate n 0) (y ∷ ys) ≡ Less
below_first zero y ys some letter = absurd (omega arith)
below_first (suc n) y ys some letter =
    ap (λ (o : Ordering). ordering_then o (key_cmp (replicate n 0) ys)) (sym (nat_cmp_is 0 y Less (omega arith)))

above_first : (n x : ℕ) (xs : List ℕ) → 1 ≤ n → 1 ≤ x → key_cmp (x ∷ xs) (replicate n 0) ≡ Greater
above_first zero x xs some letter = absurd (omega arith)
above_first (suc n) x xs some letter =
    ap (λ (o : Ordering). ordering_then o (key_cmp xs (replicate n 0))) (sym (nat_cmp_is x 0 Greater (omega arith)))

letter : (x : ℕ) (xs : List ℕ) → list_all is_letter (x ∷ xs) ≡ true → 1 ≤ x
letter x xs all = leb-true 1 x (both (nat_le 1 x) _ (both (is_letter x) _ all).0).0

pub filled_in_order : (n : ℕ) (one two : List ℕ) → length one ≤ n → length two ≤ n → list_all is_letter one ≡ true
    → list_all is_letter two ≡ true → key_cmp (filled_to n one) (filled_to n two) ≡ bytes_cmp one two
filled_in_order n [] [] fits fits_too first second = tied_itself nat_list_cmp_total (filled_to n [])
filled_in_order n [] (y ∷ ys) fits fits_too first second =
    below_first (n - 0) y (ys ++ replicate (n - length (y ∷ ys)) 0) (omega (arith, fits_too)) (letter y ys second)
filled_in_order n (x ∷ xs) [] fits fits_too first second =
    above_first (n - 0) x (xs ++ replicate (n - length (x ∷ xs)) 0) (omega (arith, fits)) (letter x xs first)
filled_in_order zero (x ∷ xs) (y ∷ ys) fits fits_too first second = absurd (omega (arith, fits))
filled_in_order (suc n) (x ∷ xs) (y ∷ ys) fits fits_too first second =
    let less : suc n - length (x ∷ xs) ≡ n - length xs = omega arith in
    let less_too : suc n - length (y ∷ ys) ≡ n - length ys = omega arith in
    ap (λ k. key_cmp (x ∷ xs ++ replicate k 0) (filled_to (suc n) (y ∷ ys))) less
    ∙ ap (λ k. key_cmp (x ∷ xs ++ replicate (n - length xs) 0) (y ∷ ys ++ replicate k 0)) less_too
    ∙ ap (ordering_then (nat_cmp x y)) (filled_in_order n xs ys (omega (arith, fits)) (omega (arith, fits_too))
    (both (is_letter x) _ first).1 (both (is_letter y) _ second).1)

fits : (name : List ℕ) → is_name name ≡ true → length name ≤ 30
fits name is = leb-true (length name) 30
    (both (nat_le 1 (length name)) _ (both (nat_le 1 (length name) && nat_le (length name) 30) _ is).0).1

letters : (name : List ℕ) → is_name name ≡ true → list_all is_letter name ≡ true
letters name is = (both (nat_le 1 (length name) && nat_le (length name) 30) _ is).1

pub names_in_order : (one two : List ℕ) → is_name one ≡ true → is_name two ≡ true
    → key_cmp (padded_name one) (padded_name two) ≡ bytes_cmp one two
names_in_order one two first second =
    filled_in_order 30 one two (fits one first) (fits two second) (letters one first) (letters two second)
