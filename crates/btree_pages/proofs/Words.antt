-- Keys of which eight bytes are compared as one number.
use Rattle.std.proofs.Common.{◌≡◌, ◌≤◌, ◌<◌, ◌+◌, ◌*◌, ◌^◌, ℕ, zero, suc, List, [], ◌∷◌, length, take, drop}
use Rattle.std.proofs.Common.{refl, sym, ap, ◌∙◌, arith, slice_index}
use Rattle.std.specs.Ordering.{nat_cmp, ordering_then}
use Rattle.std.specs.Cmp.{nat_cmp_is}
use Rattle.std.proofs.lemmas.List.{length-drop, take-take, take_all}
use Rattle.std.specs.declared.cmp.Ordering.{Ordering}
use Rattle.std.specs.declared.cmp.Ordering.TheVariants.{Less, Equal, Greater}
use Rattle.byteorder.specs.Endian.{big_from}
use Rattle.byteorder.specs.Numbers.{big_from-cons, big_from-lt}
use Rattle.btree_pages.specs.Keys.{key_cmp}
use Rattle.btree_pages.proofs.Numbers.{digits, then_assoc}
use Rattle.btree_pages.proofs.Order.{same_key}

abbrev pub IsBytes : List ℕ → Type 0
IsBytes xs = (k : ℕ) → slice_index xs k < 256

-- the first n bytes compare as the numbers that they spell
pub words : (n : ℕ) (xs ys : List ℕ) → n ≤ length xs → n ≤ length ys → IsBytes xs → IsBytes ys
    → key_cmp (take n xs) (take n ys) ≡ nat_cmp (big_from 0 n xs) (big_from 0 n ys)
words zero xs ys long longer low lower = refl
words (suc n) [] ys long longer low lower = absurd (omega (arith, long))
words (suc n) (x ∷ xs) [] long longer low lower = absurd (omega (arith, longer))
words (suc n) (x ∷ xs) (y ∷ ys) long longer low lower =
    let ones : IsBytes xs = λ k. low (suc k) in
    let others : IsBytes ys = λ k. lower (suc k) in
    ap (ordering_then (nat_cmp x y)) (words n xs ys (omega (arith, long)) (omega (arith, longer)) ones others)
    ∙ digits x y (big_from 0 n xs) (big_from 0 n ys) (256 ^ n) (big_from-lt 0 n xs ones) (big_from-lt 0 n ys others)
    ∙ ap (λ b. nat_cmp (x * 256 ^ n + b) (y * 256 ^ n + big_from 0 n ys)) (sym (big_from-cons 0 n x xs))
    ∙ ap (λ b. nat_cmp (x * 256 ^ n + big_from 1 n (x ∷ xs)) (y * 256 ^ n + b)) (sym (big_from-cons 0 n y ys))

-- keys compare by their first k bytes, and then by the others
pub first_decides : (k : ℕ) (xs ys : List ℕ) → k ≤ length xs → k ≤ length ys
    → key_cmp xs ys ≡ ordering_then (key_cmp (take k xs) (take k ys)) (key_cmp (drop k xs) (drop k ys))
first_decides zero xs ys long longer = refl
first_decides (suc k) [] ys long longer = absurd (omega (arith, long))
first_decides (suc k) (x ∷ xs) [] long longer = absurd (omega (arith, longer))
first_decides (suc k) (x ∷ xs) (y ∷ ys) long longer =
    ap (ordering_then (nat_cmp x y)) (first_decides k xs ys (omega (arith, long)) (omega (arith, longer)))
    ∙ sym (then_assoc (nat_cmp x y) (key_cmp (take k xs) (take k ys)) (key_cmp (drop k xs) (drop k ys)))

-- what is known of the first bytes
pub decided : (k : ℕ) (xs ys : List ℕ) (o : Ordering) → k ≤ length xs → k ≤ length ys
    → key_cmp (take k xs) (take k ys) ≡ o → key_cmp xs ys ≡ ordering_then o (key_cmp (drop k xs) (drop k ys))
decided k xs ys o long longer is =
    first_decides k xs ys long longer ∙ ap (λ r. ordering_then r (key_cmp (drop k xs) (drop k ys))) is

-- a key compares as equal to itself
reflexive : (xs : List ℕ) → key_cmp xs xs ≡ Equal
reflexive [] = refl
reflexive (x ∷ xs) =
    ap (λ (o : Ordering). ordering_then o (key_cmp xs xs)) (sym (nat_cmp_is x x Equal refl)) ∙ reflexive xs

alike : (xs ys : List ℕ) → xs ≡ ys → key_cmp xs ys ≡ Equal
alike xs ys e = ap (key_cmp xs) (sym e) ∙ reflexive xs

-- keys of which the first bytes are equal compare by the others
pub past : (k : ℕ) (xs ys : List ℕ) → k ≤ length xs → k ≤ length ys → take k xs ≡ take k ys
    → key_cmp xs ys ≡ key_cmp (drop k xs) (drop k ys)
past k xs ys long longer e = decided k xs ys Equal long longer (alike (take k xs) (take k ys) e)

-- the last word may overlap the first one
pub overlapping : (k : ℕ) (xs ys : List ℕ) → k ≤ 8 → length xs ≡ k + 8 → length ys ≡ k + 8
    → take 8 xs ≡ take 8 ys → key_cmp xs ys ≡ key_cmp (take 8 (drop k xs)) (take 8 (drop k ys))
overlapping k xs ys few long longer e =
    let one : take k (take 8 xs) ≡ take k xs = take-take k 8 xs few in
    let other : take k (take 8 ys) ≡ take k ys = take-take k 8 ys few in
    let whole : take 8 (drop k xs) ≡ drop k xs = take_all 8 (drop k xs) (omega (arith, long, length-drop k xs)) in
    let wholly : take 8 (drop k ys) ≡ drop k ys = take_all 8 (drop k ys) (omega (arith, longer, length-drop k ys)) in
    past k xs ys (omega (arith, long)) (omega (arith, longer)) (sym one ∙ ap (take k) e ∙ other)
    ∙ ap (λ (l : List ℕ). key_cmp l (drop k ys)) (sym whole)
    ∙ ap (key_cmp (take 8 (drop k xs))) (sym wholly)

pub same_first : (k : ℕ) (xs ys : List ℕ) → key_cmp (take k xs) (take k ys) ≡ Equal → take k xs ≡ take k ys
same_first k xs ys e = same_key (take k xs) (take k ys) e
