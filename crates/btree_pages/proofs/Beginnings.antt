-- Keys that begin with some bytes, and their place among the others.
use Rattle.std.proofs.Common.{◌≡◌, ◌<◌, ◌+◌, ℕ, zero, suc, false, List, [], ◌∷◌, ◌++◌, length, refl, arith}
use Rattle.std.specs.Prelude.{take, replicate}
use Rattle.std.specs.List.{All}
use Rattle.std.proofs.lemmas.List.Elements.{All-head, All-tail}
use Rattle.std.proofs.lemmas.Cmp.{ranked}
use Rattle.std.specs.Ordering.{nat_cmp, ordering_then, is_lt, is_gt}
use Rattle.std.specs.declared.cmp.Ordering.{Ordering}
use Rattle.std.specs.declared.cmp.Ordering.TheVariants.{Less, Equal, Greater}
use Rattle.btree_pages.specs.Keys.{key_cmp}

-- a key from zeros on, and a key after the greatest bytes
zeros_by : (o : Ordering) (x : ℕ) (r : Ordering) → o ≡ nat_cmp x 0 → is_lt r ≡ false → is_lt (ordering_then o r) ≡ false
zeros_by Less x r is rest = let low : x < 0 = ranked x 0 Less is in absurd (omega arith)
zeros_by Equal x r is rest = rest
zeros_by Greater x r is rest = refl

pub zeros_least : (count : ℕ) (key : List ℕ) → length key ≡ count → is_lt (key_cmp key (replicate count 0)) ≡ false
zeros_least zero [] is = refl
zeros_least zero (x ∷ key) is = absurd (omega (arith, is))
zeros_least (suc n) [] is = absurd (omega (arith, is))
zeros_least (suc n) (x ∷ key) is =
    zeros_by (nat_cmp x 0) x (key_cmp key (replicate n 0)) refl (zeros_least n key (omega (arith, is)))

pub then_same_lt : (o r s : Ordering) → is_lt r ≡ is_lt s → is_lt (ordering_then o r) ≡ is_lt (ordering_then o s)
then_same_lt Less r s same = refl
then_same_lt Equal r s same = same
then_same_lt Greater r s same = refl

then_same_gt : (o r s : Ordering) → is_gt r ≡ is_gt s → is_gt (ordering_then o r) ≡ is_gt (ordering_then o s)
then_same_gt Less r s same = refl
then_same_gt Equal r s same = same
then_same_gt Greater r s same = refl

pub low_fill : (start key : List ℕ) (count : ℕ) → length key ≡ length start + count
    → is_lt (key_cmp key (start ++ replicate count 0)) ≡ is_lt (key_cmp (take (length start) key) start)
low_fill [] key count is = zeros_least count key (omega (arith, is))
low_fill (s ∷ start) [] count is = absurd (omega (arith, is))
low_fill (s ∷ start) (x ∷ key) count is = then_same_lt (nat_cmp x s) (key_cmp key (start ++ replicate count 0))
    (key_cmp (take (length start) key) start) (low_fill start key count (omega (arith, is)))

greatest_by : (o : Ordering) (x : ℕ) (r : Ordering) → o ≡ nat_cmp x 255 → x < 256 → is_gt r ≡ false
    → is_gt (ordering_then o r) ≡ false
greatest_by Less x r is low rest = refl
greatest_by Equal x r is low rest = rest
greatest_by Greater x r is low rest = let high : 255 < x = ranked x 255 Greater is in absurd (omega arith)

none_above : (count : ℕ) (key : List ℕ) → length key ≡ count → All (λ byte. byte < 256) key
    → is_gt (key_cmp key (replicate count 255)) ≡ false
none_above zero [] is low = refl
none_above zero (x ∷ key) is low = absurd (omega (arith, is))
none_above (suc n) [] is low = absurd (omega (arith, is))
none_above (suc n) (x ∷ key) is low =
    greatest_by (nat_cmp x 255) x (key_cmp key (replicate n 255)) refl (All-head (λ byte. byte < 256) x key low)
    (none_above n key (omega (arith, is)) (All-tail (λ byte. byte < 256) x key low))

pub high_fill : (start key : List ℕ) (count : ℕ) → length key ≡ length start + count → All (λ byte. byte < 256) key
    → is_gt (key_cmp key (start ++ replicate count 255)) ≡ is_gt (key_cmp (take (length start) key) start)
high_fill [] key count is low = none_above count key (omega (arith, is)) low
high_fill (s ∷ start) [] count is low = absurd (omega (arith, is))
high_fill (s ∷ start) (x ∷ key) count is low =
    then_same_gt (nat_cmp x s) (key_cmp key (start ++ replicate count 255)) (key_cmp (take (length start) key) start)
    (high_fill start key count (omega (arith, is)) (All-tail (λ byte. byte < 256) x key low))
