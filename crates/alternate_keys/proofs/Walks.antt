-- Going through the alternate keys of a file.
use Rattle.std.proofs.Common.{◌≡◌, ◌<◌, ◌+◌, ◌&&◌, ◌||◌, Bool, true, false, not, ℕ, zero, suc, List, [], ◌∷◌, ◌++◌}
use Rattle.std.proofs.Common.{length, take, drop, refl, sym, ap, ◌∙◌, arith}
use Rattle.std.specs.Prelude.{filter, slice_index_or, if◌then◌else◌}
use Rattle.std.specs.List.{list_any}
use Rattle.std.proofs.lemmas.List.{length-append}

-- no key was gone through, and one more
pub drop_none : {X : Type 0} (xs : List X) → drop 0 xs ≡ xs
drop_none [] = refl
drop_none (x ∷ xs) = refl

pub length_more : (xs : List ℕ) (x : ℕ) {ys : List ℕ} {n : ℕ} → ys ≡ xs ++ x ∷ [] → length xs ≡ n
    → length ys ≡ n + 1
length_more xs x same count =
    let all = ap (λ (l : List ℕ). length l) same in
    let many = length-append xs (x ∷ []) in
    omega (arith, all, many, count)

any_append : {X : Type 0} (f : X → Bool) (xs ys : List X) → list_any f (xs ++ ys) ≡ (list_any f xs || list_any f ys)
any_append f [] ys = refl
any_append f (x ∷ xs) ys = ap (λ b. f x || b) (any_append f xs ys) ∙ or_three (f x) (list_any f xs) (list_any f ys)
  where
    or_three : (a b c : Bool) → (a || (b || c)) ≡ ((a || b) || c)
    or_three true b c = refl
    or_three false b c = refl

taken_one : {X : Type 0} (xs : List X) (k : ℕ) (d : X) → k < length xs
    → take (suc k) xs ≡ take k xs ++ slice_index_or xs k d ∷ []
taken_one [] k d low = absurd (omega (arith, low))
taken_one (x ∷ xs) zero d low = refl
taken_one (x ∷ xs) (suc k) d low = ap (λ l. x ∷ l) (taken_one xs k d (omega (arith, low)))

-- whether one of the first so many has it, and of one more
pub any_more : {X : Type 0} (f : X → Bool) (xs : List X) (k : ℕ) (d : X) → k < length xs
    → list_any f (take (k + 1) xs) ≡ (list_any f (take k xs) || f (slice_index_or xs k d))
any_more f xs k d low =
    ap (λ n. list_any f (take n xs)) (let e : k + 1 ≡ suc k = omega arith in e) ∙ ap (list_any f) (taken_one xs k d low)
    ∙ any_append f (take k xs) (slice_index_or xs k d ∷ [])
    ∙ ap (λ b. list_any f (take k xs) || b) (or_none (f (slice_index_or xs k d)))
  where
    or_none : (a : Bool) → (a || false) ≡ a
    or_none true = refl
    or_none false = refl

pub all_taken : {X : Type 0} (xs : List X) (n : ℕ) → n ≡ length xs → take n xs ≡ xs
all_taken xs n is = ap (λ k. take k xs) is ∙ whole xs
  where
    whole : {X : Type 0} (xs : List X) → take (length xs) xs ≡ xs
    whole [] = refl
    whole (x ∷ xs) = ap (λ l. x ∷ l) (whole xs)

-- one that is among the first is among all
or_first : (a b : Bool) → a ≡ true → (a || b) ≡ true
or_first a b is = ap (λ c. c || b) is

or_second : (a b : Bool) → b ≡ true → (a || b) ≡ true
or_second true b is = refl
or_second false b is = is

pub any_at : {X : Type 0} (f : X → Bool) (xs : List X) (k : ℕ) (d : X) → k < length xs
    → f (slice_index_or xs k d) ≡ true → list_any f xs ≡ true
any_at f [] k d low is = absurd (omega (arith, low))
any_at f (x ∷ xs) zero d low is = or_first (f x) (list_any f xs) is
any_at f (x ∷ xs) (suc k) d low is = or_second (f x) (list_any f xs) (any_at f xs k d (omega (arith, low)) is)

-- a value that is there and doesn't bar makes a duplicate
pub allowed : (duplicates repeated : Bool) → (not duplicates && repeated) ≡ false → (duplicates && repeated) ≡ repeated
allowed true repeated is = refl
allowed false repeated is = sym is

-- those that a filter leaves, among all
pub any_filtered : {X : Type 0} (n a r : X → Bool) (xs : List X)
    → list_any (λ x. a x && r x) (filter n xs) ≡ list_any (λ x. a x && (n x && r x)) xs
any_filtered n a r [] = refl
any_filtered n a r (x ∷ xs) = by (n x) (a x) (r x) refl refl refl (any_filtered n a r xs)
  where
    by : (b c d : Bool) → n x ≡ b → a x ≡ c → r x ≡ d
        → list_any (λ y. a y && r y) (filter n xs) ≡ list_any (λ y. a y && (n y && r y)) xs →
        list_any (λ y. a y && r y) (if b then x ∷ filter n xs else filter n xs)
        ≡ ((a x && (b && r x)) || list_any (λ y. a y && (n y && r y)) xs)
    by true c d is first second rest = ap (λ (e : Bool). (a x && r x) || e) rest
    by false true d is first second rest =
        rest ∙ sym (ap (λ (e : Bool). (e && false) || list_any (λ y. a y && (n y && r y)) xs) first)
    by false false d is first second rest =
        rest ∙ sym (ap (λ (e : Bool). (e && false) || list_any (λ y. a y && (n y && r y)) xs) first)
