-- Elements of a list with one more, and of the rest of a list.
use Rattle.std.proofs.Common.{◌≡◌, ℕ, zero, suc, ◌+◌, ◌⊎◌, inl, inr, List, [], ◌∷◌, ◌++◌, length, drop, Some, refl, sym}
use Rattle.std.proofs.Common.{ap, arith}
use Rattle.std.specs.Prelude.{slice_get}

some_is : {A : Type 0} (a b : A) → Some a ≡ Some b → a ≡ b
some_is a b e = cc

pub pushed_here : {A : Type 0} (xs : List A) (x : A) → slice_get (xs ++ x ∷ []) (length xs) ≡ Some x
pushed_here [] x = refl
pushed_here (y ∷ xs) x = pushed_here xs x

pub pushed_left : {A : Type 0} (xs : List A) (x v : A) (at : ℕ) → slice_get xs at ≡ Some v
    → slice_get (xs ++ x ∷ []) at ≡ Some v
pushed_left [] x v at e = let no : ⊥ = cc in absurd no
pushed_left (y ∷ xs) x v zero e = e
pushed_left (y ∷ xs) x v (suc at) e = pushed_left xs x v at e

pub pushed_cases : {A : Type 0} (xs : List A) (x v : A) (at : ℕ) → slice_get (xs ++ x ∷ []) at ≡ Some v
    → (slice_get xs at ≡ Some v) ⊎ ((at ≡ length xs) × (v ≡ x))
pushed_cases [] x v zero e = inr (refl, sym (some_is x v e))
pushed_cases [] x v (suc at) e = let no : ⊥ = cc in absurd no
pushed_cases (y ∷ xs) x v zero e = inl e
pushed_cases (y ∷ xs) x v (suc at) e = elim (pushed_cases xs x v at e) [ inl h ↦ inl h | inr h ↦ inr (ap suc h.0, h.1) ]

pub dropped_at : {A : Type 0} (xs : List A) (n i at : ℕ) → at ≡ n + i → slice_get (drop n xs) i ≡ slice_get xs at
dropped_at [] zero i at e = refl
dropped_at [] (suc n) i at e = refl
dropped_at (x ∷ xs) zero i at e = let same : i ≡ at = omega arith in ap (slice_get (x ∷ xs)) same
dropped_at (x ∷ xs) (suc n) i zero e = absurd (omega arith)
dropped_at (x ∷ xs) (suc n) i (suc at) e = dropped_at xs n i at (omega arith)
