-- The greatest number up to a bound that passes a test.
use Rattle.std.proofs.Common.{◌≡◌, ℕ, zero, suc, ◌<◌, ◌≤◌, Bool, true, false, ap, sym, ◌∙◌, arith, Some, None}
use Rattle.std.proofs.Common.{if◌then◌else◌, inl, inr, subst}
use Rattle.std.proofs.Math.Nat.{eq-or-lt_of_le}
use Rattle.decimal18.specs.Quotient.{greatest}

here : (test : ℕ → Bool) (n : ℕ) → test n ≡ true → greatest test n ≡ Some n
unfolding greatest
here test zero h = ap (λ b. if b then Some zero else None) h
here test (suc n) h = ap (λ b. if b then Some (suc n) else greatest test n) h

pub greatest_is : (test : ℕ → Bool) (n q : ℕ) → q ≤ n → test q ≡ true → ((r : ℕ) → q < r → r ≤ n → test r ≡ false)
    → greatest test n ≡ Some q
unfolding greatest
greatest_is test zero q h passes above = let same : q ≡ zero =
    omega arith in subst (λ m. test m ≡ true → greatest test zero ≡ Some m) (sym same) (here test zero) passes
greatest_is test (suc n) q h passes above = elim (eq-or-lt_of_le h) [
  | inl same ↦ subst (λ m. test m ≡ true → greatest test (suc n) ≡ Some m) (sym same) (here test (suc n)) passes
  | inr less ↦
      let most : suc n ≤ suc n = omega arith in
      let lower : q ≤ n = omega arith in
      ap (λ b. if b then Some (suc n) else greatest test n) (above (suc n) less most)
      ∙ greatest_is test n q lower passes (λ r a b. let under : r ≤ suc n = omega arith in above r a under)
]

pub greatest_never : (test : ℕ → Bool) (n : ℕ) → ((r : ℕ) → r ≤ n → test r ≡ false) → greatest test n ≡ None
unfolding greatest
greatest_never test zero none = ap (λ b. if b then Some zero else None) (none zero (omega arith))
greatest_never test (suc n) none =
    let most : suc n ≤ suc n = omega arith in
    ap (λ b. if b then Some (suc n) else greatest test n) (none (suc n) most)
    ∙ greatest_never test n (λ r a. let under : r ≤ suc n = omega arith in none r under)
