-- The table that tells the number of a byte's two digits.
use Rattle.std.proofs.Common.{◌≡◌, ℕ, zero, suc, ◌+◌, ◌*◌, ◌/◌, ◌%◌, ◌<◌, ◌≤◌, ◌⊎◌, inl, inr, ◌&&◌, List, [], ◌∷◌}
use Rattle.std.proofs.Common.{get_or, nat_le, if◌then◌else◌, ap, ◌∙◌, arith}
use Rattle.std.proofs.lemmas.Bool.{cases_lt, le-leb, lt-leb, and_left, and_right}

-- The number of two digits, or 255.
abbrev pub pair_value : ℕ → ℕ
pair_value b = if nat_le (b / 16) 9 && nat_le (b % 16) 9 then 10 * (b / 16) + b % 16 else 255

abbrev pub values_from : ℕ → ℕ → List ℕ
values_from zero k = []
values_from (suc n) k = pair_value k ∷ values_from n (suc k)

value_at : (n k i d : ℕ) → i < n → get_or (values_from n k) i d ≡ pair_value (k + i)
value_at zero k i d h = absurd (omega arith)
value_at (suc n) k zero d h = ap pair_value (let e : k ≡ k + 0 = omega arith in e)
value_at (suc n) k (suc i) d h =
    let here : i < n = omega arith in
    value_at n (suc k) i d here ∙ ap pair_value (let e : suc k + i ≡ k + suc i = omega arith in e)

value_of_table : (i d : ℕ) → i < 256 → get_or (values_from 256 0) i d ≡ pair_value i
value_of_table i d h = value_at 256 0 i d h ∙ ap pair_value (let e : 0 + i ≡ i = omega arith in e)

abbrev Good : ℕ → Type 0
Good b = (b / 16 ≤ 9) × (b % 16 ≤ 9) × (pair_value b ≡ 10 * (b / 16) + b % 16)

abbrev Bad : ℕ → Type 0
Bad b = ((9 < b / 16) ⊎ ((b / 16 ≤ 9) × (9 < b % 16))) × (pair_value b ≡ 255)

by_halves : (b : ℕ) → Good b ⊎ Bad b
by_halves b = elim (cases_lt 9 (b / 16)) [
  | inl high ↦
      inr (inl high, ap (λ t. if t then 10 * (b / 16) + b % 16 else 255) (and_left _ _ (lt-leb (b / 16) 9 high)))
  | inr few ↦ elim (cases_lt 9 (b % 16)) [
    | inl low ↦ inr
        (inr (few, low), ap (λ t. if t then 10 * (b / 16) + b % 16 else 255) (and_right _ _ (lt-leb (b % 16) 9 low)))
    | inr less ↦ inl (
      few,
      less,
      ap (λ t. if t && nat_le (b % 16) 9 then 10 * (b / 16) + b % 16 else 255) (le-leb (b / 16) 9 few)
          ∙ ap (λ t. if t then 10 * (b / 16) + b % 16 else 255) (le-leb (b % 16) 9 less),
    )
  ]
]

pub pair_found : (b d : ℕ) → b < 256 → get_or (values_from 256 0) b d ≤ 99
    → (b / 16 ≤ 9) × (b % 16 ≤ 9) × (get_or (values_from 256 0) b d ≡ 10 * (b / 16) + b % 16)
pair_found b d within few = elim (by_halves b) [
  | inl h ↦ (h.0, h.1, value_of_table b d within ∙ h.2)
  | inr h ↦ absurd (omega (arith, value_of_table b d within, h.1, few))
]

pub no_pair_found : (b d : ℕ) → b < 256 → 99 < get_or (values_from 256 0) b d
    → (9 < b / 16) ⊎ ((b / 16 ≤ 9) × (9 < b % 16))
no_pair_found b d within more = elim (by_halves b) [
  | inl h ↦ absurd (omega (arith, value_of_table b d within, h.0, h.1, h.2, more))
  | inr h ↦ h.0
]
