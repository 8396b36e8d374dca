-- The first dropped digit decides as the dropped part against half a unit does.
use Rattle.std.proofs.Common.{◌≡◌, ℕ, zero, suc, ◌+◌, ◌-◌, ◌*◌, ◌/◌, ◌%◌, ◌^◌, ◌<◌, ◌≤◌, ap, sym, ◌∙◌, arith, subst}
use Rattle.std.proofs.Common.{inl, inr, if◌then◌else◌}
use Rattle.std.proofs.lemmas.Bool.{cases_lt, lt-leb, le-leb}
use Rattle.std.proofs.lemmas.Nat.{div-add-mod', mod_below}
use Rattle.std.proofs.Math.Nat.{div-div-eq-div-mul, pow-suc, mul-le-mul_right}
use Rattle.decimal18.specs.TotalOrder.{ten_pos}
use Rattle.decimal18.specs.Receiver.{carry}
use Rattle.decimal18.specs.declared.receiver.Rounding.{Rounding}
use Rattle.decimal18.specs.declared.receiver.Rounding.TheVariants.{Rounded}

-- Of m, what is dropped below the unit 10 * p is the digit at p, and what is below p.
rest_is : (m p : ℕ) → m - m / (p * 10) * (p * 10) ≡ m / p % 10 * p + m % p
rest_is m p =
    let quotient : m / (p * 10) ≡ m / p / 10 = sym (div-div-eq-div-mul m p 10) in
    let whole : m / p * p + m % p ≡ m = div-add-mod' m p in
    let digits : m / p / 10 * 10 + m / p % 10 ≡ m / p = div-add-mod' (m / p) 10 in
    let scaled : (m / p / 10 * 10 + m / p % 10) * p ≡ m / p * p = ap (λ n. n * p) digits in
    ap (λ n. m - n * (p * 10)) quotient ∙ omega (arith, whole, scaled)

high : (d p t : ℕ) → t < p → 5 * p ≤ d * p + t → 5 ≤ d
high d p t small h = elim (cases_lt d 5) [
  | inl below ↦ absurd (let most : d ≤ 4 = omega arith in omega (arith, mul-le-mul_right p most))
  | inr above ↦ above
]

not_high : (d p t : ℕ) → d * p + t < 5 * p → d < 5
not_high d p t h =
    elim (cases_lt d 5) [ inl below ↦ below | inr above ↦ absurd (omega (arith, mul-le-mul_right p above)) ]

unit_of : (j : ℕ) → 10 ^ suc j ≡ 10 ^ j * 10
unit_of j = pow-suc 10 j

pub rounded_up : (m k : ℕ) → 0 < k → 5 * 10 ^ (k - 1) ≤ m - m / 10 ^ k * 10 ^ k → carry Rounded m k ≡ 1
rounded_up m zero h above = absurd (omega arith)
rounded_up m (suc j) h above =
    let before : suc j - 1 ≡ j = omega arith in
    let there : 5 * 10 ^ j ≤ m / 10 ^ j % 10 * 10 ^ j + m % 10 ^ j =
    subst (λ n. 5 * 10 ^ j ≤ n) (ap (λ u. m - m / u * u) (unit_of j) ∙ rest_is m (10 ^ j))
    (subst (λ n. 5 * 10 ^ n ≤ m - m / 10 ^ suc j * 10 ^ suc j) before above) in
    let five : 5 ≤ m / 10 ^ j % 10 = high _ (10 ^ j) _ (mod_below m (10 ^ j) (ten_pos j)) there in
    ap (λ b. if b then 1 else 0) (le-leb _ _ five)

pub not_rounded : (m k : ℕ) → 0 < k → m - m / 10 ^ k * 10 ^ k < 5 * 10 ^ (k - 1) → carry Rounded m k ≡ 0
not_rounded m zero h below = absurd (omega arith)
not_rounded m (suc j) h below =
    let before : suc j - 1 ≡ j = omega arith in
    let there : m / 10 ^ j % 10 * 10 ^ j + m % 10 ^ j < 5 * 10 ^ j =
    subst (λ n. n < 5 * 10 ^ j) (ap (λ u. m - m / u * u) (unit_of j) ∙ rest_is m (10 ^ j))
    (subst (λ n. m - m / 10 ^ suc j * 10 ^ suc j < 5 * 10 ^ n) before below) in
    let less : m / 10 ^ j % 10 < 5 = not_high _ (10 ^ j) _ there in
    ap (λ b. if b then 1 else 0) (lt-leb _ _ less)

-- What `shortened` answers, by the two sides of its test.
pub shortened_up : (rounding : Rounding) (m k u half v : ℕ) → rounding ≡ Rounded → 0 < k → u ≡ 10 ^ k
    → half ≡ 10 ^ (k - 1) → v ≡ m / u → 5 * half ≤ m - v * u → v + 1 ≡ m / 10 ^ k + carry rounding m k
shortened_up rounding m k u half v r h e f g above =
    let value : v ≡ m / 10 ^ k = g ∙ ap (λ t. m / t) e in
    let rest : m - v * u ≡ m - m / 10 ^ k * 10 ^ k = ap (λ t. m - t * u) value ∙ ap (λ t. m - m / 10 ^ k * t) e in
    let over : 5 * 10 ^ (k - 1) ≤ m - m / 10 ^ k * 10 ^ k =
    subst (λ t. 5 * 10 ^ (k - 1) ≤ t) rest (subst (λ t. 5 * t ≤ m - v * u) f above) in
    let one : carry rounding m k ≡ 1 = ap (λ t. carry t m k) r ∙ rounded_up m k h over in
    ap (λ t. t + 1) value ∙ ap (λ t. m / 10 ^ k + t) (sym one)

pub shortened_same : (rounding : Rounding) (m k u half v : ℕ) → rounding ≡ Rounded → 0 < k → u ≡ 10 ^ k
    → half ≡ 10 ^ (k - 1) → v ≡ m / u → m - v * u < 5 * half → v ≡ m / 10 ^ k + carry rounding m k
shortened_same rounding m k u half v r h e f g below =
    let value : v ≡ m / 10 ^ k = g ∙ ap (λ t. m / t) e in
    let rest : m - v * u ≡ m - m / 10 ^ k * 10 ^ k = ap (λ t. m - t * u) value ∙ ap (λ t. m - m / 10 ^ k * t) e in
    let under : m - m / 10 ^ k * 10 ^ k < 5 * 10 ^ (k - 1) =
    subst (λ t. t < 5 * 10 ^ (k - 1)) rest (subst (λ t. m - v * u < 5 * t) f below) in
    let none : carry rounding m k ≡ 0 = ap (λ t. carry t m k) r ∙ not_rounded m k h under in
    value ∙ omega (arith, none)
