use Rattle.std.proofs.Common.{◌≡◌, ℕ, zero, suc, ◌+◌, ◌-◌, ◌*◌, ◌/◌, ◌%◌, ◌^◌, ◌<◌, ◌≤◌, List, [], ◌∷◌, get_or, ap, sym}
use Rattle.std.proofs.Common.{◌∙◌, arith, nat_lt, inl, inr, subst, Some, None, if◌then◌else◌}
use Rattle.std.proofs.lemmas.Nat.{pow-add, mod-mul-add, div-add-mod', mod_below}
use Rattle.std.proofs.Math.Nat.{le-mul_of_pos_right, mul_comm, mul-lt-mul_of_pos_right, mul-le-mul_right}
use Rattle.std.proofs.lemmas.Bool.{cases_lt, le-ltb, lt-ltb}
use Rattle.decimal18.specs.TotalOrder.{ten_pos}

-- ten to k, k + 1, ..: n entries
abbrev pub powers_from : ℕ → ℕ → List ℕ
powers_from zero k = []
powers_from (suc n) k = 10 ^ k ∷ powers_from n (suc k)

entry : (n k i : ℕ) → i < n → get_or (powers_from n k) i 0 ≡ 10 ^ (k + i)
entry zero k i h = absurd (omega arith)
entry (suc n) k zero h = ap (λ e. 10 ^ e) (omega arith)
entry (suc n) k (suc i) h =
    let here : i < n = omega arith in
    entry n (suc k) i here ∙ ap (λ e. 10 ^ e) (omega arith)

pub entry_of_table : (n i : ℕ) → i < n → get_or (powers_from n 0) i 0 ≡ 10 ^ i
entry_of_table n i h = entry n 0 i h ∙ ap (λ e. 10 ^ e) (omega arith)

pub split_power : (k n : ℕ) → k ≤ n → 10 ^ n ≡ 10 ^ (n - k) * 10 ^ k
split_power k n h = let e : n ≡ (n - k) + k = omega arith in ap (λ x. 10 ^ x) e ∙ pow-add 10 (n - k) k

-- With k zeros after it a number stays below a power of ten exactly where it is below the power k places lower.
pub shifted_below : (m k n : ℕ) → k ≤ n → m < 10 ^ (n - k) → m * 10 ^ k < 10 ^ n
shifted_below m k n h below = rw (split_power k n h) (mul-lt-mul_of_pos_right below (ten_pos k))

pub shifted_above : (m k n : ℕ) → k ≤ n → 10 ^ (n - k) ≤ m → 10 ^ n ≤ m * 10 ^ k
shifted_above m k n h above = rw (split_power k n h) (mul-le-mul_right (10 ^ k) above)

pub shifted_test : (m k n : ℕ) → k ≤ n → nat_lt (m * 10 ^ k) (10 ^ n) ≡ nat_lt m (10 ^ (n - k))
shifted_test m k n h = elim (cases_lt m (10 ^ (n - k))) [
  | inl below ↦ lt-ltb _ _ (shifted_below m k n h below) ∙ sym (lt-ltb m (10 ^ (n - k)) below)
  | inr above ↦ le-ltb _ _ (shifted_above m k n h above) ∙ sym (le-ltb m (10 ^ (n - k)) above)
]

-- What `lengthened` answers, by the two sides of its test.
pub lengthened_some : (m k n p q : ℕ) → k ≤ n → p ≡ 10 ^ (n - k) → q ≡ 10 ^ k → m < p
    → Some (m * q) ≡ (if nat_lt (m * 10 ^ k) (10 ^ n) then Some (m * 10 ^ k) else None)
lengthened_some m k n p q h e f below =
    ap (λ t. Some (m * t)) f
    ∙ sym
    (ap (λ b. if b then Some (m * 10 ^ k) else None) (shifted_test m k n h ∙ ap (nat_lt m) (sym e) ∙ lt-ltb m p below))

pub lengthened_none : (m k n p : ℕ) → k ≤ n → p ≡ 10 ^ (n - k) → p ≤ m
    → None ≡ (if nat_lt (m * 10 ^ k) (10 ^ n) then Some (m * 10 ^ k) else None)
lengthened_none m k n p h e above =
    sym
    (ap (λ b. if b then Some (m * 10 ^ k) else None) (shifted_test m k n h ∙ ap (nat_lt m) (sym e) ∙ le-ltb m p above))

pub lengthened_below : (m k n p q : ℕ) → k ≤ n → p ≡ 10 ^ (n - k) → q ≡ 10 ^ k → m < p → m * q < 10 ^ n
lengthened_below m k n p q h e f below =
    subst (λ t. m * t < 10 ^ n) (sym f) (shifted_below m k n h (subst (λ t. m < t) e below))

pub power_le : (k n : ℕ) → k ≤ n → 10 ^ k ≤ 10 ^ n
power_le k n h =
    let e : 10 ^ n ≡ 10 ^ (n - k) * 10 ^ k = split_power k n h in
    subst (λ t. 10 ^ k ≤ t) (sym (e ∙ mul_comm (10 ^ (n - k)) (10 ^ k)))
    (le-mul_of_pos_right (10 ^ k) (ten_pos (n - k)))

spread : (a p t u : ℕ) → (a * p + t) * u ≡ a * (p * u) + t * u
spread a p t u = omega arith

-- The low digits of a number with zeros after it.
pub low_shifted : (m k n r p : ℕ) → k ≤ n → r ≡ m % 10 ^ (n - k) → p ≡ 10 ^ k → r * p ≡ m * 10 ^ k % 10 ^ n
low_shifted m k n r p h e f =
    let unit : 10 ^ n ≡ 10 ^ (n - k) * 10 ^ k = split_power k n h in
    let low : m % 10 ^ (n - k) * 10 ^ k < 10 ^ n =
    shifted_below (m % 10 ^ (n - k)) k n h (mod_below m (10 ^ (n - k)) (ten_pos (n - k))) in
    let whole : m / 10 ^ (n - k) * 10 ^ (n - k) + m % 10 ^ (n - k) ≡ m = div-add-mod' m (10 ^ (n - k)) in
    let split : m * 10 ^ k ≡ m / 10 ^ (n - k) * 10 ^ n + m % 10 ^ (n - k) * 10 ^ k =
    ap (λ t. t * 10 ^ k) (sym whole) ∙ spread (m / 10 ^ (n - k)) (10 ^ (n - k)) (m % 10 ^ (n - k)) (10 ^ k)
    ∙ ap (λ t. m / 10 ^ (n - k) * t + m % 10 ^ (n - k) * 10 ^ k) (sym unit) in
    ap (λ t. t * p) e ∙ ap (λ t. m % 10 ^ (n - k) * t) f
    ∙ sym (ap (λ t. t % 10 ^ n) split ∙ mod-mul-add (m / 10 ^ (n - k)) (10 ^ n) (m % 10 ^ (n - k) * 10 ^ k) low)

pub low_below : (k n r p : ℕ) → k ≤ n → r < 10 ^ (n - k) → p ≡ 10 ^ k → r * p < 10 ^ n
low_below k n r p h e f = subst (λ t. r * t < 10 ^ n) (sym f) (shifted_below r k n h e)

-- Half of a unit of 64 bits.
pub short_half : (k p : ℕ) → 0 < k → k ≤ 18 → p ≡ 10 ^ (k - 1) → 5 * p < 10 ^ 18
short_half k p some most e =
    let less : 10 ^ (k - 1) ≤ 10 ^ 17 = power_le (k - 1) 17 (omega arith) in
    omega (arith, less, e)
