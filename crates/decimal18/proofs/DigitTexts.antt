-- Digits written from the last to the first, and a number's digits in two parts.
use Rattle.std.proofs.Common.{◌≡◌, ℕ, zero, suc, ◌+◌, ◌-◌, ◌*◌, ◌/◌, ◌%◌, ◌^◌, ◌<◌, ◌≤◌, List, [], ◌∷◌, ◌++◌, get_or}
use Rattle.std.proofs.Common.{length, drop, ap, sym, ◌∙◌, arith, add-one, refl, inl, inr}
use Rattle.std.proofs.lemmas.Bool.{cases_lt}
use Rattle.std.proofs.Math.ListN.{set}
use Rattle.std.proofs.Math.Nat.{div-mul-le_self, div-div-eq-div-mul, pow-suc, mul-add-div_right, mul-add-mod_self_right}
use Rattle.std.proofs.Math.Nat.{mul_assoc}
use Rattle.std.proofs.lemmas.List.{drop-set, drop_all}
use Rattle.std.proofs.lemmas.Nat.{pow-add, div-add-mod'}
use Rattle.decimal18.specs.Digits.{digit_text, digit_of}
use Rattle.decimal18.specs.TotalOrder.{ten_pos}

pub none_written : (n size : ℕ) (xs : List ℕ) → size ≡ length xs → drop (size - 0) xs ≡ digit_text 0 n
none_written n size xs e = drop_all (size - 0) xs (omega arith)

pub rest_divided : (n place rest : ℕ) → rest ≡ n / 10 ^ place → rest / 10 ≡ n / 10 ^ (place + 1)
rest_divided n place rest e =
    ap (λ t. t / 10) e ∙ div-div-eq-div-mul n (10 ^ place) 10
    ∙ ap (λ t. n / t) (sym (pow-suc 10 place) ∙ ap (λ k. 10 ^ k) (sym (add-one place)))

-- One more digit in front of those that are written.
pub digit_written : (n place rest i size : ℕ) (xs : List ℕ) → rest ≡ n / 10 ^ place → size ≡ length xs
    → place < size → i ≡ size - 1 - place → drop (size - place) xs ≡ digit_text place n
    → drop (size - (place + 1)) (set xs i (48 + rest % 10)) ≡ digit_text (place + 1) n
digit_written n place rest i size xs e s h at written =
    let here : size - (place + 1) ≡ i = omega arith in
    let next : i + 1 ≡ size - place = omega arith in
    let room : i < length xs = omega arith in
    ap (λ k. drop k (set xs i (48 + rest % 10))) here ∙ drop-set xs i (48 + rest % 10) room
    ∙ ap (λ k. (48 + rest % 10) ∷ drop k xs) next ∙ ap (λ t. (48 + rest % 10) ∷ t) written
    ∙ ap (λ t. (48 + t % 10) ∷ digit_text place n) e ∙ ap (λ k. digit_text k n) (sym (add-one place))

pub all_written : (n place size : ℕ) (xs : List ℕ) → place ≡ size → drop (size - place) xs ≡ digit_text place n
    → xs ≡ digit_text size n
all_written n place size xs e written =
    let none : size - place ≡ 0 = omega arith in
    sym (ap (λ k. drop k xs) none) ∙ written ∙ ap (λ k. digit_text k n) e

-- The digits in front of the last k are those of n / 10^k.
front_digit : (n place k : ℕ) → digit_of n (place + k) ≡ digit_of (n / 10 ^ k) place
front_digit n place k =
    let same : place + k ≡ k + place = omega arith in
    ap (λ t. n / t % 10) (ap (λ j. 10 ^ j) same ∙ pow-add 10 k place)
    ∙ sym (ap (λ t. t % 10) (div-div-eq-div-mul n (10 ^ k) (10 ^ place)))

pub text_split : (n front k : ℕ) → digit_text (front + k) n ≡ digit_text front (n / 10 ^ k) ++ digit_text k n
text_split n zero k = ap (λ j. digit_text j n) (let e : 0 + k ≡ k = omega arith in e)
text_split n (suc front) k =
    let one : suc front + k ≡ suc (front + k) = omega arith in
    ap (λ j. digit_text j n) one ∙ ap (λ d. (48 + d) ∷ digit_text (front + k) n) (front_digit n front k)
    ∙ ap (λ t. (48 + digit_of (n / 10 ^ k) front) ∷ t) (text_split n front k)

-- The last k digits don't depend on what is in front of them.
low_digit : (high low place j : ℕ) → digit_of (high * 10 ^ (suc j + place) + low) place ≡ digit_of low place
low_digit high low place j =
    let power : 10 ^ (suc j + place) ≡ 10 ^ j * 10 * 10 ^ place =
    pow-add 10 (suc j) place ∙ ap (λ t. t * 10 ^ place) (pow-suc 10 j) in
    let whole : high * 10 ^ (suc j + place) ≡ high * 10 ^ j * 10 * 10 ^ place =
    ap (λ t. high * t) power ∙ sym (mul_assoc high (10 ^ j * 10) (10 ^ place))
    ∙ ap (λ t. t * 10 ^ place) (sym (mul_assoc high (10 ^ j) 10)) in
    ap (λ t. (t + low) / 10 ^ place % 10) whole
    ∙ ap (λ t. t % 10) (mul-add-div_right (ten_pos place) (high * 10 ^ j * 10) low)
    ∙ mul-add-mod_self_right (high * 10 ^ j) 10 (low / 10 ^ place)

pub low_text : (high low k count : ℕ) → count ≤ k → digit_text count (high * 10 ^ k + low) ≡ digit_text count low
low_text high low k zero h = refl
low_text high low k (suc count) h =
    let j = k - suc count in
    let all : k ≡ suc j + count = omega arith in
    let below : count ≤ k = omega arith in
    ap (λ t. (48 + digit_of (high * 10 ^ t + low) count) ∷ digit_text count (high * 10 ^ k + low)) all
    ∙ ap (λ d. (48 + d) ∷ digit_text count (high * 10 ^ k + low)) (low_digit high low count j)
    ∙ ap (λ t. (48 + digit_of low count) ∷ t) (low_text high low k count below)

-- A number's last digits in two parts, the second of at most k digits.
pub text_in_parts : (n high low k size front back : ℕ) → n ≡ high * 10 ^ k + low → high ≡ n / 10 ^ k → front ≡ size - k
    → back ≡ size - front → digit_text front high ++ digit_text back low ≡ digit_text size n
text_in_parts n high low k size front back e f g h = elim (cases_lt k size) [
  | inl more ↦
      let all : size ≡ front + k = omega arith in
      let last : back ≡ k = omega arith in
      let most : k ≤ k = omega arith in
      ap (λ t. digit_text front t ++ digit_text back low) f
      ∙ ap (λ j. digit_text front (n / 10 ^ k) ++ digit_text j low) last
      ∙ ap (λ t. digit_text front (n / 10 ^ k) ++ t) (sym (ap (digit_text k) e ∙ low_text high low k k most))
      ∙ sym (ap (λ j. digit_text j n) all ∙ text_split n front k)
  | inr less ↦
      let none : front ≡ 0 = omega arith in
      let all : back ≡ size = omega arith in
      ap (λ j. digit_text j high ++ digit_text back low) none ∙ ap (λ j. digit_text j low) all
      ∙ sym (ap (digit_text size) e ∙ low_text high low k size less)
]

-- The same for a number whose parts code has found.
pub written_in_parts : (n m u size front back : ℕ) (one two : List ℕ) → m ≡ n → u ≡ 10 ^ 19
    → one ≡ digit_text front (m / u) → two ≡ digit_text back (m - m / u * u) → front ≡ size - 19 → back ≡ size - front
    → one ++ two ≡ digit_text size n
written_in_parts n m u size front back one two same unit e f g h =
    let low : m / u * u ≤ m = div-mul-le_self m u in
    let whole : m ≡ m / u * u + (m - m / u * u) = omega (arith, low) in
    let parts : n ≡ m / u * 10 ^ 19 + (m - m / u * u) = sym same ∙ whole ∙ ap (λ t. m / u * t + (m - m / u * u)) unit in
    let high : m / u ≡ n / 10 ^ 19 = ap (λ t. t / u) same ∙ ap (λ t. n / t) unit in
    ap (λ t. t ++ two) e ∙ ap (λ t. digit_text front (m / u) ++ t) f
    ∙ text_in_parts n (m / u) (m - m / u * u) 19 size front back parts high g h

-- ---- digits written in two halves

-- A number's last digits in two parts, of which each is that of a smaller number.
pub text_halves : (n front back : ℕ) (one two : List ℕ) → one ≡ digit_text front (n / 10 ^ back)
    → two ≡ digit_text back (n % 10 ^ back) → one ++ two ≡ digit_text (front + back) n
text_halves n front back one two e f =
    let whole : n / 10 ^ back * 10 ^ back + n % 10 ^ back ≡ n = div-add-mod' n (10 ^ back) in
    let most : back ≤ back = omega arith in
    ap (λ t. t ++ two) e ∙ ap (λ t. digit_text front (n / 10 ^ back) ++ t) f
    ∙ ap (λ t. digit_text front (n / 10 ^ back) ++ t) (sym (low_text (n / 10 ^ back) (n % 10 ^ back) back back most)
    ∙ ap (digit_text back) whole)
    ∙ sym (text_split n front back)

-- ---- the table of pairs

abbrev pub pairs_from : ℕ → ℕ → List (List ℕ)
pairs_from zero k = []
pairs_from (suc n) k = digit_text 2 k ∷ pairs_from n (suc k)

pub pair_at : (n k i : ℕ) (d : List ℕ) → i < n → get_or (pairs_from n k) i d ≡ digit_text 2 (k + i)
pair_at zero k i d h = absurd (omega arith)
pair_at (suc n) k zero d h = ap (digit_text 2) (let e : k ≡ k + 0 = omega arith in e)
pair_at (suc n) k (suc i) d h =
    let here : i < n = omega arith in
    pair_at n (suc k) i d here ∙ ap (digit_text 2) (let e : suc k + i ≡ k + suc i = omega arith in e)

pub pair_of_table : (i : ℕ) (d : List ℕ) → i < 100 → get_or (pairs_from 100 0) i d ≡ digit_text 2 i
pair_of_table i d h = pair_at 100 0 i d h ∙ ap (digit_text 2) (let e : 0 + i ≡ i = omega arith in e)

-- ---- no digit, and one

pub empty_text : (n : ℕ) (xs : List ℕ) → length xs ≡ 0 → xs ≡ digit_text (length xs) n
empty_text n [] e = refl
empty_text n (x ∷ xs) e = absurd (omega (arith, e))

pub last_text : (n : ℕ) (xs : List ℕ) → length xs ≡ 1 → set xs 0 (48 + n % 10) ≡ digit_text (length xs) n
last_text n [] e = absurd (omega (arith, e))
last_text n (x ∷ []) e = ap (λ d. (48 + d % 10) ∷ []) (let same : n ≡ n / 1 = omega arith in same)
last_text n (x ∷ y ∷ xs) e = absurd (omega (arith, e))

-- ---- a pair, a digit at a time

pub pair_written : (n a b : ℕ) (xs ps : List ℕ) → length xs ≡ 2 → ps ≡ digit_text 2 n → a ≡ get_or ps 0 0
    → b ≡ get_or ps 1 0 → set (set xs 0 a) 1 b ≡ digit_text 2 n
pair_written n a b (x ∷ y ∷ []) ps size is first second =
    ap (λ t. t ∷ b ∷ []) (first ∙ ap (λ t. get_or t 0 0) is)
    ∙ ap (λ t. (48 + digit_of n 1) ∷ t ∷ []) (second ∙ ap (λ t. get_or t 1 0) is)
pair_written n a b [] ps size is first second = absurd (omega (arith, size))
pair_written n a b (x ∷ []) ps size is first second = absurd (omega (arith, size))
pair_written n a b (x ∷ y ∷ z ∷ xs) ps size is first second = absurd (omega (arith, size))
