-- All the digits of a number are its decimal text, with zeros in front.
use Rattle.std.proofs.Common.{◌≡◌, ℕ, zero, suc, ◌+◌, ◌-◌, ◌*◌, ◌/◌, ◌%◌, ◌^◌, ◌<◌, ◌≤◌, List, [], ◌∷◌, ◌++◌, length}
use Rattle.std.proofs.Common.{replicate, refl, ap, sym, ◌∙◌, arith, append_assoc, length-append, take, drop}
use Rattle.std.specs.Fmt.{decimal}
use Rattle.std.proofs.lemmas.Fmt.{decimal_by_steps}
use Rattle.std.proofs.lemmas.List.{append-nil, take-append-drop, take-replicate, drop_all, length-replicate}
use Rattle.std.proofs.Math.Nat.{zero-div, div-div-eq-div-mul, pow-suc, pow-le-pow_right}
use Rattle.decimal18.specs.Digits.{digit_of, digit_text}

zero_digits : (count : ℕ) → digit_text count 0 ≡ replicate count 48
zero_digits zero = refl
zero_digits (suc count) =
    ap (λ t. (48 + t % 10) ∷ digit_text count 0) (zero-div (10 ^ count)) ∙ ap (λ t. 48 ∷ t) (zero_digits count)

-- a digit in front of the last one is one of n / 10
front_digit : (n place : ℕ) → digit_of n (suc place) ≡ digit_of (n / 10) place
front_digit n place =
    let turned : 10 ^ place * 10 ≡ 10 * 10 ^ place = omega arith in
    ap (λ t. n / t % 10) (pow-suc 10 place ∙ turned) ∙ sym (ap (λ t. t % 10) (div-div-eq-div-mul n 10 (10 ^ place)))

last_digit : (n count : ℕ) → digit_text (suc count) n ≡ digit_text count (n / 10) ++ (48 + n % 10) ∷ []
last_digit n zero = ap (λ t. (48 + t % 10) ∷ []) (let same : n / 1 ≡ n = omega arith in same)
last_digit n (suc count) =
    ap (λ d. (48 + d) ∷ digit_text (suc count) n) (front_digit n count)
    ∙ ap (λ t. (48 + digit_of (n / 10) count) ∷ t) (last_digit n count)

abbrev IsPadded : ℕ → List ℕ → Type 0
IsPadded n ds = (count : ℕ) → 0 < count → n < 10 ^ count → digit_text count n ≡ replicate (count - length ds) 48 ++ ds

one_digit : (n : ℕ) → n < 10 → IsPadded n ((48 + n) ∷ [])
one_digit n small zero some room = absurd (omega arith)
one_digit n small (suc count) some room =
    let none : n / 10 ≡ 0 = omega arith in
    let same : n % 10 ≡ n = omega arith in
    let zeros : count ≡ suc count - 1 = omega arith in
    last_digit n count ∙ ap (λ t. digit_text count t ++ (48 + n % 10) ∷ []) none
    ∙ ap (λ t. t ++ (48 + n % 10) ∷ []) (zero_digits count)
    ∙ ap (λ d. replicate count 48 ++ (48 + d) ∷ []) same ∙ ap (λ k. replicate k 48 ++ (48 + n) ∷ []) zeros

more_digits : (n : ℕ) (ds : List ℕ) → 10 ≤ n → IsPadded (n / 10) ds → IsPadded n (ds ++ ((48 + n % 10) ∷ []))
more_digits n ds most padded zero some room = absurd (omega arith)
more_digits n ds most padded (suc zero) some room = absurd (omega arith)
more_digits n ds most padded (suc (suc count)) some room =
    let last = (48 + n % 10) ∷ [] in
    let zeros : suc count - length ds ≡ suc (suc count) - length (ds ++ last) = omega (arith, length-append ds last) in
    last_digit n (suc count) ∙ ap (λ t. t ++ last) (padded (suc count) (omega arith) (omega arith))
    ∙ append_assoc (replicate (suc count - length ds) 48) ds last ∙ ap (λ k. replicate k 48 ++ (ds ++ last)) zeros

pub padded_text : (count n : ℕ) → 0 < count → n < 10 ^ count → n < 2 ^ 64
    → digit_text count n ≡ replicate (count - length (decimal n)) 48 ++ decimal n
padded_text count n some room short = decimal_by_steps IsPadded one_digit more_digits n short count some room

-- the text written at the end of so many zeros
pub written : (count start n m : ℕ) (zeros new : List ℕ) → zeros ≡ replicate count 48
    → n ≡ m → start + length (decimal n) ≡ count → drop start new ≡ decimal n ++ drop count zeros
    → take start new ≡ take start zeros → 0 < count → n < 10 ^ count → n < 2 ^ 64 → new ≡ digit_text count m
written count start n m zeros new filled same end text front some room short =
    let before : take start new ≡ replicate (count - length (decimal n)) 48 =
    front ∙ ap (take start) filled ∙ take-replicate start count 48 (omega arith)
    ∙ ap (λ k. replicate k 48) (let e : start ≡ count - length (decimal n) = omega arith in e) in
    let none : drop count zeros ≡ [] =
    ap (drop count) filled ∙ drop_all count (replicate count 48) (omega (arith, length-replicate {A = ℕ} count 48)) in
    let after : drop start new ≡ decimal n = text ∙ ap (λ t. decimal n ++ t) none ∙ append-nil (decimal n) in
    sym (take-append-drop start new) ∙ ap (λ t. t ++ drop start new) before
    ∙ ap (λ t. replicate (count - length (decimal n)) 48 ++ t) after
    ∙ sym (padded_text count n some room short) ∙ ap (digit_text count) same

-- a number of so many digits, at most 18
pub below : (count n m : ℕ) → n ≡ m → m < 10 ^ count → count ≤ 18 → (n < 10 ^ count) × (n < 2 ^ 64)
below count n m same room most =
    let greatest : 10 ^ count ≤ 10 ^ 18 = pow-le-pow_right (let some : 0 < 10 = omega arith in some) most in
    (omega (arith, same, room), omega (arith, same, room, greatest))
