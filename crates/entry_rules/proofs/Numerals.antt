-- The number of a literal's digits.
use Rattle.std.proofs.Common.{◌≡◌, ℕ, ◌+◌, ◌-◌, ◌*◌, ◌^◌, ◌<◌, ◌≤◌, Bool, true, false, ◌&&◌, if◌then◌else◌, List, []}
use Rattle.std.proofs.Common.{◌∷◌, ◌++◌, None, Some, refl, sym, ap, ◌∙◌, arith, lit<}
use Rattle.std.specs.Prelude.{Option, IfSome}
use Rattle.std.specs.Char.{is_ascii_digit}
use Rattle.std.specs.List.{list_all}
use Rattle.std.proofs.Math.Nat.{pow-le-pow_right, mul-le-mul_right}
use Rattle.std.proofs.lemmas.Nat.{pow-add}
use Rattle.decimal18.specs.Digits.{digits_after, number_after}

behind_joined : (n : ℕ) (xs ys : List ℕ) → digits_after n (xs ++ ys) ≡ digits_after (digits_after n xs) ys
behind_joined n [] ys = refl
behind_joined n (x ∷ xs) ys = behind_joined (10 * n + (x - 48)) xs ys

pub power_most : (n : ℕ) → n ≤ 18 → 10 ^ n ≤ 10 ^ 18
power_most n h = pow-le-pow_right (lit< tt) h

-- a number below 10^w, and d digits after it
pub digits_fit : (front w d : ℕ) → front < 1 * 10 ^ w → w + d ≤ 18 → (front + 1) * 10 ^ d ≤ 10 ^ 18
digits_fit front w d h within =
    let most = power_most (w + d) within in
    let whole : front + 1 ≤ 10 ^ w = omega arith in
    let times = mul-le-mul_right (10 ^ d) whole in
    let split = pow-add 10 w d in
    omega arith

value_by : (b c : Bool) (front : ℕ) (whole decimals : List ℕ) (read : Option ℕ) → list_all is_ascii_digit whole ≡ b
    → list_all is_ascii_digit decimals ≡ c
    → Some front ≡ (if b then Some (digits_after 0 whole) else None)
    → read ≡ (if c then Some (digits_after front decimals) else None)
    → read ≡ (if b && c then Some (digits_after 0 (whole ++ decimals)) else None)
value_by true true front whole decimals read eb ec is told =
    let same : front ≡ digits_after 0 whole = cc in
    told ∙ ap (λ n. Some (digits_after n decimals)) same ∙ ap Some (sym (behind_joined 0 whole decimals))
value_by true false front whole decimals read eb ec is told = told
value_by false c front whole decimals read eb ec is told = cc

pub number_of_both : (front : ℕ) (whole decimals : List ℕ) (read : Option ℕ) → Some front ≡ number_after 0 whole
    → read ≡ number_after front decimals
    → read ≡ (if list_all is_ascii_digit whole && list_all is_ascii_digit decimals
    then Some (digits_after 0 (whole ++ decimals)) else None)
number_of_both front whole decimals read is told = value_by (list_all is_ascii_digit whole)
    (list_all is_ascii_digit decimals) front whole decimals read refl refl is told

pub bound_of : (read : Option ℕ) (most : ℕ) → most ≤ 10 ^ 18 → IfSome read (λ n. n < most)
    → IfSome read (λ n. n < 10 ^ 18)
bound_of None most h b = tt
bound_of (Some n) most h b = omega (arith, b)
