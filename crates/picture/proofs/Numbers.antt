-- The number that at most 30 digits write is below 10 ^ 30.
use Rattle.std.proofs.Common.{◌≡◌, ◌≤◌, ◌<◌, ◌+◌, ◌-◌, ◌*◌, ◌^◌, ℕ, suc, Bool, true, false, if◌then◌else◌, List, []}
use Rattle.std.proofs.Common.{◌∷◌, length, refl, ap, arith, lit<, lit≤}
use Rattle.std.proofs.lemmas.Bool.Decides.{nat_tests}
use Rattle.std.proofs.Math.Nat.{one-le-pow, pow-le-pow_right, pow-succ', mul-le-mul_left}
use Rattle.picture.specs.Text.{is_digit, number_at}

digit_most : (byte : ℕ) → is_digit byte ≡ true → byte - 48 ≤ 9
digit_most byte e = grind (arith, nat_tests)

pub below_power : (v p : ℕ) → 1 ≤ p → v < (v + 1) * p
below_power v p h = let m = mul-le-mul_left (v + 1) h in omega arith

pub one_more : (v d p q : ℕ) → d ≤ 9 → q ≡ 10 * p → (v * 10 + d + 1) * p ≤ (v + 1) * q
one_more v d p q h e =
    let m = mul-le-mul_left p (a_most v d h) in rw e (omega (arith, m))
  where
    a_most : (v d : ℕ) → d ≤ 9 → v * 10 + d + 1 ≤ v * 10 + 10
    a_most v d h = omega arith

pub number_bound : (v : ℕ) (text : List ℕ) → (number_at v text).0 < (v + 1) * 10 ^ length text
unfolding number_at
number_bound v [] = below_power v 1 (lit≤ tt)
number_bound v (byte ∷ more) = go (is_digit byte) refl (number_bound (v * 10 + (byte - 48)) more)
  where
    go : (b : Bool) → is_digit byte ≡ b
        → (number_at (v * 10 + (byte - 48)) more).0 < (v * 10 + (byte - 48) + 1) * 10 ^ length more
        → (if b then number_at (v * 10 + (byte - 48)) more else (v, byte ∷ more)).0
        < (v + 1) * 10 ^ length (byte ∷ more)
    go true e h = let s = one_more v (byte - 48) (10 ^ length more) (10 ^ suc (length more)) (digit_most byte e)
        (pow-succ' 10 (length more)) in omega arith
    go false e h = below_power v (10 ^ suc (length more)) (one-le-pow (suc (length more)) 10 (lit< tt))

pub number_grows : (v : ℕ) (text : List ℕ) → v ≤ (number_at v text).0
unfolding number_at
number_grows v [] = omega arith
number_grows v (byte ∷ more) = go (is_digit byte) (number_grows (v * 10 + (byte - 48)) more)
  where
    go : (b : Bool) → v * 10 + (byte - 48) ≤ (number_at (v * 10 + (byte - 48)) more).0
        → v ≤ (if b then number_at (v * 10 + (byte - 48)) more else (v, byte ∷ more)).0
    go true h = omega arith
    go false h = omega arith

-- the number at each step of reading
pub read_bound : (v : ℕ) (rest text : List ℕ) → number_at v rest ≡ number_at 0 text → length text ≤ 30 → v < 10 ^ 30
read_bound v rest text e h =
    let grows = number_grows v rest in
    let same = ap (λ x. x.0) e in
    let most = number_bound 0 text in
    let power = pow-le-pow_right {n = 10} (lit< tt) h in
    omega arith
