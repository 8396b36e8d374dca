-- The order of numbers as keys, and of keys of two parts.
use Rattle.std.proofs.Common.{◌≡◌, ◌≤◌, ◌<◌, ◌+◌, ◌*◌, ◌/◌, ◌%◌, ◌^◌, ℕ, zero, suc, List, [], ◌∷◌, ◌++◌, length, lit<}
use Rattle.std.proofs.Common.{refl, sym, ap, ◌∙◌, arith}
use Rattle.std.proofs.Math.Nat.{add-mul, add_assoc, div-add-mod', div-one, mod-eq_of_lt, mod-lt, mul-add-mod_self_right}
use Rattle.std.proofs.Math.Nat.{mul-le-mul_right, mul_assoc, one-le-pow, pow-succ'}
use Rattle.std.specs.Ordering.{nat_cmp, ordering_then, MatchOrdering}
use Rattle.std.specs.declared.cmp.Ordering.{Ordering}
use Rattle.std.specs.declared.cmp.Ordering.TheVariants.{Less, Equal, Greater}
use Rattle.std.specs.Cmp.{nat_cmp_is}
use Rattle.std.proofs.lemmas.Cmp.{ranked}
use Rattle.std.specs.Int.{byte_at}
use Rattle.byteorder.specs.Endian.{big_bytes}
use Rattle.btree_pages.specs.Keys.{key_cmp}

pub then_assoc : (a b c : Ordering) → ordering_then (ordering_then a b) c ≡ ordering_then a (ordering_then b c)
then_assoc Less b c = refl
then_assoc Equal b c = refl
then_assoc Greater b c = refl

pub then_equal : (a : Ordering) → ordering_then a Equal ≡ a
then_equal Less = refl
then_equal Equal = refl
then_equal Greater = refl

-- lists of which the first parts are of one length
pub cmp_append : (a c b d : List ℕ) → length a ≡ length c
    → key_cmp (a ++ b) (c ++ d) ≡ ordering_then (key_cmp a c) (key_cmp b d)
cmp_append [] [] b d count = refl
cmp_append [] (y ∷ c) b d count = absurd (omega (arith, count))
cmp_append (x ∷ a) [] b d count = absurd (omega (arith, count))
cmp_append (x ∷ a) (y ∷ c) b d count =
    ap (ordering_then (nat_cmp x y)) (cmp_append a c b d (omega (arith, count)))
    ∙ sym (then_assoc (nat_cmp x y) (key_cmp a c) (key_cmp b d))

same_high : (a b b2 c : ℕ) (r : Ordering) → MatchOrdering r (b < b2) (b ≡ b2) (b2 < b)
    → MatchOrdering r (a * c + b < a * c + b2) (a * c + b ≡ a * c + b2) (a * c + b2 < a * c + b)
same_high a b b2 c Less is = omega (arith, is)
same_high a b b2 c Equal is = ap (λ n. a * c + n) is
same_high a b b2 c Greater is = omega (arith, is)

lower : (a a2 b b2 c : ℕ) → b < c → a < a2 → a * c + b < a2 * c + b2
lower a a2 b b2 c low less =
    let top : (a + 1) * c ≤ a2 * c = mul-le-mul_right c (omega arith) in
    let expand : (a + 1) * c ≡ a * c + 1 * c = add-mul a 1 c in
    omega arith

by_high : (a a2 b b2 c : ℕ) (r : Ordering) → b < c → b2 < c → MatchOrdering r (a < a2) (a ≡ a2) (a2 < a)
    → ordering_then r (nat_cmp b b2) ≡ nat_cmp (a * c + b) (a2 * c + b2)
by_high a a2 b b2 c Less low low2 is = nat_cmp_is (a * c + b) (a2 * c + b2) Less (lower a a2 b b2 c low is)
by_high a a2 b b2 c Equal low low2 is =
    nat_cmp_is (a * c + b) (a * c + b2) (nat_cmp b b2)
    (same_high a b b2 c (nat_cmp b b2) (ranked b b2 (nat_cmp b b2) refl))
    ∙ ap (λ n. nat_cmp (a * c + b) (n * c + b2)) is
by_high a a2 b b2 c Greater low low2 is = nat_cmp_is (a * c + b) (a2 * c + b2) Greater (lower a2 a b2 b c low2 is)

-- two numbers of two digits each
pub digits : (a a2 b b2 c : ℕ) → b < c → b2 < c
    → ordering_then (nat_cmp a a2) (nat_cmp b b2) ≡ nat_cmp (a * c + b) (a2 * c + b2)
digits a a2 b b2 c low low2 = by_high a a2 b b2 c (nat_cmp a a2) low low2 (ranked a a2 (nat_cmp a a2) refl)

pub byte_at_power : (k x : ℕ) → byte_at k x ≡ x / 256 ^ k % 256
byte_at_power zero x = ap (λ (y : ℕ). y % 256) (sym (div-one x))
byte_at_power (suc k) x = refl

-- the two low digits of n, to the bases c and then m
split : (n m c : ℕ) → zero < m → zero < c → n % (m * c) ≡ (n / c % m) * c + n % c
split n m c hm hc =
    let a = mod-lt (n / c) hm in
    let b = mod-lt n hc in
    let top : (n / c % m + 1) * c ≤ m * c = mul-le-mul_right c (omega arith) in
    let expand : (n / c % m + 1) * c ≡ n / c % m * c + 1 * c = add-mul (n / c % m) 1 c in
    let parts : n ≡ n / c / m * (m * c) + (n / c % m * c + n % c) =
    sym (div-add-mod' n c)
    ∙ ap (λ (x : ℕ). x * c + n % c) (sym (div-add-mod' (n / c) m))
    ∙ ap (λ (x : ℕ). x + n % c)
    (add-mul (n / c / m * m) (n / c % m) c ∙ ap (λ (x : ℕ). x + n / c % m * c) (mul_assoc (n / c / m) m c))
    ∙ add_assoc (n / c / m * (m * c)) (n / c % m * c) (n % c) in
    ap (λ (x : ℕ). x % (m * c)) parts ∙ mul-add-mod_self_right (n / c / m) (m * c) (n / c % m * c + n % c)
    ∙ mod-eq_of_lt (omega arith)

numbers_from : (n x y : ℕ) → key_cmp (big_bytes n x) (big_bytes n y) ≡ nat_cmp (x % 256 ^ n) (y % 256 ^ n)
numbers_from zero x y =
    let one : (z : ℕ) → z % 1 ≡ 0 = λ z. let low : z % 1 < 1 = mod-lt z (lit< tt) in omega arith in
    sym (ap (λ m. nat_cmp m (y % 1)) (one x) ∙ ap (nat_cmp 0) (one y))
numbers_from (suc n) x y =
    let c = 256 ^ n in
    let some : zero < c = one-le-pow n 256 (omega arith) in
    let power : 256 ^ suc n ≡ 256 * c = pow-succ' 256 n in
    let whole : (z : ℕ) → z % (256 ^ suc n) ≡ byte_at n z * c + z % c =
    λ z. ap (λ m. z % m) power ∙ split z 256 c (omega arith) some ∙ ap (λ b. b * c + z % c) (sym (byte_at_power n z)) in
    ap (ordering_then (nat_cmp (byte_at n x) (byte_at n y))) (numbers_from n x y)
    ∙ digits (byte_at n x) (byte_at n y) (x % c) (y % c) c (mod-lt x some) (mod-lt y some)
    ∙ ap (λ m. nat_cmp m (byte_at n y * c + y % c)) (sym (whole x)) ∙ ap (nat_cmp (x % (256 ^ suc n))) (sym (whole y))

pub numbers_in_order : (n x y : ℕ) → x < 256 ^ n → y < 256 ^ n → key_cmp (big_bytes n x) (big_bytes n y) ≡ nat_cmp x y
numbers_in_order n x y low high =
    numbers_from n x y ∙ ap (λ m. nat_cmp m (y % 256 ^ n)) (mod-eq_of_lt low) ∙ ap (nat_cmp x) (mod-eq_of_lt high)
