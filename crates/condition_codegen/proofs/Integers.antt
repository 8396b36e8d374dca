-- How great an integer is that keeps its rule.
use Rattle.std.proofs.Common.{◌≡◌, ℕ, ◌+◌, ◌-◌, ◌*◌, ◌^◌, ◌<◌, ◌≤◌, Bool, true, false, List, [], ◌∷◌, length, refl, sym}
use Rattle.std.proofs.Common.{ap, subst, ◌∙◌, arith, lit<}
use Rattle.std.specs.Prelude.{not, ◌&&◌, nat_le}
use Rattle.std.specs.Char.{is_ascii_digit}
use Rattle.std.specs.List.{list_all}
use Rattle.std.proofs.Math.Nat.{mul-le-mul_right, mul_assoc, mul_comm, pow-succ', pow-le-pow_right}
use Rattle.std.proofs.lemmas.Bool.Decides.{nat_tests}
use Rattle.lexical.specs.declared.place.Place.{Place}
use Rattle.decimal18.specs.Digits.{digits_after}
use Rattle.source_tree.specs.declared.literal.Integer.{Integer}
use Rattle.source_tree.specs.Broken.{where_so}
use Rattle.source_tree.specs.Integers.{number_of}
use Rattle.source_tree.specs.NameRules.{is_integer, integer_rules}
use Rattle.source_tree.specs.ValueRules.{most_literal_digits}

-- a test that no rule is broken by
pub kept : (test : Bool) (rule : ℕ) (place : Place) → where_so test rule place ≡ [] → test ≡ false
kept false rule place e = refl
kept true rule place e = absurd cc

pub not_false : (b : Bool) → not b ≡ false → b ≡ true
not_false true e = refl
not_false false e = absurd cc

and_left : (a b : Bool) → (a && b) ≡ true → a ≡ true
and_left true b e = refl
and_left false b e = absurd cc

and_right : (a b : Bool) → (a && b) ≡ true → b ≡ true
and_right true b e = e
and_right false b e = absurd cc

digit_below : (c : ℕ) → is_ascii_digit c ≡ true → c - 48 < 10
digit_below c e = grind arith

regroup : (a p : ℕ) → a * (10 * p) ≡ 10 * a * p
regroup a p = sym (mul_assoc a 10 p) ∙ ap (λ n. n * p) (mul_comm a 10)

digits_below : (n : ℕ) (cs : List ℕ) → list_all is_ascii_digit cs ≡ true → digits_after n cs < (n + 1) * 10 ^ length cs
digits_below n [] e = omega arith
digits_below n (c ∷ cs) e =
    let one = digit_below c (and_left (is_ascii_digit c) (list_all is_ascii_digit cs) e) in
    let rest = digits_below (10 * n + (c - 48)) cs (and_right (is_ascii_digit c) (list_all is_ascii_digit cs) e) in
    let step : 10 * n + (c - 48) + 1 ≤ 10 * (n + 1) = omega (arith, one) in
    let times = mul-le-mul_right (10 ^ length cs) step in
    let more = ap (λ q. (n + 1) * q) (pow-succ' 10 (length cs)) ∙ regroup (n + 1) (10 ^ length cs) in
    subst (λ m. digits_after (10 * n + (c - 48)) cs < m) (sym more) (omega (arith, rest, times))

-- An integer that keeps its rule is below 10^18.
pub small_integer : (n : Integer) → integer_rules n ≡ [] → number_of n < 10 ^ 18
small_integer n e =
    let form = not_false (is_integer n) (kept (not (is_integer n)) 17 n.place e) in
    let digits = and_left (list_all is_ascii_digit n.digits)
    (nat_le 1 (length n.digits) && nat_le (length n.digits) most_literal_digits) form in
    let counts = and_right (list_all is_ascii_digit n.digits)
    (nat_le 1 (length n.digits) && nat_le (length n.digits) most_literal_digits) form in
    let few : length n.digits ≤ 18 = at_most (length n.digits)
    (and_right (nat_le 1 (length n.digits)) (nat_le (length n.digits) most_literal_digits) counts) in
    let power : 10 ^ length n.digits ≤ 10 ^ 18 = pow-le-pow_right (lit< tt) few in
    let most = digits_below 0 n.digits digits in
    omega (arith, power, most)
  where
    at_most : (k : ℕ) → nat_le k most_literal_digits ≡ true → k ≤ 18
    at_most k e = grind (arith, nat_tests)
