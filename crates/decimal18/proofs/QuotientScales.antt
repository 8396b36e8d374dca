-- The scale of a quotient by the count of the dividend's digits.
use Rattle.std.proofs.Common.{◌≡◌, ℕ, ◌+◌, ◌-◌, ◌^◌, ◌<◌, ◌≤◌, true, false, ap, sym, ◌∙◌, arith, ◌&&◌, unsigned_abs}
use Rattle.std.proofs.Common.{min, Some, None, subst}
use Rattle.std.proofs.lemmas.Bool.{le-leb}
use Rattle.decimal18.specs.Fraction.{Fraction}
use Rattle.decimal18.specs.Arithmetic.{is_within}
use Rattle.decimal18.specs.Quotient.{admits, extended_dividend, greatest}
use Rattle.decimal18.proofs.Alignment.{raised_within, raised_outside}
use Rattle.decimal18.proofs.Greatest.{greatest_is, greatest_never}
use Rattle.decimal18.proofs.Powers.{power_le}

-- What a count of digits says.
record Counted (m d : ℕ) : Type 0 where
  below : m < 10 ^ d
  least : 0 < d → 10 ^ (d - 1) ≤ m
  most : d ≤ 38

admitted : (x y : Fraction) (d q : ℕ) → x.scale ≤ 18 → y.scale ≤ 18 → q ≤ 18 → unsigned_abs x.coefficient < 10 ^ d
    → x.scale ≤ q + y.scale → q + y.scale - x.scale + d ≤ 38 → admits x y q ≡ true
admitted x y d q h k most below enough room =
    let zeros = q + y.scale - x.scale in
    let few : zeros ≤ 38 = omega arith in
    let up : 10 ^ d ≤ 10 ^ (38 - zeros) = power_le d (38 - zeros) (omega arith) in
    let less : unsigned_abs x.coefficient < 10 ^ (38 - zeros) = omega (arith, below, up) in
    ap (λ b. b && is_within (extended_dividend x y q)) (le-leb _ _ enough) ∙ raised_within x.coefficient zeros few less

outside : (x y : Fraction) (d q : ℕ) → x.scale ≤ 18 → y.scale ≤ 18 → q ≤ 18 → Counted (unsigned_abs x.coefficient) d
    → 38 + x.scale < q + y.scale + d → admits x y q ≡ false
outside x y d q h k most c over =
    let zeros = q + y.scale - x.scale in
    let full : d ≤ 38 = c.most in
    let enough : x.scale ≤ q + y.scale = omega arith in
    let few : zeros ≤ 38 = omega arith in
    let some : 0 < d = omega arith in
    let up : 10 ^ (38 - zeros) ≤ 10 ^ (d - 1) = power_le (38 - zeros) (d - 1) (omega arith) in
    let above : 10 ^ (38 - zeros) ≤ unsigned_abs x.coefficient = omega (arith, up, c.least some) in
    ap (λ b. b && is_within (extended_dividend x y q)) (le-leb _ _ enough)
    ∙ raised_outside x.coefficient zeros few above

pub scale_admitted : (x y : Fraction) (m d most q : ℕ) → x.scale ≤ 18 → y.scale ≤ 18 → m ≡ unsigned_abs x.coefficient
    → m < 10 ^ d → d ≤ 38 → most ≡ 38 - d + x.scale → y.scale ≤ most → q ≡ min (most - y.scale) 18 → admits x y q ≡ true
scale_admitted x y m d most q h k e below full f room g =
    let under : q ≤ 18 = omega arith in
    let enough : x.scale ≤ q + y.scale = omega arith in
    let fits : q + y.scale - x.scale + d ≤ 38 = omega arith in
    admitted x y d q h k under (subst (λ n. n < 10 ^ d) e below) enough fits

pub scale_found : (x y : Fraction) (m d most q : ℕ) → x.scale ≤ 18 → y.scale ≤ 18 → m ≡ unsigned_abs x.coefficient
    → m < 10 ^ d → (0 < d → 10 ^ (d - 1) ≤ m) → d ≤ 38 → most ≡ 38 - d + x.scale → y.scale ≤ most
    → q ≡ min (most - y.scale) 18 → Some q ≡ greatest (admits x y) 18
scale_found x y m d most q h k e below least full f room g =
    let under : q ≤ 18 = omega arith in
    let counted : Counted (unsigned_abs x.coefficient) d =
    subst (λ n. Counted n d) e (record { below = below; least = least; most = full }) in
    sym (greatest_is (admits x y) 18 q under (scale_admitted x y m d most q h k e below full f room g)
    (λ r a b. let over : 38 + x.scale < r + y.scale + d = omega arith in outside x y d r h k b counted over))

pub no_scale : (x y : Fraction) (m d most : ℕ) → x.scale ≤ 18 → y.scale ≤ 18 → m ≡ unsigned_abs x.coefficient
    → m < 10 ^ d → (0 < d → 10 ^ (d - 1) ≤ m) → d ≤ 38 → most ≡ 38 - d + x.scale → most < y.scale
    → None ≡ greatest (admits x y) 18
no_scale x y m d most h k e below least full f less =
    let counted : Counted (unsigned_abs x.coefficient) d =
    subst (λ n. Counted n d) e (record { below = below; least = least; most = full }) in
    sym (greatest_never (admits x y) 18 (λ r b. let over : 38 + x.scale < r + y.scale + d =
    omega arith in outside x y d r h k b counted over))

-- Scale 18 is admitted where the coefficient leaves room for the zeros that it takes.
pub most_admitted : (x y : Fraction) (m p d : ℕ) → x.scale ≤ 18 → y.scale ≤ 18 → m ≡ unsigned_abs x.coefficient
    → p ≡ 10 ^ d → d ≡ 38 + x.scale - 18 - y.scale → m < p → admits x y 18 ≡ true
most_admitted x y m p d h k e f room less =
    let under : 18 ≤ 18 = omega arith in
    let enough : x.scale ≤ 18 + y.scale = omega arith in
    let fits : 18 + y.scale - x.scale + d ≤ 38 = omega arith in
    let below : m < 10 ^ d = subst (λ n. m < n) f less in
    admitted x y d 18 h k under (subst (λ n. n < 10 ^ d) e below) enough fits

pub most_found : (x y : Fraction) → admits x y 18 ≡ true → Some 18 ≡ greatest (admits x y) 18
most_found x y full = sym (greatest_is (admits x y) 18 18 (omega arith) full (λ r a b. absurd (omega arith)))
