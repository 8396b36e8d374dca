-- The digits of numeric literals.
use Rattle.std.proofs.Common.{◌≡◌, ℕ, ◌+◌, ◌-◌, ◌*◌, ◌^◌, ◌≤◌, ◌<◌, Bool, true, false, not, ◌&&◌, ◌||◌, nat_le}
use Rattle.std.proofs.Common.{if◌then◌else◌, List, [], ◌∷◌, ◌++◌, length, Some, None, refl, sym, ap, subst, ◌∙◌}
use Rattle.std.proofs.Common.{length-append, pow-add, arith, mul_assoc, mul_comm}
use Rattle.std.proofs.Math.Nat.{pow-le-pow_right, mul-le-mul_right, pow-succ'}
use Rattle.std.specs.Prelude.{zero, suc, unsigned_abs}
use Rattle.std.specs.Char.{is_ascii_digit}
use Rattle.std.specs.List.{list_all}
use Rattle.decimal18.specs.Digits.{digits_after, number_after}
use Rattle.decimal18.specs.Fraction.{Fraction, of_parts, signed_integer, is_negative}
use Rattle.lexical.specs.declared.number.Sign.{Sign}
use Rattle.lexical.specs.declared.number.Sign.TheVariants as sign
use Rattle.lexical.specs.declared.number.NumericLiteral.{NumericLiteral}
use Rattle.items.specs.declared.usage.Usage.TheVariants as usage
use Rattle.items.specs.Numbers.{CanHold, is_signed}
use Rattle.source_tree.specs.Literals.{is_minus, literal_sign, literal_number, literal_numeric}
use Rattle.source_tree.specs.ValueRules.{has_form}
use Rattle.source_tree.specs.declared.literal.LiteralValue.TheVariants as literal

last_of : (a b c d : Bool) → (a && b && (c && d)) ≡ true → d ≡ true
last_of true true true d e = e
last_of true true false d e = cc
last_of true false c d e = cc
last_of false b c d e = cc

at_most : (limit n : ℕ) → nat_le n limit ≡ true → n ≤ limit
at_most limit n e = grind arith

pub few : (one : NumericLiteral) → has_form (literal.Numeric one) ≡ true → length one.whole + length one.decimals ≤ 18
few one e =
    let all : ℕ = length (one.whole ++ one.decimals) in
    let h : all ≤ 18 = at_most 18 all (last_of (list_all is_ascii_digit one.whole)
    (list_all is_ascii_digit one.decimals) (nat_le 1 all) (nat_le all 18) e) in
    omega (arith, h, length-append one.whole one.decimals)

behind_all : (n : ℕ) (front back : List ℕ) → digits_after n (front ++ back) ≡ digits_after (digits_after n front) back
behind_all n [] back = refl
behind_all n (c ∷ front) back = behind_all (10 * n + (c - 48)) front back

and_left : (a b : Bool) → (a && b) ≡ true → a ≡ true
and_left true b e = refl
and_left false b e = cc

and_right : (a b : Bool) → (a && b) ≡ true → b ≡ true
and_right true b e = e
and_right false b e = cc

digit_below : (c : ℕ) → is_ascii_digit c ≡ true → c - 48 < 10
digit_below c e = grind arith

regroup : (a p : ℕ) → a * (10 * p) ≡ 10 * a * p
regroup a p = sym (mul_assoc a 10 p) ∙ ap (λ n. n * p) (mul_comm a 10)

-- digits are below their power of ten
pub digits_below : (n : ℕ) (cs : List ℕ) → list_all is_ascii_digit cs ≡ true
    → digits_after n cs < (n + 1) * 10 ^ length cs
digits_below n [] e = omega arith
digits_below n (c ∷ cs) e =
    let one = digit_below c (and_left (is_ascii_digit c) (list_all is_ascii_digit cs) e) in
    let rest = digits_below (10 * n + (c - 48)) cs (and_right (is_ascii_digit c) (list_all is_ascii_digit cs) e) in
    let step : 10 * n + (c - 48) + 1 ≤ 10 * (n + 1) = omega (arith, one) in
    let times = mul-le-mul_right (10 ^ length cs) step in
    let more = ap (λ q. (n + 1) * q) (pow-succ' 10 (length cs)) ∙ regroup (n + 1) (10 ^ length cs) in
    subst (λ m. digits_after (10 * n + (c - 48)) cs < m) (sym more) (omega (arith, rest, times))

times_pow : (number some more : ℕ) → number < 1 * 10 ^ some → (number + 1) * 10 ^ more ≤ 10 ^ (some + more)
times_pow number some more below =
    let h : number + 1 ≤ 10 ^ some = omega arith in
    let k : (number + 1) * 10 ^ more ≤ 10 ^ some * 10 ^ more = mul-le-mul_right (10 ^ more) h in
    let e : 10 ^ (some + more) ≡ 10 ^ some * 10 ^ more = pow-add 10 some more in
    omega (arith, k, e)

-- The digits before the point fit, and those after it too.
pub first_room : (one : NumericLiteral) (front : List ℕ) → has_form (literal.Numeric one) ≡ true → front ≡ one.whole
    → 1 * 10 ^ length front ≤ 1000000000000000000
first_room one front form e =
    let h : length front ≤ 18 = omega (arith, few one form, ap length e) in
    let top : 10 ^ length front ≤ 10 ^ 18 = pow-le-pow_right (omega arith) h in
    omega (arith, top)

pub room : (one : NumericLiteral) (front back : List ℕ) (whole : ℕ) → has_form (literal.Numeric one) ≡ true
    → front ≡ one.whole → back ≡ one.decimals
    → whole < 1 * 10 ^ length front → (whole + 1) * 10 ^ length back ≤ 1000000000000000000
room one front back whole form e f below =
    let h : length front + length back ≤ 18 = omega (arith, few one form, ap length e, ap length f) in
    let top : 10 ^ (length front + length back) ≤ 10 ^ 18 = pow-le-pow_right (omega arith) h in
    omega (arith, times_pow whole (length front) (length back) below, top)

told : (b : Bool) (m n : ℕ) → Some m ≡ (if b then Some n else None) → m ≡ n
told true m n e = cc
told false m n e = cc

pub magnitude_of : (one : NumericLiteral) (front back : List ℕ) (whole magnitude : ℕ) → front ≡ one.whole
    → back ≡ one.decimals
    → Some whole ≡ number_after 0 front → Some magnitude ≡ number_after whole back
    → magnitude ≡ digits_after 0 (one.whole ++ one.decimals)
magnitude_of one front back whole magnitude e f first last =
    told (list_all is_ascii_digit back) magnitude (digits_after whole back) last
    ∙ ap (digits_after whole) f
    ∙ ap (λ n. digits_after n one.decimals) (told (list_all is_ascii_digit front) whole (digits_after 0 front) first
    ∙ ap (digits_after 0) e)
    ∙ sym (behind_all 0 one.whole one.decimals)

pub number_of : (one : NumericLiteral) (negative : Bool) (magnitude scale : ℕ) → negative ≡ is_minus one.sign
    → magnitude ≡ digits_after 0 (one.whole ++ one.decimals) → scale ≡ length one.decimals
    → of_parts negative magnitude scale ≡ literal_number one
number_of one negative magnitude scale e f g = cc

size_of : (negative : Bool) (magnitude : ℕ) → unsigned_abs (signed_integer negative magnitude) ≡ magnitude
size_of true zero = refl
size_of true (suc magnitude) = refl
size_of false magnitude = refl

-- a sign where one is written
signed_so : (one : Sign) (digits scale magnitude : ℕ)
    → (is_signed (record { digits = digits; scale = scale; usage = usage.Display (literal_sign one) })
    || not (is_negative (signed_integer (is_minus one) magnitude))) ≡ true
signed_so sign.Unsigned digits scale magnitude = refl
signed_so sign.Plus digits scale magnitude = refl
signed_so sign.Minus digits scale magnitude = refl

-- The item of the literal's digits can hold it.
pub held : (one : NumericLiteral) (x : Fraction) (front back : List ℕ) (whole magnitude : ℕ) → front ≡ one.whole
    → back ≡ one.decimals
    → x ≡ literal_number one → magnitude ≡ digits_after 0 (one.whole ++ one.decimals)
    → whole < 1 * 10 ^ length front → magnitude < (whole + 1) * 10 ^ length back → CanHold (literal_numeric one) x
held one x front back whole magnitude e f is m below bound =
    let all : ℕ = digits_after 0 (one.whole ++ one.decimals) in
    let size : unsigned_abs (literal_number one).coefficient ≡ all = size_of (is_minus one.sign) all in
    let top : (whole + 1) * 10 ^ length back ≤ 10 ^ (length front + length back) =
    times_pow whole (length front) (length back) below in
    let count : length (one.whole ++ one.decimals) ≡ length front + length back =
    omega (arith, length-append one.whole one.decimals, ap length e, ap length f) in
    let same : 10 ^ length (one.whole ++ one.decimals) ≡ 10 ^ (length front + length back) = ap (λ n. 10 ^ n) count in
    subst (CanHold (literal_numeric one)) (sym is) (record {
      scale = refl;
      digits = omega (arith, size, m, bound, top, same);
      sign = signed_so one.sign (length (one.whole ++ one.decimals)) (length one.decimals) all;
    })
