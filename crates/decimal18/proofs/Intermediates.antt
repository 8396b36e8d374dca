-- A number within the limit and with at most 18 decimals is its own intermediate result.
use Rattle.std.proofs.Common.{◌≡◌, ℕ, ◌-◌, ◌^◌, ◌<◌, ◌≤◌, Bool, min, ap, sym, ◌∙◌, arith, ℤ, pos, int_div}
use Rattle.std.proofs.Common.{if◌then◌else◌, Result, Ok}
use Rattle.std.proofs.lemmas.Bool.{lt-ltb}
use Rattle.decimal18.specs.Fraction.{Fraction, signed_integer, of_parts}
use Rattle.decimal18.specs.Arithmetic.{intermediate, size_error}
use Rattle.decimal18.specs.declared.size_error.Size.{Size}
use Rattle.decimal18.proofs.Signs.{within_signed}
use Rattle.decimal18.proofs.SumLaws.{div_one}

abbrev given : ℤ → ℕ → Result Fraction Size
given n scale = Ok (record { coefficient = n; scale = scale })

pub intermediate_itself : (b : Bool) (m scale : ℕ) → m < 10 ^ 38 → scale ≤ 18
    → intermediate (signed_integer b m) scale ≡ Ok (of_parts b m scale)
intermediate_itself b m scale h k =
    let none : scale - 18 ≡ 0 = omega arith in
    let least : min scale 18 ≡ scale = omega arith in
    ap (λ t. if t then given (int_div (signed_integer b m) (pos (10 ^ (scale - 18)))) (min scale 18) else size_error)
    (within_signed b m ∙ lt-ltb m (10 ^ 38) h)
    ∙ ap (λ n. given (int_div (signed_integer b m) (pos (10 ^ n))) (min scale 18)) none
    ∙ ap (λ z. given z (min scale 18)) (div_one (signed_integer b m))
    ∙ ap (given (signed_integer b m)) least

-- The number of digits that are few.
pub spelled_short : (b : Bool) (m n scale : ℕ) → m ≡ n → m < 10 ^ 18 → scale ≤ 18
    → intermediate (signed_integer b n) scale ≡ Ok (of_parts b m scale)
spelled_short b m n scale e h k =
    let low : m < 10 ^ 38 = omega (arith, h) in
    ap (λ t. intermediate (signed_integer b t) scale) (sym e) ∙ intermediate_itself b m scale low k
