use Rattle.std.proofs.Common.{rules, ◌+◌, ◌-◌, ◌*◌, ◌/◌, ◌<◌, ◌^◌, true, false, length, get_or, ap, sym, ◌∙◌, Some, ℤ}
use Rattle.std.proofs.Common.{arith}
use Rattle.std.specs.Int.{w128}
use Rattle.std.proofs.Math.Facts.{to_z-of_z}
use Rattle.decimal18.specs.Fraction.{signed_integer}
use Rattle.items.proofs.Digits.{none_found, some_found}
use Rattle.items.proofs.Halves.{front_small, no_front, no_last, both_last, no_sign_last}
use Rattle.items.proofs.packed.packed_integer.Goals as goal

pub returns-in_err-front : goal.returns-in_err-front
returns-in_err-front c = c.from_residual.ensures
    ∙ sym (no_front c.args.signed c.args.bytes.now c.requires.some (none_found _ _ c.in_err-front.ensures.value))

pub returns-then-digit-gt9 : goal.returns-then-digit-gt9
returns-then-digit-gt9 c = sym (no_last c.args.signed c.args.bytes.now c.requires.some c.if-digit-gt9.true)

pub overflow_mul-magnitude : goal.overflow_mul-magnitude
overflow_mul-magnitude c =
    let small : c.in_ok-front.front < 100 ^ 9 =
    front_small c.args.bytes.now c.in_ok-front.front c.requires.some c.requires.most c.in_ok-front.ensures.bound in
    omega arith

pub overflow_add-magnitude : goal.overflow_add-magnitude
overflow_add-magnitude c =
    let small : c.in_ok-front.front < 100 ^ 9 =
    front_small c.args.bytes.now c.in_ok-front.front c.requires.some c.requires.most c.in_ok-front.ensures.bound in
    omega (arith, c.from.ensures)

pub returns-then-half-sign_half : goal.returns-then-half-sign_half
returns-then-half-sign_half c =
    let front = some_found _ _ _ c.in_ok-front.ensures.value in
    ap (λ (z : ℤ). Some z) (to_z-of_z {w = w128} (search rules) ∙ c.signed_number.ensures)
    ∙ ap (λ d. Some (signed_integer false (10 * c.in_ok-front.front + d))) c.from.ensures
    ∙ ap (λ n. Some (signed_integer false (10 * n + get_or c.args.bytes.now (length c.args.bytes.now - 1) 0 / 16)))
    front.1
    ∙ sym (both_last c.args.signed false c.args.bytes.now c.requires.some front.0 c.if-digit-gt9.false
    (c.if-half-sign_half.true ∙ c.sign_half.ensures.value) (λ e. absurd (cc)))

pub returns-then-half-sign_half-2 : goal.returns-then-half-sign_half-2
returns-then-half-sign_half-2 c =
    let front = some_found _ _ _ c.in_ok-front.ensures.value in
    ap (λ (z : ℤ). Some z) (to_z-of_z {w = w128} (search rules) ∙ c.signed_number-then-half-sign_half-2.ensures)
    ∙ ap (λ d. Some (signed_integer true (10 * c.in_ok-front.front + d))) c.from.ensures
    ∙ ap (λ n. Some (signed_integer true (10 * n + get_or c.args.bytes.now (length c.args.bytes.now - 1) 0 / 16)))
    front.1
    ∙ sym (both_last c.args.signed true c.args.bytes.now c.requires.some front.0 c.if-digit-gt9.false
    (c.if-half-sign_half-2.true ∙ c.sign_half-else-half-sign_half.ensures.value)
    (λ e same. c.if-half-sign_half.false (same ∙ sym c.sign_half.ensures.value)))

pub returns-else-half-sign_half-2 : goal.returns-else-half-sign_half-2
returns-else-half-sign_half-2 c =
    sym (no_sign_last c.args.signed c.args.bytes.now c.requires.some
    (λ same. c.if-half-sign_half.false (same ∙ sym c.sign_half.ensures.value))
    (λ same. c.if-half-sign_half-2.false (same ∙ sym c.sign_half-else-half-sign_half.ensures.value)))
