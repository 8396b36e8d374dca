use Rattle.std.proofs.Common.{rules, ◌≡◌, ◌+◌, ◌*◌, ◌≤◌, ◌<◌, ◌^◌, FitsSigned, ap, sym, ◌∙◌, Some, nat_le, arith, ℤ}
use Rattle.std.specs.Int.{w64}
use Rattle.std.proofs.lemmas.Int.{to_z-of_z}
use Rattle.decimal18.specs.Fraction.{Fraction, signed_integer}
use Rattle.items.proofs.Digits.{last_no_front, last_no_digit, last_both, last_of}
use Rattle.data_machine.proofs.PlainDigits.{trailing_some, front_room, last_small, last_below, trailing_missed}
use Rattle.data_machine.proofs.PlainDigits.{trailing_found}
use Rattle.data_machine.proofs.short_fitting.trailing_number.Goals as goal

pub number_after-requires : goal.number_after-requires
number_after-requires c =
    front_room c.args.item c.requires.item c.requires.trailing c.args.bytes.now c.requires.length

pub returns-then-not-is_ascii_digit : goal.returns-then-not-is_ascii_digit
returns-then-not-is_ascii_digit c =
    trailing_missed c.args.item c.requires.item c.requires.trailing c.args.bytes.now c.requires.length
    (last_no_digit c.args.bytes.now _
    (trailing_some c.args.item c.requires.item c.requires.trailing c.args.bytes.now c.requires.length)
    c.unmarked-digit.ensures (sym c.is_ascii_digit.ensures.value ∙ c.if-not-is_ascii_digit.true))

pub returns-in-None : goal.returns-in-None
returns-in-None c =
    trailing_missed c.args.item c.requires.item c.requires.trailing c.args.bytes.now c.requires.length
    (last_no_front c.args.bytes.now _
    (trailing_some c.args.item c.requires.item c.requires.trailing c.args.bytes.now c.requires.length)
    c.unmarked-digit.ensures c.in-None.ensures.value)

pub overflow_mul-digits : goal.overflow_mul-digits
overflow_mul-digits c =
    let below : 10 * c.in-Some.front + 0 < 10 ^ 18 =
    last_below c.args.item c.requires.item c.requires.trailing c.args.bytes.now c.requires.length
    c.in-Some.front 0 c.in-Some.ensures.bound (omega arith) in
    omega (arith, below)

pub overflow_add-digits : goal.overflow_add-digits
overflow_add-digits c =
    let digit : c.from.result ≤ 9 = omega (arith, c.from.ensures, c.if-not-is_ascii_digit.ensures.cases) in
    let below : 10 * c.in-Some.front + c.from.result < 10 ^ 18 =
    last_below c.args.item c.requires.item c.requires.trailing c.args.bytes.now c.requires.length
    c.in-Some.front c.from.result c.in-Some.ensures.bound digit in
    omega (arith, below)

pub signed-requires : goal.signed-requires
signed-requires c =
    let digit : c.from.result ≤ 9 = omega (arith, c.from.ensures, c.if-not-is_ascii_digit.ensures.cases) in
    last_below c.args.item c.requires.item c.requires.trailing c.args.bytes.now c.requires.length
    c.in-Some.front c.from.result c.in-Some.ensures.bound digit

pub returns-in-Some : goal.returns-in-Some
returns-in-Some c =
    let digit : c.from.result ≤ 9 = omega (arith, c.from.ensures, c.if-not-is_ascii_digit.ensures.cases) in
    let negative = nat_le 112 (last_of c.args.bytes.now) in
    let fits : FitsSigned w64 c.signed.result = search rules in
    let held : ℤ → Fraction = λ z. record { coefficient = z; scale = c.args.item.scale } in
    let number : c.new.result ≡ held c.signed.result = simp to_z-of_z at c.new.ensures in
    ap Some (number ∙ ap held c.signed.ensures)
    ∙ trailing_found c.args.item c.requires.item c.requires.trailing c.args.bytes.now c.requires.length
    negative (10 * c.in-Some.front + c.from.result)
    (ap (λ d. Some (signed_integer negative (10 * c.in-Some.front + d))) c.from.ensures
    ∙ last_both c.args.bytes.now c.unmarked-digit.result c.in-Some.front
    (trailing_some c.args.item c.requires.item c.requires.trailing _ c.requires.length)
    c.unmarked-digit.ensures c.in-Some.ensures.value (sym c.if-not-is_ascii_digit.ensures.value))
    (last_small c.args.item c.requires.item c.requires.trailing _ c.requires.length _ _ c.in-Some.ensures.bound digit)
