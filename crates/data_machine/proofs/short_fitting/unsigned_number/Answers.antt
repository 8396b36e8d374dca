use Rattle.std.proofs.Common.{◌≡◌, ◌≤◌, ◌<◌, ◌^◌, length, Some, sym, ◌∙◌, ap, arith}
use Rattle.decimal18.proofs.Powers.{power_le}
use Rattle.data_machine.proofs.ShortNumbers.{unsigned_length}
use Rattle.data_machine.proofs.PlainDigits.{unsigned_found, unsigned_missed}
use Rattle.data_machine.proofs.short_fitting.unsigned_number.Goals as goal

pub number_after-requires : goal.number_after-requires
number_after-requires c =
    let size : length c.args.bytes.now ≡ c.args.item.digits =
    c.requires.length ∙ unsigned_length c.args.item c.requires.unsigned in
    let few : 10 ^ length c.args.bytes.now ≤ 10 ^ 18 =
    power_le (length c.args.bytes.now) 18 (omega (arith, size, c.requires.item.most)) in
    omega (arith, few)

pub whole_number-requires-clause-digits : goal.whole_number-requires-clause-digits
whole_number-requires-clause-digits c =
    let size : length c.args.bytes.now ≡ c.args.item.digits =
    c.requires.length ∙ unsigned_length c.args.item c.requires.unsigned in
    let few : 10 ^ length c.args.bytes.now ≤ 10 ^ 18 =
    power_le (length c.args.bytes.now) 18 (omega (arith, size, c.requires.item.most)) in
    omega (arith, few, c.in-Some.ensures.bound)

pub returns-in-Some : goal.returns-in-Some
returns-in-Some c =
    let size : length c.args.bytes.now ≡ c.args.item.digits =
    c.requires.length ∙ unsigned_length c.args.item c.requires.unsigned in
    let power : 10 ^ length c.args.bytes.now ≡ 10 ^ c.args.item.digits = ap (λ k. 10 ^ k) size in
    let small : c.in-Some.digits < 10 ^ c.args.item.digits = omega (arith, power, c.in-Some.ensures.bound) in
    ap Some c.whole_number.ensures
    ∙ sym
    (unsigned_found c.args.item c.args.bytes.now c.requires.unsigned c.in-Some.digits c.in-Some.ensures.value small)

pub returns-in-None : goal.returns-in-None
returns-in-None c = sym (unsigned_missed c.args.item c.args.bytes.now c.requires.unsigned c.in-None.ensures.value)
