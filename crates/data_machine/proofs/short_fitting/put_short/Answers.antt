use Rattle.std.proofs.Common.{rules, arith, FitsSigned, ◌≡◌, refl, ◌∙◌, sym, ap, subst, unsigned_abs}
use Rattle.std.specs.Int.{w64}
use Rattle.std.proofs.lemmas.Int.{to_z-of_z}
use Rattle.items.specs.declared.usage.OperationalSign.TheVariants as sign
use Rattle.decimal18.specs.Digits.{digit_text}
use Rattle.decimal18.specs.Fraction.{is_negative}
use Rattle.items.specs.Display.{display_bytes}
use Rattle.items.specs.declared.usage.Usage.TheVariants as usage
use Rattle.items.specs.Numbers.{CanHold}
use Rattle.items.specs.Values.{bytes_of}
use Rattle.source_tree.specs.Arithmetic.{held_by}
use Rattle.data_machine.specs.KeptAtScale.{at_scale}
use Rattle.data_machine.proofs.KeptNumbers.{is_held}
use Rattle.data_machine.proofs.ShortNumbers.{unsigned_bytes, unsigned_length, trailing_bytes, trailing_length}
use Rattle.data_machine.proofs.short_fitting.put_short.Goals as goal

pub returns-in-Unsigned : goal.returns-in-Unsigned
returns-in-Unsigned c =
    let item = c.args.item in
    let is : item.usage ≡ usage.Display sign.Unsigned = c.in-Display.is ∙ ap usage.Display c.in-Unsigned.is in
    let fits : FitsSigned w64 c.args.coefficient = search rules in
    let value : c.unsigned_abs.result ≡ unsigned_abs c.args.coefficient =
    simp to_z-of_z at c.unsigned_abs.ensures.value in
    c.put_digits.ensures
    ∙ ap (λ size. digit_text size c.unsigned_abs.result) (c.requires.length ∙ unsigned_length item is)
    ∙ ap (digit_text item.digits) value
    ∙ sym (unsigned_bytes item c.args.coefficient is)

pub put_trailing-requires : goal.put_trailing-requires
put_trailing-requires c =
    let item = c.args.item in
    let is : item.usage ≡ usage.Display sign.Trailing = c.in-Display.is ∙ ap usage.Display c.in-Trailing.is in
    omega (arith, c.requires.length, trailing_length item is, c.requires.item.some)

pub returns-in-Trailing : goal.returns-in-Trailing
returns-in-Trailing c =
    let item = c.args.item in
    let is : item.usage ≡ usage.Display sign.Trailing = c.in-Display.is ∙ ap usage.Display c.in-Trailing.is in
    let fits : FitsSigned w64 c.args.coefficient = search rules in
    let written = simp to_z-of_z at c.put_trailing.ensures in
    written
    ∙ ap (λ size. display_bytes sign.Trailing size (is_negative c.args.coefficient) (unsigned_abs c.args.coefficient))
    (c.requires.length ∙ trailing_length item is)
    ∙ sym (trailing_bytes item c.args.coefficient is)

pub store-requires-clause-holds : goal.store-requires-clause-holds
store-requires-clause-holds c =
    let item = c.args.item in
    let fits : FitsSigned w64 c.args.coefficient = search rules in
    let held_fits : FitsSigned w64 c.held_coefficient-held.result = search rules in
    let short : c.short.result ≡ at_scale item c.held_coefficient-held.result = simp to_z-of_z at c.short.ensures in
    let held : at_scale item c.held_coefficient-held.result ≡ held_by item (at_scale item c.args.coefficient) =
    simp to_z-of_z at c.held_coefficient-held.ensures in
    subst (CanHold item) (sym (short ∙ held)) (is_held item (at_scale item c.args.coefficient) refl c.requires.digits)

pub returns : goal.returns
returns c =
    let item = c.args.item in
    let fits : FitsSigned w64 c.args.coefficient = search rules in
    let held_fits : FitsSigned w64 c.held_coefficient-held.result = search rules in
    let short : c.short.result ≡ at_scale item c.held_coefficient-held.result = simp to_z-of_z at c.short.ensures in
    let held : at_scale item c.held_coefficient-held.result ≡ held_by item (at_scale item c.args.coefficient) =
    simp to_z-of_z at c.held_coefficient-held.ensures in
    c.store.ensures ∙ ap (bytes_of item) (short ∙ held)
