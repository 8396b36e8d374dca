use Rattle.std.proofs.Common.{rules, arith, ◌≡◌, ◌<◌, ◌^◌, Bool, sym, ◌∙◌, ap, pos, FitsSigned, unsigned_abs}
use Rattle.std.proofs.Common.{if◌then◌else◌, to_z}
use Rattle.std.specs.Int.{w64}
use Rattle.std.proofs.lemmas.Int.{ints, to_z-of_z}
use Rattle.decimal18.specs.Fraction.{Fraction, absolute}
use Rattle.items.proofs.Bounds.{below}
use Rattle.data_machine.specs.KeptAtScale.{at_scale}
use Rattle.data_machine.proofs.short_fitting.held_coefficient.Goals as goal

pub returns-then-is_signed : goal.returns-then-is_signed
returns-then-is_signed c =
    let x : Fraction = at_scale c.args.item c.args.coefficient in
    let fits : FitsSigned w64 c.args.coefficient = search rules in
    simp to_z-of_z
    (sym (ap (λ (b : Bool). if b then x else absolute x) (sym c.is_signed.ensures ∙ c.if-is_signed.true)))

pub returns-else-is_signed : goal.returns-else-is_signed
returns-else-is_signed c =
    let x : Fraction = at_scale c.args.item c.args.coefficient in
    let fits : FitsSigned w64 c.args.coefficient = search rules in
    let value : c.unsigned_abs.result ≡ unsigned_abs c.args.coefficient =
    simp to_z-of_z at c.unsigned_abs.ensures.value in
    let small : unsigned_abs c.args.coefficient < 10 ^ 18 =
    below (unsigned_abs c.args.coefficient) c.args.item.digits 18 c.requires.digits c.requires.item.most in
    let positive : to_z w64 c.unsigned_abs.result ≡ pos c.unsigned_abs.result = omega (arith, ints) in
    ap (at_scale c.args.item) (positive ∙ ap pos value)
    ∙ sym (ap (λ (b : Bool). if b then x else absolute x) (sym c.is_signed.ensures ∙ c.if-is_signed.false))

pub overflow_cast-result : goal.overflow_cast-result
overflow_cast-result c =
    let fits : FitsSigned w64 c.args.coefficient = search rules in
    let value : c.unsigned_abs.result ≡ unsigned_abs c.args.coefficient =
    simp to_z-of_z at c.unsigned_abs.ensures.value in
    let small : unsigned_abs c.args.coefficient < 10 ^ 18 =
    below (unsigned_abs c.args.coefficient) c.args.item.digits 18 c.requires.digits c.requires.item.most in
    search rules
