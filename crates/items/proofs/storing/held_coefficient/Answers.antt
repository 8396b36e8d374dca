use Rattle.std.proofs.Common.{rules, ◌<◌, ◌^◌, unsigned_abs, FitsSigned, w64, sym, ◌∙◌, subst, ℤ, arith}
use Rattle.std.specs.Int.{w128}
use Rattle.std.proofs.Math.Facts.{to_z-of_z}
use Rattle.std.proofs.lemmas.Int.{fits_signed_from_abs}
use Rattle.items.proofs.Bounds.{below}
use Rattle.items.proofs.storing.held_coefficient.Goals as goal

pub overflow_cast-result : goal.overflow_cast-result
overflow_cast-result c =
    let z = c.args.x.coefficient in
    let less : unsigned_abs z < 10 ^ 18 =
    below (unsigned_abs z) c.args.item.digits 18 c.requires.holds.digits c.requires.item.most in
    let fits : FitsSigned w64 z = fits_signed_from_abs w64 z (omega arith) in
    subst (λ (y : ℤ). FitsSigned w64 y) (sym (to_z-of_z {w = w128} (search rules) ∙ c.coefficient.ensures.value)) fits

pub returns : goal.returns
returns c =
    let z = c.args.x.coefficient in
    let less : unsigned_abs z < 10 ^ 18 =
    below (unsigned_abs z) c.args.item.digits 18 c.requires.holds.digits c.requires.item.most in
    let fits : FitsSigned w64 z = fits_signed_from_abs w64 z (omega arith) in
    let same = to_z-of_z {w = w128} (search rules) ∙ c.coefficient.ensures.value in
    to_z-of_z {w = w64} (subst (λ (y : ℤ). FitsSigned w64 y) (sym same) fits) ∙ same
