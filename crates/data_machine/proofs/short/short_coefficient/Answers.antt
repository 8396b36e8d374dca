use Rattle.std.proofs.Common.{rules, FitsSigned, w64, sym, ◌∙◌, subst, ℤ, arith}
use Rattle.std.specs.Int.{w128}
use Rattle.std.proofs.Math.Facts.{to_z-of_z}
use Rattle.std.proofs.lemmas.Int.{fits_signed_from_abs}
use Rattle.data_machine.proofs.short.short_coefficient.Goals as goal

pub overflow_cast-result : goal.overflow_cast-result
overflow_cast-result c =
    let fits : FitsSigned w64 c.args.x.coefficient = fits_signed_from_abs w64 c.args.x.coefficient (omega arith) in
    subst (λ (y : ℤ). FitsSigned w64 y) (sym (to_z-of_z {w = w128} (search rules) ∙ c.coefficient.ensures.value)) fits

pub returns : goal.returns
returns c =
    let fits : FitsSigned w64 c.args.x.coefficient = fits_signed_from_abs w64 c.args.x.coefficient (omega arith) in
    let same = to_z-of_z {w = w128} (search rules) ∙ c.coefficient.ensures.value in
    to_z-of_z {w = w64} (subst (λ (y : ℤ). FitsSigned w64 y) (sym same) fits) ∙ same
