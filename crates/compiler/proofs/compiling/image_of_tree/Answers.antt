use Rattle.std.proofs.Common.{subst}
use Rattle.std.proofs.lemmas.Result.{err_from_is_err_and}
use Rattle.compiler.specs.Images.{MeansAs}
use Rattle.compiler.proofs.Stages.{rules_refusal, rules_fault}
use Rattle.compiler.proofs.compiling.image_of_tree.Goals as goal

pub returns-in_err-checked-clause-only : goal.returns-in_err-checked-clause-only
returns-in_err-checked-clause-only c =
    let p = err_from_is_err_and c.from_residual.result c.from_residual.ensures.1 in
    rw (p.1, p.2) (λ kept order. rules_refusal c.one_answer.ensures c.args.tree.now kept order
    c.in_err-checked.field-0.0 c.in_err-checked.ensures.exact)

pub returns-in_err-checked-clause-fault : goal.returns-in_err-checked-clause-fault
returns-in_err-checked-clause-fault c =
    let p = err_from_is_err_and c.from_residual.result c.from_residual.ensures.1 in
    rw (p.1, p.2) (rules_fault c.args.tree.now c.in_err-checked.field-0.0 c.in_err-checked.ensures.exact)

pub returns-clause-image : goal.returns-clause-image
returns-clause-image c =
    subst (λ t. MeansAs t c.in_ok-image.field-0.items) c.in_ok-checked.ensures.tree c.in_ok-image.ensures

pub returns-clause-only : goal.returns-clause-only
returns-clause-only c = λ kept order.
    subst (λ t. MeansAs t c.in_ok-image.field-0.items) c.in_ok-checked.ensures.tree c.in_ok-image.ensures

pub returns-in_err-image-clause-only : goal.returns-in_err-image-clause-only
returns-in_err-image-clause-only c =
    let p = err_from_is_err_and c.from_residual-in_err-image.result c.from_residual-in_err-image.ensures.1 in
    rw (p.1, p.2) (λ kept order. tt)

pub returns-in_err-image-clause-fault : goal.returns-in_err-image-clause-fault
returns-in_err-image-clause-fault c =
    let p = err_from_is_err_and c.from_residual-in_err-image.result c.from_residual-in_err-image.ensures.1 in
    rw (p.1, p.2) tt
