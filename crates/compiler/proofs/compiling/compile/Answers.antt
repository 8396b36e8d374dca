use Rattle.std.proofs.Common.{◌≡◌, [], sym, subst}
use Rattle.std.proofs.lemmas.Result.{err_from_is_err_and}
use Rattle.source_tree.specs.Recursion.{HasOrder}
use Rattle.compiler.specs.Faults.{fault_of}
use Rattle.compiler.specs.Trees.{broken_rules}
use Rattle.compiler.specs.Images.{IsImageAnswer}
use Rattle.compiler.proofs.Stages.{image_refusal, stage_failed, result_fault}
use Rattle.compiler.proofs.compiling.compile.Goals as goal

pub returns-in_err-tree-clause-only : goal.returns-in_err-tree-clause-only
returns-in_err-tree-clause-only c =
    let p = err_from_is_err_and c.from_residual.result c.from_residual.ensures.1 in
    rw (p.1, p.2) (λ tree is. image_refusal tree c.in_err-tree.field-0.0 (c.in_err-tree.ensures.only tree is.read))

pub returns-clause-only : goal.returns-clause-only
returns-clause-only c = λ tree is.
    let same = c.in_ok-tree.ensures.only tree is.read in
    subst (λ t. IsImageAnswer t c.image_of_tree-image.result) same (c.image_of_tree-image.ensures.only
    (subst (λ t. broken_rules t ≡ []) (sym same) is.kept) (subst HasOrder (sym same) is.order))

pub returns-in_err-tree-clause-fault : goal.returns-in_err-tree-clause-fault
returns-in_err-tree-clause-fault c =
    let p = err_from_is_err_and c.from_residual.result c.from_residual.ensures.1 in
    rw (p.1, p.2) (stage_failed c.args.source.now (fault_of c.in_err-tree.field-0.0) c.in_err-tree.ensures.fault)

pub returns-clause-fault : goal.returns-clause-fault
returns-clause-fault c =
    result_fault c.args.source.now _ c.image_of_tree-image.result c.in_ok-tree.ensures.rules
    c.image_of_tree-image.ensures.fault
