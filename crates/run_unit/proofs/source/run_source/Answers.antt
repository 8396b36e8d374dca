use Rattle.std.proofs.Common.{Ok, refl, sym, subst}
use Rattle.std.proofs.lemmas.Result.{err_from_is_err_and}
use Rattle.compiler.specs.Images.{IsCompiled}
use Rattle.compiler.proofs.Results.{value}
use Rattle.compiler.proofs.Stages.{memory_alone}
use Rattle.run_unit.proofs.Images.{none_too}
use Rattle.run_unit.proofs.source.run_source.Goals as goal

pub returns-in_err-image-clause-only : goal.returns-in_err-image-clause-only
returns-in_err-image-clause-only g c =
    let p = err_from_is_err_and c.from_residual.result c.from_residual.ensures.1 in
    rw (p.1, p.2) (λ tree is. memory_alone tree c.in_err-image.field-0.0 (c.in_err-image.ensures.only tree is))

pub returns-clause-own : goal.returns-clause-own
returns-clause-own g c =
    let source = c.args.source.now in
    let image = c.as_slice.result.now in
    let compiled =
    subst (λ bytes. IsCompiled source bytes) (sym c.as_slice.ensures.value) c.in_ok-image.ensures.image in
    c.compiled_bytes.ensures.end source image c.run_image.result compiled c.run_image.ensures.image

pub returns-clause-memory : goal.returns-clause-memory
returns-clause-memory g c = λ tree is none end.
    let source = c.args.source.now in
    let image = c.as_slice.result.now in
    let compiled =
    subst (λ bytes. IsCompiled source bytes) (sym c.as_slice.ensures.value) c.in_ok-image.ensures.image in
    let has = c.compiled_bytes.ensures.tree source image tree compiled is in
    c.run_image.ensures.memory has.code has.is (none_too has.code.files tree.selects has.files none)
    (value {r = Ok c.run_image.result} refl end)

pub returns-clause-runs : goal.returns-clause-runs
returns-clause-runs g c = λ honest.
    let source = c.args.source.now in
    let image = c.as_slice.result.now in
    let compiled =
    subst (λ bytes. IsCompiled source bytes) (sym c.as_slice.ensures.value) c.in_ok-image.ensures.image in
    c.compiled_bytes.ensures.runs source image _ compiled (c.run_image.ensures.runs honest)

pub returns-clause-unwritten : goal.returns-clause-unwritten
returns-clause-unwritten g c =
    λ honest is. c.run_image.ensures.unwritten honest (value {r = Ok c.run_image.result} refl is)
