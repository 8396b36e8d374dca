use Rattle.std.proofs.Common.{ap, subst, ◌∙◌, arith}
use Rattle.answers.specs.Answer.{Gives}
use Rattle.data_image.specs.Faults.{fault_of}
use Rattle.code_image.specs.Reading.{code_at}
use Rattle.code_image.proofs.Soundness.{is_found, is_spelt}
use Rattle.code_image.proofs.Completeness.{code_again}
use Rattle.code_image.proofs.reading.from_bytes.Goals as goal

pub returns-clause-found : goal.returns-clause-found
returns-clause-found c =
    is_found c.args.bytes.now c.read_code.result (λ i. omega (arith, c.type_inv.bytes i)) c.read_code.ensures

pub returns-clause-has_spelling : goal.returns-clause-has_spelling
returns-clause-has_spelling c =
    is_spelt c.args.bytes.now c.read_code.result (λ i. omega (arith, c.type_inv.bytes i)) c.read_code.ensures

pub returns-clause-only : goal.returns-clause-only
returns-clause-only c = λ code fits e. subst (λ f. Gives (λ code. code) fault_of c.read_code.result f)
    (ap code_at e ∙ code_again code fits) c.read_code.ensures
