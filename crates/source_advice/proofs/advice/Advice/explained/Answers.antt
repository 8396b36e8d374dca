use Rattle.std.proofs.Common.{◌∙◌, ℕ, List, Option, ap, subst}
use Rattle.std.specs.Prelude.{option_map}
use Rattle.source_advice.specs.Advice.{IsEnded}
use Rattle.source_advice.proofs.Explaining.{taken}
use Rattle.source_advice.proofs.advice.Advice.explained.Goals as goal

pub returns : goal.returns
returns c =
    let found : Option (List ℕ) = option_map (λ part. part.now) c.between.result in
    let cure : Option (List ℕ) = option_map (λ part. part.now) c.between-2.result in
    let said = taken c.between.result _ c.unwrap_or-message.result c.unwrap_or-message.ensures in
    let done = taken c.between-2.result _ c.unwrap_or-cure.result c.unwrap_or-cure.ensures in
    let P : List ℕ → Type 0 = λ text. IsEnded text c.end_line.new.self.cure.items in (
      c.unwrap_or-message.result.now,
      (found, c.between.ensures, said),
      ap (λ message. message.items) c.end_line.ensures.message ∙ c.in_ok-advice.ensures.message,
      (cure, c.between-2.ensures, subst P (c.in_ok-advice.ensures.cure ∙ done) c.in_ok-end_line.ensures.cure),
    )
