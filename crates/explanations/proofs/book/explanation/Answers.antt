use Rattle.std.proofs.Common.{ℕ, List, ◌∙◌, IfOk, subst}
use Rattle.std.specs.Option.{option_map}
use Rattle.explanations.specs.Books.{IsPartUnder}
use Rattle.explanations.specs.declared.book.Book.TheVariants.{Numbers}
use Rattle.explanations.proofs.book.explanation.Goals as goal

pub returns : goal.returns
returns c =
    let P : List ℕ → Type 0 = λ digits.
    IfOk c.part_under.result (λ part. IsPartUnder Numbers digits (option_map (λ text. text.now) part)) in
    subst P (c.as_bytes.ensures.value ∙ c.format.ensures.text) c.part_under.ensures
