use Rattle.std.proofs.Common.{ℕ, List, Option, ◌∙◌, subst}
use Rattle.std.specs.Option.{option_map}
use Rattle.explanations.specs.Books.{text_of, mark}
use Rattle.explanations.specs.Parts.{IsBetween}
use Rattle.explanations.proofs.book.part_under.Goals as goal

pub returns : goal.returns
returns c =
    let part : Option (List ℕ) = option_map (λ text. text.now) c.between.result in
    let P : List ℕ → Type 0 = λ text. IsBetween text c.deref.result.now mark part in
    let Q : List ℕ → Type 0 = λ line. IsBetween (text_of c.args.book) line mark part in
    subst Q (c.deref.ensures.value ∙ c.in_ok-line.ensures) (subst P c.text_of.ensures c.between.ensures)
