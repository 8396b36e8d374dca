use Rattle.std.proofs.Common.{◌≡◌, ℕ, List, [], Option, None, Some, Result, Ok, Err, IfOk, ap, subst}
use Rattle.std.specs.Prelude.{decimal, option_map}
use Rattle.std.specs.declared.alloc.AllocError.{AllocError}
use Rattle.explanations.specs.Books.{IsPartUnder}
use Rattle.explanations.specs.declared.book.Book.TheVariants.{Numbers}
use Rattle.source_advice.specs.declared.advice.Advice.{Advice}
use Rattle.source_advice.specs.Advice.{IsExplained, about, unknown_message}
use Rattle.source_advice.proofs.Explaining.{explains, says}
use Rattle.source_advice.proofs.advice.Advice.for_number.Goals as goal

unknown : (word : List ℕ) (result : Result Advice AllocError)
    → IfOk result (λ advice. advice.message.items ≡ about word unknown_message)
    → IfOk result (λ advice. advice.cure.items ≡ [])
    → IfOk result (λ advice. IsExplained None word advice.message.items advice.cure.items)
unknown word (Ok advice) message cure = (message, cure)
unknown word (Err error) message cure = tt

pub returns-in-Some-clause-about : goal.returns-in-Some-clause-about
returns-in-Some-clause-about c =
    let P : Option (List ℕ) → Type 0 = λ text. IsPartUnder Numbers (decimal c.args.number) text in
    let Q : ℕ → Type 0 = λ number.
    IsPartUnder Numbers (decimal number) (option_map (λ text. text.now) c.in_ok-text.field-0) in
    let under = subst Q c.from.ensures c.in_ok-text.ensures in
    explains c.args.number c.args.word.now (Some c.in-Some.text.now) c.explained.result
    (subst P (ap (λ found. option_map (λ text. text.now) found) c.in-Some.is) under) c.explained.ensures

pub returns-in-Some-clause-number : goal.returns-in-Some-clause-number
returns-in-Some-clause-number c =
    says c.args.number c.args.word.now c.explained.result (returns-in-Some-clause-about c)

pub returns-in-None-clause-about : goal.returns-in-None-clause-about
returns-in-None-clause-about c =
    let P : Option (List ℕ) → Type 0 = λ text. IsPartUnder Numbers (decimal c.args.number) text in
    let Q : ℕ → Type 0 = λ number.
    IsPartUnder Numbers (decimal number) (option_map (λ text. text.now) c.in_ok-text.field-0) in
    let under = subst Q c.from.ensures c.in_ok-text.ensures in
    explains c.args.number c.args.word.now None c.about.result
    (subst P (ap (λ found. option_map (λ text. text.now) found) c.in-None.is) under)
    (unknown c.args.word.now c.about.result c.about.ensures.message c.about.ensures.cure)

pub returns-in-None-clause-number : goal.returns-in-None-clause-number
returns-in-None-clause-number c =
    says c.args.number c.args.word.now c.about.result (returns-in-None-clause-about c)
