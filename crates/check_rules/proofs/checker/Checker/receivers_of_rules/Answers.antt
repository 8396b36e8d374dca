use Rattle.std.proofs.Common.{ap, sym, subst, ◌∙◌}
use Rattle.std.proofs.lemmas.Result.{err_from_is_err_and}
use Rattle.source_tree.specs.declared.arithmetic.Operation.{Operation}
use Rattle.source_tree.specs.LookUp.{first}
use Rattle.source_tree.specs.NameRules.{reference_rules}
use Rattle.source_tree.specs.ArithmeticRules.{number_receiver}
use Rattle.entry_rules.specs.Checks.{IsFirstBreach, broken_of}
use Rattle.declarations.specs.Named.{items_in}
use Rattle.check_rules.specs.Operations.{receivers_rules}
use Rattle.declarations.proofs.Firsts.{first_front}
use Rattle.check_rules.proofs.Parts.{kept_before}
use Rattle.check_rules.proofs.checker.Checker.receivers_of_rules.Goals as goal

pub returns-in_err-item_rules-in-DivideRemainder : goal.returns-in_err-item_rules-in-DivideRemainder
returns-in_err-item_rules-in-DivideRemainder c =
    let p = err_from_is_err_and c.from_residual.result c.from_residual.ensures.1 in
    let items = items_in c.args.self.now.declarations.now in
    rw (p.1, p.2) (ap (λ (one : Operation). first (receivers_rules items one)) c.in-DivideRemainder.is
    ∙ first_front (reference_rules items number_receiver c.in-DivideRemainder.quotient.item)
    (reference_rules items number_receiver c.in-DivideRemainder.remainder)
    (broken_of c.in_err-item_rules-in-DivideRemainder.field-0.0) c.in_err-item_rules-in-DivideRemainder.ensures)

pub returns-in_ok-item_rules-in-DivideRemainder : goal.returns-in_ok-item_rules-in-DivideRemainder
returns-in_ok-item_rules-in-DivideRemainder c =
    let items = items_in c.args.self.now.declarations.now in
    let result = c.item_rules-in-DivideRemainder.result in
    subst (λ (one : Operation). IsFirstBreach result (receivers_rules items one)) (sym c.in-DivideRemainder.is)
    (kept_before result (reference_rules items number_receiver c.in-DivideRemainder.quotient.item)
    (reference_rules items number_receiver c.in-DivideRemainder.remainder)
    c.in_ok-item_rules-in-DivideRemainder.ensures c.item_rules-in-DivideRemainder.ensures)
