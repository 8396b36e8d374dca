use Rattle.expressions.specs.Expressions.{expression}
use Rattle.expressions.proofs.Exact.Balance.{expression_even, parentheses_passed}
use Rattle.expressions.proofs.Exact.Leads.{reference_found, reference_before_found}
use Rattle.expressions.proofs.laws.looking_law.Goals as goal

pub returns-clause-reference : goal.returns-clause-reference
returns-clause-reference c = λ from rest. (reference_found.found from rest, reference_found.stands from rest)

pub returns-clause-before : goal.returns-clause-before
returns-clause-before c =
    λ one from rest. ((reference_before_found one).found from rest, (reference_before_found one).stands from rest)

pub returns-clause-parentheses : goal.returns-clause-parentheses
returns-clause-parentheses c =
    λ depth one from rest s. parentheses_passed {p = expression depth one} (expression_even depth one) from rest s
