use Rattle.conditions.specs.Conditions.{condition}
use Rattle.expressions.proofs.Exact.Balance.{parentheses_passed}
use Rattle.conditions.proofs.Exact.Conditions.{condition_sound, condition_even, only_to_depth}
use Rattle.conditions.proofs.laws.condition_law.Goals as goal

pub returns-clause-spelled : goal.returns-clause-spelled
returns-clause-spelled c = condition_sound

pub returns-clause-only : goal.returns-clause-only
returns-clause-only c = only_to_depth

pub returns-clause-parentheses : goal.returns-clause-parentheses
returns-clause-parentheses c =
    λ depth one from rest s. parentheses_passed {p = condition depth one} (condition_even depth one) from rest s
