use Rattle.data_instructions.proofs.Expressions.{value_works, negated_works, first_works, further_works, value_known}
use Rattle.data_instructions.proofs.Expressions.{negated_known, first_known, further_known}
use Rattle.data_instructions.proofs.laws.expression_law.Goals as goal

pub returns-clause-operand : goal.returns-clause-operand
returns-clause-operand c = λ items tables one code order is. value_works items tables order one code is

pub returns-clause-computes : goal.returns-clause-computes
returns-clause-computes c = λ tables. record {
  negated = negated_works tables;
  first = first_works tables;
  further = further_works tables;
}

pub returns-clause-adds : goal.returns-clause-adds
returns-clause-adds c = value_known

pub returns-clause-pushes : goal.returns-clause-pushes
returns-clause-pushes c = λ tables. record {
  negated = negated_known tables;
  first = first_known tables;
  further = further_known tables;
}
