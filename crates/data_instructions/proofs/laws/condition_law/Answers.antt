use Rattle.data_instructions.proofs.Conditions.{pair_works, sides_work, sign_works, class_works, name_works}
use Rattle.data_instructions.proofs.ConditionChains.{pair_known, sides_known, sign_known, class_known, name_known}
use Rattle.data_instructions.proofs.laws.condition_law.Goals as goal

pub returns-clause-decides : goal.returns-clause-decides
returns-clause-decides c = λ items tables. record {
  pair = λ a one b code order is. pair_works items tables order a one b code is;
  numbers = sides_work items tables;
  sign = sign_works items tables;
  class = λ one negated class code order is. class_works items tables order one negated class code is;
  name = λ one code order is. name_works items tables order one code is;
}

pub returns-clause-knows : goal.returns-clause-knows
returns-clause-knows c = λ items tables. record {
  pair = pair_known items tables;
  numbers = sides_known items tables;
  sign = sign_known items tables;
  class = class_known items tables;
  name = name_known items tables;
}
