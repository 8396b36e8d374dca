use Rattle.data_instructions.proofs.PartEntries.{part_in_order}
use Rattle.data_instructions.proofs.Chains.{effects_append, move_known, display_known, accept_known, date_known}
use Rattle.data_instructions.proofs.ArithmeticChains.{arithmetic_known}
use Rattle.data_instructions.proofs.laws.shape_law.Goals as goal

pub returns-clause-chain : goal.returns-clause-chain
returns-clause-chain c = effects_append

pub returns-clause-knows : goal.returns-clause-knows
returns-clause-knows c = λ items tables. record {
  moves = λ sender receivers code sent is sends may. move_known items tables sender receivers code is sent sends may;
  displays = display_known items tables;
  accepts = accept_known items tables;
  dates = date_known items tables;
  calculates = λ keep one code is lies. arithmetic_known items tables keep one code is lies;
}

pub returns-clause-parts : goal.returns-clause-parts
returns-clause-parts c = λ tables found part item lies. part_in_order tables found part item lies
