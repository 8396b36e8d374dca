use Rattle.data_instructions.proofs.Subscripts.{works_append}
use Rattle.data_instructions.proofs.Codes.{place_taken, move_works, display_works, accept_works}
use Rattle.data_instructions.proofs.Codes.{date_works}
use Rattle.data_instructions.proofs.ArithmeticCodes.{arithmetic_works}
use Rattle.data_instructions.proofs.laws.statement_law.Goals as goal

pub returns-clause-chain : goal.returns-clause-chain
returns-clause-chain c = works_append

pub returns-clause-does : goal.returns-clause-does
returns-clause-does c = λ items tables order. record {
  reference = λ one code is. place_taken items tables order one code is;
  moves = λ sender receivers code is. move_works items tables order sender receivers code is;
  displays = λ operands advancing code is. display_works items tables order operands advancing code is;
  accepts = λ receiver code is line. accept_works items tables order line receiver code is;
  dates = λ receiver code is day. date_works items tables order day receiver code is;
  calculates = λ keep one code is. arithmetic_works items tables order keep one code is;
}
