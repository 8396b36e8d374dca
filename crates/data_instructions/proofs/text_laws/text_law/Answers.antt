use Rattle.data_instructions.proofs.TextCodes.{initialize_works, set_works, sendings_work, string_works}
use Rattle.data_instructions.proofs.TextChains.{initialize_known, set_known, sendings_known, string_known}
use Rattle.data_instructions.proofs.InspectCodes.{inspect_does, convert_does}
use Rattle.data_instructions.proofs.InspectChains.{inspect_leaves, convert_leaves}
use Rattle.data_instructions.proofs.text_laws.text_law.Goals as goal

pub returns-clause-does : goal.returns-clause-does
returns-clause-does c = λ items tables order. record {
  initializes = initialize_works items tables order;
  sets = set_works items tables order;
  sends = sendings_work items tables order;
  strings = string_works items tables order;
  inspects = inspect_does items tables order;
  converts = convert_does items tables order;
}

pub returns-clause-knows : goal.returns-clause-knows
returns-clause-knows c = λ items tables. record {
  initialize = initialize_known items tables;
  set = set_known items tables;
  send = sendings_known items tables;
  string = string_known items tables;
  inspect = inspect_leaves items tables;
  convert = convert_leaves items tables;
}
