use Rattle.std.proofs.Common.{rules}
use Rattle.data_machine.proofs.Strings.{stands_still}
use Rattle.data_machine.proofs.inspect_statement.add_and_store.Goals as goal

pub store_text-requires-clause-stands : goal.store_text-requires-clause-stands
store_text-requires-clause-stands c = search (rules, stands_still)
