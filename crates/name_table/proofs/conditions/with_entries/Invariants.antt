use Rattle.std.proofs.Common.{drop}
use Rattle.name_table.specs.Conditions.{pairs_in}
use Rattle.name_table.specs.Table.{calls_in}
use Rattle.name_table.proofs.ConditionCalls.{AreTold}
use Rattle.name_table.proofs.conditions.with_entries.Given as goal

abbrev pub invariant-loop-entry : goal.invariant-loop-entry
invariant-loop-entry l =
    AreTold (calls_in l.items) l.before (pairs_in l.initial.all) l.entries (drop l.entry-index l.entries) l.count l.all
