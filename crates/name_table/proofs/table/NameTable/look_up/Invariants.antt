use Rattle.name_table.specs.Table.{calls_in}
use Rattle.name_table.proofs.Steps.{IsSought, left}
use Rattle.name_table.proofs.table.NameTable.look_up.Given as goal

abbrev pub invariant-same : goal.invariant-same
invariant-same l = IsSought l.reference (calls_in l.self) l.next l.found

abbrev pub decreases-same : goal.decreases-same
decreases-same l = left l.next
