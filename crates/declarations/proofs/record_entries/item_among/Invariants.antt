use Rattle.std.proofs.Common.{drop}
use Rattle.declarations.specs.Entries.{items_among}
use Rattle.declarations.proofs.EntryNumbers.{IsBehind}
use Rattle.declarations.proofs.record_entries.item_among.Given as goal

abbrev pub invariant-loop-entry : goal.invariant-loop-entry
invariant-loop-entry l = IsBehind (items_among l.entries) (items_among (drop l.entry-index l.entries)) l.number l.left
