use Rattle.std.proofs.Common.{drop}
use Rattle.declarations.specs.Entries.{items_of_files}
use Rattle.declarations.proofs.EntryNumbers.{IsBehind}
use Rattle.declarations.proofs.record_entries.record_among.Given as goal

abbrev pub invariant-loop-file : goal.invariant-loop-file
invariant-loop-file l = IsBehind (items_of_files l.files) (items_of_files (drop l.file-index l.files)) l.number l.left
