use Rattle.std.proofs.Common.{◌≡◌, ◌≤◌, ◌+◌, ◌++◌, drop, length}
use Rattle.name_table.specs.Conditions.{pairs_in}
use Rattle.name_table.specs.Passing.{AreCalled, record_item_count, behind_records}
use Rattle.name_table.specs.Table.{calls_in}
use Rattle.name_table.proofs.conditions.with_records.Given as goal

abbrev pub invariant-loop-file : goal.invariant-loop-file
invariant-loop-file l = record {
  range : l.so_far.items + record_item_count (drop l.file-index l.files) ≤ length (calls_in l.items);
  called : AreCalled (calls_in l.items) l.so_far.conditions;
  pairs : pairs_in l.so_far.conditions ++ behind_records l.so_far.items (drop l.file-index l.files)
      ≡ pairs_in l.initial.so_far.conditions ++ behind_records l.initial.so_far.items l.files;
}
