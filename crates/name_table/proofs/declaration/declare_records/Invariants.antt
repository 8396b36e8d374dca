use Rattle.std.proofs.Common.{◌≡◌, [], ◌++◌, drop}
use Rattle.source_tree.specs.Broken.{each}
use Rattle.source_tree.specs.FileRules.{description_rules}
use Rattle.name_table.specs.Items.{record_calls}
use Rattle.name_table.specs.Table.{IsTable, calls_in}
use Rattle.name_table.proofs.declaration.declare_records.Given as goal

abbrev pub invariant-loop-file : goal.invariant-loop-file
invariant-loop-file l = record {
  rules : each description_rules (drop l.file-index l.files) ≡ [];
  table : IsTable l.table;
  calls : calls_in l.table ++ record_calls (drop l.file-index l.files)
      ≡ calls_in l.initial.table ++ record_calls l.files;
}
