use Rattle.std.proofs.Common.{◌≡◌, ◌≤◌, ◌+◌, ◌*◌, ◌++◌, length}
use Rattle.source_tree.specs.Levels.{forest_of}
use Rattle.data_entries.specs.Nesting.{AreTold}
use Rattle.name_table.specs.Items.{item_calls}
use Rattle.name_table.specs.Table.{IsTable, calls_in, names_of}
use Rattle.name_table.proofs.declaration.+declaring.Given as goal

abbrev pub decreases-declare_item : goal.decreases-declare_item
decreases-declare_item l = 2 * length l.one.inner.now + 1

abbrev pub decreases-declare_group : goal.decreases-declare_group
decreases-declare_group l = 2 * length l.entries.now

abbrev pub invariant-declare_group-items : goal.invariant-declare_group-items
invariant-declare_group-items l = record {
  told : AreTold (forest_of l.rest);
  shorter : length l.rest ≤ length l.entries;
  table : IsTable l.table;
  calls : calls_in l.table ++ item_calls (names_of l.groups) (forest_of l.rest)
      ≡ calls_in l.initial.table ++ item_calls (names_of l.groups) (forest_of l.entries);
}

abbrev pub decreases-declare_group-items : goal.decreases-declare_group-items
decreases-declare_group-items l = length l.rest
