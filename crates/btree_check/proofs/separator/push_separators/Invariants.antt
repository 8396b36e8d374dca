use Rattle.std.proofs.Common.{◌≡◌, ◌++◌, map, take}
use Rattle.btree_check.specs.Walks.{separator_in, separator_row}
use Rattle.btree_check.proofs.separator.push_separators.Given as goal

abbrev pub invariant-loop-place : goal.invariant-loop-place
invariant-loop-place l = record {
  read : l.separators.items ≡ l.fn.separators.items ++ map (separator_in l.node.layout) (take l.place l.node.rows);
  back : map separator_row (map (separator_in l.node.layout) (take l.place l.node.rows)) ≡ take l.place l.node.rows;
}
