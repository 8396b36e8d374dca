use Rattle.std.proofs.Common.{◌≡◌, ◌++◌, map, take}
use Rattle.btree_pages.specs.Keys.{child_of}
use Rattle.btree.proofs.clear.push_children.Given as goal

abbrev pub invariant-loop-place : goal.invariant-loop-place
invariant-loop-place l = l.numbers.items ≡ l.fn.numbers.items ++ map (child_of l.node.layout) (take l.place l.node.rows)
