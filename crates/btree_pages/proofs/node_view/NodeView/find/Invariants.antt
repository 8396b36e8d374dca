use Rattle.std.proofs.Common.{◌-◌}
use Rattle.btree_pages.proofs.Halving.{IsLeft}
use Rattle.btree_pages.proofs.node_view.NodeView.find.Given as goal

abbrev pub invariant-loop-low : goal.invariant-loop-low
invariant-loop-low l = IsLeft l.self.layout l.self.rows l.key l.low l.high

abbrev pub decreases-loop-low : goal.decreases-loop-low
decreases-loop-low l = l.high - l.low
