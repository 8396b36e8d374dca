use Rattle.std.proofs.Common.{◌≡◌, ℕ, ◌+◌, ◌<◌, [], get_or}
use Rattle.std.specs.declared.cmp.Ordering.TheVariants.{Less}
use Rattle.btree_pages.specs.Keys.{key_cmp, key_of}
use Rattle.btree_pages.proofs.node_view.NodeView.is_ascending.Given as goal

abbrev pub invariant-loop-place : goal.invariant-loop-place
invariant-loop-place l = (k : ℕ) → k + 1 < l.place → key_cmp (key_of l.self.layout (get_or l.self.rows k []))
    (key_of l.self.layout (get_or l.self.rows (k + 1) [])) ≡ Less
