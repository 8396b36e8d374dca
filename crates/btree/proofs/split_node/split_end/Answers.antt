use Rattle.std.proofs.Common.{◌≤◌, ◌-◌, ◌++◌, ℕ, length, take, ◌∙◌, ap, arith}
use Rattle.std.specs.List.{insert}
use Rattle.btree_pages.specs.Node.{Node}
use Rattle.btree.proofs.SplitNodes.{right_insert}
use Rattle.btree.proofs.split_node.split_end.Goals as goal
use Rattle.btree.proofs.split_node.split_end.Goals.{in-Leaf, in-Inner}

pub returns-clause-rows : goal.returns-clause-rows
returns-clause-rows c =
    let node = c.args.node.now in
    let row = c.args.key.now ++ c.args.rest.now in
    let within : c.match-kind.stays ≤ length node.rows =
    elim c.match-kind.branch [ in-Leaf w ↦ omega arith | in-Inner w ↦ omega arith ] in
    ap (λ (n : Node). n.rows ++ c.insert.new.self.rows) c.split_off-right.ensures.left
    ∙ ap (λ (n : Node). take c.match-kind.stays node.rows ++ n.rows) c.insert.ensures
    ∙ ap (λ (n : Node). take c.match-kind.stays node.rows
    ++ insert n.rows (c.count-count.result - c.match-kind.stays) row) c.split_off-right.ensures.right
    ∙ right_insert node.rows c.match-kind.stays c.count-count.result row within
    (omega (arith, within, c.count-count.ensures.rows))
    ∙ ap (λ (i : ℕ). insert node.rows i row) c.count-count.ensures.rows
