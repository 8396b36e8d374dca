use Rattle.std.proofs.Common.{◌+◌, ◌-◌, ◌/◌, ◌++◌, take, ◌∙◌, ap, arith}
use Rattle.std.specs.List.{insert}
use Rattle.btree_pages.specs.Node.{Node}
use Rattle.btree.proofs.SplitNodes.{left_insert, right_insert}
use Rattle.btree.proofs.split_node.split_node.Goals as goal

pub returns-then-place-half-clause-rows : goal.returns-then-place-half-clause-rows
returns-then-place-half-clause-rows c =
    let node = c.args.node.now in
    let row = c.args.key.now ++ c.args.rest.now in
    let at = (c.count-count.result + 1) / 2 - 1 in
    let counted = c.count-count.ensures.rows in
    ap (λ (n : Node). n.rows ++ c.split_off-right.result.rows) c.insert.ensures
    ∙ ap (λ (n : Node). insert n.rows c.args.place row ++ c.split_off-right.result.rows) c.split_off-right.ensures.left
    ∙ ap (λ (n : Node). insert (take at node.rows) c.args.place row ++ n.rows) c.split_off-right.ensures.right
    ∙ left_insert node.rows at c.args.place row (omega (arith, counted)) (omega (arith, c.if-place-half.true))

pub returns-clause-rows : goal.returns-clause-rows
returns-clause-rows c =
    let node = c.args.node.now in
    let row = c.args.key.now ++ c.args.rest.now in
    let at = (c.count-count.result + 1) / 2 in
    let counted = c.count-count.ensures.rows in
    ap (λ (n : Node). n.rows ++ c.insert-2.new.self.rows) c.split_off-right-2.ensures.left
    ∙ ap (λ (n : Node). take at node.rows ++ n.rows) c.insert-2.ensures
    ∙ ap (λ (n : Node). take at node.rows ++ insert n.rows (c.args.place - at) row) c.split_off-right-2.ensures.right
    ∙ right_insert node.rows at c.args.place row (omega (arith, counted, c.requires.full))
    (omega (arith, c.if-place-half.false))
