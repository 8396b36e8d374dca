use Rattle.std.proofs.Common.{◌≡◌, ◌+◌, ◌-◌, ◌/◌, ℕ, [], get_or, arith}
use Rattle.std.specs.declared.cmp.Ordering.TheVariants.{Less, Equal, Greater}
use Rattle.btree_pages.specs.Keys.{key_cmp, key_of}
use Rattle.btree_pages.proofs.Halving.{left_left, left_right}
use Rattle.btree_pages.proofs.Order.{above_found, below_found, same_key}
use Rattle.btree_pages.proofs.node_view.NodeView.find.Goals as goal

pub loop-low-preserved-in-Less : goal.loop-low-preserved-in-Less
loop-low-preserved-in-Less c =
    let node = c.args.self.now in
    let middle : ℕ = c.loop-low.low + (c.loop-low.high - c.loop-low.low) / 2 in
    let order : key_cmp (key_of node.layout (get_or node.rows middle [])) c.args.key.now ≡ Less = cc in
    left_right node.layout node.rows c.args.key.now c.loop-low.low c.loop-low.high middle c.loop-low.invariant
    (omega arith) (omega arith) order

pub loop-low-preserved : goal.loop-low-preserved
loop-low-preserved c =
    let node = c.args.self.now in
    let middle : ℕ = c.loop-low.low + (c.loop-low.high - c.loop-low.low) / 2 in
    let order : key_cmp (key_of node.layout (get_or node.rows middle [])) c.args.key.now ≡ Greater = cc in
    left_left node.layout node.rows c.args.key.now c.loop-low.low c.loop-low.high middle c.loop-low.invariant
    (omega arith) (omega arith) order

pub returns-in-Equal-clause-found : goal.returns-in-Equal-clause-found
returns-in-Equal-clause-found c =
    let node = c.args.self.now in
    let middle : ℕ = c.loop-low.low + (c.loop-low.high - c.loop-low.low) / 2 in
    let order : key_cmp (key_of node.layout (get_or node.rows middle [])) c.args.key.now ≡ Equal = cc in (
      omega (arith, c.loop-low.invariant.within),
      same_key (key_of node.layout (get_or node.rows middle [])) c.args.key.now order,
    )

pub returns-in-Equal-clause-around : goal.returns-in-Equal-clause-around
returns-in-Equal-clause-around c = λ up.
    let node = c.args.self.now in
    let middle : ℕ = c.loop-low.low + (c.loop-low.high - c.loop-low.low) / 2 in
    let order : key_cmp (key_of node.layout (get_or node.rows middle [])) c.args.key.now ≡ Equal = cc in
    let same = same_key (key_of node.layout (get_or node.rows middle [])) c.args.key.now order in (
      below_found node.layout node.rows up c.args.key.now middle (omega (arith, c.loop-low.invariant.within)) same,
      above_found node.layout node.rows up c.args.key.now middle (omega (arith, c.loop-low.invariant.within)) same,
    )
