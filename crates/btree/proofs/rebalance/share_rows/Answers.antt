use Rattle.std.proofs.Common.{arith}
use Rattle.std.proofs.lemmas.Grind.{common_steps}
use Rattle.btree.proofs.JoinedPairs.{even_cut, joined_cut}
use Rattle.btree.proofs.Sharing.{cut_joined}
use Rattle.btree.proofs.rebalance.share_rows.Goals as goal

pub returns-clause-rows : goal.returns-clause-rows
returns-clause-rows c =
    cut_joined _ c.args.left.now c.split_off-rest-2.new.self c.split_off-rest-2.result c.append-2.new.self
    c.args.right.now.rows c.split_off-rest-2.ensures.left c.split_off-rest-2.ensures.right c.append-2.ensures

pub returns-then-count-clause-rows : goal.returns-then-count-clause-rows
returns-then-count-clause-rows c =
    joined_cut _ c.args.left.now c.args.right.now c.split_off-rest.new.self c.split_off-rest.result c.append.new.self
    c.split_off-rest.ensures.left c.split_off-rest.ensures.right c.append.ensures

pub returns-then-count-clause-left_even : goal.returns-then-count-clause-left_even
returns-then-count-clause-left_even c = (even_cut c.count-then-count-2.result c.count-then-count.result
    c.args.left.now c.args.right.now c.split_off-rest.new.self c.split_off-rest.result c.append.new.self
    c.count-then-count-2.ensures.rows c.count-then-count.ensures.rows
    (omega (
      arith,
      c.if-count.true,
      c.count.ensures.rows,
      c.count-2.ensures.rows,
      c.count-then-count.ensures.rows,
      c.count-then-count-2.ensures.rows,
    ))
    c.split_off-rest.ensures.left c.split_off-rest.ensures.right c.append.ensures).0

pub returns-then-count-clause-right_even : goal.returns-then-count-clause-right_even
returns-then-count-clause-right_even c = (even_cut c.count-then-count-2.result c.count-then-count.result
    c.args.left.now c.args.right.now c.split_off-rest.new.self c.split_off-rest.result c.append.new.self
    c.count-then-count-2.ensures.rows c.count-then-count.ensures.rows
    (omega (
      arith,
      c.if-count.true,
      c.count.ensures.rows,
      c.count-2.ensures.rows,
      c.count-then-count.ensures.rows,
      c.count-then-count-2.ensures.rows,
    ))
    c.split_off-rest.ensures.left c.split_off-rest.ensures.right c.append.ensures).1

pub returns-clause-left_even : goal.returns-clause-left_even
returns-clause-left_even c = grind (arith, common_steps)

pub returns-clause-right_even : goal.returns-clause-right_even
returns-clause-right_even c = grind (arith, common_steps)
