use Rattle.btree.proofs.Rebalancing.{named_one, named_both}
use Rattle.btree.proofs.rebalance.name_pair.Goals as goal

pub returns-in-Some-clause-rows : goal.returns-in-Some-clause-rows
returns-in-Some-clause-rows c = λ names beside.
    named_both c.args.node.now c.set_key.new.self c.set_key-in-Some.new.self c.args.place c.key.result.now
    c.key-in-Some.result.now c.args.joined.now c.in-Some.right c.requires.place
    (record { layout_is = c.requires.keys.left.0; key_is = c.key.ensures.key; names = names })
    (record {
      layout_is = (rw c.in-Some.is at c.requires.keys.right).0;
      key_is = c.key-in-Some.ensures.key;
      names = rw c.in-Some.is at beside;
    })
    c.set_key.ensures c.set_key-in-Some.ensures c.in-Some.is

pub returns-in-None-clause-rows : goal.returns-in-None-clause-rows
returns-in-None-clause-rows c = λ names beside.
    named_one c.args.node.now c.set_key.new.self c.remove.new.self c.args.place c.key.result.now c.args.joined.now
    c.requires.place
    (record { layout_is = c.requires.keys.left.0; key_is = c.key.ensures.key; names = names })
    c.set_key.ensures c.remove.ensures c.in-None.is
