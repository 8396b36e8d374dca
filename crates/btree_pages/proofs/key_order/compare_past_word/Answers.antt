use Rattle.std.proofs.Common.{◌-◌, length, arith}
use Rattle.btree_pages.proofs.Words.{overlapping}
use Rattle.btree_pages.proofs.key_order.compare_past_word.Goals as goal

pub returns-then-length : goal.returns-then-length
returns-then-length c =
    let k = length c.args.one.now - 8 in
    let whole = overlapping k c.args.one.now c.args.other.now (omega arith) (omega arith) (omega arith)
    c.requires.equal in
    cc
