use Rattle.std.proofs.Common.{◌≡◌, take, arith}
use Rattle.std.specs.declared.cmp.Ordering.TheVariants.{Less, Equal, Greater}
use Rattle.btree_pages.specs.Keys.{key_cmp}
use Rattle.btree_pages.proofs.Words.{decided, past, same_first}
use Rattle.btree_pages.proofs.key_order.compare_long.Goals as goal

pub returns-in-Equal : goal.returns-in-Equal
returns-in-Equal c =
    let rest = c.split_at.result.1.now in
    let others = c.split_at-2.result.1.now in
    let first = past 8 c.args.one.now c.args.other.now c.requires.one c.requires.other c.requires.equal in
    let words : key_cmp (take 8 rest) (take 8 others) ≡ Equal = cc in
    let second = past 8 rest others (omega arith) (omega arith) (same_first 8 rest others words) in
    cc

pub returns-in-Less : goal.returns-in-Less
returns-in-Less c =
    let rest = c.split_at.result.1.now in
    let others = c.split_at-2.result.1.now in
    let first = past 8 c.args.one.now c.args.other.now c.requires.one c.requires.other c.requires.equal in
    let words : key_cmp (take 8 rest) (take 8 others) ≡ Less = cc in
    let second = decided 8 rest others Less (omega arith) (omega arith) words in
    cc

pub returns-in-Greater : goal.returns-in-Greater
returns-in-Greater c =
    let rest = c.split_at.result.1.now in
    let others = c.split_at-2.result.1.now in
    let first = past 8 c.args.one.now c.args.other.now c.requires.one c.requires.other c.requires.equal in
    let words : key_cmp (take 8 rest) (take 8 others) ≡ Greater = cc in
    let second = decided 8 rest others Greater (omega arith) (omega arith) words in
    cc
