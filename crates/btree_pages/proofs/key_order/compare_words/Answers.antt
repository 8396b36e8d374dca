use Rattle.std.proofs.Common.{arith, sym, ap, ◌∙◌}
use Rattle.std.specs.Ordering.{nat_cmp}
use Rattle.byteorder.specs.Endian.{big_number}
use Rattle.btree_pages.proofs.Words.{words}
use Rattle.btree_pages.proofs.key_order.compare_words.Goals as goal

pub returns : goal.returns
returns c =
    c.cmp.ensures
    ∙ ap (λ n. nat_cmp n c.read_u64-2.result) c.read_u64.ensures
    ∙ ap (nat_cmp (big_number 8 c.args.one.now)) c.read_u64-2.ensures
    ∙ sym (words 8 c.args.one.now c.args.other.now c.requires.one c.requires.other
    (λ k. omega (arith, c.type_inv.one k)) (λ k. omega (arith, c.type_inv.other k)))
