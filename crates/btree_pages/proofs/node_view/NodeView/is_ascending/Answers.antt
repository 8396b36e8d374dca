use Rattle.std.proofs.Common.{◌≡◌, refl, ◌-◌, [], get_or, arith, rules}
use Rattle.std.specs.declared.cmp.Ordering.TheVariants.{Less}
use Rattle.btree_pages.specs.Keys.{key_cmp, key_of}
use Rattle.btree_pages.proofs.Order.{ascending, ordered}
use Rattle.btree_pages.proofs.node_view.NodeView.is_ascending.Goals as goal

pub returns-in_default : goal.returns-in_default
returns-in_default c =
    let node = c.args.self.now in
    let place = c.loop-place.place in (
      (λ no. absurd (search (no, rules))),
      (λ up.
          let less : key_cmp (key_of node.layout (get_or node.rows (place - 1) []))
          (key_of node.layout (get_or node.rows place [])) ≡ Less =
          ordered node.layout node.rows up (place - 1) place (omega arith) (omega arith) in
          let found : c.compare_keys.result ≡ Less = cc in
          absurd (c.in_default.not-Less found)),
    )

pub returns : goal.returns
returns c = (
  (λ _. ascending c.args.self.now.layout c.args.self.now.rows (λ k lt. c.loop-place.invariant k (omega arith))),
  (λ _. refl),
)
