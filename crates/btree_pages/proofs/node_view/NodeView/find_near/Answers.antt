use Rattle.std.proofs.Common.{◌≡◌, ◌<◌, ◌∙◌, [], true, length, get_or, refl, sym, arith}
use Rattle.std.specs.Ordering.{is_eq}
use Rattle.std.specs.declared.cmp.Ordering.{Ordering}
use Rattle.std.specs.declared.cmp.Ordering.TheVariants.{Less, Equal, Greater}
use Rattle.btree_pages.specs.Keys.{key_of}
use Rattle.btree_pages.proofs.Order.{above_found, below_found, same_key}
use Rattle.btree_pages.proofs.node_view.NodeView.find_near.Goals as goal

is_equal : (order : Ordering) → is_eq order ≡ true → order ≡ Equal
is_equal Less is = cc
is_equal Equal is = refl
is_equal Greater is = cc

pub returns-then-is_eq-clause-found : goal.returns-then-is_eq-clause-found
returns-then-is_eq-clause-found c = (
  omega (arith, c.if-place-count.true, c.count.ensures.rows),
  sym c.key.ensures.key ∙ same_key c.key.result.now c.args.key.now
      (sym c.compare_keys.ensures ∙ is_equal c.compare_keys.result (sym c.is_eq.ensures ∙ c.if-is_eq.true)),
)

pub returns-then-is_eq-clause-around : goal.returns-then-is_eq-clause-around
returns-then-is_eq-clause-around c = λ up.
    let node = c.args.self.now in
    let low : c.args.place < length node.rows = omega (arith, c.if-place-count.true, c.count.ensures.rows) in
    let same : key_of node.layout (get_or node.rows c.args.place []) ≡ c.args.key.now =
    sym c.key.ensures.key ∙ same_key c.key.result.now c.args.key.now
    (sym c.compare_keys.ensures ∙ is_equal c.compare_keys.result (sym c.is_eq.ensures ∙ c.if-is_eq.true)) in (
      below_found node.layout node.rows up c.args.key.now c.args.place low same,
      above_found node.layout node.rows up c.args.key.now c.args.place low same,
    )
