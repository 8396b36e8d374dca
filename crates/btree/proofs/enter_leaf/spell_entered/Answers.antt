use Rattle.std.proofs.Common.{◌≡◌, ◌++◌, length, sym, ap, subst, ◌∙◌, arith, rules}
use Rattle.std.specs.Prelude.{Some}
use Rattle.btree_pages.specs.declared.row_layout.Kind.{Kind}
use Rattle.btree_pages.specs.declared.row_layout.Kind.TheVariants.{Leaf}
use Rattle.btree_pages.specs.declared.row_layout.RowLayout.{RowLayout}
use Rattle.btree_pages.specs.RowLayouts.{rest_length}
use Rattle.btree_pages.specs.Node.{node_in}
use Rattle.btree_pages.specs.Edits.{node_with_row}
use Rattle.btree.proofs.enter_leaf.spell_entered.Goals as goal

pub returns : goal.returns
returns c = λ _. record {
  node = c.in-Ok.node;
  place = c.in-Err-find.place;
  read = c.in-Ok.ensures.node;
  layout_is = c.in-Ok.ensures.shape.0;
  kind_is = search rules;
  some = omega (arith, c.if-place-eq0.false);
  low = c.in-Err-find.ensures.missing;
  around = c.in-Err-find.ensures.around;
  spelled = subst (λ (layout : RowLayout). node_in layout c.spell_inserted.new.spelled
      ≡ Some (node_with_row c.in-Ok.node c.in-Err-find.place (c.args.key.now ++ c.args.value.now)))
      c.in-Ok.ensures.shape.0 c.spell_inserted.ensures.reads;
}

pub spell_inserted-requires-clause-rest : goal.spell_inserted-requires-clause-rest
spell_inserted-requires-clause-rest c =
    let node = c.in-Ok.node in
    let kind_is : node.kind ≡ Leaf = search rules in
    subst (λ (kind : Kind). length c.args.value.now ≡ rest_length node.layout kind) (sym kind_is)
    (c.requires.value ∙ ap (λ (layout : RowLayout). layout.value_length) (sym c.in-Ok.ensures.shape.0))
