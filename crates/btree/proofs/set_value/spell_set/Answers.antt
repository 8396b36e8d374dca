use Rattle.std.proofs.Common.{◌≡◌, subst, rules}
use Rattle.std.specs.Prelude.{Some}
use Rattle.btree_pages.specs.declared.row_layout.RowLayout.{RowLayout}
use Rattle.btree_pages.specs.Node.{node_in}
use Rattle.btree_pages.specs.Edits.{with_rest}
use Rattle.btree.proofs.set_value.spell_set.Goals as goal

pub returns : goal.returns
returns c = λ _. record {
  node = c.in-Ok.node;
  place = c.in-Ok-find.place;
  read = c.in-Ok.ensures.node;
  layout_is = c.in-Ok.ensures.shape.0;
  kind_is = search rules;
  low = c.in-Ok-find.ensures.found.0;
  here = c.in-Ok-find.ensures.found.1;
  around = c.in-Ok-find.ensures.around;
  spelled = subst (λ (layout : RowLayout). node_in layout c.spell_with_rest.new.spelled
      ≡ Some (with_rest c.in-Ok.node c.in-Ok-find.place c.args.value.now)) c.in-Ok.ensures.shape.0
      c.spell_with_rest.ensures.reads;
}
