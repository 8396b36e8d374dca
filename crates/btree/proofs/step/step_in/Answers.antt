use Rattle.std.proofs.Common.{◌≡◌, rules}
use Rattle.btree_pages.specs.declared.row_layout.Kind.TheVariants.{Inner}
use Rattle.btree.proofs.step.step_in.Goals as goal

pub returns-clause-step : goal.returns-clause-step
returns-clause-step c =
    let inner : c.in_ok-node.node.kind ≡ Inner = search rules in
    record {
      node = c.in_ok-node.node;
      read = c.in_ok-node.ensures.node;
      layout_is = c.in_ok-node.ensures.shape.0;
      steps = record {
        inner = inner;
        chosen = c.child_place-place.ensures.chosen;
        page = c.child-page.ensures;
        within = c.in_ok-note_right.ensures.within;
        beyond = c.in_ok-note_right.ensures.beyond;
      };
    }
