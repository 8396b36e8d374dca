use Rattle.std.specs.Prelude.{IfOk}
use Rattle.std.proofs.lemmas.Result.{IfOk-weaker}
use Rattle.compiler.specs.Trees.{broken_rules}
use Rattle.source_commands.proofs.source_layout.read_layout.Goals as goal

pub returns : goal.returns
unfolding broken_rules
returns c = IfOk-weaker c.layout_of_tree-text.result _ _ (λ text of_tree. (
  c.in_ok-tree.tree,
  record { read = c.in_ok-tree.ensures; kept = of_tree.0; order = of_tree.1 },
  of_tree.2,
)) c.layout_of_tree-text.ensures
