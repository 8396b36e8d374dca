use Rattle.compiler.proofs.Uniqueness.{one_tree, one_run}
use Rattle.compiler.proofs.laws.one_meaning.Goals as goal

pub returns-clause-tree : goal.returns-clause-tree
returns-clause-tree c = one_tree c.reference_format.ensures.only c.laws.ensures.only c.one_tree.ensures

pub returns-clause-run : goal.returns-clause-run
returns-clause-run c = one_run c.spelling_law.ensures c.run_law.ensures.one
