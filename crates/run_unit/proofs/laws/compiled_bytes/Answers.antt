use Rattle.run_unit.proofs.Runs.{compiled_tree, compiled_end, compiled_runs}
use Rattle.run_unit.proofs.laws.compiled_bytes.Goals as goal

pub returns-clause-tree : goal.returns-clause-tree
returns-clause-tree c = λ source image tree compiled.
    compiled_tree source image compiled c.one_meaning.ensures.tree tree

pub returns-clause-end : goal.returns-clause-end
returns-clause-end c = λ source image ended compiled.
    compiled_end source image compiled c.spelling_law.ensures ended

pub returns-clause-runs : goal.returns-clause-runs
returns-clause-runs c = λ source image call compiled.
    compiled_runs source image compiled c.one_meaning.ensures.tree call
