use Rattle.std.proofs.Common.{Bool, true, List, set, subst, []}
use Rattle.std.proofs.Common.{rules}
use Rattle.pages.specs.Marked.{IsMarked}
use Rattle.pages.proofs.Opened.{start_marks}
use Rattle.pages.proofs.open.fresh_use.Goals as goal

pub returns-clause-marked : goal.returns-clause-marked
returns-clause-marked c = subst (λ (l : List Bool). IsMarked [] (set (set l 0 true) 1 true)) (search rules)
    (start_marks c.args.sectors c.requires)
