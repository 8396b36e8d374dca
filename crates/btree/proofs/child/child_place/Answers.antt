use Rattle.std.proofs.Common.{ℕ, subst, drop, arith}
use Rattle.btree_pages.specs.Keys.{AllAbove}
use Rattle.btree.proofs.TreeNodes.{chosen_at, chosen_first, chosen_before}
use Rattle.btree.proofs.child.child_place.Goals as goal

pub returns-then-place-eq0-clause-chosen : goal.returns-then-place-eq0-clause-chosen
returns-then-place-eq0-clause-chosen c = λ up.
    chosen_first c.args.node.now.layout c.args.key.now c.args.node.now.rows c.requires
    (subst (λ (n : ℕ). AllAbove c.args.node.now.layout c.args.key.now (drop n c.args.node.now.rows)) c.if-place-eq0.true
    (c.in-Err.ensures.around up).1)

pub returns-in-Ok-clause-chosen : goal.returns-in-Ok-clause-chosen
returns-in-Ok-clause-chosen c = λ up.
    chosen_at c.args.node.now.layout c.args.key.now c.args.node.now.rows c.in-Ok.place c.in-Ok.ensures.found.0
    c.in-Ok.ensures.found.1 (c.in-Ok.ensures.around up).1

pub returns-else-place-eq0-clause-chosen : goal.returns-else-place-eq0-clause-chosen
returns-else-place-eq0-clause-chosen c = λ up.
    chosen_before c.args.node.now.layout c.args.key.now c.args.node.now.rows
    c.in-Err.place (omega (arith, c.if-place-eq0.false)) c.in-Err.ensures.missing (c.in-Err.ensures.around up).0
    (c.in-Err.ensures.around up).1
