use Rattle.expressions.proofs.factors.+factor.Given as goal

abbrev pub decreases-factor : goal.decreases-factor
decreases-factor l = l.depth
